-- All numbers of both arrays are 0.
use Rattle.std.proofs.Common.{arith}
use Rattle.std.proofs.lemmas.List.Elements.{All-nil}
use mathlib.Core.Path.{refl}
use Rattle.clauses.proofs.Arrays.{get_d_zeros}
use Rattle.tree.specs.State.{HasRoom}
use Rattle.tree.proofs.Tree.empty.Goals as goal

pub returns : goal.returns
returns c = (
  record {
    len = omega arith;
    count = omega arith;
    branch = record { room = omega arith; bounded = λ k. omega arith };
    waiting = record { room = omega arith; places = All-nil HasRoom };
    cells = λ k. rw (get_d_zeros 1000 k) (omega arith);
    stack = λ k. rw (get_d_zeros 200 k) (omega arith);
  },
  λ f. refl,
)
