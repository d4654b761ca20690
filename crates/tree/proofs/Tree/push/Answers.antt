-- One more of the literals of a span is stored.
use Rattle.std.proofs.Common.{◌≡◌, ap, subst, ◌+◌, ◌-◌, ◌<◌, length, arith}
use Rattle.std.proofs.lemmas.List.{take_more_set, append_assoc}
use Rattle.clauses.proofs.Arrays.{all_set}
use Rattle.tree.specs.State.{HasRoom}
use Rattle.tree.specs.Change.{begun_count, MayBegin, ReadsCodes}
use Rattle.tree.proofs.Waiting.{each_more, one_packed}
use Rattle.tree.proofs.Tree.push.Goals as goal

pub loop-i-preserved : goal.loop-i-preserved
loop-i-preserved c =
    let v = c.loop-i.invariant in
    let i = c.loop-i.i in
    let end = c.in-Each.span.from + c.in-Each.span.count in
    let n : begun_count c.args.begun ≡ c.in-Each.span.count = ap begun_count c.in-Each.is in
    let begins = subst (MayBegin c.args.cut) c.in-Each.is c.requires.room.1 in
    let codes = subst (λ b. ReadsCodes b c.args.literals.now) c.in-Each.is c.requires.bounded in
    let room : c.loop-i.count < length c.loop-i.waiting = omega arith in
    record {
      from = omega arith;
      stored = omega arith;
      waiting =
          rw (
            take_more_set,
            v.waiting,
            c.pack.ensures,
            c.one.ensures.1,
            each_more c.args.literals.now c.args.cut i (i - 1) (end - i) (end - (i - 1)) (omega arith)
                (omega arith),
            append_assoc,
          );
      stack = λ h k. all_set HasRoom c.loop-i.waiting c.loop-i.count c.pack.result (v.stack h)
          (rw (c.pack.ensures, c.one.ensures.1)
          (one_packed c.args.literals.now codes c.args.cut begins.1 (i - 1))) k;
    }

pub returns-after-loop-i-clause-count : goal.returns-after-loop-i-clause-count
returns-after-loop-i-clause-count c = omega (arith, ap begun_count c.in-Each.is)

pub returns-after-loop-i-clause-after : goal.returns-after-loop-i-clause-after
returns-after-loop-i-clause-after c =
    let v = c.loop-i.invariant in
    let i : c.loop-i.i ≡ c.in-Each.span.from = omega arith in
    let n : c.in-Each.span.from + c.in-Each.span.count - c.in-Each.span.from
    ≡ c.in-Each.span.count = omega arith in
    rw c.in-Each.is (rw (i, n) at v.waiting)
