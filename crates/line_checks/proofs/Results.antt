-- What the effect of a line says of the state, and that it follows what was read before.
use mathlib.Core.Path.{◌≡◌, refl, sym, ◌∙◌, ap}
use mathlib.Core.Bool.{Bool, true, false, true≢false, false≢true}
use mathlib.Core.List.{List}
use Rattle.std.specs.Prelude.{Option, None, Some, Ok, Err, IfSome, ok_or}
use Prim.Native.Nat.{ℕ, ◌+◌, ◌≤◌}
use native.Mathlib.Omega.{arith}
use lib.ListN.{length}
use Rattle.tableau.specs.declared.Letter.{Letter}
use Rattle.tableau.specs.File.{rank, in_order}
use Rattle.tableau.specs.Terms.{Table, Clauses}
use Rattle.tableau.specs.Tree.{Checked, passed, Status}
use Rattle.tableau.specs.Reply.{State}
use Rattle.packing.specs.Packing.{unpack_literal}
use Rattle.tree.specs.declared.Change.{Change}
use Rattle.tree.specs.State.{AreCodes, AreWaiting}
use Rattle.tree.specs.Change.{Fits, status_after}
use Rattle.tree.proofs.Changes.{unchanged_fits}
use Rattle.reply.specs.Verdict.{counts_of}
use Rattle.growth.specs.declared.Progress.{Progress}
use Rattle.growth.specs.Progress.{Counted, changed_to, grown_to, state_after, Next}

-- the reason of a look-up that found nothing
pub none_or : {A E : Type 0} {o : Option A} {e d : E} → Err e ≡ ok_or o d → o ≡ None → e ≡ d
none_or {d = d} h q = let z = h ∙ ap (λ x. ok_or x d) q in cc

-- only an S line closes the tree, so before a line of another letter, in order, it is open
pub open_before : {g : Progress} → Counted g → (k : Letter) → in_order Letter.S k ≡ false
    → in_order g.letter k ≡ true → g.closed ≡ false
open_before {g} w k s o = go g.closed refl
  where
    go : (b : Bool) → g.closed ≡ b → g.closed ≡ false
    go false q = q
    go true q = absurd (true≢false (sym o ∙ ap (λ (l : Letter). in_order l k) (w.closed q) ∙ s))

-- what a T line may follow, an A line may
pub before_assumption : (l : Letter) → in_order l Letter.T ≡ true → in_order l Letter.A ≡ true
unfolding rank
before_assumption Letter.T h = refl
before_assumption Letter.A h = absurd (false≢true h)
before_assumption Letter.C h = absurd (false≢true h)
before_assumption Letter.S h = absurd (false≢true h)

-- A LINE after which the file is read to g, and which makes a change of the tree of a branch B
-- where W waits, or closes it
abbrev pub with : Table → Clauses → Progress → Status → Checked State
with table C g s =
    passed (record {
      table = table;
      clauses = C;
      status = s;
      letter = g.letter;
      counts = counts_of g.counts;
    })

pub grown_state : (words : List ℕ) (table : Table) (C : Clauses) (B W : List ℕ) (g : Progress)
    → g.closed ≡ false
    → (o : Option Change) → state_after words table C B W (Ok (grown_to g B W o))
    ≡ with table C g (status_after unpack_literal words B W o)
grown_state words table C B W g o (Some c) = rw o
grown_state words table C B W g o None = refl

module _ (g₀ g : Progress) (B W : List ℕ) (n : g.lines ≡ g₀.lines + 1) (w : Counted g) where
  pub changed_next : (c : Change) → (AreWaiting W → Fits B W c) → Next g₀ B W (changed_to g c)
  changed_next c F = record {
    lines = n;
    counted =
        record {
          terms = w.terms;
          assumptions = w.assumptions;
          steps = w.steps;
          closings = w.closings;
          clauses = w.clauses;
          closed = w.closed;
          no_clause_yet = w.no_clause_yet;
        };
    fits = F;
    noted = omega arith;
  }

  pub grown_next : g.noted ≤ length B → AreCodes B → g.letter ≡ Letter.S
      → (o : Option Change) → (AreWaiting W → IfSome o (Fits B W)) → Next g₀ B W (grown_to g B W o)
  grown_next m b s (Some c) F = changed_next c F
  grown_next m b s None F = record {
    lines = n;
    counted =
        record {
          terms = w.terms;
          assumptions = w.assumptions;
          steps = w.steps;
          closings = w.closings;
          clauses = w.clauses;
          closed = λ z. s;
          no_clause_yet = w.no_clause_yet;
        };
    fits = λ v. unchanged_fits B W b v;
    noted = m;
  }
