-- The four sham checkers fall short.
use mathlib.Core.Path.{◌≡◌, refl, sym, ap, subst, ◌∙◌}
use mathlib.Core.Bool.{Bool, true, false, ◌||◌, true≢false, false≢true}
use mathlib.Core.List.{List}
use Rattle.std.specs.Prelude.{Option}
use Prim.Native.Nat.{ℕ}
use native.Mathlib.Omega.{arith}
use Rattle.tableau.specs.declared.Letter.{Letter}
use Rattle.tableau.specs.File.{Line}
use Rattle.tableau.specs.Reply.{Reply, reply}
use Rattle.tableau.specs.Claims.{Checker, NoHeap, Demand3, Model, lines_of, count_if, has_letter, closes_branch, FileCounts, CountsOf, RightCounts}
use Rattle.tableau.specs.Cases.{F}
use Rattle.tableau.specs.Failings.{incident}
use Rattle.tableau.specs.Shams.{yes_to_all, up_to_first, wave_on, first_only, first_step_only, first_alternative_only, Invents, Breaks2At, ShamsFallShort, ShamKindsFallShort}
use Rattle.tableau.proofs.Counts.{right_counts}
use Rattle.tableau.proofs.Evaluate.{evaluate}
use Rattle.tableau.proofs.Models.{nothing_assumed, incident_model}

-- a yes to a file whose assumed literals can all be true breaks the third demand
breaks3 : (checker : Checker) {file : List ℕ} → Model file → (checker file).is_yes ≡ true → ¬ Demand3 checker
unfolding Demand3 NoHeap
breaks3 checker {file} m e demand3 = demand3 file e m.finite_heap m.values m.all_true m.every_clause_true

-- a count that is not the file's own breaks the second demand, since the specification's counts are (`right_counts`)
breaks2 : (count : Reply → ℕ) (test : Option (Line Letter) → Bool) → ((file : List ℕ) (r : Reply) → FileCounts file r → count r ≡ count_if test (lines_of file))
    → (checker : Checker) (file : List ℕ) → Invents count test checker file → Breaks2At checker file
unfolding RightCounts
breaks2 count test own checker file i p =
    go (reply file).is_yes (right_counts file) (subst (λ (r : Reply). (r.is_yes || (reply file).is_yes) ≡ true) p i.accepted)
  where
    go : (b : Bool) → CountsOf file (reply file) b → (b || b) ≡ true → ⊥
    go true c e = i.differs (ap count p ∙ own file (reply file) c)
    go false c e = false≢true e

-- EACH SHAM BREAKS A DEMAND. Those that check the first step or the first alternative break the third at the incident, whose first step and
-- first closing are right.
pub shams_fall_short : ShamsFallShort
unfolding evaluate F incident count_if up_to_first wave_on first_only
shams_fall_short = record {
  no_to_all_lem = λ n l p. false≢true (ap (λ r. r.is_yes) p);
  yes_to_all_lem = λ t a s c. breaks3 (yes_to_all t a s c) nothing_assumed refl;
  yes_to_no_bytes = λ t a s c p. true≢false (ap (λ r. r.is_yes) p);
  first_step = breaks3 first_step_only incident_model refl;
  first_alternative = breaks3 first_alternative_only incident_model refl;
  invented_steps = breaks2 (λ r. r.steps) (has_letter Letter.S) (λ file r c. c.steps);
  invented_closings = breaks2 (λ r. r.closings) closes_branch (λ file r c. c.closings);
  some_invent = (record { accepted = refl; differs = λ p. omega (arith, p) }, record { accepted = refl; differs = λ p. omega (arith, p) });
}

pub sham_kinds_fall_short : ShamKindsFallShort
unfolding evaluate F incident count_if up_to_first wave_on first_only
sham_kinds_fall_short = record {
  any_no_to_all = λ checker no p. false≢true (sym (no _) ∙ ap (λ r. r.is_yes) p);
  any_number_to_all = λ checker n nonzero gives p. nonzero (sym (gives _) ∙ ap (λ r. r.number) p);
  any_yes_to_all = λ checker yes'. breaks3 checker nothing_assumed (yes' _);
  any_yes_to_no_bytes = λ checker yes' p. true≢false (sym (yes' _) ∙ ap (λ r. r.is_yes) p);
  any_first_step = λ checker waves. breaks3 checker incident_model (waves _ refl);
  any_first_alternative = λ checker waves. breaks3 checker incident_model (waves _ refl);
}
