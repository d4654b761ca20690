-- The first check that fails decides; else the checks of the word.
use mathlib.Core.Path.{◌≡◌, refl, sym, ◌∙◌}
use mathlib.Core.Bool.{Bool, true, false, not, beq}
use mathlib.Core.List.{List, [], ◌∷◌, map}
use lib.Dec.{eqb-suc-zero}
use Rattle.std.specs.Prelude.{Option, None, Some, Result, Ok, Err, length, eqb, ◌==◌}
use Rattle.std.specs.Option.{ok_or}
use Rattle.std.proofs.lemmas.Result.{err_from_is_err_and}
use Rattle.tableau.specs.declared.Reason.{Reason}
use Rattle.tableau.specs.Basics.{bytes}
use Rattle.evaluation.specs.declared.FactWord.{FactWord}
use Rattle.evaluation.specs.Facts.{Facts, is_nil}
use Rattle.lines.specs.declared.LineFields.{LineFields}
use Rattle.facts.specs.declared.StoredFact.{StoredFact}
use Rattle.facts.specs.Keys.{stored, FactsHeld}
use Rattle.facts.specs.Reading.{siz_word, run_word, run_fact_fields, WordDone, FactDone}
use Rattle.facts.proofs.LineChecks.{letter_D, no_letter, run_unlettered, run_disordered, run_unknown, run_known, first_is_size}
use Rattle.facts.proofs.checks.check_fact.Goals as goal
use Rattle.facts.proofs.checks.check_fact.Goals.{After-is_empty}

pub returns-then-f-ne68 : goal.returns-then-f-ne68
returns-then-f-ne68 c g H s = run_unlettered g _ (no_letter _ c.if-f-ne68.true)

-- there is no line so far where nothing is stored
nothing_stored : (g : Facts) (held : List StoredFact) → FactsHeld g held → (length held == 0) ≡ is_nil g
nothing_stored [] held H = rw H.is
nothing_stored (x ∷ g) held H = rw H.is (eqb-suc-zero (length (map stored g)))

not-injective : (a b : Bool) → not a ≡ not b → a ≡ b
not-injective true true e = refl
not-injective true false e = sym e
not-injective false true e = sym e
not-injective false false e = refl

ordered_is : (c : goal.After-is_empty) {b : Bool} → not (beq c.is_empty.result (eqb c.args.f.word 8022387)) ≡ not b → {g : Facts} → FactsHeld g c.args.facts.now
    → beq (is_nil g) (eqb c.args.f.word siz_word) ≡ b
unfolding bytes
ordered_is c {b} e {g} H = rw (← nothing_stored g c.args.facts.now H, ← c.is_empty.ensures) (not-injective _ _ e)

pub returns-then-is_empty-f : goal.returns-then-is_empty-f
returns-then-is_empty-f c g H s = run_disordered g _ (letter_D _ c.if-f-ne68.false) (ordered_is (goal.at.returns-then-is_empty-f c).After-is_empty c.if-is_empty-f.true H)

-- a word that is not known, or is
unknown : {A : Type 0} (m : Option A) (r d : Reason) → Err d ≡ ok_or m r → (m ≡ None) × (d ≡ r)
unknown None r d e = (refl, cc)
unknown (Some x) r d e = absurd cc

known : {A : Type 0} (m : Option A) (r : Reason) (x : A) → Ok x ≡ ok_or m r → m ≡ Some x
known None r x e = absurd cc
known (Some y) r x e = cc

pub returns-in_err-word : goal.returns-in_err-word
returns-in_err-word c g H s =
    let p = err_from_is_err_and c.from_residual.result c.from_residual.ensures.1 in
    let u = unknown c.word_of.result Reason.UnknownWord _ c.in_err-word.ensures.value in
    rw (p.1, p.2, u.1)
    (run_unknown g _ (letter_D _ c.if-f-ne68.false) (ordered_is (goal.at.returns-in_err-word c).After-is_empty c.if-is_empty-f.false H) (sym c.word_of.ensures ∙ u.0))

done : (g : Facts) (f : LineFields) (w : FactWord) → run_fact_fields g f ≡ run_word g f w → (is_nil g ≡ true → w ≡ FactWord.Siz) → (r : Result StoredFact Reason)
    → WordDone g f w r → FactDone g f r
done g f w e first (Ok x) d = record { word = w; first = first; added = d; runs = e }
done g f w e first (Err r) d = e ∙ d

pub returns : goal.returns
returns c g H s =
    let i = ordered_is (goal.at.returns c).After-is_empty c.if-is_empty-f.false H in
    let q = sym c.word_of.ensures ∙ known c.word_of.result Reason.UnknownWord _ c.in_ok-word.ensures.value in
    let f = c.args.f in
    done g f c.in_ok-word.word (run_known g f (letter_D _ c.if-f-ne68.false) i _ q) (first_is_size g _ _ i q) c.check_word.result (c.check_word.ensures g H s)
