-- What `sub` asks is asked of the packed terms: the first test that fails, or the arguments,
-- decide.
use mathlib.Core.Path.{sym, ◌∙◌, ap₂}
use Prim.Native.Nat.{ℕ}
use Rattle.tableau.specs.Basics.{Four, every}
use Rattle.tableau.specs.Steps.{agree}
use Rattle.packing.proofs.CongruenceLaws.{congruent_packed}
use Rattle.packing.proofs.term_codes.congruent.Goals as goal
use Rattle.packing.proofs.term_codes.congruent.Goals.{then-takes_terms, else-takes_terms}

pub returns-then-x-y : goal.returns-then-x-y
returns-then-x-y c e f h k =
    let a = c.args in
    elim c.if-takes_terms.branch [
      | then-takes_terms w ↦ sym (congruent_packed _ _ e f h k
          ∙ rw (sym c.takes_terms.ensures ∙ w.if-takes_terms.true, sym w.value-is ∙ c.if-x-y.true)
          (sym (c.all_agree.ensures
          ∙ ap₂ (λ (m n : Four ℕ). every (agree a.a.0 a.b.0) m n) c.fields.ensures
          c.fields-then-x-y.ensures)))
      | else-takes_terms w ↦ cc
    ]

pub returns-else-x-y : goal.returns-else-x-y
returns-else-x-y c e f h k = elim c.if-takes_terms.branch [
  | then-takes_terms w ↦ sym (congruent_packed _ _ e f h k
      ∙ rw (sym c.takes_terms.ensures ∙ w.if-takes_terms.true, sym w.value-is ∙ c.if-x-y.false)
      (sym c.if-x-y.false))
  | else-takes_terms w ↦ sym (congruent_packed _ _ e f h k
      ∙ rw (sym c.takes_terms.ensures ∙ w.if-takes_terms.false) (sym c.if-x-y.false))
]
