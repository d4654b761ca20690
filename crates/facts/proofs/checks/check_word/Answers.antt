-- The first check that fails decides; else the line passes with its key and its value.
use mathlib.Core.Path.{◌≡◌, sym, ◌∙◌, ap}
use mathlib.Core.Bool.{true}
use Rattle.tableau.specs.Basics.{Four, every}
use Rattle.evaluation.specs.declared.FactField.{FactField}
use Rattle.lines.specs.declared.LineFields.{LineFields}
use Rattle.facts.specs.declared.Sizes.{Sizes}
use Rattle.evaluation.specs.Facts.{fact_fields, Facts, said, in_range, zero_unless_used}
use Rattle.lines.specs.Lines.{numbers_of}
use Rattle.facts.specs.Keys.{sizes_of, has_key, FactsHeld}
use Rattle.facts.proofs.Ranges.{subject_fits, values_fit}
use Rattle.facts.proofs.WordChecks.{held_said, field_used, out_of_range, given_twice, not_allowed, passes}
use Rattle.facts.proofs.checks.check_word.Goals as goal
use Rattle.facts.proofs.checks.check_word.Goals.{After-all_in_range, then-not-all_in_range-via-then-not-all_in_range, then-not-all_in_range-via-else-not-all_in_range+then-has, then-not-all_in_range-via-else-not-all_in_range+else-has+then-not-allowed}

-- what the tests say of a row, of the row of a word
zero_by : (f : LineFields) {x y : Four FactField} → x ≡ y
    → every zero_unless_used x (numbers_of f) ≡ every zero_unless_used y (numbers_of f)
zero_by f q = ap (λ row. every zero_unless_used row (numbers_of f)) q

in_range_by : (s : Sizes) (f : LineFields) {x y : Four FactField} → x ≡ y
    → every (in_range (sizes_of s)) x (numbers_of f) ≡ every (in_range (sizes_of s)) y (numbers_of f)
in_range_by s f q = ap (λ row. every (in_range (sizes_of s)) row (numbers_of f)) q

pub returns-then-not-unused_zero : goal.returns-then-not-unused_zero
returns-then-not-unused_zero c g H s = field_used g _ _ (sym (c.unused_zero.ensures ∙ zero_by c.args.f c.row_of-row.ensures) ∙ c.if-not-unused_zero.true)

-- whether the key is that of a line, where the numbers are in their ranges
module _ (c : goal.After-all_in_range) (r : every (in_range (sizes_of c.args.sizes)) (fact_fields c.args.word) (numbers_of c.args.f) ≡ true) where
  is_said : {b : _} → b ≡ has_key c.args.facts.now c.key_of-key.result → (g : Facts) → FactsHeld g c.args.facts.now → said g c.args.word (numbers_of c.args.f) ≡ b
  is_said e g H =
      let a = c.args in
      sym (held_said H a.word (numbers_of a.f) (subject_fits (sizes_of a.sizes) c.requires.1 a.word (numbers_of a.f) r))
      ∙ sym (e ∙ ap (has_key a.facts.now) c.key_of-key.ensures)

pub returns-then-not-all_in_range : goal.returns-then-not-all_in_range
returns-then-not-all_in_range c g H s =
    let d = (goal.at.returns-then-not-all_in_range c).After-all_in_range in
    let z = sym (c.unused_zero.ensures ∙ zero_by c.args.f c.row_of-row.ensures) ∙ c.if-not-unused_zero.false in
    elim c.then-not-all_in_range.branch [
      | then-not-all_in_range-via-then-not-all_in_range w ↦ out_of_range g _ _ z (rw s (sym (c.all_in_range.ensures ∙ in_range_by c.args.sizes c.args.f c.row_of-row.ensures) ∙ w.if-not-all_in_range.true))
      | then-not-all_in_range-via-else-not-all_in_range+then-has w ↦
          let r = sym (c.all_in_range.ensures ∙ in_range_by c.args.sizes c.args.f c.row_of-row.ensures) ∙ w.if-not-all_in_range.false in
          given_twice g _ _ z (rw s r) (is_said d r w.has.ensures g H ∙ w.if-has.true)
      | then-not-all_in_range-via-else-not-all_in_range+else-has+then-not-allowed w ↦
          let r = sym (c.all_in_range.ensures ∙ in_range_by c.args.sizes c.args.f c.row_of-row.ensures) ∙ w.if-not-all_in_range.false in
          not_allowed g _ _ z (rw s r) (is_said d r w.has.ensures g H ∙ w.if-has.false) (sym (w.allowed.ensures g H) ∙ w.if-not-allowed.true)
    ]

pub value_of-requires : goal.value_of-requires
value_of-requires c = values_fit (sizes_of c.args.sizes) c.requires.1 c.args.word (numbers_of c.args.f) (sym (c.all_in_range.ensures ∙ in_range_by c.args.sizes c.args.f c.row_of-row.ensures) ∙ c.if-not-all_in_range.false)

pub returns : goal.returns
returns c g H s =
    let z = sym (c.unused_zero.ensures ∙ zero_by c.args.f c.row_of-row.ensures) ∙ c.if-not-unused_zero.false in
    let r = sym (c.all_in_range.ensures ∙ in_range_by c.args.sizes c.args.f c.row_of-row.ensures) ∙ c.if-not-all_in_range.false in
    record {
      unused_zero = z;
      ranges = rw s r;
      is = λ i. record { key = c.key_of-key.ensures i; value = c.value_of.ensures i };
      runs = passes g _ _ z (rw s r) (is_said (goal.at.returns c).After-all_in_range r c.has.ensures g H ∙ c.if-has.false) (sym (c.allowed.ensures g H) ∙ c.if-not-allowed.false);
    }
