-- Check 2 of the letter, check 3, then the checks of the letter.
use mathlib.Core.Path.{◌≡◌, sym, ◌∙◌, ap, subst}
use mathlib.Core.Bool.{true}
use mathlib.Core.List.{[], ◌∷◌}
use Rattle.std.specs.Prelude.{Some}
use Rattle.std.proofs.lemmas.Result.{err_from_is_err_and}
use Rattle.tableau.specs.declared.Letter.{Letter}
use Rattle.tableau.specs.Basics.{lookup}
use Rattle.tableau.specs.File.{letters, in_order}
use Rattle.line_checks.proofs.AnyLine.{ordered, disordered, no_letter, out_of_order, of_term}
use Rattle.line_checks.proofs.AnyLine.{of_assumption, of_disjunct, clause_letter}
use Rattle.line_checks.proofs.Results.{none_or, before_assumption}
use Rattle.line_checks.proofs.check_fields.Goals as goal
use Rattle.line_checks.proofs.check_fields.Goals.{In_ok-letter, Else-lt}

known : (c : goal.In_ok-letter) → lookup letters (c.args.f.letter ∷ []) ≡ Some c.in_ok-letter.letter
known c = sym c.letter_of.ensures ∙ c.in_ok-letter.ensures.ok_part

-- the letter is not known
pub returns-in_err-letter : goal.returns-in_err-letter
returns-in_err-letter c table C H K P =
    let q = err_from_is_err_and c.from_residual.result c.from_residual.ensures.1 in
    let k = c.in_err-letter.ensures in
    rw (q.1, q.2, none_or k.value k.ok_part)
    (no_letter table C _ _ _ _ _ _ _ (sym c.letter_of.ensures ∙ k.ok_part))

-- out of order
pub returns-then-lt : goal.returns-then-lt
returns-then-lt c table C H K P =
    out_of_order table C _ _ _ _ _ _ _ _ (known (goal.at.returns-then-lt c).In_ok-letter)
    (disordered _ _ c.if-lt.ensures)

in_order_lem : (c : goal.Else-lt) {k : Letter} → c.in_ok-letter.letter ≡ k
    → (lookup letters (c.args.f.letter ∷ []) ≡ Some k) × (in_order c.args.progress.letter k ≡ true)
in_order_lem c q = (
  (sym c.letter_of.ensures ∙ c.in_ok-letter.ensures.ok_part) ∙ ap Some q,
  subst (λ (k : Letter). in_order c.args.progress.letter k ≡ true) q (ordered _ _ c.if-lt.ensures),
)

pub check-requires-in-T : goal.check-requires-in-T
check-requires-in-T c =
    let l = in_order_lem (goal.at.check-requires-in-T c).Else-lt c.in-T.is in
    record { held = c.requires.held; ready = (c.requires.ready.0, c.requires.ready.1); letter = l }

pub check-requires-in-A : goal.check-requires-in-A
check-requires-in-A c =
    let H = c.requires.held.1 in
    let l = in_order_lem (goal.at.check-requires-in-A c).Else-lt c.in-A.is in
    record {
      entries = (c.requires.held.0, H.searchable.entries, H.count);
      ready = c.requires.ready.0;
      letter = l;
    }

pub check-requires-in_default-letter : goal.check-requires-in_default-letter
check-requires-in_default-letter c =
    let H = c.requires.held.1 in
    let l = in_order_lem (goal.at.check-requires-in_default-letter c).Else-lt
    (clause_letter _ c.in_default.not-S c.in_default-letter.not-T c.in_default-letter.not-A) in
    record {
      entries = (c.requires.held.0, H.searchable.entries, H.count);
      ready = (c.requires.ready.0, c.requires.ready.2);
      letter = l;
    }

pub returns-in-T : goal.returns-in-T
returns-in-T c table C H K P =
    of_term table C _ _ _ _ _ _ K P
    (c.requires.ready.0.counted.no_clause_yet
    (before_assumption _ (in_order_lem (goal.at.returns-in-T c).Else-lt c.in-T.is).1))
    (c.check-in-T.ensures table C H)

pub returns-in-A : goal.returns-in-A
returns-in-A c table C H K P =
    of_assumption table C _ _ _ _ _ _ K P H
    (c.check-in-A.ensures table C H.searchable.entries H.count)

pub returns-in_default-letter : goal.returns-in_default-letter
returns-in_default-letter c table C H K P =
    of_disjunct table C _ _ _ _ _ _ H
    (c.check-in_default-letter.ensures table C H.searchable.entries H.count H.mentioned K P)
