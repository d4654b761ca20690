-- `cla`; else check 11, then the rule on what it is given.
use mathlib.Core.Path.{◌≡◌, sym, ap, subst, ◌∙◌}
use mathlib.Core.Bool.{true}
use mathlib.Core.List.{[], map}
use native.Mathlib.Omega.{arith}
use Prim.Native.Nat.{◌≤◌}
use lib.ListN.{length, length-map}
use Rattle.std.proofs.lemmas.Result.{IfOk-at_ok}
use Rattle.tableau.specs.Basics.{every}
use Rattle.tableau.specs.Fields.{rule_fields, rule_uses}
use Rattle.tableau.specs.Terms.{Table, Clauses}
use Rattle.tableau.specs.Tree.{is_there, alternatives}
use Rattle.tableau.specs.Reply.{zero_if_unused}
use Rattle.tableau.proofs.Bools.{every_true}
use Rattle.syntax.specs.Syntax.{ThirdFits, step_fields}
use Rattle.packing.specs.Packing.{unpack_literal}
use Rattle.table.specs.Held.{Searchable}
use Rattle.rules.specs.Answer.{Room, answer_of}
use Rattle.rules.proofs.Laws.{passed_on}
use Rattle.conclusions.proofs.Laws.{is_cla}
use Rattle.steps.specs.Asking.{Tells}
use Rattle.steps.proofs.Laws.{place_within, place_read}
use Rattle.steps.proofs.CheckLaws.{no_clause}
use Rattle.steps.proofs.ClauseSteps.{cla_answer, clause_there, no_clause_asked}
use Rattle.steps.proofs.inferring.added.Goals as goal
use Rattle.steps.proofs.inferring.added.Goals.{After-conclude, Else-not-places_there}

-- `cla` on no clause
pub returns-then-not-is_clause-clause-result_value :
    goal.returns-then-not-is_clause-clause-result_value
unfolding alternatives
returns-then-not-is_clause-clause-result_value c table C H q l F =
    let x = c.args.step.rule in
    let cla =
    is_cla x (subst (ThirdFits (rule_fields x).t) c.in-Clause.is c.requires.branch.1.third) in
    rw (
      clause_there C _ c.args.step cla c.in-Clause.is q l,
      sym c.is_clause.ensures
          ∙ c.if-not-is_clause.true,
    )

-- on a clause
pub returns-in-Clause-clause-result_value : goal.returns-in-Clause-clause-result_value
unfolding alternatives
returns-in-Clause-clause-result_value c table C H q l F =
    let x = c.args.step.rule in
    let cla =
    is_cla x (subst (ThirdFits (rule_fields x).t) c.in-Clause.is c.requires.branch.1.third) in
    rw (
      clause_there C _ c.args.step cla c.in-Clause.is q l,
      sym c.is_clause.ensures
          ∙ c.if-not-is_clause.false,
    )
    (sym (cla_answer table C c.args.step _ _ _ _ _ cla c.in-Clause.is))

-- a place is not there
pub returns-then-not-places_there : goal.returns-then-not-places_there
unfolding alternatives
returns-then-not-places_there c = record {
  room_for = tt;
  result_value = λ table C H q l F.
      rw (sym (c.places_there.ensures C (map unpack_literal c.args.branch.now)
      (length-map c.args.branch.now unpack_literal)) ∙ c.if-not-places_there.true);
}

-- check 11 held
held : (C : Clauses) (c : goal.Else-not-places_there)
    → every (is_there C (map unpack_literal c.args.branch.now)) (rule_uses c.args.step.rule)
    (step_fields c.args.step) ≡ true
held C c =
    sym (c.places_there.ensures C (map unpack_literal c.args.branch.now)
    (length-map c.args.branch.now unpack_literal)) ∙ c.if-not-places_there.false

within : (c : goal.Else-not-places_there)
    → (c.args.step.p.0 ≤ length c.args.branch.now) × (c.args.step.q.0 ≤ length c.args.branch.now)
within c =
    let x = c.args.step.rule in
    let z =
    every_true zero_if_unused (rule_uses x)
    (step_fields c.args.step) c.requires.branch.1.unused_zero in
    let h =
    every_true (is_there [] (map unpack_literal c.args.branch.now)) (rule_uses x)
    (step_fields c.args.step) (held [] c) in (
      place_within c.args.branch.now [] (rule_fields x).p _ z.0 h.0,
      place_within c.args.branch.now [] (rule_fields x).q _ z.1 h.1,
    )

pub literal-p-requires : goal.literal-p-requires
literal-p-requires c =
    (c.requires.branch.0, (within (goal.at.literal-p-requires c).Else-not-places_there).0)

pub literal-q-requires : goal.literal-q-requires
literal-q-requires c =
    (c.requires.branch.0, (within (goal.at.literal-q-requires c).Else-not-places_there).1)

-- what the rule concludes on the literals that were read
concluded : (k : goal.After-conclude) (table : Table) (C : Clauses)
    → Searchable table k.args.terms.now k.args.chains.now
    → Tells table C (map unpack_literal k.args.branch.now) k.args.step k.args.told
    → answer_of k.conclude.result ≡ alternatives table C
    (map unpack_literal k.args.branch.now) k.args.step.rule (step_fields k.args.step)
unfolding alternatives
concluded k table C H F =
    let s = k.args.step in
    let x = s.rule in
    let e = (goal.at-After-conclude k).Else-not-places_there in
    let z =
    every_true zero_if_unused (rule_uses x) (step_fields s) k.requires.branch.1.unused_zero in
    let h =
    every_true (is_there [] (map unpack_literal k.args.branch.now)) (rule_uses x)
    (step_fields s) (held [] e) in
    let read-p =
    place_read k.args.branch.now [] (rule_fields x).p _ _ z.0 h.0 k.literal-p.ensures in
    let read-q =
    place_read k.args.branch.now [] (rule_fields x).q _ _ z.1 h.1 k.literal-q.ensures in
    sym (rw (held C e, read-p, read-q)
    (sym (F _ _ _ _) ∙ no_clause_asked table _ _ _ _ _ _ _ x
    (omega (arith, no_clause s.t k.in_default.not-Clause, k.requires.branch.1.third))
    ∙ k.conclude.ensures.answers table H))

pub returns-in_err-outcome : goal.returns-in_err-outcome
returns-in_err-outcome c =
    rw (passed_on c.from_residual.ensures.1) record {
      room_for = tt;
      result_value = λ table C H q l F.
          ap answer_of (sym c.in_err-outcome.was)
          ∙ concluded (goal.at.returns-in_err-outcome c).After-conclude table C H F;
    }

pub returns : goal.returns
returns c = record {
  room_for = IfOk-at_ok Room c.in_ok-outcome.was c.conclude.ensures.room;
  result_value = λ table C H q l F.
      ap answer_of (sym c.in_ok-outcome.was)
      ∙ concluded (goal.at.returns c).After-conclude table C H F;
}
