-- What the step asks of the whole branch, what it adds, what that makes of the tree.
use mathlib.Core.Path.{sym, subst, ◌∙◌, ap}
use Prim.Native.Nat.{◌≤◌}
use Rattle.std.specs.Prelude.{Some}
use Rattle.std.proofs.lemmas.Result.{err_from_is_err_and}
use Rattle.tableau.specs.Tree.{passed}
use Rattle.steps.specs.Inference.{RoomFor, added_in}
use Rattle.line_checks.proofs.StepLines.{step_refused, step_full, step_taken, clause_grown}
use Rattle.line_checks.proofs.step_line.take.Goals as goal
use Rattle.line_checks.proofs.step_line.take.Goals.{In-ByClause}

pub returns-in_err-inference : goal.returns-in_err-inference
returns-in_err-inference c table C H K P =
    let q = err_from_is_err_and c.from_residual.result c.from_residual.ensures.1 in
    let T = c.ask-asked.ensures.told table C H.searchable.entries H.mentioned H.count P in
    rw (q.1, q.2)
    (step_refused table C _ _ _ c.requires.ready.0 c.args.step c.ask-asked.result.noted _ _
    (c.in_err-inference.ensures.result_value table C H.searchable H.count K.sequence K.last T.tells))

-- the rule's outcome
pub grow-requires : goal.grow-requires
grow-requires c =
    let R = c.requires.ready.0 in (
      record { branch = R.branch.room; waiting = R.waiting },
      subst (RoomFor _) c.in-ByRule.is c.in_ok-inference.ensures.room_for,
    )

pub returns-in_err-grow-in-ByRule : goal.returns-in_err-grow-in-ByRule
returns-in_err-grow-in-ByRule c table C H K P =
    let q = err_from_is_err_and c.from_residual-in_err-grow-in-ByRule.result c.from_residual-in_err-grow-in-ByRule.ensures.1 in
    let T = c.ask-asked.ensures.told table C H.searchable.entries H.mentioned H.count P in
    let said = ap (λ i. passed (added_in C i)) (sym c.in-ByRule.is)
    ∙ c.in_ok-inference.ensures.result_value table C H.searchable H.count K.sequence K.last T.tells in
    rw (q.1, q.2)
    (step_full table C _ _ _ c.requires.ready.0 c.args.step c.ask-asked.result.noted _ _ _ said
    (c.in_err-grow-in-ByRule.ensures.result c.args.clauses.now))

pub returns-in_ok-grow-in-ByRule : goal.returns-in_ok-grow-in-ByRule
returns-in_ok-grow-in-ByRule c table C H K P =
    let T = c.ask-asked.ensures.told table C H.searchable.entries H.mentioned H.count P in
    let said = ap (λ i. passed (added_in C i)) (sym c.in-ByRule.is)
    ∙ c.in_ok-inference.ensures.result_value table C H.searchable H.count K.sequence K.last T.tells in
    let G = c.in_ok-grow-in-ByRule.ensures in
    let R = c.requires.ready.0 in
    rw (c.grown.ensures, c.after_step-next.ensures)
    (step_taken table C _ _ _ R c.args.step _ _ _ _ said c.ask-asked.ensures.noted_le_len T.rows _
    (λ v. G.fits R.branch v) (G.result c.args.clauses.now))

-- a clause
named : (c : goal.In-ByClause)
    → (let k = c.in-ByClause.k in (1 ≤ k.0) × (k.0 ≤ c.args.progress.clauses))
named c = subst (RoomFor _) c.in-ByClause.is c.in_ok-inference.ensures.room_for

pub span_of-requires : goal.span_of-requires
span_of-requires c = let K = c.requires.ready.2 in let n =
    named (goal.at.span_of-requires c).In-ByClause in (K.0, _, K.1, n.0, n.1)

pub split_clause-requires : goal.split_clause-requires
split_clause-requires c =
    let R = c.requires.ready.0 in
    let K = c.requires.ready.2 in
    let S = c.span_of.ensures K.0 _ K.1 (named (goal.at.split_clause-requires c).In-ByClause).1 in
    record {
      tree = record { branch = R.branch.room; waiting = R.waiting };
      span = (S.some, S.inside);
      literals = K.1.bounded;
    }

pub returns-in_err-split_clause-in-ByClause : goal.returns-in_err-split_clause-in-ByClause
returns-in_err-split_clause-in-ByClause c table C H K P =
    let q = err_from_is_err_and c.from_residual-in_err-split_clause-in-ByClause.result c.from_residual-in_err-split_clause-in-ByClause.ensures.1 in
    let T = c.ask-asked.ensures.told table C H.searchable.entries H.mentioned H.count P in
    let said = ap (λ i. passed (added_in C i)) (sym c.in-ByClause.is)
    ∙ c.in_ok-inference.ensures.result_value table C H.searchable H.count K.sequence K.last T.tells in
    let S = c.span_of.ensures C _ K
    (named (goal.at.returns-in_err-split_clause-in-ByClause c).In-ByClause).1 in
    rw (q.1, q.2)
    (step_full table C _ _ _ c.requires.ready.0 c.args.step c.ask-asked.result.noted _ _ _ said
    (clause_grown table C _ _ _ c.requires.ready.0 S c.in_err-split_clause-in-ByClause.ensures))

pub returns-in_ok-split_clause-in-ByClause : goal.returns-in_ok-split_clause-in-ByClause
returns-in_ok-split_clause-in-ByClause c table C H K P =
    let T = c.ask-asked.ensures.told table C H.searchable.entries H.mentioned H.count P in
    let said = ap (λ i. passed (added_in C i)) (sym c.in-ByClause.is)
    ∙ c.in_ok-inference.ensures.result_value table C H.searchable H.count K.sequence K.last T.tells in
    let S = c.span_of.ensures C _ K
    (named (goal.at.returns-in_ok-split_clause-in-ByClause c).In-ByClause).1 in
    let G = c.in_ok-split_clause-in-ByClause.ensures in
    rw (c.changed.ensures, c.after_step-next.ensures)
    (step_taken table C _ _ _ c.requires.ready.0 c.args.step _ _ _ _ said c.ask-asked.ensures.noted_le_len T.rows (Some _) (λ v. G.fits) (clause_grown table C _ _ _ c.requires.ready.0 S G))
