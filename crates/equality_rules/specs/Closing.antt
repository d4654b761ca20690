-- What the rule that closes a branch that contradicts itself comes to.
use Rattle.std.specs.Prelude.{Bool, cond, Result, Ok, Err}
use Rattle.tableau.specs.declared.Reason.{Reason}
use Rattle.rules.specs.declared.outcome.Outcome.{Outcome}

-- a closing, where its need is met
abbrev pub closes_if : Bool → Result Outcome Reason
closes_if b = cond b (Ok Outcome.Closes) (Err Reason.NeedNotMet)
