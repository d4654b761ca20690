-- Each arm is the test of its word; a member is looked for among the `alc` lines.
use mathlib.Core.Path.{◌∙◌, ap}
use native.Mathlib.Omega.{arith}
use Rattle.tableau.specs.Basics.{four}
use Rattle.evaluation.specs.declared.FactWord.{FactWord}
use Rattle.evaluation.specs.Facts.{fact_fields, subject_of, allowed}
use Rattle.facts.specs.Keys.{has_key}
use Rattle.facts.proofs.WordChecks.{held_said, allocated_key, others_allowed}
use Rattle.facts.proofs.checks.allowed.Goals as goal

pub returns-in-Alc : goal.returns-in-Alc
unfolding allowed
returns-in-Alc c g H = rw c.in-Alc.is

pub returns-in-Sub : goal.returns-in-Sub
unfolding allowed
returns-in-Sub c g H = rw c.in-Sub.is

pub returns-in-Rgv : goal.returns-in-Rgv
unfolding allowed fact_fields subject_of
returns-in-Rgv c g H =
    let b = c.args.f.b in
    rw c.in-Rgv.is
    (c.has.ensures ∙ ap (has_key c.args.facts.now) (c.word_key.ensures ∙ allocated_key b)
    ∙ held_said H FactWord.Alc (four b 0 0 0) (record { b = omega arith; c = omega arith; d = omega arith }))

pub returns-in_default : goal.returns-in_default
returns-in_default c g H = others_allowed g _ _ c.in_default.not-Alc c.in_default.not-Sub c.in_default.not-Rgv
