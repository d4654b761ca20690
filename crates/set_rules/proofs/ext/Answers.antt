-- `ext` answers what its row says.
use mathlib.Core.Path.{refl}
use Rattle.tableau.specs.declared.Relation.{Relation}
use Rattle.rules.proofs.Laws.{computing, is_not}
use Rattle.rules.proofs.Rows.{fresh_or_not, other_p}
use Rattle.set_rules.proofs.Regions.{unequal}
use Rattle.set_rules.proofs.ext.Goals as goal

-- p is not r ne s
pub returns-in_default : goal.returns-in_default
unfolding computing
returns-in_default c =
    let p = c.args.p in
    fresh_or_not (other_p p refl (is_not Relation.Ne p c.in_default.not-Ne))

-- w is not fresh
pub returns-in-NotFresh : goal.returns-in-NotFresh
returns-in-NotFresh c =
    unequal c.in-Ne.is c.are_regions.ensures tt (rw (c.if-not-are_regions.false, c.in-NotFresh.is))

pub returns : goal.returns
returns c =
    let built = rw (
      c.literal.ensures,
      c.literal-2.ensures,
      c.literal-3.ensures,
      c.literal-4.ensures,
    ) at c.splits_two_two.ensures in
    unequal c.in-Ne.is c.are_regions.ensures built.room
    (rw (c.if-not-are_regions.false, c.in_default-fresh.is, built.adds))

-- r or s is no region
pub returns-then-not-are_regions : goal.returns-then-not-are_regions
returns-then-not-are_regions c =
    unequal c.in-Ne.is c.are_regions.ensures tt (rw c.if-not-are_regions.true)
