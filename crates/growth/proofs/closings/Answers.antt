-- `cls`, `emp` and `bck` are the rules that close.
use mathlib.Core.Path.{◌≡◌, ap}
use mathlib.Core.Logic.{◌⊎◌, inl, inr}
use Rattle.tableau.specs.declared.Rule.{Rule}
use Rattle.tableau.specs.Words.{rule_names}
use Rattle.tableau.specs.Rules.{rule}
use Rattle.tableau.proofs.Places.{rules}
use Rattle.growth.specs.Growth.{closings_of}
use Rattle.growth.proofs.Laws.{not_closing}
use Rattle.growth.proofs.closings.Goals as goal
use Rattle.growth.proofs.closings.Goals.{in-Cls, in_default}

closes : {x : Rule} → (x ≡ Rule.Cls) ⊎ ((x ≡ Rule.Emp) ⊎ (x ≡ Rule.Bck)) → closings_of x ≡ 1
unfolding rule
closes (inl e) = ap closings_of e
closes (inr (inl e)) = ap closings_of e
closes (inr (inr e)) = ap closings_of e

pub returns : goal.returns
unfolding rules rule_names
returns c =
    elim c.match-matches.branch [
      | in-Cls w ↦ rw (c.from.ensures, w.matches-is, closes w.in-Cls.is)
      | in_default w ↦ rw (
        c.from.ensures,
        w.matches-is,
        not_closing c.args.rule
            (w.in_default.not-Cls, (w.in_default.not-Emp, (w.in_default.not-Bck, tt))),
      )
    ]
