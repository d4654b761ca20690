-- D lines that pass their checks, by their words and numbers: a `siz`, then lines that may follow.
use mathlib.Core.Path.{◌≡◌}
use mathlib.Core.Bool.{true}
use mathlib.Core.List.{[], ◌∷◌, ◌++◌}
use Rattle.tableau.specs.Basics.{every}
use Rattle.evaluation.specs.declared.FactWord.{FactWord}
use Rattle.evaluation.specs.Facts.{fact_fields, Fact, Facts, zero_unless_used, may_follow}

pub data Passable : Facts → Type 0 where
  size : (x : Fact) → x.word ≡ FactWord.Siz → every zero_unless_used (fact_fields FactWord.Siz) x.fields ≡ true → may_follow [] FactWord.Siz x.fields ≡ true → Passable (x ∷ [])
  more : (facts : Facts) (x : Fact) → Passable facts → ¬ (x.word ≡ FactWord.Siz) → every zero_unless_used (fact_fields x.word) x.fields ≡ true
      → may_follow facts x.word x.fields ≡ true → Passable (facts ++ (x ∷ []))
