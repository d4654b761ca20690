-- What an array of blocks holds.
use Rattle.std.specs.Prelude.{◌≡◌, cond, List, ℕ, ◌<◌, eqb, length, get_or}
use Rattle.tableau.specs.Terms.{TermNo}
use Rattle.packing.specs.Packing.{Small}

-- the number of a block stands for itself
pub record IsPartition (blocks : List ℕ) : Type 0 where
  pub size : length blocks ≡ 1024
  pub small : (x : TermNo) → Small (get_or blocks x 0)
  pub idempotent : (x : TermNo) → Small x → get_or blocks (get_or blocks x 0) 0 ≡ get_or blocks x 0

-- the block `from` has become part of the block `to`
abbrev pub renamed_as : ℕ → ℕ → ℕ → ℕ
renamed_as x from to = cond (eqb x from) to x

pub record Renamed (old new : List ℕ) (from to : ℕ) : Type 0 where
  pub size : length new ≡ length old
  pub each : (x : TermNo) → x < length old → get_or new x 0 ≡ renamed_as (get_or old x 0) from to
