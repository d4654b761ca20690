-- Bytes stored in a list.
use Prim.Native.Nat.{ℕ, suc, ◌+◌, ◌<◌}
use mathlib.Core.Path.{◌≡◌}
use mathlib.Core.List.{List, [], ◌∷◌, ◌++◌}
use native.Mathlib.Numerals.{add-one}
use native.Mathlib.Omega.{arith}
use lib.ListN.{length, take, drop, set, length-set}
use lib.Seq.{take-suc-set, drop-cons, drop-set-lt, get_or-set_same}

-- behind the first n
pub stored_behind : (xs : List ℕ) (n v : ℕ) → n < length xs
    → take (n + 1) (set xs n v) ≡ take n xs ++ (v ∷ [])
stored_behind xs n v h = rw add-one (take-suc-set xs n v h)

-- before the last ones
pub stored_before : (xs : List ℕ) (n v : ℕ) → n < length xs
    → drop n (set xs n v) ≡ v ∷ drop (n + 1) xs
stored_before xs n v h =
    let l : n < length (set xs n v) = simp length-set h in
    let g : n < suc n = omega arith in
    rw (drop-cons (set xs n v) n 0, get_or-set_same xs n v 0, drop-set-lt, add-one)
