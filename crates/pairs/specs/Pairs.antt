-- Pairs of small numbers, each as one number, in an array with room for so many.
use Rattle.std.specs.Prelude.{cond, List, ℕ, ◌+◌, ◌*◌, ◌/◌, ◌%◌, ◌≤◌, leb, set}

-- what is known of the pairs that a search names: that there are not too many
abbrev pub AtMostPairs : ℕ → Type 0
AtMostPairs n = n ≤ 2048

abbrev pub pair_of : ℕ → ℕ → ℕ
pair_of x y = x * 1024 + y

abbrev pub first_of : ℕ → ℕ
first_of pair = pair / 1024 % 1024

abbrev pub second_of : ℕ → ℕ
second_of pair = pair % 1024

-- the array and the count with a pair more; without, where there is no room
abbrev pub with_pair : List ℕ → ℕ → ℕ → List ℕ
with_pair pairs n pair = cond (leb 2048 n) pairs (set pairs n pair)

abbrev pub count_with : ℕ → ℕ
count_with n = cond (leb 2048 n) n (n + 1)
