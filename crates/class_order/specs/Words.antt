-- Rows of bits in an array: sixteen words for each of 1,024 numbers.
use Rattle.std.specs.Prelude.{◌≡◌, Bool, true, false, List, ℕ, zero, suc, ◌+◌, ◌-◌, ◌^◌, ◌<◌, length, get_or, set}
use Rattle.std.specs.Int.Bits.{bit_or}

pub record Words (words : List ℕ) : Type 0 where
  pub size : length words ≡ 16384
  pub fits : (i : ℕ) → get_or words i 0 < 2 ^ 64

-- how far the first n words are from full: less after each change
unfoldable pub room : ℕ → List ℕ → ℕ
room zero words = 0
room (suc n) words = (2 ^ 64 - get_or words n 0) + room n words

abbrev pub Less : Bool → List ℕ → List ℕ → Type 0
Less false old new = new ≡ old
Less true old new = room 16384 new < room 16384 old

-- a word of one row united with that of another
abbrev pub united_word : List ℕ → ℕ → ℕ → ℕ → ℕ
united_word words to from own = bit_or (get_or words to 0) (bit_or (get_or words from 0) own)

pub record RaisedWord (old new : List ℕ) (to from own : ℕ) (r : Bool) : Type 0 where
  pub words : Words new
  pub is : new ≡ set old to (united_word old to from own)
  pub less : Less r old new
