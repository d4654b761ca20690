-- Values as numbers: a region is one number of 64 bits, a bit for each reference; a heap value is a row of 1,024 bytes.
use Rattle.std.specs.Prelude.{◌≡◌, Bool, false, cond, List, ◌⊎◌, ℕ, zero, suc, ◌+◌, ◌*◌, ◌/◌, ◌%◌, ◌^◌, ◌<◌, ◌≤◌, length, get_or}
use Rattle.std.specs.Int.Bits.{bit_and, bit_or}
use Rattle.tableau.specs.Meaning.{FiniteHeap, Ref, Field, Region, Store}
use Rattle.mentions.specs.Mentions.{bit_at}

-- WHAT NUMBERS AND ROWS SHOW
pub record IsMask (H : FiniteHeap) (r : Region H) (m : ℕ) : Type 0 where
  pub small : m < 2 ^ 64
  pub bits : (x : Ref H) → bit_at m x.0 ≡ r.has x
  pub above : (q : ℕ) → H.references ≤ q → bit_at m q ≡ false

abbrev pub row_length : ℕ
row_length = 1024

-- where a row has what the heap value gives for the field f of the reference x
abbrev pub place : ℕ → ℕ → ℕ
place x f = x * 16 + f

abbrev pub entry : List ℕ → ℕ → ℕ → ℕ
entry row x f = get_or row (place x f) 0

pub record IsRow (H : FiniteHeap) (h : Store H) (row : List ℕ) : Type 0 where
  pub size : length row ≡ row_length
  pub entries : (x : Ref H) (f : Field H) → entry row x.0 f.0 ≡ (h x f).0
  pub outside : (i : ℕ) → i < row_length → (H.references ≤ i / 16) ⊎ (H.fields ≤ i % 16) → get_or row i 0 ≡ 0

-- WHAT IS COMPUTED: the bit of x; the same where a test holds
abbrev pub one_bit : ℕ → ℕ
one_bit x = 1 * 2 ^ (x % 64) % 2 ^ 64

abbrev pub single_if : Bool → ℕ → ℕ
single_if test x = cond test (one_bit x) 0

-- what a row gives for the field f of the members below n
unfoldable pub reached_below : List ℕ → ℕ → ℕ → ℕ → ℕ
reached_below row members f zero = 0
reached_below row members f (suc n) = bit_or (single_if (bit_at members n) (entry row n f)) (reached_below row members f n)

abbrev pub image_mask : List ℕ → ℕ → ℕ → ℕ → ℕ → ℕ
image_mask row region having f all = bit_and all (reached_below row (bit_and region having) f 64)
