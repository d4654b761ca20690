-- What a scan over keys leaves: of the keys base, base + 2 ^ shift, base + 2 * 2 ^ shift .., which ones there are, and the values beside them.
use Rattle.std.specs.Prelude.{◌≡◌, ℕ, ◌+◌, ◌*◌, ◌^◌, ◌<◌, ◌≤◌, Option, None, Some, false, List, length, ◌==◌, slice_index}
use Rattle.mentions.specs.Mentions.{bit_at}
use Rattle.facts.specs.declared.StoredFact.{StoredFact}
use Rattle.facts.specs.Keys.{has_key, value_at}

unfoldable pub key_at : ℕ → ℕ → ℕ → ℕ
key_at base shift p = base + p * 2 ^ shift

-- keys so small that no difference of two is mistaken
pub record Scannable (base shift limit : ℕ) : Type 0 where
  pub low_base : base < 2 ^ 40
  pub low_shift : shift ≤ 14
  pub low_limit : limit ≤ 1024

abbrev pub IsPlace : ℕ → ℕ → ℕ → ℕ → Option ℕ → Type 0
IsPlace key base shift limit None = (p : ℕ) → p < limit → (key_at base shift p == key) ≡ false
IsPlace key base shift limit (Some r) = (r < limit) × ((p : ℕ) → p < limit → (key_at base shift p == key) ≡ (p == r))

pub record IsMembers (facts : List StoredFact) (base shift r : ℕ) : Type 0 where
  pub small : r < 2 ^ 64
  pub bits : (x : ℕ) → x < 64 → bit_at r x ≡ has_key facts (key_at base shift x)

-- the bytes of new, as many as those of old
pub record IsScattered (facts : List StoredFact) (base shift : ℕ) (old new : List ℕ) : Type 0 where
  pub size : length new ≡ length old
  pub entries : (p : ℕ) → p < length new → slice_index new p ≡ value_at facts (key_at base shift p)
