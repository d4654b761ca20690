-- Check 20 by rows of bits: bit c of row b says that c is above b.
use Rattle.std.specs.Prelude.{ℕ, Bool, List, ◌==◌, slice_index}
use Rattle.tableau.specs.Meaning.{◌and◌, Below}
use Rattle.evaluation.specs.Orders.{each, implies, is_transitive, is_antisymmetric}
use Rattle.mentions.specs.Mentions.{bit_at}

module _ (under : List ℕ) (n : ℕ) where
  abbrev pub is_below : ℕ → ℕ → Bool
  is_below b c = bit_at (slice_index under b) c

  -- what the two laws ask of b and a c above it; of b and all c
  unfoldable pub keeps_order : ℕ → ℕ → Bool
  keeps_order b c = implies (is_below b c) (implies (is_below c b) (b == c) and each n (λ d. implies (is_below c d.0) (is_below b d.0)))

  unfoldable pub keeps_order_from : ℕ → Bool
  keeps_order_from b = each n (λ c. keeps_order b c.0)

  abbrev pub relation : Below n → Below n → Bool
  relation b c = is_below b.0 c.0

  unfoldable pub is_order_below : Bool
  is_order_below = is_transitive relation and is_antisymmetric relation
