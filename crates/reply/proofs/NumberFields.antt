-- Numbers written one behind the other: what is written, with the form of those that are left
-- behind it, stays the same.
use Prim.Native.Nat.{ℕ, ◌+◌, ◌<◌}
use mathlib.Core.Path.{◌≡◌}
use mathlib.Core.List.{List, [], ◌∷◌, ◌++◌, append_assoc}
use native.Mathlib.Numerals.{add-one}
use lib.ListN.{length, drop, get_or}
use lib.Seq.{drop-cons, drop-length}

-- `each` is the form of one number, `all` that of several
module _ (each : ℕ → List ℕ) (all : List ℕ → List ℕ)
    (first : (n : ℕ) (ns : List ℕ) → all (n ∷ ns) ≡ each n ++ all ns) where
  pub number_written : (ns : List ℕ) (i : ℕ) (written : List ℕ) {written' : List ℕ} → i < length ns
      → written' ≡ written ++ each (get_or ns i 0)
      → written' ++ all (drop (i + 1) ns) ≡ written ++ all (drop i ns)
  number_written ns i written h e =
      rw (e, drop-cons ns i 0, first, add-one) (append_assoc written (each (get_or ns i 0)) _)

pub none_left : (ns : List ℕ) (i : ℕ) → i ≡ length ns → drop i ns ≡ []
none_left ns i e = rw e (drop-length ns)
