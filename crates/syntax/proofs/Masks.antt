-- Laws of the masks of used fields: a bit is set where its field is used.
use mathlib.Core.Bool.{Bool, true, false, cond, not}
use mathlib.Core.Path.{◌≡◌, refl, ◌∙◌}
use Prim.Native.Nat.{ℕ, ◌+◌}
use lib.Bits.{bit_and}
use lib.Dec.{eqb}
use Rattle.tableau.specs.Basics.{Four}
use Rattle.tableau.specs.Fields.{Use, unused, place, name, side, clause, term, of}
use Rattle.syntax.specs.Syntax.{bit_of, mask_of}

abbrev pub is_used : Use → Bool
is_used unused = false
is_used place = true
is_used name = true
is_used side = true
is_used clause = true
is_used term = true
is_used (of s) = true

bit_if : (n : ℕ) (u : Use) → bit_of n u ≡ cond (is_used u) n 0
bit_if n unused = refl
bit_if n place = refl
bit_if n name = refl
bit_if n side = refl
bit_if n clause = refl
bit_if n term = refl
bit_if n (of s) = refl

-- a mask, and the test of a bit
abbrev mask : Bool → Bool → Bool → Bool → ℕ
mask p q t w = cond p 1 0 + (cond q 2 0 + (cond t 4 0 + cond w 8 0))

abbrev pub has : ℕ → ℕ → Bool
has used bit = not (eqb (bit_and used bit) 0)

bits : (p q t w : Bool) → (has (mask p q t w) 1 ≡ p) × (has (mask p q t w) 2 ≡ q) × (has (mask p q t w) 4 ≡ t) × (has (mask p q t w) 8 ≡ w)
bits true true true true = (refl, refl, refl, refl)
bits true true true false = (refl, refl, refl, refl)
bits true true false true = (refl, refl, refl, refl)
bits true true false false = (refl, refl, refl, refl)
bits true false true true = (refl, refl, refl, refl)
bits true false true false = (refl, refl, refl, refl)
bits true false false true = (refl, refl, refl, refl)
bits true false false false = (refl, refl, refl, refl)
bits false true true true = (refl, refl, refl, refl)
bits false true true false = (refl, refl, refl, refl)
bits false true false true = (refl, refl, refl, refl)
bits false true false false = (refl, refl, refl, refl)
bits false false true true = (refl, refl, refl, refl)
bits false false true false = (refl, refl, refl, refl)
bits false false false true = (refl, refl, refl, refl)
bits false false false false = (refl, refl, refl, refl)

pub bits_of : (f : Four Use) (used : ℕ) → used ≡ mask_of f
    → (has used 1 ≡ is_used f.a) × (has used 2 ≡ is_used f.b) × (has used 4 ≡ is_used f.c) × (has used 8 ≡ is_used f.d)
bits_of f used e =
    let q : used ≡ mask (is_used f.a) (is_used f.b) (is_used f.c) (is_used f.d) = e ∙ rw (bit_if 1 f.a, bit_if 2 f.b, bit_if 4 f.c, bit_if 8 f.d) in
    rw q (bits (is_used f.a) (is_used f.b) (is_used f.c) (is_used f.d))
