-- The digits of a number have room.
use Prim.Native.Nat.{ℕ, zero, suc, ◌+◌, ◌-◌, ◌/◌, ◌*◌, ◌^◌, ◌≤◌, ◌<◌}
use mathlib.Core.Path.{◌≡◌}
use native.Mathlib.Nat.{pow-suc}
use native.Mathlib.Numerals.{add-one}
use native.Mathlib.Omega.{arith}

-- a number of two digits or more has one digit less without its last
pub room : (p n : ℕ) → 10 ≤ n → n < 10 ^ (p + 1) → (1 ≤ p) × (n / 10 < 10 ^ (p - 1 + 1))
room zero n h g = absurd (omega arith)
room (suc p) n h g =
    let e : suc p - 1 + 1 ≡ suc p = omega arith in
    let f : 10 ^ (suc p + 1) ≡ 10 ^ suc p * 10 = rw add-one (pow-suc 10 (suc p)) in
    (omega arith, rw e (omega arith))
