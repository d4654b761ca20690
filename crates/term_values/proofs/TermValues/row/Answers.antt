use mathlib.Core.Path.{◌≡◌, ap}
use Prim.Native.Nat.{ℕ, ◌+◌, ◌*◌, ◌-◌}
use native.Mathlib.Omega.{arith}
use lib.ListN.{take, drop}
use Rattle.term_values.proofs.TermValues.row.Goals as goal

pub returns : goal.returns
returns c =
    let a = c.args in
    ap (λ (n : ℕ). take n (drop (a.term.0 * 1024) a.self.now.rows)) (let e : a.term.0 * 1024 + 1024 - a.term.0 * 1024 ≡ 1024 = omega arith in e)
