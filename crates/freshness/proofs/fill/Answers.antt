use native.Mathlib.Omega.{arith}
use Rattle.mentions.proofs.RowLaws.{filled_more}
use Rattle.freshness.proofs.PrefixLaws.{ahead_more, next_bits_lem}
use Rattle.freshness.proofs.fill.Goals as goal

pub loop-k-preserved : goal.loop-k-preserved
loop-k-preserved c =
    let a = c.args in
    let l = c.loop-k-test.true in
    let v = c.loop-k.invariant in
    record {
      filled = filled_more _ _ _ _ _ _ (omega (arith, c.requires)) l v.filled
          (λ q m. next_bits_lem _ _ a.rows.now a.from _ a.left a.right _ c.requires.0 l v.filled
          v.ahead q);
      ahead = ahead_more _ _ _ _ _ v.ahead;
    }
