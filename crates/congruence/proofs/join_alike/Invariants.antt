-- The terms before t are signed and chained; where nothing was joined, those of one signature are
-- in one block.
use Rattle.std.proofs.Common.{◌≡◌, ℕ, suc}
use Rattle.congruence.proofs.AlikeLaws.{Part}
use Rattle.congruence.proofs.join_alike.Given as goal

abbrev pub invariant-loop-t : goal.invariant-loop-t
invariant-loop-t l = (m : ℕ) × (l.t ≡ suc m) × Part l.initial.blocks l.blocks l.terms l.signatures
    l.chains l.n m l.changed
