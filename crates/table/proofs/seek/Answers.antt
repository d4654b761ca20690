use mathlib.Core.Path.{◌∙◌, ap}
use Prim.Native.Nat.{ℕ}
use native.Mathlib.Omega.{arith}
use lib.ListN.{get_or}
use Rattle.table.proofs.ChainLaws.{seek_start, seek_next, seek_within}
use Rattle.table.proofs.seek.Goals as goal

pub loop-init : goal.loop-init
loop-init c =
    seek_within c.requires (λ n C. seek_start _ _ _ _ C c.from-t.result
    (c.from-t.ensures ∙ ap (λ (h : ℕ). get_or c.args.chains.now h 0) c.term_hash.ensures.0))

pub returns-then-t-eq0 : goal.returns-then-t-eq0
returns-then-t-eq0 c n C j l m = (c.loop.invariant.1 n C).passed j (omega arith) (omega arith)

pub returns-then-terms-t : goal.returns-then-terms-t
returns-then-terms-t c n C = (omega arith, (c.loop.invariant.1 n C).within, c.if-terms-t.true)

pub loop-preserved : goal.loop-preserved
loop-preserved c =
    seek_within c.requires
    (λ n C. seek_next _ _ _ _ C _ _ (omega arith) (c.loop.invariant.1 n C) c.if-terms-t.false
    c.from-t-in-loop.ensures)

pub returns : goal.returns
returns c n C = c.scan.ensures n (c.loop.invariant.1 n C)
