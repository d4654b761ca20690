-- The lesser of the recorded length and the length is what two cuts in a row come to.
use Rattle.tree.proofs.Changes.{closes_last, closes_more}
use Rattle.tree.proofs.TreeView.close.Goals as goal

pub returns-in_err-top : goal.returns-in_err-top
returns-in_err-top c = rw c.from_residual.ensures (closes_last _ _ c.in_err-top.ensures.cases)

pub returns : goal.returns
returns c = rw c.in_ok-top.ensures.cases.0 (closes_more _ _ c.in_ok-top.top.now (cc))
