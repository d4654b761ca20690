use Rattle.tree.proofs.Changes.{stored}
use Rattle.tree.proofs.Tree.apply.Goals as goal

pub returns : goal.returns
returns c =
    stored _ _ c.requires.within _ c.requires.literals c.requires.fits _
    c.append-self.ensures.count c.push-self.ensures.count
    c.append-self.ensures.after c.push-self.ensures.after
    (c.append-self.ensures.cells c.requires.within.cells)
    (c.push-self.ensures.stack c.requires.within.stack)
