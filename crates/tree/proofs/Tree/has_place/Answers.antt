use borrow.Author.Tests.{le-leb, lt-leb}
use Rattle.tree.proofs.Tree.has_place.Goals as goal

pub returns-then-place-ge1 : goal.returns-then-place-ge1
returns-then-place-ge1 c = λ B e. rw (e, le-leb 1 _ c.if-place-ge1.true)

pub returns-else-place-ge1 : goal.returns-else-place-ge1
returns-else-place-ge1 c = λ B e. rw (lt-leb 1 _ c.if-place-ge1.false)
