-- The rows that the order's part fills are those that it speaks of.
use Rattle.background.proofs.by_order.Goals as goal

pub returns-then-antisymmetry : goal.returns-then-antisymmetry
returns-then-antisymmetry c = record {
  rows = _;
  filled = c.fill.ensures;
  change = rw c.if-antisymmetry.true at c.antisymmetry.ensures;
  answer = tt;
}

pub returns-else-antisymmetry : goal.returns-else-antisymmetry
returns-else-antisymmetry c = record {
  rows = _;
  filled = c.fill.ensures;
  change = rw c.if-antisymmetry.false at c.antisymmetry.ensures;
  answer = c.contradicts.ensures;
}
