use Rattle.class_order.proofs.WordLaws.{word_raised}
use Rattle.class_order.proofs.raise_word.Goals as goal

pub returns : goal.returns
returns c = let p = c.requires in word_raised _ _ _ _ p.0 p.1 p.2 p.3
