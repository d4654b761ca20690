-- A bit of words joined by `or` is a bit of one of them.
use Rattle.syntax.specs.Syntax.{arguments_in}
use Rattle.mentions.proofs.RowLaws.{joined_bits}
use Rattle.mentions.proofs.joined_word.Goals as goal

pub returns : goal.returns
returns c =
    joined_bits c.args.rows.now (arguments_in c.args.k) c.args.i c.word_at.ensures
    c.word_at-2.ensures c.word_at-3.ensures c.word_at-4.ensures
