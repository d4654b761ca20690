-- The byte string has the words of the table, and the row their answers: antt computes both.
use mathlib.Core.Path.{◌∙◌}
use Rattle.tableau.specs.Basics.{bytes}
use Rattle.words.specs.Words.{words_of}
use Rattle.words.proofs.TableLaws.{packed_texts, found}
use Rattle.statistics.specs.ReplyLines.{answers}
use Rattle.reply_lines.proofs.answer_of.Goals as goal

pub returns : goal.returns
unfolding words_of packed_texts answers bytes
returns c = c.row_of.ensures ∙ found answers c.args.word
