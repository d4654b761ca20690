-- The byte string has the words of the table, and the words are those of the table: antt computes both.
use mathlib.Core.Path.{◌∙◌}
use Rattle.tableau.specs.Basics.{bytes}
use Rattle.evaluation.specs.Facts.{fact_words}
use Rattle.words.specs.Words.{words_of}
use Rattle.words.proofs.TableLaws.{packed_texts, found}
use Rattle.facts.proofs.fields.word_of.Goals as goal

pub returns : goal.returns
unfolding words_of packed_texts fact_words bytes
returns c = c.row_of.ensures ∙ found fact_words c.args.word
