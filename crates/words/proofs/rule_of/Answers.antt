-- The byte string has the words of the table, and the rows are those of the table: antt computes
-- both.
use mathlib.Core.Path.{◌∙◌}
use Rattle.tableau.specs.Basics.{bytes}
use Rattle.tableau.specs.Fields.{arguments, rule_fields}
use Rattle.tableau.specs.Words.{rule_names}
use Rattle.words.specs.Words.{words_of, rule_row}
use Rattle.words.proofs.TableLaws.{packed_texts, found_row}
use Rattle.words.proofs.rule_of.Goals as goal

pub returns : goal.returns
unfolding words_of packed_texts rule_names bytes arguments rule_fields
returns c = c.row_of.ensures ∙ found_row rule_row rule_names c.args.word
