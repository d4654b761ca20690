use mathlib.Core.Path.{◌∙◌, ap}
use lib.ListN.{length}
use borrow.Author.Rules.{rules}
use Rattle.term_values.proofs.RowLaws.{row_length_lem}
use Rattle.term_values.proofs.TermValues.image.Goals as goal

pub image-requires : goal.image-requires
image-requires c = (ap length c.row.ensures ∙ row_length_lem c.args.self.now.rows c.args.heap.0 c.requires (search rules), search rules)
