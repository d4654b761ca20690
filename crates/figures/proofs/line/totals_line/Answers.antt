-- The other numbers are put behind that of the files.
use mathlib.Core.Path.{◌∙◌}
use Rattle.fractions.specs.Fraction.{fraction_record}
use Rattle.figures.proofs.Sums.{figure_numbers_lem}
use Rattle.figures.proofs.line.totals_line.Goals as goal

pub returns : goal.returns
returns c rs h =
    c.put_fields.ensures
    ∙ rw (c.put_decimal.ensures.put, c.new-text.ensures)
    (figure_numbers_lem rs _ _ _ _ h (fraction_record c.mean-mean.result)
    (fraction_record c.variance-variance.result) (c.mean-mean.ensures _ h.accepted h.sum)
    (c.variance-variance.ensures rs h))
