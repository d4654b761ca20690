-- The nights of `Cases`, computed.
use mathlib.Core.Path.{refl}
use Rattle.tableau.specs.Basics.{bytes, same_bytes, lookup}
use Rattle.tableau.specs.File.{split, digits, number}
use Rattle.tableau.specs.Reply.{refusal_of, run_lines, decimal_from, comma_numbers}
use Rattle.tableau.specs.Cases.{file_of}
use Rattle.statistics.specs.ReplyLines.{answers, numbers, reply_shape, contradictory}
use Rattle.statistics.specs.Fractions.{greatest_up_to, lowest}
use Rattle.statistics.specs.Figures.{run_reply, replies_of, step_counts, sum, mean, variance}
use Rattle.statistics.specs.Figures.{figures, figures_line}
use Rattle.statistics.specs.Cases.{nights, UnendedRefused, AllFigures}

pub all_figures : AllFigures nights
unfolding AllFigures nights file_of bytes same_bytes lookup split digits number refusal_of run_lines decimal_from comma_numbers answers numbers reply_shape contradictory greatest_up_to lowest run_reply replies_of step_counts sum mean variance figures figures_line
all_figures = refl

pub unended_refused : UnendedRefused
unfolding UnendedRefused file_of bytes same_bytes lookup split digits number refusal_of run_lines decimal_from comma_numbers answers numbers reply_shape contradictory greatest_up_to lowest run_reply replies_of step_counts sum mean variance figures figures_line
unended_refused = refl
