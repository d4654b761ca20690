-- 'Figures over a night's replies': the replies of a night, the figures over them, and the line
-- that is printed.
use Rattle.std.specs.Prelude.{Bool, true, false, not, cond, List, [], ◌∷◌, ◌++◌, map, ℕ, zero, suc, ◌+◌, ◌*◌, ◌-◌, leb, length}
use Rattle.tableau.specs.declared.Reason.{Reason}
use Rattle.tableau.specs.File.{LF, split, max_bytes}
use Rattle.tableau.specs.Tree.{Checked, passed, ◌>>=◌, ◌>>◌, require, require_some}
use Rattle.tableau.specs.Reply.{reason_number, RunEnd, stopped, ended, run_lines, Reply, decimal}
use Rattle.tableau.specs.Reply.{comma_numbers}
use Rattle.statistics.specs.ReplyLines.{reply_shape, contradictory}
use Rattle.statistics.specs.Fractions.{Fraction, ◌over◌, lowest}

-- A LINE behind others: "a line not shaped as a reply", or a reply that contradicts itself, "gets 2
-- with its line; no more is tested".
unfoldable pub run_reply : List Reply → List ℕ → Checked (List Reply)
run_reply rs l = do
  r ← require_some (reply_shape l) Reason.BadShape
  require (not (contradictory r)) Reason.BadShape
  passed (rs ++ (r ∷ []))

-- THE REPLIES OF A NIGHT, "from up to 60,000 bytes of reply lines": "too much input gets 1 with
-- line 0".
abbrev pub replies_if : Bool → List ℕ → RunEnd (List Reply)
replies_if true night = run_lines run_reply (split LF night) 0 (passed [])
replies_if false night = stopped Reason.TooLong 0

unfoldable pub replies_of : List ℕ → RunEnd (List Reply)
replies_of night = replies_if (leb (length night) max_bytes) night

-- "for S lines of the accepted files": how many each of them has
unfoldable pub step_counts : List Reply → List ℕ
step_counts [] = []
step_counts (r ∷ rs) = cond r.is_yes (r.steps ∷ step_counts rs) (step_counts rs)

-- THE MEAN: the sum over the count.
unfoldable pub sum : List ℕ → ℕ
sum [] = 0
sum (x ∷ xs) = x + sum xs

unfoldable pub mean : List ℕ → Fraction
mean xs = sum xs over length xs

-- THE VARIANCE, "over the count, not one less": the mean of the squared distances from the mean.
-- With n numbers whose sum is s, the distance of x from s/n is that of n x from s, over n; so its
-- square is over n n, and the mean of the squares over n n n.
abbrev pub distance : ℕ → ℕ → ℕ
distance a b = (a - b) + (b - a)

abbrev pub square : ℕ → ℕ
square x = x * x

abbrev pub squared_distance : ℕ → ℕ → ℕ → ℕ
squared_distance n s x = square (distance (n * x) s)

unfoldable pub variance : List ℕ → Fraction
variance xs =
    sum (map (squared_distance (length xs) (sum xs)) xs) over (length xs * length xs * length xs)

-- A fraction as it is printed, where so many files are accepted: "Fractions are exact and in lowest
-- terms, a zero is `0,1`, and with none accepted both are `0,0`". That a zero in lowest terms is
-- `0,1` is a theorem.
abbrev pub printed : ℕ → Fraction → Fraction
printed zero f = 0 over 0
printed (suc n) f = lowest f

-- THE FIGURES: "files, accepted, then .. the mean as numerator and denominator, and the variance ..
-- the same way"
pub record Figures : Type 0 where
  pub files : ℕ
  pub accepted : ℕ
  pub mean : Fraction
  pub variance : Fraction

abbrev pub figures_from : ℕ → List ℕ → Figures
figures_from files' xs = record {
  files = files';
  accepted = length xs;
  mean = printed (length xs) (mean xs);
  variance = printed (length xs) (variance xs);
}

unfoldable pub figures : List Reply → Figures
figures rs = figures_from (length rs) (step_counts rs)

-- THE LINE: "print one line"; "a refusal prints its number and line only".
abbrev pub figure_numbers : Figures → List ℕ
figure_numbers f =
    f.accepted ∷ f.mean.numerator ∷ f.mean.denominator ∷ f.variance.numerator ∷ f.variance.denominator ∷ []

abbrev pub line_on : RunEnd (List Reply) → List ℕ
line_on (stopped r i) = decimal (reason_number r) ++ comma_numbers (i ∷ [])
line_on (ended rs i) = decimal (figures rs).files ++ comma_numbers (figure_numbers (figures rs))

unfoldable pub figures_line : List ℕ → List ℕ
figures_line night = line_on (replies_of night)
