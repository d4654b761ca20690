-- What is claimed of the figures: the fractions that are printed are those in lowest terms, and no
-- reply line of the checker is refused.
use Rattle.std.specs.Prelude.{◌≡◌, List, [], ◌∷◌, ◌++◌, map, ◌↔◌, ℕ, ◌^◌, ◌<◌, ◌≤◌, length, Some}
use Rattle.tableau.specs.Basics.{bytes}
use Rattle.tableau.specs.File.{LF, max_bytes}
use Rattle.tableau.specs.Tree.{passed}
use Rattle.tableau.specs.Reply.{ended, Reply, reply, reply_numbers, reply_line}
use Rattle.tableau.specs.Claims.{AllBelow}
use Rattle.statistics.specs.ReplyLines.{reply_digits, reply_shape}
use Rattle.statistics.specs.Fractions.{Fraction, ◌over◌, InLowestTerms, lowest}
use Rattle.statistics.specs.Figures.{run_reply, replies_of, step_counts, mean, variance, figures}
use Rattle.statistics.specs.Figures.{figures_line}

-- THE FRACTIONS. A fraction with another denominator than 0 is one in lowest terms in exactly one
-- way, and that is what is found; a zero is 0 over 1.
unfoldable pub LowestFound : Type 0
LowestFound = (f : Fraction) → 0 < f.denominator → InLowestTerms f (lowest f)

unfoldable pub LowestUnique : Type 0
LowestUnique = (f g : Fraction) → 0 < f.denominator → InLowestTerms f g → g ≡ lowest f

unfoldable pub ZeroOverOne : Type 0
ZeroOverOne =
    (f g : Fraction) → f.numerator ≡ 0 → 0 < f.denominator → InLowestTerms f g → g ≡ 0 over 1

-- What is printed, where a file is accepted: the mean and the variance in lowest terms.
unfoldable pub FiguresExact : Type 0
FiguresExact = (rs : List Reply) → 0 < length (step_counts rs)
    → InLowestTerms (mean (step_counts rs)) (figures rs).mean
    × InLowestTerms (variance (step_counts rs)) (figures rs).variance

-- THE TWO ENDS. What is shaped as a reply is a reply line, and every reply line whose numbers have
-- five digits at most is.
unfoldable pub ShapeOfReply : Type 0
ShapeOfReply =
    (l : List ℕ) (r : Reply)
    → (reply_shape l ≡ Some r) ↔
    ((reply_line r ≡ l ++ (LF ∷ [])) × AllBelow (10 ^ reply_digits) (reply_numbers r))

-- The line that the checker prints for any file passes, behind any others, as the file's reply.
unfoldable pub ReplyPasses : Type 0
ReplyPasses =
    (file l : List ℕ) → reply_line (reply file) ≡ l ++ (LF ∷ []) → (rs : List Reply)
    → run_reply rs l ≡ passed (rs ++ (reply file ∷ []))

-- So a night's output of the checker, for any files, is never refused, if it fits: the replies are
-- those of the files.
unfoldable pub night_of : List (List ℕ) → List ℕ
night_of [] = []
night_of (file ∷ files) = reply_line (reply file) ++ night_of files

unfoldable pub NightRead : Type 0
NightRead =
    (files : List (List ℕ)) → length (night_of files) ≤ max_bytes
    → replies_of (night_of files) ≡ ended (map reply files) (length files)

-- "too much input gets 1 with line 0", whatever its bytes
unfoldable pub TooMuch : Type 0
TooMuch =
    (night : List ℕ) → max_bytes < length night → figures_line night ≡ bytes "1,0" ++ (LF ∷ [])
