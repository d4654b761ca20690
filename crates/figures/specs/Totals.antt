-- The totals over the replies that are read, and how large they can be.
use Rattle.std.specs.Prelude.{List, map, ◌≡◌, ℕ, ◌*◌, ◌≤◌, length}
use Rattle.tableau.specs.Reply.{Reply}
use Rattle.statistics.specs.Figures.{step_counts, square, sum as sum_of}

pub record TotalsOf (rs : List Reply) (f a s q : ℕ) : Type 0 where
  pub files : f ≡ length rs
  pub accepted : a ≡ length (step_counts rs)
  pub sum : s ≡ sum_of (step_counts rs)
  pub squares : q ≡ sum_of (map square (step_counts rs))

-- A reply line has 17 bytes at least: so many are there at most in 60,000 bytes.
abbrev pub most_replies : ℕ
most_replies = 3529

-- the largest number of five digits
abbrev pub most_steps : ℕ
most_steps = 99999

-- then sums and products fit 64 bits
pub record Small (f a s q : ℕ) : Type 0 where
  pub files : f ≤ most_replies
  pub accepted : a ≤ f
  pub sum : s ≤ most_steps * a
  pub squares : q ≤ square most_steps * a

-- the totals of some replies
pub record Totalled (f a s q : ℕ) : Type 0 where
  pub replies : List Reply
  pub totals : TotalsOf replies f a s q
