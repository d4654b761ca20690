-- What reading a night comes to: the specification's replies by their totals, or its refusal.
use Rattle.std.specs.Prelude.{List, ◌≡◌, ℕ, Result, Ok, Err}
use Rattle.tableau.specs.declared.Refusal.{Refusal}
use Rattle.tableau.specs.Reply.{Reply, stopped, ended}
use Rattle.statistics.specs.Figures.{replies_of}
use Rattle.figures.specs.declared.totals.Totals.{Totals}
use Rattle.figures.specs.Totals.{TotalsOf}

-- the code's totals are those of the replies
abbrev pub TotalsIn : List Reply → Totals → Type 0
TotalsIn rs t = TotalsOf rs t.files t.accepted t.sum t.squares

pub record AllRead (night : List ℕ) (t : Totals) : Type 0 where
  pub replies : List Reply
  pub totals : TotalsIn replies t
  pub count : ℕ
  pub read : replies_of night ≡ ended replies count

abbrev pub ReadTo : List ℕ → Result Totals Refusal → Type 0
ReadTo night (Ok t) = AllRead night t
ReadTo night (Err r) = replies_of night ≡ stopped r.reason r.line
