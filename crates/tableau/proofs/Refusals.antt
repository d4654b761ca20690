-- Every reason has one of the numbers 1 to 21, and only 13 goes with a place; what is known of the reason of every check of a line is known of the line's.
use mathlib.Core.Path.{◌≡◌, refl}
use mathlib.Core.Bool.{Bool, true, false}
use mathlib.Core.Logic.{◌⊎◌, inl, inr}
use Rattle.std.specs.Prelude.{Option, None, Some}
use Prim.Native.Nat.{ℕ, suc, ◌≤◌}
use native.Mathlib.Omega.{arith}
use Rattle.tableau.specs.declared.Place.{Place}
use Rattle.tableau.specs.declared.Reason.{Reason}
use Rattle.tableau.specs.Tree.{Checked, refused, passed, ◌>>=◌, ◌>>◌, require, require_some, Status, is_open, is_closed}
use Rattle.tableau.specs.Reply.{refusal_of, reason_number, State, require_open, Verdict, accept, refuse, at_end}

pub reason_fits : (r : Reason) → (1 ≤ reason_number r) × (reason_number r ≤ 21) × (((refusal_of r).place ≡ 0) ⊎ ((p : Place) × (r ≡ Reason.NotFresh p)))
unfolding refusal_of
reason_fits Reason.TooLong = (omega arith, omega arith, inl refl)
reason_fits Reason.BadShape = (omega arith, omega arith, inl refl)
reason_fits Reason.LetterOrder = (omega arith, omega arith, inl refl)
reason_fits Reason.UnknownWord = (omega arith, omega arith, inl refl)
reason_fits Reason.TreeClosed = (omega arith, omega arith, inl refl)
reason_fits Reason.UnusedField = (omega arith, omega arith, inl refl)
reason_fits Reason.TooManyTerms = (omega arith, omega arith, inl refl)
reason_fits Reason.NoSuchTerm = (omega arith, omega arith, inl refl)
reason_fits Reason.WrongSort = (omega arith, omega arith, inl refl)
reason_fits Reason.TermRepeated = (omega arith, omega arith, inl refl)
reason_fits Reason.NoSuchPlace = (omega arith, omega arith, inl refl)
reason_fits Reason.NeedNotMet = (omega arith, omega arith, inl refl)
reason_fits (Reason.NotFresh p) = (omega arith, omega arith, inr (p, refl))
reason_fits Reason.TermNotMade = (omega arith, omega arith, inl refl)
reason_fits Reason.BranchFull = (omega arith, omega arith, inl refl)
reason_fits Reason.WaitingFull = (omega arith, omega arith, inl refl)
reason_fits Reason.BranchOpen = (omega arith, omega arith, inl refl)
reason_fits Reason.BufferLength = (omega arith, omega arith, inl refl)
reason_fits Reason.BadFact = (omega arith, omega arith, inl refl)
reason_fits Reason.NotAnOrder = (omega arith, omega arith, inl refl)
reason_fits Reason.BadClause = (omega arith, omega arith, inl refl)

-- the reason of a refusal has Q
abbrev pub OfReason : (Reason → Type 0) → {A : Type 0} → Checked A → Type 0
OfReason Q (refused r) = Q r
OfReason Q (passed x) = Unit {0}

module _ (Q : Reason → Type 0) where
  pub bind_reason : {A B : Type 0} (m : Checked A) (k : A → Checked B) → OfReason Q m → ((x : A) → m ≡ passed x → OfReason Q (k x)) → OfReason Q (m >>= k)
  bind_reason (refused r) k h t = h
  bind_reason (passed x) k h t = t x refl

  pub next_reason : {B : Type 0} (l : Checked (Unit {0})) (m : Checked B) → OfReason Q l → OfReason Q m → OfReason Q (l >> m)
  next_reason (refused r) m h t = h
  next_reason (passed x) m h t = t

  pub require_reason : (b : Bool) (r : Reason) → Q r → OfReason Q (require b r)
  require_reason true r h = tt
  require_reason false r h = h

  pub require_some_reason : {A : Type 0} (o : Option A) (r : Reason) → Q r → OfReason Q (require_some o r)
  require_some_reason None r h = h
  require_some_reason (Some x) r h = tt

  pub require_open_reason : (s : Status) → Q Reason.TreeClosed → OfReason Q (require_open s)
  require_open_reason (is_open τ) h = tt
  require_open_reason is_closed h = h

-- the same of a verdict, with its line
abbrev pub OfVerdict : (ℕ → Reason → Type 0) → Verdict → Type 0
OfVerdict Q (accept c) = Unit {0}
OfVerdict Q (refuse r i) = Q i r

pub end_reason : (Q : ℕ → Reason → Type 0) → ((i : ℕ) → Q i Reason.BranchOpen) → (σ : State) (s : Status) (i : ℕ) → OfVerdict Q (at_end σ s i)
end_reason Q h σ (is_open τ) i = h (suc i)
end_reason Q h σ is_closed i = tt

pub ruleset reasons = (bind_reason, next_reason, require_reason, require_some_reason, require_open_reason)
