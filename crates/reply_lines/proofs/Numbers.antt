-- The numbers of a reply line, one after the other.
use mathlib.Core.List.{List, [], ◌∷◌, ◌++◌}
use Rattle.std.specs.Prelude.{None, Some}
use mathlib.Core.Path.{◌≡◌, refl, ◌∙◌}
use Prim.Native.Nat.{ℕ, zero, suc, ◌+◌, ◌-◌, ◌≤◌, ◌<◌}
use native.Mathlib.Omega.{arith}
use lib.ListN.{length, take, drop, set}
use lib.Seq.{take_all}
use Rattle.tableau.specs.File.{comma}
use Rattle.statistics.specs.ReplyLines.{reply_digits}
use Rattle.lines.specs.Lines.{LFAhead}
use Rattle.lines.specs.ByteSteps.{FieldsRead, Reading, before_number, whole, end_of, number_ends}
use Rattle.lines.specs.ByteSteps.{steps_at, NumberSteps}
use Rattle.lines.proofs.FileSteps.{steps_whole}
use Rattle.reply.proofs.Stores.{stored_behind}
use Rattle.reply_lines.specs.Reading.{number_count, reply_form, NumbersHere}

-- a number that another follows
pub not_last : (n : ℕ) → 0 < n → end_of n ≡ comma
not_last zero h = absurd (omega arith)
not_last (suc n) h = refl

-- what ends a number is no digit
pub end_low : (n : ℕ) → end_of n < 48
end_low zero = omega arith
end_low (suc n) = omega arith

abbrev fields : ℕ → List ℕ → FieldsRead
fields w ns = record { letter = 0; word = w; numbers = ns }

-- the word and some numbers are read, and so many are left
abbrev pub left : ℕ → ℕ → List ℕ → Reading
left zero w ns = whole (fields w ns)
left (suc n) w ns = before_number n (fields w ns)

-- after i numbers the steps go on from a position
unfoldable pub NumbersSoFar : List ℕ → ℕ → ℕ → ℕ → List ℕ → Type 0
NumbersSoFar file at i next values =
    (w : ℕ)
    → steps_at reply_form (left number_count w []) file at
    ≡ steps_at reply_form (left (number_count - i) w (take i values)) file next

pub numbers_start : (file : List ℕ) (at : ℕ) (values : List ℕ) → NumbersSoFar file at 0 at values
unfolding NumbersSoFar
numbers_start file at values w = refl

pub numbers_end : (file : List ℕ) (at i next : ℕ) (values : List ℕ)
    → NumbersSoFar file at i next values → number_count ≤ i → length values ≡ number_count
    → NumbersHere file at (Some (values, next))
unfolding NumbersSoFar NumbersHere steps_at
numbers_end file at i next values so_far h k = (
  k,
  (λ w. so_far w
      ∙ rw (none_left, all) (steps_whole reply_form (fields w values) (drop next file) next)),
)
  where
    none_left : number_count - i ≡ 0
    none_left = omega arith

    all : take i values ≡ values
    all = take_all i values (omega (arith, h, k))

-- one more number
module _ (file : List ℕ) (at i next : ℕ) (values : List ℕ)
    (so_far : NumbersSoFar file at i next values) (more : i < number_count) where
  one_left : number_count - i ≡ suc (number_count - 1 - i)
  one_left = omega (arith, more)

  pub number_bad : NumberSteps reply_digits (end_of (number_count - 1 - i)) file next None
      → NumbersHere file at None
  unfolding NumbersSoFar NumbersHere NumberSteps
  number_bad s w =
      so_far w
      ∙ rw one_left (s reply_form (number_count - 1 - i) (fields w (take i values)) refl refl)

  module _ (v : ℕ × ℕ)
      (s : NumberSteps reply_digits (end_of (number_count - 1 - i)) file next (Some v)) where
    pub number_more : length values ≡ number_count
        → NumbersSoFar file at (i + 1) v.1 (set values i v.0)
    unfolding NumbersSoFar NumberSteps
    number_more l w =
        so_far w
        ∙ rw (one_left, stored_behind values i v.0 (omega (arith, more, l)), fewer)
        ((s reply_form (number_count - 1 - i) (fields w (take i values)) refl refl).0
        ∙ behind (number_count - 1 - i))
      where
        fewer : number_count - (i + 1) ≡ number_count - 1 - i
        fewer = omega arith

        behind : (n : ℕ)
            → steps_at reply_form (number_ends n (fields w (take i values)) v.0) file v.1
            ≡ steps_at reply_form (left n w (take i values ++ (v.0 ∷ []))) file v.1
        behind zero = refl
        behind (suc n) = refl

    pub number_ahead : i + 1 < number_count → LFAhead file v.1
    unfolding NumberSteps
    number_ahead h =
        (s reply_form (number_count - 1 - i) (fields 0 []) refl refl).1
        (not_last (number_count - 1 - i) (omega (arith, h)))
