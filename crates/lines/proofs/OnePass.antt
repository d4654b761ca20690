-- The steps over a line's bytes come to the specification's shape of the line. What a reading and
-- the fields that are left come to changes with no step.
use mathlib.Core.Bool.{Bool, true, false, cond, ◌&&◌, ◌||◌, not, and-true, and-false}
use mathlib.Core.List.{List, [], ◌∷◌, ◌++◌, foldl, Mem, mem-cons_self, mem-cons_of_mem}
use Rattle.std.specs.Prelude.{Option, None, Some}
use mathlib.Core.Path.{◌≡◌, refl, sym, ap, ◌∙◌}
use Prim.Native.Nat.{ℕ, zero, suc, ◌+◌, ◌*◌, ◌-◌, ◌^◌, ◌≤◌, ◌<◌}
use native.Mathlib.Nat.{add-zero, mul-zero, mul-add, mul_assoc, add_assoc, pow-suc}
use native.Mathlib.Numerals.{add-one}
use native.Mathlib.Omega.{arith}
use lib.Dec.{eqb, leb, leb-suc-suc, leb-suc-zero, eqb-suc-zero}
use lib.ListN.{length}
use borrow.Author.Tests.{ne_eqb, le-leb, eqb-true, eqb-false, leb-true}
use Rattle.tableau.specs.declared.Reason.{Reason}
use Rattle.tableau.specs.Basics.{then, guard}
use Rattle.tableau.specs.File.{LF, comma, split, is_small, all_small, is_word, is_digit, max_digits}
use Rattle.tableau.specs.File.{digits, number, Line, six_fields}
use Rattle.tableau.specs.Tree.{refused, require_some}
use Rattle.tableau.proofs.Pieces.{pieces}
use Rattle.lines.specs.declared.ByteStep.{ByteStep}
use Rattle.lines.specs.Lines.{pack_word, capital_of, capital, any_shape}
use Rattle.lines.specs.ByteSteps.{Form, six_field_form, FieldsRead, Reading, empty, after_letter}
use Rattle.lines.specs.ByteSteps.{in_word, before_number, in_number, whole, bad, end_of}
use Rattle.lines.specs.ByteSteps.{with_number, word_ends, number_ends}
use Rattle.lines.specs.ByteSteps.{step_by, next_letter, first_digit, next_digit, letter_step}
use Rattle.lines.specs.ByteSteps.{first_step, byte_step, step, ends, fields_of, NoLine}
use Rattle.lines.proofs.Pieces.{split_same, split_other}

-- A step over a byte of a word or of a number.
abbrev word_step : Form → ℕ → ℕ → ℕ → ByteStep → Reading
word_step F l value count s = byte_step (λ v. in_word l v (count + 1)) (word_ends F l value) s

abbrev number_step : ℕ → FieldsRead → ℕ → ℕ → ByteStep → Reading
number_step n f value left s = byte_step (λ v. in_number n f v (left - 1)) (number_ends n f value) s

-- WHAT IS LEFT OF A FIELD.
no_value : {A : Type 0} (b : Bool) → guard {A = A} b None ≡ None
no_value true = refl
no_value false = refl

-- a word by its bytes after count letters that make value
abbrev pub two_or_three : ℕ → Bool
two_or_three n = eqb n 2 || eqb n 3

unfoldable pub word_from : ℕ → ℕ → List ℕ → Option ℕ
word_from value count p =
    guard (two_or_three (count + length p) && all_small p)
    (Some (value + 256 ^ count * pack_word p))

word_ends_lem : (value count : ℕ)
    → word_from value count [] ≡ guard (two_or_three count) (Some value)
unfolding word_from all_small
word_ends_lem value count =
    let q : count + 0 ≡ count = omega arith in rw (q, and-true, mul-zero, add-zero)

word_more : (value count x : ℕ) (p : List ℕ) → is_small x ≡ true
    → word_from value count (x ∷ p) ≡ word_from (value + 256 ^ count * x) (count + 1) p
unfolding word_from all_small
word_more value count x p small =
    let q₁ : count + suc (length p) ≡ count + 1 + length p = omega arith in
    let q₂ : value + 256 ^ count * (x + 256 * pack_word p)
    ≡ value + 256 ^ count * x + 256 ^ (count + 1) * pack_word p =
    rw (add-one, pow-suc, mul-add, mul_assoc, add_assoc) in
    rw (q₁, small, q₂)

word_full : (value count x : ℕ) (p : List ℕ) → 3 ≤ count → word_from value count (x ∷ p) ≡ None
unfolding word_from
word_full value count x p h =
    rw (
      ne_eqb (count + suc (length p)) 2 (λ e. omega arith),
      ne_eqb (count + suc (length p)) 3
          (λ e. omega arith),
    )

word_other : (value count x : ℕ) (p : List ℕ) → is_small x ≡ false
    → word_from value count (x ∷ p) ≡ None
unfolding word_from all_small
word_other value count x p e = rw (e, and-false)

-- a number by its bytes after digits that make value, where left more may follow
unfoldable pub digits_from : ℕ → ℕ → List ℕ → Option ℕ
digits_from value left p = guard (leb (length p) left) (digits p value)

number_ends_lem : (value left : ℕ) → digits_from value left [] ≡ Some value
unfolding digits_from digits
number_ends_lem value left = rw (le-leb 0 left (omega arith))

one_less : (n left : ℕ) → (left ≡ 0 → ⊥) → leb (suc n) left ≡ leb n (left - 1)
one_less n zero h = absurd (h refl)
one_less n (suc left) h = let q : suc left - 1 ≡ left = omega arith in rw (q, leb-suc-suc n left)

digit_more : (value left x : ℕ) (p : List ℕ) → is_digit x ≡ true → (left ≡ 0 → ⊥)
    → digits_from value left (x ∷ p) ≡ digits_from (10 * value + (x - 48)) (left - 1) p
unfolding digits_from digits
digit_more value left x p own h = rw (one_less (length p) left h, own)

digit_full : (value left x : ℕ) (p : List ℕ) → left ≡ 0 → digits_from value left (x ∷ p) ≡ None
unfolding digits_from
digit_full value left x p e = rw (e, leb-suc-zero (length p))

digit_other : (value left x : ℕ) (p : List ℕ) → is_digit x ≡ false
    → digits_from value left (x ∷ p) ≡ None
unfolding digits_from digits
digit_other value left x p e = rw e (no_value (leb (suc (length p)) left))

-- a first 0 stands alone
lone : (most x : ℕ) (p : List ℕ) → 0 < most → x ≡ 48
    → leb (suc (length p)) most && (not (eqb x 48) || eqb (length p) 0) ≡ leb (length p) 0
lone most x [] h e = rw (e, le-leb 1 most h)
lone most x (b ∷ p) h e = rw (e, eqb-suc-zero (length p), leb-suc-zero (length p), and-false)

number_first : (most x : ℕ) (p : List ℕ) → 0 < most → is_digit x ≡ true
    → number most (x ∷ p) ≡ digits_from (x - 48) (cond (eqb x 48) 0 (most - 1)) p
unfolding number digits digits_from
number_first most x p pos own = which (eqb x 48) refl
  where
    z : 10 * 0 + (x - 48) ≡ x - 48
    z = omega arith

    one : leb (suc (length p)) most ≡ leb (length p) (most - 1)
    one = one_less (length p) most (λ e. omega (arith, pos, e))

    which : (b : Bool) → eqb x 48 ≡ b
        → guard (leb (suc (length p)) most && (not b || eqb (length p) 0))
        (guard (is_digit x) (digits p (10 * 0 + (x - 48))))
        ≡ guard (leb (length p) (cond b 0 (most - 1))) (digits p (x - 48))
    which true e = rw (own, z, ← lone most x p pos (eqb-true x 48 e), e)
    which false e = rw (own, z, one, and-true)

number_other : (most x : ℕ) (p : List ℕ) → is_digit x ≡ false → number most (x ∷ p) ≡ None
unfolding number digits
number_other most x p e =
    rw e (no_value (leb (suc (length p)) most && (not (eqb x 48) || eqb (length p) 0)))

-- WHAT IS LEFT OF A LINE, cut at its commas, and what it comes to with LF behind it.
abbrev pub or_bad : {A : Type 0} → Option A → (A → Reading) → Reading
or_bad None k = bad
or_bad (Some x) k = k x

abbrev pub field : {A : Type 0} → (List ℕ → Option A) → (A → List (List ℕ) → Reading)
    → List (List ℕ) → Reading
field g k [] = bad
field g k (p ∷ ps) = or_bad (g p) (λ x. k x ps)

abbrev pub last_field : {A : Type 0} → (List ℕ → Option A) → (A → Reading) → List (List ℕ) → Reading
last_field g k [] = bad
last_field g k (p ∷ []) = or_bad (g p) k
last_field g k (p ∷ q ∷ ps) = bad

-- a number that g makes of its bytes, and n more
abbrev pub numbers_left : Form → ℕ → FieldsRead → (List ℕ → Option ℕ) → List (List ℕ) → Reading
numbers_left F zero f g ps = last_field g (λ v. whole (with_number f v)) ps
numbers_left F (suc n) f g ps =
    field g (λ v. numbers_left F n (with_number f v) (number F.digits)) ps

abbrev pub many_numbers : Form → ℕ → FieldsRead → List (List ℕ) → Reading
many_numbers F n f ps = numbers_left F n f (number F.digits) ps

abbrev pub word_left : Form → ℕ → ℕ → ℕ → List (List ℕ) → Reading
word_left F l value count ps =
    field (word_from value count)
    (λ w. many_numbers F (F.count - 1) (record { letter = l; word = w; numbers = [] })) ps

abbrev pub remaining : Form → Reading → List (List ℕ) → Reading
remaining F empty ps = field capital (λ l. word_left F l 0 0) ps
remaining F (after_letter l) ps =
    field (λ p. guard (eqb (length p) 0) (Some l)) (λ l. word_left F l 0 0) ps
remaining F (in_word l value count) ps = word_left F l value count ps
remaining F (before_number n f) ps = many_numbers F n f ps
remaining F (in_number n f value left) ps = numbers_left F n f (digits_from value left) ps
remaining F (whole f) ps = bad
remaining F bad ps = bad

-- a value that leads nowhere
nowhere : {A : Type 0} (m : Option A) → or_bad m (λ x. bad) ≡ bad
nowhere None = refl
nowhere (Some x) = refl

module _ (F : Form) where
  no_numbers : (n : ℕ) (f : FieldsRead) (g : List ℕ → Option ℕ) → numbers_left F n f g [] ≡ bad
  no_numbers zero f g = refl
  no_numbers (suc n) f g = refl

  -- a first number by its piece
  no_number : (n : ℕ) (f : FieldsRead) (g : List ℕ → Option ℕ) (p : List ℕ) (ps : List (List ℕ))
      → g p ≡ None → bad ≡ numbers_left F n f g (p ∷ ps)
  no_number zero f g p [] e = rw e
  no_number zero f g p (q ∷ ps) e = refl
  no_number (suc n) f g p ps e = rw e

  same_number : (n : ℕ) (f : FieldsRead) (g g' : List ℕ → Option ℕ) (p p' : List ℕ)
      (ps : List (List ℕ)) → g' p' ≡ g p
      → numbers_left F n f g (p ∷ ps) ≡ numbers_left F n f g' (p' ∷ ps)
  same_number zero f g g' p p' [] e = rw e
  same_number zero f g g' p p' (q ∷ ps) e = refl
  same_number (suc n) f g g' p p' ps e = rw e

-- THE LAST BYTE, LF.
at_LF : (F : Form) (r : Reading) → step F r LF ≡ remaining F r ([] ∷ [])
unfolding step capital next_letter first_digit next_digit number
at_LF F empty = refl
at_LF F (after_letter l) = refl
at_LF F (in_word l value count) = sym (which (word_from value count []))
  where
    which : (m : Option ℕ)
        → or_bad m
        (λ w. many_numbers F (F.count - 1) (record { letter = l; word = w; numbers = [] }) []) ≡ bad
    which None = refl
    which (Some w) =
        no_numbers F (F.count - 1) (record { letter = l; word = w; numbers = [] }) (number F.digits)
at_LF F (before_number zero f) = refl
at_LF F (before_number (suc n) f) = refl
at_LF F (in_number zero f value left) = rw (number_ends_lem value left)
at_LF F (in_number (suc n) f value left) =
    rw (number_ends_lem value left, no_numbers F n (with_number f value) (number F.digits))
at_LF F (whole f) = refl
at_LF F bad = refl

-- A COMMA.
at_comma : (F : Form) (r : Reading) (p : List ℕ) (ps : List (List ℕ))
    → remaining F (step F r comma) (p ∷ ps) ≡ remaining F r ([] ∷ p ∷ ps)
unfolding step capital next_letter first_digit next_digit number
at_comma F empty p ps = refl
at_comma F (after_letter l) p ps = refl
at_comma F (in_word l value count) p ps =
    rw (word_ends_lem value count) (which (two_or_three count))
  where
    which : (b : Bool)
        → remaining F (word_step F l value count (cond b ByteStep.End ByteStep.Bad)) (p ∷ ps)
        ≡ or_bad (guard b (Some value))
        (λ w. many_numbers F (F.count - 1) (record { letter = l; word = w; numbers = [] })
        (p ∷ ps))
    which true = refl
    which false = refl
at_comma F (before_number zero f) p ps = refl
at_comma F (before_number (suc n) f) p ps = refl
at_comma F (in_number zero f value left) p ps = refl
at_comma F (in_number (suc n) f value left) p ps = rw (number_ends_lem value left)
at_comma F (whole f) p ps = refl
at_comma F bad p ps = refl

-- ANY OTHER BYTE.
at_other : (F : Form) → 0 < F.digits → (r : Reading) (x : ℕ) → eqb x comma ≡ false
    → (p : List ℕ) (ps : List (List ℕ))
    → remaining F (step F r x) (p ∷ ps) ≡ remaining F r ((x ∷ p) ∷ ps)
unfolding step capital next_letter first_digit next_digit
at_other F pos empty x h p ps = which (capital_of x)
  where
    which : (m : Option ℕ)
        → remaining F (letter_step m) (p ∷ ps)
        ≡ or_bad (guard (eqb (length p) 0) m) (λ l. word_left F l 0 0 ps)
    which None = rw (no_value {A = ℕ} (eqb (length p) 0))
    which (Some l) = refl
at_other F pos (after_letter l) x h p ps = rw (h, eqb-suc-zero (length p))
at_other F pos (in_word l value count) x h p ps = which (is_small x) (leb 3 count) refl refl
  where
    which : (own full : Bool) → is_small x ≡ own → leb 3 count ≡ full
        → remaining F
        (word_step F l value count
        (step_by own full (eqb x comma) (two_or_three count)
        (value + 256 ^ count * x))) (p ∷ ps) ≡ word_left F l value count ((x ∷ p) ∷ ps)
    which true true e₁ e₂ = rw (word_full value count x p (leb-true 3 count e₂))
    which true false e₁ e₂ = rw (word_more value count x p e₁)
    which false full e₁ e₂ = rw (h, word_other value count x p e₁)
at_other F pos (before_number n f) x h p ps = which (is_digit x) refl
  where
    more : ℕ
    more = cond (eqb x 48) 0 (F.digits - 1)

    which : (own : Bool) → is_digit x ≡ own
        → remaining F (first_step n f (cond own (Some (x - 48, more)) None)) (p ∷ ps)
        ≡ many_numbers F n f ((x ∷ p) ∷ ps)
    which true e =
        same_number F n f (digits_from (x - 48) more) (number F.digits) p (x ∷ p) ps
        (number_first F.digits x p pos e)
    which false e = no_number F n f (number F.digits) (x ∷ p) ps (number_other F.digits x p e)
at_other F pos (in_number n f value left) x h p ps = which n (is_digit x) (eqb left 0) refl refl
  where
    which : (n : ℕ) (own full : Bool) → is_digit x ≡ own → eqb left 0 ≡ full
        → remaining F
        (number_step n f value left
        (step_by own full (eqb x (end_of n)) true
        (10 * value +
        (x - 48)))) (p ∷ ps) ≡ numbers_left F n f (digits_from value left) ((x ∷ p) ∷ ps)
    which n true true e₁ e₂ =
        no_number F n f (digits_from value left) (x ∷ p) ps
        (digit_full value left x p (eqb-true left 0 e₂))
    which n true false e₁ e₂ =
        same_number F n f (digits_from (10 * value + (x - 48)) (left - 1))
        (digits_from value left) p (x ∷ p) ps (digit_more value left x p e₁ (eqb-false left 0 e₂))
    which (suc n) false full e₁ e₂ =
        rw h (no_number F (suc n) f (digits_from value left) (x ∷ p) ps
        (digit_other value left x p e₁))
    which zero false full e₁ e₂ =
        rw (ended (eqb x LF))
        (no_number F zero f (digits_from value left) (x ∷ p) ps (digit_other value left x p e₁))
      where
        ended : (b : Bool)
            → remaining F (number_step zero f value left (cond b ByteStep.End ByteStep.Bad))
            (p ∷ ps) ≡ bad
        ended true = refl
        ended false = refl
at_other F pos (whole f) x h p ps = refl
at_other F pos bad x h p ps = refl

-- A step leaves what a reading and the rest of the line come to.
module _ (F : Form) (pos : 0 < F.digits) where
  one_step_lem : (r : Reading) (x : ℕ) (l : List ℕ)
      → remaining F (step F r x) (split comma l) ≡ remaining F r (split comma (x ∷ l))
  one_step_lem r x l = let k = pieces comma l in which k.first k.others k.cut (eqb x comma) refl
    where
      which : (p : List ℕ) (ps : List (List ℕ)) → split comma l ≡ p ∷ ps → (b : Bool)
          → eqb x comma ≡ b
          → remaining F (step F r x) (split comma l) ≡ remaining F r (split comma (x ∷ l))
      which p ps k true e =
          let q = eqb-true x comma e in rw (split_same comma x l q, k, q) (at_comma F r p ps)
      which p ps k false e =
          rw (split_other comma x l (eqb-false x comma e), k) (at_other F pos r x e p ps)

  pub all_steps : (r : Reading) (l : List ℕ)
      → foldl (step F) r (l ++ (LF ∷ [])) ≡ remaining F r (split comma l)
  unfolding split
  all_steps r [] = at_LF F r
  all_steps r (x ∷ l) = all_steps (step F r x) l ∙ one_step_lem r x l

-- THE WHOLE LINE, its shape field by field.
abbrev reading_of : Option (Line ℕ) → Reading
reading_of None = bad
reading_of (Some k) = whole (fields_of k)

of_then : {A : Type 0} (m : Option A) (k : A → Option (Line ℕ))
    → reading_of (then m k) ≡ or_bad m (λ x. reading_of (k x))
of_then None k = refl
of_then (Some x) k = refl

of_guard : (b : Bool) (m : Option (Line ℕ)) → reading_of (guard b m) ≡ cond b (reading_of m) bad
of_guard true m = refl
of_guard false m = refl

bad_guard : (b : Bool) (w : ℕ) (k : ℕ → Reading) → or_bad (guard b (Some w)) k ≡ cond b (k w) bad
bad_guard true w k = refl
bad_guard false w k = refl

pub word_whole : (w : List ℕ) → word_from 0 0 w ≡ guard (is_word w) (Some (pack_word w))
unfolding word_from
word_whole w =
    let e₁ : 0 + length w ≡ length w = omega arith in
    let e₂ : 0 + 256 ^ 0 * pack_word w ≡ pack_word w = omega arith in rw (e₁, e₂)

shape_left : (ps : List (List ℕ))
    → remaining six_field_form empty ps ≡ reading_of (six_fields max_digits capital ps)
unfolding six_fields
shape_left [] = refl
shape_left (k ∷ []) = simp nowhere
shape_left (k ∷ w ∷ []) = simp nowhere
shape_left (k ∷ w ∷ a ∷ []) = simp nowhere
shape_left (k ∷ w ∷ a ∷ b ∷ []) = simp nowhere
shape_left (k ∷ w ∷ a ∷ b ∷ c ∷ []) = simp nowhere
shape_left (k ∷ w ∷ a ∷ b ∷ c ∷ d ∷ []) = simp (word_whole, of_then, of_guard, bad_guard)
shape_left (k ∷ w ∷ a ∷ b ∷ c ∷ d ∷ e ∷ ps) = simp nowhere

line_read_lem : (l : List ℕ)
    → foldl (step six_field_form) empty (l ++ (LF ∷ [])) ≡ reading_of (any_shape l)
line_read_lem l = all_steps six_field_form (omega arith) empty l ∙ shape_left (split comma l)

pub any_pass : (l : List ℕ)
    → ends (foldl (step six_field_form) empty (l ++ (LF ∷ [])))
    ≡ require_some (then (any_shape l) λ k. Some (fields_of k)) Reason.BadShape
any_pass l = ap ends (line_read_lem l) ∙ which (any_shape l)
  where
    which : (m : Option (Line ℕ))
        → ends (reading_of m) ≡ require_some (then m λ k. Some (fields_of k)) Reason.BadShape
    which None = refl
    which (Some k) = refl

-- WITHOUT LF. No other byte makes a line whole.
open_byte : (more : ℕ → Reading) (done : Reading) (s : ByteStep)
    → ((v : ℕ) → ends (more v) ≡ refused Reason.BadShape) → ends done ≡ refused Reason.BadShape
    → ends (byte_step more done s) ≡ refused Reason.BadShape
open_byte more done (ByteStep.More v) h e = h v
open_byte more done ByteStep.End h e = e
open_byte more done ByteStep.Bad h e = refl

pub unended : (F : Form) (r : Reading) (x : ℕ) → (x ≡ LF → ⊥)
    → ends (step F r x) ≡ refused Reason.BadShape
unfolding step next_digit
unended F empty x h = which (capital_of x)
  where
    which : (m : Option ℕ) → ends (letter_step m) ≡ refused Reason.BadShape
    which None = refl
    which (Some l) = refl
unended F (after_letter l) x h = which (eqb x comma)
  where
    which : (b : Bool) → ends (cond b (in_word l 0 0) bad) ≡ refused Reason.BadShape
    which true = refl
    which false = refl
unended F (in_word l value count) x h = open_byte _ _ (next_letter value count x) (λ v. refl) refl
unended F (before_number n f) x h = which (first_digit F.digits x)
  where
    which : (s : Option (ℕ × ℕ)) → ends (first_step n f s) ≡ refused Reason.BadShape
    which None = refl
    which (Some d) = refl
unended F (in_number (suc n) f value left) x h =
    open_byte _ _ (next_digit value left x comma) (λ v. refl) refl
unended F (in_number zero f value left) x h = rw (ne_eqb x LF h) (which (is_digit x) (eqb left 0))
  where
    which : (own full : Bool)
        → ends (number_step zero f value left (step_by own full false true (10 * value + (x - 48))))
        ≡ refused Reason.BadShape
    which true true = refl
    which true false = refl
    which false full = refl
unended F (whole f) x h = refl
unended F bad x h = refl

unended_all : (F : Form) (r : Reading) (l : List ℕ) → ends r ≡ refused Reason.BadShape
    → (Mem LF l → ⊥) → ends (foldl (step F) r l) ≡ refused Reason.BadShape
unended_all F r [] e h = e
unended_all F r (x ∷ l) e h =
    unended_all F (step F r x) l (unended F r x (λ q. h (rw q mem-cons_self)))
    (λ m. h (mem-cons_of_mem x m))

pub no_line_lem : NoLine
unfolding NoLine
no_line_lem l = unended_all six_field_form empty l refl
