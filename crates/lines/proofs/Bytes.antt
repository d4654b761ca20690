-- The laws by which the reader's functions are proved: what a byte, and then a field, makes of the
-- steps in a file.
use mathlib.Core.Bool.{Bool, true, false, cond, ◌||◌, true≢false}
use mathlib.Core.List.{List, []}
use Rattle.std.specs.Prelude.{Option, None, Some}
use Rattle.std.proofs.lemmas.Option.{none-some}
use mathlib.Core.Path.{◌≡◌, refl, sym, ap, subst, ◌∙◌}
use Prim.Native.Nat.{ℕ, suc, ◌+◌, ◌*◌, ◌-◌, ◌^◌, ◌≤◌, ◌<◌}
use native.Mathlib.Nat.{lt_of_lt_of_le, mul-le-mul_left, pow-le-pow_right, pow-suc}
use native.Mathlib.Numerals.{add-one}
use native.Mathlib.Omega.{arith}
use lib.Dec.{eqb, leb, lit<}
use lib.ListN.{drop, get_or}
use borrow.Author.Tests.{eq-eqb, ne_eqb, eqb-false, leb-true, leb-false}
use Rattle.tableau.specs.declared.Reason.{Reason}
use Rattle.tableau.specs.File.{LF, comma, is_small, is_digit, max_digits}
use Rattle.tableau.specs.Tree.{refused, passed}
use Rattle.tableau.proofs.Bools.{both_true}
use Rattle.lines.specs.declared.ByteStep.{ByteStep}
use Rattle.lines.specs.declared.LineFields.{LineFields}
use Rattle.lines.specs.ByteSteps.{most_digits, Form, six_field_form, FieldsRead, Reading, empty}
use Rattle.lines.specs.ByteSteps.{after_letter, in_word, before_number, in_number, whole, end_of}
use Rattle.lines.specs.ByteSteps.{word_ends, number_ends}
use Rattle.lines.specs.ByteSteps.{step_by, next_letter, first_digit, next_digit, LettersFit}
use Rattle.lines.specs.ByteSteps.{DigitsFit, first_step, byte_step, step, ends, FieldsAt, line_end}
use Rattle.lines.specs.ByteSteps.{steps_at, line_of}
use Rattle.lines.specs.ByteSteps.{LetterSteps, WordSteps, DigitsSteps, NumberSteps}
use Rattle.lines.specs.Lines.{is_capital, line_at, LFAhead}
use Rattle.lines.proofs.FileSteps.{steps_whole, line_steps_lem, ahead_next, a_byte, no_line_at}

bad≢more : {v : ℕ} → ByteStep.More v ≡ ByteStep.Bad → ⊥
bad≢more e = let z : true ≡ false = cc in true≢false z

bad≢end : ByteStep.End ≡ ByteStep.Bad → ⊥
bad≢end e = let z : true ≡ false = cc in true≢false z

end≢more : {v : ℕ} → ByteStep.More v ≡ ByteStep.End → ⊥
end≢more e = let z : true ≡ false = cc in true≢false z

-- THE LETTER, and the comma after it.
module _ (file : List ℕ) (i : ℕ) (ahead : LFAhead file i) where
  pub no_capital : is_capital (get_or file i 0) ≡ false → LetterSteps file i None
  unfolding LetterSteps step
  no_capital e =
      a_byte six_field_form empty file i refl ahead ∙ rw e (no_line_at six_field_form file (i + 1))

  module _ (own : is_capital (get_or file i 0) ≡ true) where
    pub comma_ahead : LFAhead file (i + 1)
    comma_ahead =
        ahead_next file i ahead
        (λ q. let e : is_capital LF ≡ true = rw q at own in absurd (true≢false (sym e)))

    next : i + 2 ≡ i + 1 + 1
    next = omega arith

    after : steps_at six_field_form empty file i
        ≡ steps_at six_field_form
        (step six_field_form (after_letter (get_or file i 0)) (get_or file (i + 1) 0)) file (i + 2)
    unfolding step
    after =
        a_byte six_field_form empty file i refl ahead
        ∙ rw (own, next)
        (a_byte six_field_form (after_letter (get_or file i 0)) file (i + 1) refl comma_ahead)

    pub comma_read : get_or file (i + 1) 0 ≡ comma
        → LetterSteps file i (Some (get_or file i 0, i + 2))
    unfolding LetterSteps step
    comma_read e =
        (after ∙ rw e, rw next (ahead_next file (i + 1) comma_ahead (λ q. omega (arith, e, q))))

    pub comma_bad : (get_or file (i + 1) 0 ≡ comma → ⊥) → LetterSteps file i None
    unfolding LetterSteps step
    comma_bad e =
        after ∙ rw (ne_eqb (get_or file (i + 1) 0) comma e) (no_line_at six_field_form file (i + 2))

pub ruleset letter-read = (no_capital, comma_read, comma_bad)

-- A BYTE OF A WORD OR OF A NUMBER, where the steps so far come to w.
abbrev AfterByte : Form → Option FieldsAt → (ℕ → Reading) → Reading → List ℕ → ℕ → ByteStep → Type 0
AfterByte F w more done file i (ByteStep.More v) = w ≡ steps_at F (more v) file i
AfterByte F w more done file i ByteStep.End = w ≡ steps_at F done file i
AfterByte F w more done file i ByteStep.Bad = w ≡ None

turned : (F : Form) (w : Option FieldsAt) (r : Reading) (more : ℕ → Reading) (done : Reading)
    (file : List ℕ) (i : ℕ) → ends r ≡ refused Reason.BadShape → LFAhead file i
    → w ≡ steps_at F r file i → (s : ByteStep) → step F r (get_or file i 0) ≡ byte_step more done s
    → AfterByte F w more done file (i + 1) s
turned F w r more done file i due ahead so_far s e =
    which s (so_far ∙ a_byte F r file i due ahead
    ∙ ap (λ (q : Reading). steps_at F q file (i + 1)) e)
  where
    which : (s : ByteStep) → w ≡ steps_at F (byte_step more done s) file (i + 1)
        → AfterByte F w more done file (i + 1) s
    which (ByteStep.More v) q = q
    which ByteStep.End q = q
    which ByteStep.Bad q = q ∙ no_line_at F file (i + 1)

-- what is said of the new value, if the field goes on
abbrev MoreFits : (ℕ → Type 0) → ByteStep → Type 0
MoreFits Fits (ByteStep.More v) = Fits v
MoreFits Fits ByteStep.End = Unit {0}
MoreFits Fits ByteStep.Bad = Unit {0}

no_more : (Fits : ℕ → Type 0) (b c : Bool)
    → MoreFits Fits (cond b (cond c ByteStep.End ByteStep.Bad) ByteStep.Bad)
no_more Fits true true = tt
no_more Fits true false = tt
no_more Fits false c = tt

-- THE WORD.
pub is_whole : (n : ℕ) → 2 ≤ n → n ≤ 3 → eqb n 2 || eqb n 3 ≡ true
is_whole n h₁ h₂ = which (eqb n 2) refl
  where
    which : (b : Bool) → eqb n 2 ≡ b → b || eqb n 3 ≡ true
    which true e = refl
    which false e = eq-eqb n 3 (omega (arith, eqb-false n 2 e))

pub is_short : (n : ℕ) → n < 2 → eqb n 2 || eqb n 3 ≡ false
is_short n h = rw (ne_eqb n 2 (λ e. omega arith), ne_eqb n 3 (λ e. omega arith))

letter_fits : (value count unit x : ℕ) → value < 256 ^ count → unit ≡ 256 ^ count → x < 256
    → value + unit * x < 256 ^ (count + 1)
letter_fits value count unit x small e h =
    rw (e, add-one, pow-suc) (omega (arith, mul-le-mul_left (256 ^ count) h))

pub letter_small : (value count unit x : ℕ) → LettersFit value count → count < 3
    → unit ≡ 256 ^ count → x < 256 → value + unit * x < 256 ^ 3
letter_small value count unit x fits few e h =
    let few' : count + 1 ≤ 3 = omega arith in
    lt_of_lt_of_le (letter_fits value count unit x fits.small e h) (pow-le-pow_right (lit< tt) few')

-- after count letters, which make value, the steps go on from i
unfoldable pub WordSoFar : List ℕ → ℕ → ℕ → ℕ → ℕ → Type 0
WordSoFar file at i value count =
    (F : Form) (l : ℕ)
    → steps_at F (in_word l 0 0) file at ≡ steps_at F (in_word l value count) file i

pub word_starts : (file : List ℕ) (at : ℕ) → WordSoFar file at at 0 0
unfolding WordSoFar
word_starts file at F l = refl

word_LF : (value count x : ℕ) (r : ByteStep) → r ≡ next_letter value count x → x ≡ LF
    → r ≡ ByteStep.Bad
unfolding next_letter
word_LF value count x r is q = is ∙ ap (next_letter value count) q

module _ (file : List ℕ) (at i value count : ℕ) (ahead : LFAhead file i) (r : ByteStep)
    (is : r ≡ next_letter value count (get_or file i 0)) where
  pub word_ahead : (v : ℕ) → r ≡ ByteStep.More v → LFAhead file (i + 1)
  word_ahead v e =
      ahead_next file i ahead (λ q. bad≢more (sym e ∙ word_LF value count (get_or file i 0) r is q))

  module _ (so_far : WordSoFar file at i value count) where
    word_turn : (s : ByteStep) → r ≡ s → (F : Form) (l : ℕ)
        → AfterByte F (steps_at F (in_word l 0 0) file at) (λ v. in_word l v (count + 1))
        (word_ends F l value) file (i + 1) s
    unfolding WordSoFar step
    word_turn s e F l =
        turned F (steps_at F (in_word l 0 0) file at) (in_word l value count) _ _ file i refl ahead
        (so_far F l) s (rw (sym is ∙ e))

    pub word_goes_on : (v : ℕ) → r ≡ ByteStep.More v → WordSoFar file at (i + 1) v (count + 1)
    unfolding WordSoFar
    word_goes_on v = word_turn (ByteStep.More v)

    pub word_is_read : r ≡ ByteStep.End → WordSteps file at (Some (value, i + 1))
    unfolding WordSteps
    word_is_read e F l = (
      word_turn ByteStep.End e F l,
      λ c. ahead_next file i ahead
          (λ q. bad≢end (sym e ∙ word_LF value count (get_or file i 0) r is q)),
    )

    pub word_is_bad : r ≡ ByteStep.Bad → WordSteps file at None
    unfolding WordSteps
    word_is_bad = word_turn ByteStep.Bad

-- what goes on is small
pub word_fits : (value count x v : ℕ) (r : ByteStep) → LettersFit value count
    → r ≡ next_letter value count x → r ≡ ByteStep.More v → LettersFit v (count + 1)
unfolding next_letter
word_fits value count x v r fits is e =
    subst (MoreFits (λ v. LettersFit v (count + 1))) (sym is ∙ e)
    (which (is_small x) (leb 3 count) refl refl)
  where
    which : (own full : Bool) → is_small x ≡ own → leb 3 count ≡ full
        → MoreFits (λ v. LettersFit v (count + 1))
        (step_by own full (eqb x comma) (eqb count 2 || eqb count 3) (value + 256 ^ count * x))
    which true true e₁ e₂ = tt
    which true false e₁ e₂ =
        let few = leb-false 3 count e₂ in
        let hi = leb-true x 122 (both_true (leb 97 x) (leb x 122) e₁).1 in
        record {
          few = omega arith;
          small = letter_fits value count (256 ^ count) x fits.small refl (omega arith);
        }
    which false full e₁ e₂ =
        no_more (λ v. LettersFit v (count + 1)) (eqb x comma) (eqb count 2 || eqb count 3)

pub ruleset word_read = (word_ahead, word_goes_on, word_is_read, word_is_bad, word_fits)

-- A NUMBER of at most so many digits. Its end is below the digits.
abbrev FirstFits : Option (ℕ × ℕ) → Type 0
FirstFits None = Unit {0}
FirstFits (Some d) = DigitsFit d.0 d.1

pub first_fits : (most x v left : ℕ) → 0 < most → most ≤ most_digits
    → Some (v, left) ≡ first_digit most x → DigitsFit v left
unfolding first_digit
first_fits most x v left pos low is = subst FirstFits (sym is) (which (is_digit x) (eqb x 48) refl)
  where
    fits : (left : ℕ) → left < most_digits → is_digit x ≡ true → DigitsFit (x - 48) left
    fits left few own =
        let hi = leb-true x 57 (both_true (leb 48 x) (leb x 57) own).1 in
        let one : 1 ≤ most_digits - left = omega (arith, few) in
        let k : 10 ^ 1 ≤ 10 ^ (most_digits - left) = pow-le-pow_right (lit< tt) one in
        record { few = few; small = omega (arith, hi, k) }

    which : (own lone : Bool) → is_digit x ≡ own
        → FirstFits (cond own (Some (x - 48, cond lone 0 (most - 1))) None)
    which true true e = fits 0 (omega arith) e
    which true false e = fits (most - 1) (omega (arith, pos, low)) e
    which false lone e = tt

-- what is read so far is small
pub digits_small : (value left : ℕ) → DigitsFit value left → value < 10 ^ most_digits
digits_small value left fits =
    let k : most_digits - left ≤ most_digits = omega arith in
    lt_of_lt_of_le fits.small (pow-le-pow_right (lit< tt) k)

more_fits : (value left x end v : ℕ) (r : ByteStep) → DigitsFit value left
    → r ≡ next_digit value left x end → r ≡ ByteStep.More v
    → (1 ≤ left) × DigitsFit v (left - 1)
unfolding next_digit
more_fits value left x end v r fits is e =
    subst (MoreFits Fits) (sym is ∙ e) (which (is_digit x) (eqb left 0) refl refl)
  where
    Fits : ℕ → Type 0
    Fits v = (1 ≤ left) × DigitsFit v (left - 1)

    which : (own full : Bool) → is_digit x ≡ own → eqb left 0 ≡ full
        → MoreFits Fits (step_by own full (eqb x end) true (10 * value + (x - 48)))
    which true true e₁ e₂ = tt
    which true false e₁ e₂ =
        let hi = leb-true x 57 (both_true (leb 48 x) (leb x 57) e₁).1 in
        let some_left = eqb-false left 0 e₂ in
        let q : most_digits - (left - 1) ≡ suc (most_digits - left) = omega (arith, fits.few) in (
          omega arith,
          record {
            few = omega (arith, fits.few);
            small = rw (q, pow-suc) (omega (arith, fits.small));
          },
        )
    which false full e₁ e₂ = no_more Fits (eqb x end) true

module _ (value left x end v : ℕ) (r : ByteStep) (fits : DigitsFit value left)
    (is : r ≡ next_digit value left x end) (e : r ≡ ByteStep.More v) where
  pub digit_left : 1 ≤ left
  digit_left = (more_fits value left x end v r fits is e).0

  pub digit_fits : DigitsFit v (left - 1)
  digit_fits = (more_fits value left x end v r fits is e).1

-- after the digits that make value, of which left more may follow, the steps go on from i
unfoldable pub DigitsSoFar : ℕ → ℕ → ℕ → List ℕ → ℕ → ℕ → ℕ → ℕ → Type 0
DigitsSoFar first max end file at i value left =
    (F : Form) (n : ℕ) (f : FieldsRead) → end_of n ≡ end
    → steps_at F (in_number n f first max) file at
    ≡ steps_at F (in_number n f value left) file i

pub digits_start : (first max end : ℕ) (file : List ℕ) (at : ℕ)
    → DigitsSoFar first max end file at at first max
unfolding DigitsSoFar
digits_start first max end file at F n f q = refl

digits_LF : (value left x end : ℕ) (r : ByteStep) → r ≡ next_digit value left x end → x ≡ LF
    → r ≡ cond (eqb LF end) ByteStep.End ByteStep.Bad
unfolding next_digit
digits_LF value left x end r is q = is ∙ ap (λ (y : ℕ). next_digit value left y end) q

module _ (end : ℕ) (file : List ℕ) (i value left : ℕ) (ahead : LFAhead file i) (r : ByteStep)
    (is : r ≡ next_digit value left (get_or file i 0) end) where
  pub digits_ahead : (v : ℕ) → r ≡ ByteStep.More v → LFAhead file (i + 1)
  digits_ahead v e =
      ahead_next file i ahead
      (λ q. neither (eqb LF end) (sym e ∙ digits_LF value left (get_or file i 0) end r is q))
    where
      neither : (b : Bool) → ByteStep.More v ≡ cond b ByteStep.End ByteStep.Bad → ⊥
      neither true z = end≢more z
      neither false z = bad≢more z

  end_ahead : r ≡ ByteStep.End → end ≡ comma → LFAhead file (i + 1)
  end_ahead e c =
      ahead_next file i ahead
      (λ q. bad≢end (sym e ∙ digits_LF value left (get_or file i 0) end r is q ∙ rw c))

  module _ (first max at : ℕ) (so_far : DigitsSoFar first max end file at i value left) where
    digits_turn : (s : ByteStep) → r ≡ s → (F : Form) (n : ℕ) (f : FieldsRead) → end_of n ≡ end
        → AfterByte F (steps_at F (in_number n f first max) file at)
        (λ v. in_number n f v (left - 1)) (number_ends n f value) file (i + 1) s
    unfolding DigitsSoFar step
    digits_turn s e F n f q =
        turned F (steps_at F (in_number n f first max) file at)
        (in_number n f value left) _ _ file i refl ahead (so_far F n f q) s (rw (q, sym is ∙ e))

    pub digits_go_on : (v : ℕ) → r ≡ ByteStep.More v
        → DigitsSoFar first max end file at (i + 1) v (left - 1)
    unfolding DigitsSoFar
    digits_go_on v = digits_turn (ByteStep.More v)

    pub digits_are_read : r ≡ ByteStep.End → DigitsSteps first max end file at (Some (value, i + 1))
    unfolding DigitsSteps
    digits_are_read e F n f q = (digits_turn ByteStep.End e F n f q, end_ahead e)

    pub digits_are_bad : r ≡ ByteStep.Bad → DigitsSteps first max end file at None
    unfolding DigitsSteps
    digits_are_bad = digits_turn ByteStep.Bad

pub ruleset digits-read =
    (digits_ahead, digits_go_on, digits_are_read, digits_are_bad, digit_fits, digit_left)

-- a number by its first byte
module _ (most end : ℕ) (file : List ℕ) (at : ℕ) (ahead : LFAhead file at) where
  pub first_ahead : (d : ℕ × ℕ) → Some d ≡ first_digit most (get_or file at 0)
      → LFAhead file (at + 1)
  unfolding first_digit
  first_ahead d is =
      ahead_next file at ahead (λ q. none-some d (sym (is ∙ ap (first_digit most) q)))

  turn : (r : Option (ℕ × ℕ)) → r ≡ first_digit most (get_or file at 0)
      → (F : Form) (n : ℕ) (f : FieldsRead) → F.digits ≡ most
      → steps_at F (before_number n f) file at ≡ steps_at F (first_step n f r) file (at + 1)
  unfolding step
  turn r is F n f m = a_byte F (before_number n f) file at refl ahead ∙ rw (m, sym is)

  pub first_bad : None ≡ first_digit most (get_or file at 0) → NumberSteps most end file at None
  unfolding NumberSteps
  first_bad is F n f m q = turn None is F n f m ∙ no_line_at F file (at + 1)

  pub first_read : (d : ℕ × ℕ) (y : Option (ℕ × ℕ)) → Some d ≡ first_digit most (get_or file at 0)
      → DigitsSteps d.0 d.1 end file (at + 1) y
      → NumberSteps most end file at y
  unfolding NumberSteps DigitsSteps
  first_read d None is h F n f m q = turn (Some d) is F n f m ∙ h F n f q
  first_read d (Some v) is h F n f m q = let k = h F n f q in (turn (Some d) is F n f m ∙ k.0, k.1)

pub ruleset number_read = (first_ahead, first_bad, first_read, first_fits)

-- A LINE OF SIX FIELDS, field by field: y is what the steps come to from the start, if it is what
-- they come to behind the field.
abbrev pub line_steps : Reading → List ℕ → ℕ → Option LineFields
line_steps r file at = line_of (steps_at six_field_form r file at)

pub line_is : (file : List ℕ) (at : ℕ) (y : Option LineFields) → y ≡ line_steps empty file at
    → y ≡ line_at file at
line_is file at y e = e ∙ line_steps_lem file at

pub line_ends : (file : List ℕ) (i : ℕ) (f : FieldsRead) (y : Option LineFields)
    → y ≡ line_of (line_end i (passed f)) → y ≡ line_steps (whole f) file i
unfolding steps_at
line_ends file i f y e = e ∙ ap line_of (sym (steps_whole six_field_form f (drop i file) i))

module _ (file : List ℕ) (at : ℕ) where
  module _ (v : ℕ × ℕ) (s : LetterSteps file at (Some v)) where
    pub behind_letter : LFAhead file v.1
    unfolding LetterSteps
    behind_letter = s.1

    pub letter_then : (y : Option LineFields) → y ≡ line_steps (in_word v.0 0 0) file v.1
        → y ≡ line_steps empty file at
    unfolding LetterSteps
    letter_then y h = h ∙ ap line_of (sym s.0)

  pub letter_else : LetterSteps file at None → None ≡ line_steps empty file at
  unfolding LetterSteps
  letter_else s = ap line_of (sym s)

  -- a word or a number of a line of any form
  module _ (v : ℕ × ℕ) (s : WordSteps file at (Some v)) where
    pub behind_word : LFAhead file v.1
    unfolding WordSteps
    behind_word = (s six_field_form 0).1 refl

    pub word_then : (l : ℕ) (y : Option LineFields)
        → y ≡ line_steps (word_ends six_field_form l v.0) file v.1
        → y ≡ line_steps (in_word l 0 0) file at
    unfolding WordSteps
    word_then l y h = h ∙ ap line_of (sym (s six_field_form l).0)

  pub word_else : (l : ℕ) → WordSteps file at None → None ≡ line_steps (in_word l 0 0) file at
  unfolding WordSteps
  word_else l s = ap line_of (sym (s six_field_form l))

  module _ (most end : ℕ) where
    pub behind_number : (v : ℕ × ℕ) → NumberSteps most end file at (Some v) → end ≡ comma
        → LFAhead file v.1
    unfolding NumberSteps
    behind_number v s c =
        (s (record { count = 2; digits = most }) 1
        (record { letter = 0; word = 0; numbers = [] }) refl (sym c)).1 c

    module _ (n : ℕ) (f : FieldsRead) (m : max_digits ≡ most) (q : end_of n ≡ end) where
      pub number_then : (v : ℕ × ℕ) → NumberSteps most end file at (Some v)
          → (y : Option LineFields) → y ≡ line_steps (number_ends n f v.0) file v.1
          → y ≡ line_steps (before_number n f) file at
      unfolding NumberSteps
      number_then v s y h = h ∙ ap line_of (sym (s six_field_form n f m q).0)

      pub number_else : NumberSteps most end file at None
          → None ≡ line_steps (before_number n f) file at
      unfolding NumberSteps
      number_else s = ap line_of (sym (s six_field_form n f m q))

pub ruleset fields-ahead = (behind_letter, behind_word, behind_number)

pub ruleset fields_read =
    (line_is, line_ends, letter_then, letter_else, word_then, word_else, number_then, number_else)
