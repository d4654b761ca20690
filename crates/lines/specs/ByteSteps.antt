-- A line read in one pass: what a step makes of one byte and the fields read so far, and what the
-- steps over a line come to.
use Rattle.std.specs.Prelude.{Bool, true, false, cond, ◌&&◌, ◌||◌, ◌≡◌, ℕ, zero, suc, ◌+◌, ◌*◌, ◌-◌, ◌^◌, ◌<◌, ◌≤◌, eqb, leb, drop, get_or, Option, None, Some, option_map}
use mathlib.Core.List.{List, [], ◌∷◌, ◌++◌, foldl, Mem}
use Rattle.tableau.specs.declared.Reason.{Reason}
use Rattle.tableau.specs.Basics.{then, is_some, bytes, Named, lookup}
use Rattle.tableau.specs.File.{LF, comma, is_small, is_word, is_digit, max_digits, Line, shape}
use Rattle.tableau.specs.Tree.{Checked, refused, passed, ◌>>=◌, require_some}
use Rattle.lines.specs.declared.ByteStep.{ByteStep}
use Rattle.lines.specs.declared.LineFields.{LineFields}
use Rattle.lines.specs.Lines.{pack_word, capital, capital_of, LFAhead}

-- ONE BYTE OF A FIELD. A byte of the field's own goes on with the new value, unless the field is
-- full; the byte that ends it does so if the field is whole.
abbrev pub step_by : Bool → Bool → Bool → Bool → ℕ → ByteStep
step_by own full ends whole value =
    cond own (cond full ByteStep.Bad (ByteStep.More value))
    (cond ends (cond whole ByteStep.End ByteStep.Bad) ByteStep.Bad)

-- a word of which count letters make value, the first byte lowest
unfoldable pub next_letter : ℕ → ℕ → ℕ → ByteStep
next_letter value count x =
    step_by (is_small x) (leb 3 count) (eqb x comma) (eqb count 2 || eqb count 3)
    (value + 256 ^ count * x)

-- a number of at most so many digits by its first one: its value, and how many digits may follow,
-- none after a 0
unfoldable pub first_digit : ℕ → ℕ → Option (ℕ × ℕ)
first_digit limit x = cond (is_digit x) (Some (x - 48, cond (eqb x 48) 0 (limit - 1))) None

-- a number whose digits so far make value, where left more may follow
unfoldable pub next_digit : ℕ → ℕ → ℕ → ℕ → ByteStep
next_digit value left x end =
    step_by (is_digit x) (eqb left 0) (eqb x end) true (10 * value + (x - 48))

-- what is read so far of a word or a number is small
pub record LettersFit (value count : ℕ) : Type 0 where
  pub few : count ≤ 3
  pub small : value < 256 ^ count

-- with one digit more than so many a number still has 64 bits at most
abbrev pub most_digits : ℕ
most_digits = 18

pub record DigitsFit (value left : ℕ) : Type 0 where
  pub few : left < most_digits
  pub small : value < 10 ^ (most_digits - left)

-- ONE BYTE OF A LINE. What kinds of lines differ in: how many numbers, at least one, stand behind
-- the word, and how many digits each has at most.
pub record Form : Type 0 where
  pub count : ℕ
  pub digits : ℕ

abbrev pub six_field_form : Form
six_field_form = record { count = 4; digits = max_digits }

-- The fields that are read to their end, the word packed in one number; the letter is of a kind L,
-- its byte as long as the line is read.
pub record FieldsOf (L : Type 0) : Type 0 where
  pub letter : L
  pub word : ℕ
  pub numbers : List ℕ

abbrev pub FieldsRead : Type 0
FieldsRead = FieldsOf ℕ

-- What is read of a line: fields that have ended, and what there is of the one that has not.
pub data Reading : Type 0 where
  -- nothing
  empty : Reading
  -- the letter
  after_letter : ℕ → Reading
  -- the letter with its comma, and the word's value and count of letters so far
  in_word : ℕ → ℕ → ℕ → Reading
  -- a number is next, and so many follow it
  before_number : ℕ → FieldsRead → Reading
  -- the same, and the number's value so far and how many digits may follow
  in_number : ℕ → FieldsRead → ℕ → ℕ → Reading
  -- six fields with their commas and LF
  whole : FieldsRead → Reading
  -- no line
  bad : Reading

-- the byte that ends a number which so many follow
abbrev pub end_of : ℕ → ℕ
end_of zero = LF
end_of (suc n) = comma

abbrev pub word_ends : Form → ℕ → ℕ → Reading
word_ends F l word = before_number (F.count - 1) (record { letter = l; word = word; numbers = [] })

abbrev pub with_number : FieldsRead → ℕ → FieldsRead
with_number f value = record {
  letter = f.letter;
  word = f.word;
  numbers = f.numbers ++ (value ∷ []);
}

abbrev pub number_ends : ℕ → FieldsRead → ℕ → Reading
number_ends zero f value = whole (with_number f value)
number_ends (suc n) f value = before_number n (with_number f value)

abbrev pub letter_step : Option ℕ → Reading
letter_step None = bad
letter_step (Some l) = after_letter l

abbrev pub first_step : ℕ → FieldsRead → Option (ℕ × ℕ) → Reading
first_step n f None = bad
first_step n f (Some d) = in_number n f d.0 d.1

abbrev pub byte_step : (ℕ → Reading) → Reading → ByteStep → Reading
byte_step more done (ByteStep.More value) = more value
byte_step more done ByteStep.End = done
byte_step more done ByteStep.Bad = bad

-- "a step gets one byte and the fields read so far, never the line"
unfoldable pub step : Form → Reading → ℕ → Reading
step F empty x = letter_step (capital_of x)
step F (after_letter l) x = cond (eqb x comma) (in_word l 0 0) bad
step F (in_word l value count) x =
    byte_step (λ v. in_word l v (count + 1)) (word_ends F l value) (next_letter value count x)
step F (before_number n f) x = first_step n f (first_digit F.digits x)
step F (in_number n f value left) x =
    byte_step (λ v. in_number n f v (left - 1)) (number_ends n f value)
    (next_digit value left x (end_of n))
step F (whole f) x = bad
step F bad x = bad

-- WHAT THE STEPS END WITH: the fields, or number 2.
abbrev pub ends : Reading → Checked FieldsRead
ends empty = refused Reason.BadShape
ends (after_letter l) = refused Reason.BadShape
ends (in_word l value count) = refused Reason.BadShape
ends (before_number n f) = refused Reason.BadShape
ends (in_number n f value left) = refused Reason.BadShape
ends (whole f) = passed f
ends bad = refused Reason.BadShape

-- the specification's fields of a line
abbrev pub fields_of : {L : Type 0} → Line L → FieldsOf L
fields_of l = record {
  letter = l.letter;
  word = pack_word l.word;
  numbers = l.fields.a ∷ l.fields.b ∷ l.fields.c ∷ l.fields.d ∷ [];
}

-- the letters of a file: each is one capital
abbrev pub is_capital_text : List ℕ → Bool
is_capital_text w = is_some (capital w)

unfoldable pub all_capitals : {L : Type 0} → List (Named L) → Bool
all_capitals [] = true
all_capitals (n ∷ ns) = is_capital_text (bytes n.text) && all_capitals ns

-- the letter that a byte stands for in a file, number 2 where it is none of its letters
abbrev pub with_letter : {L : Type 0} → FieldsRead → L → FieldsOf L
with_letter f l = record { letter = l; word = f.word; numbers = f.numbers }

abbrev pub lettered : {L : Type 0} → List (Named L) → FieldsRead → Checked (FieldsOf L)
lettered known f =
    require_some (then (lookup known (f.letter ∷ [])) λ l. Some (with_letter f l)) Reason.BadShape

-- "Show that the steps over a line's bytes, in order and each once, end with exactly its fields, or
-- with number 2 where it isn't shaped as document 01 says.", in a file with any letters
unfoldable pub OnePass : Type 1
OnePass = (L : Type 0) (known : List (Named L)) → all_capitals known ≡ true → (l : List ℕ)
    → (ends (foldl (step six_field_form) empty (l ++ (LF ∷ []))) >>= lettered known)
    ≡ require_some (then (shape known l) λ k. Some (fields_of k)) Reason.BadShape

-- the same of a line in a file with these letters, with no premise
unfoldable pub OnePassIn : {L : Type 0} → List (Named L) → Type 0
OnePassIn known = (l : List ℕ)
    → (ends (foldl (step six_field_form) empty (l ++ (LF ∷ []))) >>= lettered known)
    ≡ require_some (then (shape known l) λ k. Some (fields_of k)) Reason.BadShape

-- and from these fields the line's own can be told, though the word is packed
unfoldable pub FieldsInjective : Type 1
FieldsInjective =
    (L : Type 0) (k n : Line L) → is_word k.word ≡ true → is_word n.word ≡ true
    → fields_of k ≡ fields_of n → k ≡ n

-- bytes with no LF among them end with number 2
unfoldable pub NoLine : Type 0
NoLine =
    (l : List ℕ) → (Mem LF l → ⊥)
    → ends (foldl (step six_field_form) empty l) ≡ refused Reason.BadShape

-- THE STEPS IN A FILE. From a position on, in order and each once, up to the end of the line: its
-- fields, and the position after its LF.
pub record FieldsAt : Type 0 where
  pub fields : FieldsRead
  pub next : ℕ

abbrev pub line_end : ℕ → Checked FieldsRead → Option FieldsAt
line_end at (refused r) = None
line_end at (passed f) = Some (record { fields = f; next = at })

abbrev pub goes_on : Checked FieldsRead → Bool
goes_on (refused r) = true
goes_on (passed f) = false

unfoldable pub steps : Form → Reading → List ℕ → ℕ → Option FieldsAt
steps F r [] at = line_end at (ends r)
steps F r (x ∷ l) at = elim (goes_on (ends r)) [
  | true ↦ steps F (step F r x) l (at + 1)
  | false ↦ line_end at (ends r)
]

unfoldable pub steps_at : Form → Reading → List ℕ → ℕ → Option FieldsAt
steps_at F r file at = steps F r (drop at file) at

-- a line of six fields
abbrev pub six_fields_at : FieldsAt → LineFields
six_fields_at e = record {
  letter = e.fields.letter;
  word = e.fields.word;
  a = get_or e.fields.numbers 0 0;
  b = get_or e.fields.numbers 1 0;
  c = get_or e.fields.numbers 2 0;
  d = get_or e.fields.numbers 3 0;
  next = record { at = e.next };
}

abbrev pub line_of : Option FieldsAt → Option LineFields
line_of = option_map six_fields_at

-- A FIELD IS READ, its value and the position behind it: behind it the steps go on with the reading
-- that has it, towards the LF that is ahead; or there is no line. Whatever stands before the field,
-- and in a line of any form in which the field can stand.
unfoldable pub LetterSteps : List ℕ → ℕ → Option (ℕ × ℕ) → Type 0
LetterSteps file at None = steps_at six_field_form empty file at ≡ None
LetterSteps file at (Some r) =
    (steps_at six_field_form empty file at ≡ steps_at six_field_form (in_word r.0 0 0) file r.1)
    × LFAhead file r.1

abbrev pub ValueSteps : Form → Reading → (ℕ → Reading) → ℕ → List ℕ → ℕ → Option (ℕ × ℕ) → Type 0
ValueSteps F r then' end file at None = steps_at F r file at ≡ None
ValueSteps F r then' end file at (Some v) =
    (steps_at F r file at ≡ steps_at F (then' v.0) file v.1) × (end ≡ comma → LFAhead file v.1)

unfoldable pub WordSteps : List ℕ → ℕ → Option (ℕ × ℕ) → Type 0
WordSteps file at r =
    (F : Form) (l : ℕ) → ValueSteps F (in_word l 0 0) (word_ends F l) comma file at r

unfoldable pub NumberSteps : ℕ → ℕ → List ℕ → ℕ → Option (ℕ × ℕ) → Type 0
NumberSteps limit end file at r =
    (F : Form) (n : ℕ) (f : FieldsRead) → F.digits ≡ limit → end_of n ≡ end
    → ValueSteps F (before_number n f) (number_ends n f) end file at r

-- the same of a number from its second byte on
unfoldable pub DigitsSteps : ℕ → ℕ → ℕ → List ℕ → ℕ → Option (ℕ × ℕ) → Type 0
DigitsSteps value left end file at r =
    (F : Form) (n : ℕ) (f : FieldsRead) → end_of n ≡ end
    → ValueSteps F (in_number n f value left) (number_ends n f) end file at r
