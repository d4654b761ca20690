-- The steps in a file: over the line that begins at a position, and over the byte there.
use mathlib.Core.Bool.{Bool, true, false}
use mathlib.Core.List.{List, [], ◌∷◌, ◌++◌, foldl}
use Rattle.std.specs.Prelude.{Option, None, Some}
use mathlib.Core.Path.{◌≡◌, refl, sym, ap, ◌∙◌}
use mathlib.Core.Logic.{⊎_elim}
use Prim.Native.Nat.{ℕ, zero, suc, ◌+◌, ◌-◌, ◌≤◌, ◌<◌}
use native.Mathlib.Nat.{eq-or-lt_of_le}
use native.Mathlib.Numerals.{add-one}
use native.Mathlib.Omega.{arith}
use lib.Dec.{eqb}
use lib.ListN.{length, drop, get_or, length-drop}
use lib.Seq.{drop-cons, get_or-drop}
use borrow.Author.Tests.{eqb-true, eqb-false}
use Rattle.tableau.specs.declared.Reason.{Reason}
use Rattle.tableau.specs.Basics.{then}
use Rattle.tableau.specs.File.{LF, on_first, split, Line}
use Rattle.tableau.specs.Tree.{Checked, refused, passed, require_some}
use Rattle.tableau.proofs.Pieces.{pieces}
use Rattle.lines.specs.Lines.{any_shape, line_read, first_line, line_at, LFAhead, LinesEnd}
use Rattle.lines.specs.ByteSteps.{next_letter, first_digit, next_digit, Form, six_field_form}
use Rattle.lines.specs.ByteSteps.{FieldsRead, Reading, empty, after_letter, in_word, before_number}
use Rattle.lines.specs.ByteSteps.{in_number, whole, bad}
use Rattle.lines.specs.ByteSteps.{with_number, step, ends, fields_of, FieldsAt, line_end, goes_on}
use Rattle.lines.specs.ByteSteps.{steps, steps_at, line_of}
use Rattle.lines.proofs.Pieces.{uncut}
use Rattle.lines.proofs.OnePass.{unended, any_pass}

-- A line that is whole or bad stays so.
module _ (F : Form) where
  steps_bad : (l : List ℕ) (at : ℕ) → steps F bad l at ≡ None
  unfolding steps step
  steps_bad [] at = refl
  steps_bad (x ∷ l) at = steps_bad l (at + 1)

  pub steps_whole : (f : FieldsRead) (l : List ℕ) (at : ℕ)
      → steps F (whole f) l at ≡ line_end at (passed f)
  unfolding steps
  steps_whole f [] at = refl
  steps_whole f (x ∷ l) at = refl

  steps_on : (r : Reading) (x : ℕ) (l : List ℕ) (at : ℕ) → ends r ≡ refused Reason.BadShape
      → steps F r (x ∷ l) at ≡ steps F (step F r x) l (at + 1)
  unfolding steps
  steps_on r x l at e = cut (ends r) e
    where
      cut : (c : Checked FieldsRead) → c ≡ refused Reason.BadShape
          → elim (goes_on c) [ true ↦ steps F (step F r x) l (at + 1) | false ↦ line_end at c ]
          ≡ steps F (step F r x) l (at + 1)
      cut c e = rw e

  -- THE LINE. After LF it is whole or bad.
  after_LF : (r : Reading) (l : List ℕ) (at : ℕ)
      → steps F (step F r LF) l at ≡ line_end at (ends (step F r LF))
  unfolding step next_letter first_digit next_digit
  after_LF empty l at = steps_bad l at
  after_LF (after_letter k) l at = steps_bad l at
  after_LF (in_word k value count) l at = steps_bad l at
  after_LF (before_number n f) l at = steps_bad l at
  after_LF (in_number zero f value left) l at = steps_whole (with_number f value) l at
  after_LF (in_number (suc n) f value left) l at = steps_bad l at
  after_LF (whole f) l at = steps_bad l at
  after_LF bad l at = steps_bad l at

  -- what the steps over a line come to, with the position after its LF
  abbrev pub line_from : Reading → ℕ → List ℕ → Option FieldsAt
  line_from r next' p = line_end next' (ends (foldl (step F) r (p ++ (LF ∷ []))))

  pub first_steps : (r : Reading) (l : List ℕ) (at : ℕ) → ends r ≡ refused Reason.BadShape
      → steps F r l at ≡ first_line None (line_from r) at (split LF l)
  unfolding steps split
  first_steps r [] at e = rw e
  first_steps r (x ∷ l) at e =
      steps_on r x l at e
      ∙ (let k = pieces LF l in
      which k.first k.others k.cut (eqb x LF) refl (first_steps (step F r x) l (at + 1)))
    where
      which : (p : List ℕ) (ps : List (List ℕ)) → split LF l ≡ p ∷ ps → (b : Bool) → eqb x LF ≡ b
          → (ends (step F r x) ≡ refused Reason.BadShape
          → steps F (step F r x) l (at + 1)
          ≡ first_line None (line_from (step F r x)) (at + 1) (split LF l))
          → steps F (step F r x) l (at + 1)
          ≡ first_line None (line_from r) at
          (elim b [ true ↦ [] ∷ split LF l | false ↦ on_first x (split LF l) ])
      which p ps k true q later =
          let z : at + 0 + 1 ≡ at + 1 = omega arith in
          rw (k, z, eqb-true x LF q) (after_LF r l (at + 1))
      which p ps k false q later = later (unended F r x (eqb-false x LF q)) ∙ rw k (piece ps)
        where
          piece : (ps : List (List ℕ))
              → first_line None (line_from (step F r x)) (at + 1) (p ∷ ps)
              ≡ first_line None (line_from r) at ((x ∷ p) ∷ ps)
          piece [] = refl
          piece (q ∷ qs) =
              let z : at + 1 + length p + 1 ≡ at + suc (length p) + 1 = omega arith in rw z

-- The steps from a position on come to the shape of the line that begins there.
pub line_steps_lem : (file : List ℕ) (at : ℕ)
    → line_of (steps_at six_field_form empty file at) ≡ line_at file at
unfolding steps_at line_at
line_steps_lem file at =
    ap line_of (first_steps six_field_form empty (drop at file) at refl)
    ∙ same (split LF (drop at file))
  where
    shaped : (n : ℕ) (m : Option (Line ℕ))
        → line_of (line_end n (require_some (then m λ k. Some (fields_of k)) Reason.BadShape))
        ≡ line_read n m
    shaped n None = refl
    shaped n (Some k) = refl

    same : (ls : List (List ℕ))
        → line_of (first_line None (line_from six_field_form empty) at ls)
        ≡ first_line None (λ n l. line_read n (any_shape l)) at ls
    same [] = refl
    same (l ∷ []) = refl
    same (l ∷ m ∷ ls) =
        ap (λ c. line_of (line_end (at + length l + 1) c)) (any_pass l)
        ∙ shaped (at + length l + 1) (any_shape l)

-- Behind the last LF the bytes are one piece, and no line.
pub one_piece_behind : (file : List ℕ) (end at : ℕ) → LinesEnd file end → end ≤ at
    → split LF (drop at file) ≡ drop at file ∷ []
one_piece_behind file end at E h =
    uncut LF (drop at file)
    (λ i k q. E.last (at + i) (omega arith) (omega (arith, length-drop at file))
    (sym (get_or-drop at file i 0) ∙ q))

pub no_line_behind : (file : List ℕ) (end at : ℕ) → LinesEnd file end → end ≤ at
    → line_at file at ≡ None
unfolding line_at
no_line_behind file end at E h =
    ap (first_line None (λ n l. line_read n (any_shape l)) at) (one_piece_behind file end at E h)

-- THE BYTE at a position that has an LF ahead.
pub ahead_here : (file : List ℕ) (i : ℕ) → LFAhead file i → i < length file
ahead_here file i a = omega (arith, a.behind, a.inside)

pub ahead_next : (file : List ℕ) (i : ℕ) → LFAhead file i → (get_or file i 0 ≡ LF → ⊥)
    → LFAhead file (i + 1)
ahead_next file i a h = record {
  position = a.position;
  behind =
      let later : i ≡ a.position → ⊥ = λ q. h (ap (λ (k : ℕ). get_or file k 0) q ∙ a.is_lf) in
      omega (arith, a.behind, later);
  inside = a.inside;
  is_lf = a.is_lf;
}

pub a_byte : (F : Form) (r : Reading) (file : List ℕ) (i : ℕ) → ends r ≡ refused Reason.BadShape
    → LFAhead file i
    → steps_at F r file i ≡ steps_at F (step F r (get_or file i 0)) file (i + 1)
unfolding steps_at
a_byte F r file i due a =
    let here : drop i file ≡ get_or file i 0 ∷ drop (i + 1) file =
    rw add-one (drop-cons file i 0 (ahead_here file i a)) in
    rw here (steps_on F r (get_or file i 0) (drop (i + 1) file) i due)

pub no_line_at : (F : Form) (file : List ℕ) (i : ℕ) → steps_at F bad file i ≡ None
unfolding steps_at
no_line_at F file i = steps_bad F (drop i file) i

-- THE LAST LF, looked for from the end.
unfoldable pub NoneBehind : List ℕ → ℕ → Type 0
NoneBehind file end = (i : ℕ) → end ≤ i → i < length file → get_or file i 0 ≡ LF → ⊥

pub none_before_lem : (file : List ℕ) (end : ℕ) → NoneBehind file end
    → (get_or file (end - 1) 0 ≡ LF → ⊥) → NoneBehind file (end - 1)
unfolding NoneBehind
none_before_lem file end none h i l k q = ⊎_elim
    (λ (e : end - 1 ≡ i). h (ap (λ (n : ℕ). get_or file n 0) e ∙ q))
    (λ (e : end - 1 < i). none i (omega arith) k q)
    (eq-or-lt_of_le l)
