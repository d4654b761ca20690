-- The letters of a file among the capitals: a line's shape in the file is its shape with any
-- capital, whose letter the file knows.
use mathlib.Core.Bool.{Bool, true, false, true≢false}
use mathlib.Core.List.{List, [], ◌∷◌}
use Rattle.std.specs.Prelude.{Option, None, Some}
use mathlib.Core.Path.{◌≡◌, refl, sym, ap, ◌∙◌}
use Prim.Native.Nat.{ℕ}
use lib.Dec.{eqb-suc-zero}
use lib.ListN.{length}
use Rattle.tableau.specs.declared.Letter.{Letter}
use Rattle.tableau.specs.declared.Reason.{Reason}
use Rattle.tableau.specs.Basics.{then, guard, is_some, four, bytes, same_bytes, Named, lookup}
use Rattle.tableau.specs.File.{comma, split, is_word, max_digits, number, letters, Line, six_fields}
use Rattle.tableau.specs.File.{shape}
use Rattle.tableau.specs.Tree.{◌>>=◌, require_some}
use Rattle.tableau.proofs.Bools.{both_true, guard_inv, none≢some}
use Rattle.tableau.proofs.Checks.{same_bytes_lem}
use Rattle.lines.specs.Lines.{is_capital, capital_of, capital, any_shape}
use Rattle.lines.specs.ByteSteps.{all_capitals, with_letter, lettered, fields_of, OnePass}
use Rattle.lines.specs.ByteSteps.{OnePassIn}
use Rattle.lines.proofs.OnePass.{any_pass}

-- A TEXT THAT IS ONE CAPITAL
one_letter : (p : List ℕ) (b : ℕ) → capital p ≡ Some b → p ≡ b ∷ []
unfolding capital
one_letter [] b e = absurd (none≢some e)
one_letter (x ∷ []) b e =
    let g = guard_inv (is_capital x) (Some x) e in
    let q : x ≡ b = (let h : Some x ≡ Some b = g.1 in cc) in
    ap (λ (y : ℕ). y ∷ []) q
one_letter (x ∷ y ∷ p) b e =
    absurd (none≢some
    (sym (ap (λ (t : Bool). guard t (capital_of x)) (eqb-suc-zero (length p))) ∙ e))

-- what is no capital is none of a file's letters
not_known : {L : Type 0} (known : List (Named L)) → all_capitals known ≡ true → (p : List ℕ)
    → capital p ≡ None → lookup known p ≡ None
unfolding all_capitals lookup
not_known [] h p e = refl
not_known {L} (n ∷ ns) h p e =
    let k = both_true _ (all_capitals ns) h in
    which (same_bytes (bytes n.text) p) refl k.0 (not_known ns k.1 p e)
  where
    which : (b : Bool) → same_bytes (bytes n.text) p ≡ b → is_some (capital (bytes n.text)) ≡ true
        → lookup ns p ≡ None
        → ◌≡◌ {A = Option L} (elim b [ true ↦ Some n.is | false ↦ lookup ns p ]) None
    which true s c later =
        absurd (true≢false
        (sym c ∙ ap (λ (w : List ℕ). is_some (capital w)) (same_bytes_lem (bytes n.text) p s)
        ∙ ap is_some e))
    which false s c later = later

by_capital : {L : Type 0} (known : List (Named L)) → all_capitals known ≡ true → (p : List ℕ)
    → lookup known p ≡ then (capital p) λ b. lookup known (b ∷ [])
by_capital {L} known h p = which (capital p) refl
  where
    which : (m : Option ℕ) → capital p ≡ m → lookup known p ≡ then m λ b. lookup known (b ∷ [])
    which None e = not_known known h p e
    which (Some b) e = ap (lookup known) (one_letter p b e)

-- THE SHAPE OF A LINE
abbrev pub relettered : {L : Type 0} → Line ℕ → L → Line L
relettered k l = record { letter = l; word = k.word; fields = k.fields }

abbrev pub lettered_line : {L : Type 0} → List (Named L) → Line ℕ → Option (Line L)
lettered_line known k = then (lookup known (k.letter ∷ [])) λ l. Some (relettered k l)

no_then : {A B : Type 0} (m : Option A) → then {B = B} m (λ x. None) ≡ None
no_then None = refl
no_then (Some x) = refl

-- the letter is looked up before the other fields, or behind them
letter_last : {L : Type 0} (look : ℕ → Option L) (m : Option ℕ) (w : List ℕ) (is_w : Bool)
    (a b c d : Option ℕ)
    → (then (then m look) λ l. guard is_w
    (then a λ a'. then b λ b'. then c λ c'. then d λ d'. Some
    (record { letter = l; word = w; fields = four a' b' c' d' })))
    ≡ (then (then m λ x. guard is_w
    (then a λ a'. then b λ b'. then c λ c'. then d λ d'. Some
    (record { letter = x; word = w; fields = four a' b' c' d' })))
    λ k. then (look k.letter) λ l. Some (relettered k l))
letter_last look None w is_w a b c d = refl
letter_last look (Some x) w false a b c d = no_then (look x)
letter_last look (Some x) w true None b c d = no_then (look x)
letter_last look (Some x) w true (Some a) None c d = no_then (look x)
letter_last look (Some x) w true (Some a) (Some b) None d = no_then (look x)
letter_last look (Some x) w true (Some a) (Some b) (Some c) None = no_then (look x)
letter_last look (Some x) w true (Some a) (Some b) (Some c) (Some d) = refl

module _ {L : Type 0} (known : List (Named L)) (capitals : all_capitals known ≡ true) where
  fields_lettered : (ps : List (List ℕ))
      → six_fields max_digits (lookup known) ps
      ≡ then (six_fields max_digits capital ps) (lettered_line known)
  unfolding six_fields
  fields_lettered [] = refl
  fields_lettered (k ∷ []) = refl
  fields_lettered (k ∷ w ∷ []) = refl
  fields_lettered (k ∷ w ∷ a ∷ []) = refl
  fields_lettered (k ∷ w ∷ a ∷ b ∷ []) = refl
  fields_lettered (k ∷ w ∷ a ∷ b ∷ c ∷ []) = refl
  fields_lettered (k ∷ w ∷ a ∷ b ∷ c ∷ d ∷ []) =
      rw (by_capital known capitals k)
      (letter_last (λ x. lookup known (x ∷ [])) (capital k) w (is_word w) (number max_digits a)
      (number max_digits b) (number max_digits c) (number max_digits d))
  fields_lettered (k ∷ w ∷ a ∷ b ∷ c ∷ d ∷ x ∷ ps) = refl

  pub shape_lettered : (l : List ℕ) → shape known l ≡ then (any_shape l) (lettered_line known)
  shape_lettered l = fields_lettered (split comma l)

  -- the steps over a line come to its shape in the file
  file_pass : (l : List ℕ)
      → (require_some
      (then (any_shape l) λ k. Some (fields_of k)) Reason.BadShape >>= lettered known)
      ≡ require_some
      (then (then (any_shape l) (lettered_line known)) λ k. Some (fields_of k)) Reason.BadShape
  file_pass l = which (any_shape l)
    where
      which : (m : Option (Line ℕ))
          → (require_some (then m λ k. Some (fields_of k)) Reason.BadShape >>= lettered known)
          ≡ require_some
          (then (then m (lettered_line known)) λ k. Some (fields_of k)) Reason.BadShape
      which None = refl
      which (Some k) = found (lookup known (k.letter ∷ []))
        where
          found : (m : Option L)
              → require_some (then m λ l. Some (with_letter (fields_of k) l)) Reason.BadShape
              ≡ require_some
              (then (then m λ l. Some (relettered k l)) λ j. Some (fields_of j)) Reason.BadShape
          found None = refl
          found (Some l) = refl

pub one_pass : OnePass
unfolding OnePass
one_pass L known capitals l =
    rw (any_pass l, shape_lettered known capitals l) (file_pass known capitals l)

-- of a checker file, with no premise
pub checker_file_one_pass : OnePassIn letters
unfolding OnePass OnePassIn letters all_capitals bytes capital
checker_file_one_pass = one_pass Letter letters refl
