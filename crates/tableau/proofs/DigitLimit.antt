-- Files within a limit of digits keep their replies under a larger one: each line is read as before, and the lines lead where they led.
use mathlib.Core.Path.{◌≡◌, refl, sym, ◌∙◌, ap}
use mathlib.Core.Bool.{Bool, true, false, not, ◌&&◌, ◌||◌}
use mathlib.Core.List.{List, [], ◌∷◌}
use Rattle.std.specs.Prelude.{Option, None, Some}
use Prim.Native.Nat.{ℕ, suc, ◌≤◌}
use native.Mathlib.Nat.{le_trans}
use native.Mathlib.Omega.{arith}
use lib.Dec.{eqb, leb}
use lib.ListN.{length, drop}
use borrow.Author.Tests.{le-leb}
use Rattle.tableau.specs.Basics.{is_some, guard, Named, lookup}
use Rattle.tableau.specs.File.{comma, LF, split, digits, max_digits, number, letters, max_bytes, six_fields, shape_within}
use Rattle.tableau.specs.Tree.{Checked, refused, passed}
use Rattle.tableau.specs.Reply.{start, run_read, run_line_within, run_line, run_lines, verdict_on, verdict_if, verdict_within, reply_of, reply}
use Rattle.tableau.specs.Claims.{AllOf, FieldWithin, LineWithin, FileWithin, KeepsReplies}

no_guard : (b : Bool) → ◌≡◌ {A = Option ℕ} (guard b None) None
no_guard true = refl
no_guard false = refl

module _ (limit larger : ℕ) (h : limit ≤ larger) where
  -- A LINE within the smaller limit, read by either
  number_agrees : (p : List ℕ) → FieldWithin limit p → number larger p ≡ number limit p
  unfolding number
  number_agrees [] s = refl
  number_agrees (b ∷ bs) s = which (digits (b ∷ bs) 0) s
    where
      test : ℕ → Bool
      test n = leb (length (b ∷ bs)) n && (not (eqb b 48) || eqb (length bs) 0)

      which : (d : Option ℕ) → (is_some d ≡ true → length (b ∷ bs) ≤ limit) → guard (test larger) d ≡ guard (test limit) d
      which None s = no_guard (test larger) ∙ sym (no_guard (test limit))
      which (Some n) s = rw (le-leb _ limit (s refl), le-leb _ larger (le_trans (s refl) h)) refl

  module _ {L : Type 0} where
    fields_agree : (first : List ℕ → Option L) (ps : List (List ℕ)) → AllOf (FieldWithin limit) (drop 2 ps) → six_fields larger first ps ≡ six_fields limit first ps
    unfolding six_fields
    fields_agree first [] s = refl
    fields_agree first (k ∷ []) s = refl
    fields_agree first (k ∷ w ∷ []) s = refl
    fields_agree first (k ∷ w ∷ a ∷ []) s = refl
    fields_agree first (k ∷ w ∷ a ∷ b ∷ []) s = refl
    fields_agree first (k ∷ w ∷ a ∷ b ∷ c ∷ []) s = refl
    fields_agree first (k ∷ w ∷ a ∷ b ∷ c ∷ d ∷ []) s =
        rw (number_agrees a s.0, number_agrees b s.1.0, number_agrees c s.1.1.0, number_agrees d s.1.1.1.0) refl
    fields_agree first (k ∷ w ∷ a ∷ b ∷ c ∷ d ∷ e ∷ ps) s = refl

    pub shape_agrees : (known : List (Named L)) (l : List ℕ) → LineWithin limit l → shape_within larger known l ≡ shape_within limit known l
    shape_agrees known l = fields_agree (lookup known) (split comma l)

-- THE LINES of a file, by two runs that agree on lines of a kind, if all are of that kind
pub runs_agree : {S : Type 0} (run other : S → List ℕ → Checked S) (P : List ℕ → Type 0) → ((σ : S) (l : List ℕ) → P l → run σ l ≡ other σ l)
    → (ls : List (List ℕ)) (i : ℕ) (c : Checked S) → AllOf P ls → run_lines run ls i c ≡ run_lines other ls i c
unfolding run_lines
runs_agree run other P h [] i (refused r) a = refl
runs_agree run other P h [] i (passed σ) a = refl
runs_agree run other P h (l ∷ ls) i (refused r) a = refl
runs_agree run other P h ([] ∷ []) i (passed σ) a = refl
runs_agree run other P h ((b ∷ bs) ∷ []) i (passed σ) a = refl
runs_agree run other P h (l ∷ m ∷ ls) i (passed σ) a = ap (run_lines run (m ∷ ls) (suc i)) (h σ l a.0) ∙ runs_agree run other P h (m ∷ ls) (suc i) (other σ l) a.1

-- those of a checker file
pub check_agrees : (limit : ℕ) → limit ≤ max_digits → (ls : List (List ℕ)) → AllOf (LineWithin limit) ls
    → run_lines run_line ls 0 (passed start) ≡ run_lines (run_line_within limit) ls 0 (passed start)
check_agrees limit h ls =
    runs_agree run_line (run_line_within limit) (LineWithin limit) (λ σ l s. ap (run_read σ) (shape_agrees limit max_digits h letters l s)) ls 0 (passed start)

-- "Files whose numbers have at most four digits keep their replies."
pub keeps_replies : KeepsReplies 4 reply
unfolding KeepsReplies reply verdict_within FileWithin
keeps_replies file s = ap reply_of (go (leb (length file) max_bytes))
  where
    go : (b : Bool) → verdict_if max_digits b file ≡ verdict_if 4 b file
    go true = ap verdict_on (check_agrees 4 (omega arith) (split LF file) s)
    go false = refl
