-- The reply lines of the checker, one after the other, are read as the replies of the files.
use mathlib.Core.Path.{◌≡◌, refl, sym, ◌∙◌, ap}
use mathlib.Core.Bool.{false, ◌&&◌, and-false, not}
use mathlib.Core.List.{List, [], ◌∷◌, ◌++◌, map, append_assoc, append-nil, append_cancel_right}
use mathlib.Core.Logic.{◌⊎◌, inl, inr}
use Prim.Native.Nat.{ℕ, suc, ◌+◌, ◌<◌}
use native.Mathlib.Nat.{add-zero, zero-add}
use native.Mathlib.Omega.{arith}
use lib.Dec.{eqb}
use lib.ListN.{length}
use borrow.Author.Tests.{le-leb, lt-leb, ne_eqb}
use Rattle.tableau.specs.declared.Place.{Place}
use Rattle.tableau.specs.declared.Reason.{Reason}
use Rattle.tableau.specs.Basics.{bytes}
use Rattle.tableau.specs.File.{LF, split, max_bytes}
use Rattle.tableau.specs.Tree.{passed}
use Rattle.tableau.specs.Reply.{refusal_of, reason_number, stopped, ended, run_lines, Verdict}
use Rattle.tableau.specs.Reply.{accept, refuse, verdict, Reply, reply_of, reply, decimal_from}
use Rattle.tableau.specs.Reply.{comma_numbers}
use Rattle.tableau.proofs.Refusals.{reason_fits}
use Rattle.tableau.proofs.Pieces.{pieces, split_ended}
use Rattle.tableau.proofs.ReplyNumbers.{short_numbers}
use Rattle.statistics.specs.ReplyLines.{contradictory}
use Rattle.statistics.specs.Figures.{run_reply, replies_if, replies_of, figures_line}
use Rattle.statistics.specs.Claims.{ReplyPasses, night_of, NightRead, TooMuch}
use Rattle.statistics.proofs.ReplyShapes.{line_text, reply_line_lem, line_free, line_shaped}

-- A REPLY of the checker does not contradict itself
agrees : (v : Verdict) → contradictory (reply_of v) ≡ false
unfolding contradictory reply_of refusal_of
agrees (accept c) = refl
agrees (refuse r i) =
    rw (ne_eqb (reason_number r) 0 (λ e. omega (arith, (reason_fits r).0))) (go (reason_fits r).2)
  where
    go : ((refusal_of r).place ≡ 0) ⊎ ((p : Place) × (r ≡ Reason.NotFresh p))
        → (not (eqb (refusal_of r).place 0) && not (eqb (reason_number r) 13)) ≡ false
    go (inl e) = rw e
    go (inr e) = rw e.1 (and-false (not (eqb e.0.0 0)))

-- its numbers have five digits at most, so its line passes, and the reply is put behind those
-- before
line_passes : (rs : List Reply) (file : List ℕ)
    → run_reply rs (line_text (reply file)) ≡ passed (rs ++ (reply file ∷ []))
unfolding run_reply reply
line_passes rs file = rw (line_shaped (reply file) (short_numbers file), agrees (verdict file)) refl

pub reply_passes : ReplyPasses
unfolding ReplyPasses
reply_passes file l e rs =
    ap (run_reply rs)
    (sym (append_cancel_right (line_text (reply file)) l (LF ∷ [])
    (sym (reply_line_lem (reply file)) ∙ e))) ∙ line_passes rs file

-- THE LINES of a night
night_lines : (file : List ℕ) (files : List (List ℕ))
    → split LF (night_of (file ∷ files)) ≡ line_text (reply file) ∷ split LF (night_of files)
unfolding night_of
night_lines file files =
    ap (λ l. split LF (l ++ night_of files)) (reply_line_lem (reply file))
    ∙ ap (split LF) (append_assoc (line_text (reply file)) (LF ∷ []) (night_of files))
    ∙ split_ended LF (line_text (reply file)) (night_of files) (line_free (reply file))

-- a line that an LF ends, before any text
run_ended : (l text : List ℕ) (i : ℕ) (rs : List Reply)
    → run_lines run_reply (l ∷ split LF text) i (passed rs)
    ≡ run_lines run_reply (split LF text) (suc i) (run_reply rs l)
unfolding run_lines
run_ended l text i rs = rw (pieces LF text).cut refl

-- behind others
night_from : (files : List (List ℕ)) (i : ℕ) (rs : List Reply)
    → run_lines run_reply (split LF (night_of files)) i (passed rs)
    ≡ ended (rs ++ map reply files) (i + length files)
unfolding night_of split run_lines
night_from [] i rs = rw (append-nil, add-zero) refl
night_from (file ∷ files) i rs =
    let e : suc i + length files ≡ i + length (file ∷ files) = omega arith in
    ap (λ ls. run_lines run_reply ls i (passed rs)) (night_lines file files)
    ∙ run_ended (line_text (reply file)) (night_of files) i rs
    ∙ ap (run_lines run_reply (split LF (night_of files)) (suc i)) (line_passes rs file)
    ∙ night_from files (suc i) (rs ++ (reply file ∷ []))
    ∙ λ j. ended (append_assoc rs (reply file ∷ []) (map reply files) j) (e j)

pub night_read : NightRead
unfolding NightRead replies_of
night_read files h =
    ap (λ b. replies_if b (night_of files)) (le-leb (length (night_of files)) max_bytes h)
    ∙ night_from files 0 [] ∙ ap (ended (map reply files)) (zero-add (length files))

-- TOO MUCH
pub too_long : (night : List ℕ) → max_bytes < length night
    → replies_of night ≡ stopped Reason.TooLong 0
unfolding replies_of
too_long night h = rw (lt-leb (length night) max_bytes h)

pub too_much : TooMuch
unfolding TooMuch figures_line refusal_of decimal_from comma_numbers bytes
too_much night h = rw (too_long night h)
