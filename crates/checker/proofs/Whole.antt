-- The whole file: its length, its reply and the build host's call.
use mathlib.Core.Path.{◌≡◌, refl, sym, ◌∙◌, ap}
use mathlib.Core.Bool.{Bool, true, false}
use mathlib.Core.List.{List, ◌++◌}
use mathlib.Core.Logic.{◌⊎◌, inl, inr}
use Prim.Native.Nat.{ℕ, ◌+◌, ◌<◌, ◌≤◌}
use native.Mathlib.Numerals.{add-one}
use native.Mathlib.Omega.{arith}
use lib.ListN.{length, get_or}
use borrow.Author.Tests.{le-leb, lt-leb, eq-eqb, ne_eqb}
use Rattle.tableau.specs.declared.Reason.{Reason}
use Rattle.tableau.specs.Basics.{bytes}
use Rattle.tableau.specs.Claims.{BeginsWithYes, NoHeap, Demand3}
use Rattle.tableau.specs.File.{max_bytes}
use Rattle.tableau.specs.Tree.{passed}
use Rattle.tableau.specs.Reply.{start, stopped, accept, refuse, at_end, verdict_on, Verdict}
use Rattle.tableau.specs.Reply.{verdict_within, verdict, Reply, reply_of, reply, reason_number}
use Rattle.tableau.specs.Reply.{reply_numbers, reply_bytes}
use Rattle.tableau.specs.Reply.{comma_numbers, yes_or_no, reply_line, call, buffer_length}
use Rattle.tableau.proofs.Counts.{number_in_range}
use Rattle.tableau.proofs.Soundness.{demand3}
use Rattle.running.specs.Running.{check_from}
use Rattle.packing.specs.Packing.{unpack_literal}
use Rattle.terms.specs.Arrays.{Arrays}
use Rattle.tree.specs.declared.Tree.{Tree}
use Rattle.tree.specs.State.{tree_of}
use Rattle.growth.specs.declared.Progress.{Progress}
use Rattle.growth.specs.Progress.{status_of, state_at, verdict_if, verdict_at_end}
use Rattle.file_run.specs.Reached.{Finished}

-- CHECK 1
pub too_long : (file : List ℕ) → max_bytes < length file → refuse Reason.TooLong 0 ≡ verdict file
unfolding verdict_within
too_long file h = rw (lt-leb (length file) max_bytes h)

short_enough : (file : List ℕ) → length file ≤ max_bytes
    → verdict_on (check_from file 0 0 (passed start)) ≡ verdict file
unfolding verdict_within
short_enough file h = rw (le-leb (length file) max_bytes h)

-- THE LINES: one is refused, or all pass
pub lines_stop : (file : List ℕ) → length file ≤ max_bytes → (r : Reason) (i : ℕ)
    → check_from file 0 0 (passed start) ≡ stopped r i → refuse r i ≡ verdict file
lines_stop file h r i e = sym (ap verdict_on e) ∙ short_enough file h

pub lines_end : (file : List ℕ) → length file ≤ max_bytes
    → {A : Arrays} {words : List ℕ} {t : Tree} {g : Progress} → Finished file A words t g
    → verdict_at_end g ≡ verdict file
lines_end file h {t = t} {g = g} F = go g.closed ∙ sym (ap verdict_on F.runs) ∙ short_enough file h
  where
    go : (b : Bool) → verdict_if b g
        ≡ at_end (state_at F.table F.clauses (tree_of unpack_literal t) g)
        (status_of b (tree_of unpack_literal t)) g.lines
    go true =
        ap (λ n. accept
        (record {
          terms = g.counts.terms;
          assumptions = g.counts.assumptions + n;
          steps = g.counts.steps;
          closings = g.counts.closings;
        })) (sym F.clauses_held.last)
    go false = ap (refuse Reason.BranchOpen) (add-one g.lines)

-- THE REPLY
pub replied : (file : List ℕ) (v : Verdict) {r : Reply} → v ≡ verdict file → r ≡ reply_of v → r
    ≡ reply file
unfolding reply
replied file v e h = h ∙ ap reply_of e

pub number_small : (file : List ℕ) → (reply file).number ≤ 21
number_small file = go (reply file).is_yes refl
  where
    either : ((reply file).number ≡ 21) ⊎ ((1 ≤ (reply file).number) × ((reply file).number ≤ 17))
        → (reply file).number ≤ 21
    either (inl e) = omega (arith, e)
    either (inr e) = omega (arith, e.1)

    go : (b : Bool) → (reply file).is_yes ≡ b → (reply file).number ≤ 21
    go true e = omega (arith, (number_in_range file).0 e)
    go false e = either ((number_in_range file).1 e)

-- DEMAND 3 of the number
pub no_heap : (file : List ℕ) → (reply file).number ≡ 0 → NoHeap file
unfolding Demand3
no_heap file h = go (reply file).is_yes refl
  where
    either : ((reply file).number ≡ 21) ⊎ ((1 ≤ (reply file).number) × ((reply file).number ≤ 17))
        → ⊥
    either (inl e) = omega (arith, e, h)
    either (inr e) = omega (arith, e.0, h)

    go : (b : Bool) → (reply file).is_yes ≡ b → NoHeap file
    go true e = demand3 file e
    go false e = absurd (either ((number_in_range file).1 e))

-- DEMAND 3 of the line
pub line_no_heap : (file : List ℕ) → BeginsWithYes (reply_line (reply file)) → NoHeap file
unfolding Demand3 reply_line yes_or_no bytes
line_no_heap file = go (reply file).is_yes refl
  where
    go : (b : Bool) → (reply file).is_yes ≡ b
        → BeginsWithYes (yes_or_no b ++ comma_numbers (reply_numbers (reply file))) → NoHeap file
    go true e h = demand3 file e
    go false e h = absurd (omega (arith, ap (λ (t : List ℕ). get_or t 0 0) h))

-- THE CALL
pub buffer_right : (file b : List ℕ) → length b ≡ buffer_length
    → call file b ≡ record { returns = (reply file).number; buffer = reply_bytes (reply file) }
unfolding call
buffer_right file b h = rw (eq-eqb (length b) buffer_length h, call)

pub buffer_wrong : (file b : List ℕ) → (length b ≡ buffer_length → ⊥)
    → call file b ≡ record { returns = reason_number Reason.BufferLength; buffer = b }
unfolding call
buffer_wrong file b h = rw (ne_eqb (length b) buffer_length h, call)
