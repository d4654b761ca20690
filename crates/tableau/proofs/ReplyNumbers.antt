-- The numbers of every reply have at most five digits: a file has at most 60,000 lines, and a branch at most 1,000 places.
use mathlib.Core.Path.{◌≡◌, refl}
use mathlib.Core.Bool.{Bool, true, false, cond}
use mathlib.Core.List.{List, [], ◌∷◌}
use mathlib.Core.Logic.{◌⊎◌, inl, inr}
use Rattle.std.specs.Prelude.{Option, Some, slice_get}
use Prim.Native.Nat.{ℕ, zero, suc, ◌+◌, ◌≤◌, ◌<◌}
use native.Mathlib.Decide.{ℕ_discrete}
use native.Mathlib.Omega.{arith}
use lib.Dec.{eqb, leb}
use lib.ListN.{length}
use borrow.Author.Tests.{leb-true}
use Rattle.tableau.specs.declared.Letter.{Letter}
use Rattle.tableau.specs.declared.Reason.{Reason}
use Rattle.tableau.specs.File.{Line, max_digits, shape, letters, split, LF, max_bytes}
use Rattle.tableau.specs.Terms.{Place, ClauseNo, Table, Literal, Clauses, TermNo}
use Rattle.tableau.specs.Tree.{Checked, refused, passed, Status, is_open, is_closed, max_places}
use Rattle.tableau.specs.Reply.{refusal_of, State, start, max_clause_lines, run_line, run_lines, Verdict, accept, refuse, at_end, verdict_on, verdict_if, verdict_within, verdict, reply_of, reply, reply_numbers}
use Rattle.tableau.specs.Claims.{all_but_last, lines_of, clauses_of, has_letter, closes_branch, count_if, count_clauses, CountsOf, RightCounts, PlaceSays, StepPlace, RightPlaces, AllBelow}
use Rattle.tableau.proofs.Bools.{none≢some}
use Rattle.tableau.proofs.Checks.{yes_accepted, verdict_cases}
use Rattle.tableau.proofs.Refusals.{reason_fits, OfVerdict}
use Rattle.tableau.proofs.ClauseLaws.{no_clauses, run_in_sequence, run_clauses}
use Rattle.tableau.proofs.Counts.{right_counts}
use Rattle.tableau.proofs.UsedPlaces.{right_places}
use Rattle.tableau.proofs.Pieces.{few_pieces}
use Rattle.tableau.proofs.BranchRoom.{Room, after_room}

-- the first number of six digits
abbrev six_digits : ℕ
six_digits = 100000

-- a file is too long, or it fits
fits_or_too_long : (file : List ℕ) → (length file ≤ max_bytes) ⊎ (verdict file ≡ refuse Reason.TooLong 0)
unfolding verdict_within
fits_or_too_long file = go (leb (length file) max_bytes) refl
  where
    go : (b : Bool) → leb (length file) max_bytes ≡ b → (length file ≤ max_bytes) ⊎ (verdict_if max_digits b file ≡ refuse Reason.TooLong 0)
    go true e = inl (leb-true (length file) max_bytes e)
    go false e = inr refl

-- THE COUNTS: no more lines than pieces, nothing counted more often than there are lines, no more clauses than C lines
pub but_last : (ls : List (List ℕ)) → length (all_but_last ls) ≤ length ls
but_last [] = omega arith
but_last (l ∷ []) = omega arith
but_last (l ∷ m ∷ ls) = omega (arith, but_last (m ∷ ls))

count_most : (f : Option (Line Letter) → Bool) (ls : List (List ℕ)) → count_if f ls ≤ length ls
unfolding count_if
count_most f [] = omega arith
count_most f (l ∷ ls) = go (f (shape letters l)) (count_most f ls)
  where
    go : (b : Bool) → count_if f ls ≤ length ls → elim b [ true ↦ suc (count_if f ls) | false ↦ count_if f ls ] ≤ length (l ∷ ls)
    go true h = omega arith
    go false h = omega arith

clauses_most : (k : ClauseNo) (C : Clauses) → count_clauses k C ≤ length C
unfolding count_clauses
clauses_most k [] = omega arith
clauses_most k (d ∷ C) = go (eqb d.clause k) (clauses_most d.clause C)
  where
    go : (b : Bool) → count_clauses d.clause C ≤ length C → cond b (count_clauses d.clause C) (suc (count_clauses d.clause C)) ≤ length (d ∷ C)
    go true h = omega arith
    go false h = omega arith

-- an accepted file has at most 400 C lines
few_clauses : (file : List ℕ) → (reply file).is_yes ≡ true → length (clauses_of file) ≤ max_clause_lines
few_clauses file y = let a = (yes_accepted file y).1 in rw (run_clauses a.run) at (run_in_sequence a.run no_clauses).few

-- THE LINE: at most one more than pieces, where the input ends with a branch open
end_line : (N : ℕ) (σ : State) (s : Status) (i : ℕ) → suc i ≤ N → OfVerdict (λ j r. j ≤ N) (at_end σ s i)
end_line N σ (is_open τ) i h = h
end_line N σ is_closed i h = tt

line_most : (N : ℕ) (ls : List (List ℕ)) (i : ℕ) (m : Checked State) → suc (i + length ls) ≤ N → OfVerdict (λ j r. j ≤ N) (verdict_on (run_lines run_line ls i m))
unfolding run_lines
line_most N [] i (refused r) h = omega arith
line_most N [] i (passed σ) h = end_line N σ σ.status i (omega arith)
line_most N (l ∷ ls) i (refused r) h = omega arith
line_most N ([] ∷ []) i (passed σ) h = end_line N σ σ.status i (omega arith)
line_most N ((b ∷ bs) ∷ []) i (passed σ) h = omega arith
line_most N (l ∷ m ∷ ls) i (passed σ) h = line_most N (m ∷ ls) (suc i) (run_line σ l) (omega arith)

-- THE PLACE: one of the branch, where it is not 0
inside : {l : Literal} (B : List Literal) (p : ℕ) → slice_get B p ≡ Some l → p < length B
inside [] p e = none≢some e
inside (k ∷ B) zero e = omega arith
inside (k ∷ B) (suc p) e = omega (arith, inside B p e)

on_branch_lem : (table : Table) (C : Clauses) (B : List Literal) (w : TermNo) (p : Place) → PlaceSays table C B w p → p ≤ length B
on_branch_lem table C B w zero u = omega arith
on_branch_lem table C B w (suc p) u = inside B p u.1.here.1

step_place : {σ : State} {text : List ℕ} {p : Place} → StepPlace σ text p → Room σ.status → p ≤ max_places
step_place {σ} {text} {p} s r = omega (arith, on_branch_lem σ.table σ.clauses s.tree.branch s.line.fields.d p s.says, (rw s.tree_open at r).0)

-- so it is no more than a branch has places
place_most : (file : List ℕ) → (reply file).place ≤ max_places
unfolding RightPlaces
place_most file = elim (ℕ_discrete (reply file).number 13) [
  | yes e ↦ let p = (right_places file).0 e in step_place p.step (after_room start p.earlier p.reached (omega arith, tt))
  | no h ↦ omega (arith, (right_places file).1 h)
]

-- THE REPLY: its line and its number by the verdict, the counts by the answer
line_small : (v : Verdict) → OfVerdict (λ j r. j ≤ max_bytes + 2) v → (reply_of v).line < six_digits
unfolding reply_of
line_small (accept c) h = omega arith
line_small (refuse r i) h = omega (arith, h)

number_small : (v : Verdict) → (reply_of v).number < six_digits
unfolding reply_of
number_small (accept c) = omega arith
number_small (refuse r i) = omega (arith, (reason_fits r).1)

counts_small : (file : List ℕ) → length file ≤ max_bytes → (b : Bool) → (reply file).is_yes ≡ b → CountsOf file (reply file) b
    → ((reply file).terms < six_digits) × ((reply file).assumptions < six_digits) × ((reply file).steps < six_digits) × ((reply file).closings < six_digits)
counts_small file h true y c =
    let few : length (lines_of file) ≤ max_bytes + 1 = omega (arith, but_last (split LF file), few_pieces LF file) in
    let one : (f : Option (Line Letter) → Bool) → count_if f (lines_of file) ≤ max_bytes + 1 = λ f. omega (arith, count_most f (lines_of file)) in (
      omega (arith, c.terms, one (has_letter Letter.T)),
      omega (arith, c.assumptions, one (has_letter Letter.A), clauses_most 0 (clauses_of file), few_clauses file y),
      omega (arith, c.steps, one (has_letter Letter.S)),
      omega (arith, c.closings, one closes_branch),
    )
counts_small file h false y c = (omega (arith, c.terms), omega (arith, c.assumptions), omega (arith, c.steps), omega (arith, c.closings))

pub short_numbers : (file : List ℕ) → AllBelow 100000 (reply_numbers (reply file))
unfolding reply reply_of refusal_of RightCounts
short_numbers file = go (fits_or_too_long file)
  where
    go : (length file ≤ max_bytes) ⊎ (verdict file ≡ refuse Reason.TooLong 0) → AllBelow 100000 (reply_numbers (reply_of (verdict file)))
    go (inl h) =
        let k = counts_small file h (reply file).is_yes refl (right_counts file) in
        let l = verdict_cases (OfVerdict (λ j r. j ≤ max_bytes + 2)) file (omega arith) (line_most (max_bytes + 2) (split LF file) 0 (passed start) (omega (arith, few_pieces LF file))) in
        (number_small (verdict file), (line_small (verdict file) l, (k.0, (k.1, (k.2, (k.3, (omega (arith, place_most file), tt)))))))
    go (inr e) = rw e (omega arith, (omega arith, (omega arith, (omega arith, (omega arith, (omega arith, (omega arith, tt)))))))
