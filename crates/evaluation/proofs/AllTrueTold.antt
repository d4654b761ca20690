-- The text and the bytes of 0,0,0 are those of no other reply; so neither is given for a file that the checker accepts.
use mathlib.Core.Path.{◌≡◌, refl, ap}
use mathlib.Core.Bool.{Bool, true, false, cond}
use mathlib.Core.List.{List, [], ◌∷◌}
use Prim.Native.Nat.{ℕ, ◌+◌, ◌/◌, ◌%◌, ◌≤◌, ◌<◌}
use native.Mathlib.Omega.{arith}
use lib.Dec.{leb}
use lib.ListN.{length, get_or, length-append}
use borrow.Author.Tests.{leb-true}
use Rattle.tableau.specs.declared.Reason.{Reason}
use Rattle.tableau.specs.File.{max_digits, max_bytes, split, LF}
use Rattle.tableau.specs.Meaning.{FiniteHeap, Values}
use Rattle.tableau.specs.Reply.{number_bytes}
use Rattle.tableau.proofs.Counts.{reason_not_0}
use Rattle.tableau.proofs.Decimals.{numbers_told}
use Rattle.tableau.proofs.Pieces.{few_pieces}
use Rattle.tableau.proofs.Refusals.{reason_fits}
use Rattle.tableau.proofs.ReplyNumbers.{but_last}
use Rattle.evaluation.specs.Evaluation.{Evaluation, no_refusal, begins_step, before_steps, read_checker, evaluation, evaluation_line, evaluation_bytes}
use Rattle.evaluation.specs.Claims.{Says, all_true, false_at, false_clause_at, EqualsMeaning, NeverAllTrue, NeverSaidAllTrue}
use Rattle.evaluation.proofs.Evaluated.{evaluation_cases, equals_meaning, never_all_true}

-- three numbers that are 0
zeros : (e : Evaluation) → e.number ≡ 0 → e.file ≡ 0 → e.line ≡ 0 → e ≡ no_refusal 0
zeros e n f l = λ i. record { number = n i; file = f i; line = l i }

-- THE TEXT, of every reply
zero_text : (e : Evaluation) → evaluation_line e ≡ evaluation_line (no_refusal 0) → e ≡ no_refusal 0
unfolding evaluation_line
zero_text e h =
    let t = numbers_told e.number 0 (e.file ∷ e.line ∷ []) (0 ∷ 0 ∷ []) h in
    let at : ℕ → List ℕ → ℕ = λ i l. get_or l i 0 in
    zeros e (ap (at 0) t) (ap (at 1) t) (ap (at 2) t)

-- THE BYTES: a number of two bytes at most is told by them
small_zero : (n : ℕ) → n < 65536 → n % 256 ≡ 0 → n / 256 % 256 ≡ 0 → n ≡ 0
small_zero n h a b = omega arith

-- the number of a line is that of a line of the file
says_line : {H : FiniteHeap} (ρ : Values H) (ls : List (List ℕ)) (n : ℕ) → Says ρ ls n → n ≤ length ls
says_line ρ ls n (all_true a c) = omega arith
says_line ρ ls n (false_at before l after L e k a f) = omega (arith, ap length e, length-append before (l ∷ after))
says_line ρ ls n (false_clause_at before l after k L e d last a each f) = omega (arith, ap length e, length-append before (l ∷ after))

few_before : (ls : List (List ℕ)) → length (before_steps ls) ≤ length ls
unfolding before_steps
few_before [] = omega arith
few_before (l ∷ ls) = go (begins_step l) (few_before ls)
  where
    go : (b : Bool) → length (before_steps ls) ≤ length ls → length {A = List ℕ} (cond b ([] ∷ []) (l ∷ before_steps ls)) ≤ length (l ∷ ls)
    go true h = omega arith
    go false h = omega arith

-- and a file that is not refused is short
short_file : (file heap_file : List ℕ) → (evaluation file heap_file).number ≡ 0 → length file ≤ max_bytes
unfolding evaluation
short_file file heap_file = go (leb (length file) max_bytes) (leb-true (length file) max_bytes)
  where
    go : (b : Bool) → (b ≡ true → length file ≤ max_bytes) → (read_checker max_digits b file heap_file).number ≡ 0 → length file ≤ max_bytes
    go true h z = h refl
    go false h z = absurd (reason_not_0 Reason.TooLong z)

pub line_fits : (file heap_file : List ℕ) → (evaluation file heap_file).number ≡ 0 → (evaluation file heap_file).line ≤ max_bytes + 1
unfolding EqualsMeaning
line_fits file heap_file z =
    let ps = split LF file in
    omega (arith, short_file file heap_file z, says_line _ _ _ (equals_meaning file heap_file z).says, but_last (before_steps ps), few_before ps, few_pieces LF file)

zero_bytes : (file heap_file : List ℕ) → evaluation_bytes (evaluation file heap_file) ≡ evaluation_bytes (no_refusal 0) → evaluation file heap_file ≡ no_refusal 0
unfolding evaluation_bytes number_bytes EqualsMeaning
zero_bytes file heap_file h =
    let e = evaluation file heap_file in
    let at : (i : ℕ) → get_or (evaluation_bytes e) i 0 ≡ get_or (evaluation_bytes (no_refusal 0)) i 0 = λ i. ap (λ (l : List ℕ). get_or l i 0) h in
    let most = evaluation_cases file heap_file (λ x. x.number ≤ 21) (λ r k i. (reason_fits r).1) (λ σ facts p o. omega arith) in
    let n = small_zero e.number (omega (arith, most)) (at 0) (at 1) in
    zeros e n (equals_meaning file heap_file n).no_file (small_zero e.line (omega (arith, line_fits file heap_file n)) (at 8) (at 9))

pub never_said_all_true : NeverSaidAllTrue evaluation
unfolding NeverSaidAllTrue NeverAllTrue
never_said_all_true file heap_file yes' = ((λ h. never_all_true file heap_file yes' (zero_text (evaluation file heap_file) h)), λ h. never_all_true file heap_file yes' (zero_bytes file heap_file h))
