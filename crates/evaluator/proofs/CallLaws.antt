-- The build host's call, and what a reply with no refusal says.
use mathlib.Core.Path.{◌≡◌, refl, sym, ◌∙◌, ap}
use mathlib.Core.Bool.{Bool, true, false}
use mathlib.Core.List.{List}
use Prim.Native.Nat.{ℕ, ◌≤◌}
use native.Mathlib.Omega.{arith}
use lib.ListN.{length}
use lib.Dec.{eqb}
use borrow.Author.Tests.{eq-eqb, ne_eqb, eqb-true, eqb-false}
use Rattle.tableau.specs.declared.Reason.{Reason}
use Rattle.tableau.specs.Reply.{reason_number, reply, number_bytes, Call}
use Rattle.tableau.proofs.Refusals.{reason_fits}
use Rattle.evaluation.specs.Evaluation.{Evaluation, no_refusal, evaluation, evaluation_line, evaluation_bytes, evaluation_length, evaluation_call}
use Rattle.evaluation.specs.Claims.{Means, EqualsMeaning, NeverAllTrue, NeverSaidAllTrue}
use Rattle.evaluation.proofs.Evaluated.{evaluation_cases, equals_meaning, never_all_true}
use Rattle.evaluation.proofs.AllTrueTold.{never_said_all_true}

-- NUMBERS fit four bytes
pub number_small : (file heap : List ℕ) → (evaluation file heap).number ≤ 21
number_small file heap = evaluation_cases file heap (λ e. e.number ≤ 21) (λ r k i. (reason_fits r).1) (λ σ facts p o. omega arith)

-- THE CALL
pub buffer_right : (file heap b : List ℕ) → length b ≡ evaluation_length
    → evaluation_call file heap b ≡ record { returns = (evaluation file heap).number; buffer = evaluation_bytes (evaluation file heap) }
unfolding evaluation_call
buffer_right file heap b h = rw (eq-eqb (length b) evaluation_length h, evaluation_call)

pub buffer_wrong : (file heap b : List ℕ) → (length b ≡ evaluation_length → ⊥)
    → evaluation_call file heap b ≡ record { returns = reason_number Reason.BufferLength; buffer = b }
unfolding evaluation_call
buffer_wrong file heap b h = rw (ne_eqb (length b) evaluation_length h, evaluation_call)

-- what the buffer holds afterwards is never 0,0,0 where the checker accepts the file
pub never_buffer : (file heap b : List ℕ) → (reply file).is_yes ≡ true → (evaluation_call file heap b).buffer ≡ evaluation_bytes (no_refusal 0) → ⊥
unfolding evaluation_bytes number_bytes NeverSaidAllTrue
never_buffer file heap b h q = go (eqb (length b) evaluation_length) refl
  where
    go : (t : Bool) → eqb (length b) evaluation_length ≡ t → ⊥
    go true e = (never_said_all_true file heap h).1 (sym (ap (λ (k : Call). k.buffer) (buffer_right file heap b (eqb-true _ _ e))) ∙ q)
    go false e = eqb-false _ _ e (ap length (sym (ap (λ (k : Call). k.buffer) (buffer_wrong file heap b (eqb-false _ _ e))) ∙ q))

pub never_line : (file heap : List ℕ) → (reply file).is_yes ≡ true → evaluation_line (evaluation file heap) ≡ evaluation_line (no_refusal 0) → ⊥
unfolding NeverSaidAllTrue
never_line file heap h = (never_said_all_true file heap h).0

-- THE MEANING of a reply with no refusal, and that an accepted file never gets 0,0,0
pub means : (file heap : List ℕ) (e : Evaluation) → e ≡ evaluation file heap → e.number ≡ 0 → Means file heap e
unfolding EqualsMeaning
means file heap e q z = rw q (equals_meaning file heap (ap (λ (x : Evaluation). x.number) (sym q) ∙ z))

abbrev pub Answered : List ℕ → List ℕ → Evaluation → Type 0
Answered file heap e = (e ≡ evaluation file heap) × ((e.number ≡ 0 → Means file heap e) × ((reply file).is_yes ≡ true → e ≡ no_refusal 0 → ⊥))

pub answered : (file heap : List ℕ) {e : Evaluation} → e ≡ evaluation file heap → Answered file heap e
unfolding NeverAllTrue
answered file heap {e} q = (q, (means file heap e q, λ h z. never_all_true file heap h (sym q ∙ z)))
