-- The place of a reply: it goes with 13 alone, and is the first on the branch that mentions the w of the refused line, or 0.
use mathlib.Core.Path.{◌≡◌, refl, sym, ◌∙◌, ap, subst}
use mathlib.Core.Bool.{Bool, true, false}
use mathlib.Core.List.{List, [], ◌∷◌}
use Rattle.std.specs.Prelude.{Option, None, Some}
use mathlib.Core.Logic.{inl, inr, ⊎_elim}
use Prim.Native.Nat.{ℕ, zero, suc, ◌+◌}
use native.Mathlib.Omega.{arith}
use lib.Dec.{eqb}
use borrow.Author.Tests.{eq-eqb}
use Rattle.tableau.specs.declared.Letter.{Letter}
use Rattle.tableau.specs.declared.Reason.{Reason}
use Rattle.tableau.specs.declared.Rule.{Rule}
use Rattle.tableau.specs.Basics.{Four}
use Rattle.tableau.specs.File.{Line, shape, letters, split, LF}
use Rattle.tableau.specs.Words.{Command, make, assume, disjoin, infer, command_of}
use Rattle.tableau.specs.Terms.{Place, TermNo, Table, Literal, at, first_place, mentioned, Clauses, disjuncts}
use Rattle.tableau.specs.Steps.{is_rfv, fresh_if, freshness}
use Rattle.tableau.specs.Tree.{Checked, refused, passed, require_some, Tree, require_fresh, answer, alternatives, grown}
use Rattle.tableau.specs.Reply.{refusal_of, State, start, require_open, term_line, literal_line, assumed, disjoined, step_line, run_open, run_read, run_line, run_lines, Verdict, accept, refuse, verdict_on, verdict, reply_of, reply}
use Rattle.tableau.specs.Claims.{all_but_last, lines_of, FirstMention, PlaceSays, StepPlace, after, LinePlace, RightPlaces}
use Rattle.tableau.proofs.Bools.{none≢some}
use Rattle.tableau.proofs.Checks.{require_some_is, require_open_passed, letter_of, command_letter, verdict_cases}
use Rattle.tableau.proofs.Refusals.{reason_fits, OfReason, OfVerdict, end_reason, reasons}
use Rattle.tableau.proofs.FirstPlace.{first_mention, no_mention}

-- what a reason says of its place, where its number is 13
abbrev If : Bool → Type 0 → Type 0
If true A = A
If false A = Unit {0}

abbrev ReasonSays : (Place → Type 0) → Reason → Type 0
ReasonSays U r = If (eqb (refusal_of r).number 13) (U (refusal_of r).place)

says_more : (U U' : Place → Type 0) → ((q : Place) → U q → U' q) → (r : Reason) → ReasonSays U r → ReasonSays U' r
says_more U U' f r = go (eqb (refusal_of r).number 13)
  where
    go : (b : Bool) → If b (U (refusal_of r).place) → If b (U' (refusal_of r).place)
    go true u = f (refusal_of r).place u
    go false u = tt

check_says_more : {A : Type 0} (U U' : Place → Type 0) → ((q : Place) → U q → U' q) → (m : Checked A) → OfReason (ReasonSays U) m → OfReason (ReasonSays U') m
check_says_more U U' f (refused r) h = says_more U U' f r h
check_says_more U U' f (passed x) h = tt

-- CHECK 13
fresh_says : (b : Bool) (table : Table) (C : Clauses) (B : List Literal) (w : TermNo) → OfReason (ReasonSays (PlaceSays table C B w)) (require_fresh b (freshness table C B w))
unfolding freshness refusal_of
fresh_says false table C B w = tt
fresh_says true table C B w = go (is_rfv (at table w)) refl (first_place (at table) w B) refl (mentioned (at table) w (disjuncts C)) refl
  where
    at_place : (p : Place) → is_rfv (at table w) ≡ true → FirstMention table B w p → PlaceSays table C B w p
    at_place zero i f = none≢some f.here.1
    at_place (suc p) i f = (i, f)

    go : (b : Bool) → is_rfv (at table w) ≡ b → (p : Option Place) → first_place (at table) w B ≡ p → (c : Bool) → mentioned (at table) w (disjuncts C) ≡ c
        → OfReason (ReasonSays (PlaceSays table C B w)) (require_fresh true (fresh_if b p c))
    go false i p e c m = inl i
    go true i (Some p) e c m = at_place p i (first_mention table w B p e)
    go true i None e true m = inr (m, no_mention table w B e)
    go true i None e false m = tt

-- A LINE, where the tree is open: only a step's reason has a place
abbrev OpenPlace : State → Tree → Command → Four ℕ → Place → Type 0
OpenPlace σ τ c n p = (letter_of c ≡ Letter.S) × PlaceSays σ.table σ.clauses τ.branch n.d p

step_says : (σ : State) (τ : Tree) (x : Rule) (n : Four ℕ) → OfReason (ReasonSays (PlaceSays σ.table σ.clauses τ.branch n.d)) (run_open σ τ (infer x) n)
unfolding run_open step_line answer alternatives grown refusal_of
step_says σ τ x n = search (reasons, fresh_says) depth 12

open_says : (σ : State) (τ : Tree) (c : Command) (n : Four ℕ) → OfReason (ReasonSays (OpenPlace σ τ c n)) (run_open σ τ c n)
unfolding run_open term_line literal_line assumed disjoined refusal_of
open_says σ τ (make w) n = search reasons depth 12
open_says σ τ (assume R) n = search reasons depth 12
open_says σ τ (disjoin R) n = search reasons depth 12
open_says σ τ (infer x) n =
    check_says_more (PlaceSays σ.table σ.clauses τ.branch n.d) (OpenPlace σ τ (infer x) n) (λ q f. (refl, f)) (run_open σ τ (infer x) n) (step_says σ τ x n)

-- in any state, behind checks 2 to 5
open_place : (σ : State) (text : List ℕ) (l : Line Letter) → require_some (shape letters text) Reason.BadShape ≡ passed l
    → (c : Command) → require_some (command_of l.letter l.word) Reason.UnknownWord ≡ passed c → (τ : Tree) → require_open σ.status ≡ passed τ
    → OfReason (ReasonSays (StepPlace σ text)) (run_open σ τ c l.fields)
open_place σ text l s c k τ o = check_says_more (OpenPlace σ τ c l.fields) (StepPlace σ text) place (run_open σ τ c l.fields) (open_says σ τ c l.fields)
  where
    place : (p : Place) → OpenPlace σ τ c l.fields p → StepPlace σ text p
    place p u = record {
      tree = τ;
      tree_open = require_open_passed σ.status o;
      line = l;
      shaped = require_some_is (shape letters text) Reason.BadShape s;
      is_step = sym (command_letter l.letter l.word (require_some_is (command_of l.letter l.word) Reason.UnknownWord k)) ∙ u.0;
      says = u.1;
    }

line_says : (σ : State) (text : List ℕ) → OfReason (ReasonSays (StepPlace σ text)) (run_line σ text)
unfolding run_read refusal_of
line_says σ text = search (reasons, open_place) depth 12

-- THE LINES, behind i others
abbrev VerdictSays : (ℕ → Place → Type 0) → Verdict → Type 0
VerdictSays U = OfVerdict (λ i. ReasonSays (U i))

abbrev PlaceBehind : ℕ → State → List (List ℕ) → ℕ → Place → Type 0
PlaceBehind i σ ls j p = (k : ℕ) × (j ≡ i + k) × LinePlace σ ls k p

place_here : (i : ℕ) (σ : State) (l : List ℕ) (ls : List (List ℕ)) (p : Place) → StepPlace σ l p → PlaceBehind i σ (l ∷ ls) (suc i) p
unfolding after
place_here i σ l ls p u = (1, omega arith, record { earlier = []; text = l; later = ls; lines = refl; number = refl; state = σ; reached = refl; step = u })

place_later : (i : ℕ) (σ σ' : State) (l : List ℕ) (ls : List (List ℕ)) → run_line σ l ≡ passed σ' → (j : ℕ) (p : Place) → PlaceBehind (suc i) σ' ls j p → PlaceBehind i σ (l ∷ ls) j p
unfolding after
place_later i σ σ' l ls h j p (k, e, u) = (
  suc k,
  omega arith,
  record {
    earlier = l ∷ u.earlier;
    text = u.text;
    later = u.later;
    lines = ap (λ x. l ∷ x) u.lines;
    number = ap suc u.number;
    state = u.state;
    reached = rw h u.reached;
    step = u.step;
  },
)

lines_say : (ls : List (List ℕ)) (i : ℕ) (σ : State) → VerdictSays (PlaceBehind i σ (all_but_last ls)) (verdict_on (run_lines run_line ls i (passed σ)))
unfolding run_lines refusal_of
lines_say [] i σ = end_reason (λ j. ReasonSays (PlaceBehind i σ [] j)) (λ j. tt) σ σ.status i
lines_say ([] ∷ []) i σ = end_reason (λ j. ReasonSays (PlaceBehind i σ [] j)) (λ j. tt) σ σ.status i
lines_say ((b ∷ bs) ∷ []) i σ = tt
lines_say (l ∷ m ∷ ls) i σ = go (run_line σ l) refl (line_says σ l) (lines_say (m ∷ ls) (suc i))
  where
    later : (σ' : State) → run_line σ l ≡ passed σ' → (v : Verdict) → VerdictSays (PlaceBehind (suc i) σ' (all_but_last (m ∷ ls))) v → VerdictSays (PlaceBehind i σ (l ∷ all_but_last (m ∷ ls))) v
    later σ' h (accept c) u = tt
    later σ' h (refuse r j) u = says_more (PlaceBehind (suc i) σ' (all_but_last (m ∷ ls)) j) (PlaceBehind i σ (l ∷ all_but_last (m ∷ ls)) j) (place_later i σ σ' l (all_but_last (m ∷ ls)) h j) r u

    go : (x : Checked State) → run_line σ l ≡ x → OfReason (ReasonSays (StepPlace σ l)) x
        → ((σ' : State) → VerdictSays (PlaceBehind (suc i) σ' (all_but_last (m ∷ ls))) (verdict_on (run_lines run_line (m ∷ ls) (suc i) (passed σ'))))
        → VerdictSays (PlaceBehind i σ (l ∷ all_but_last (m ∷ ls))) (verdict_on (run_lines run_line (m ∷ ls) (suc i) x))
    go (refused r) h s ih = says_more (StepPlace σ l) (PlaceBehind i σ (l ∷ all_but_last (m ∷ ls)) (suc i)) (place_here i σ l (all_but_last (m ∷ ls))) r s
    go (passed σ') h s ih = later σ' h (verdict_on (run_lines run_line (m ∷ ls) (suc i) (passed σ'))) (ih σ')

-- THE FILE
pub right_places : RightPlaces reply
unfolding RightPlaces reply reply_of refusal_of
right_places file = go (verdict file) (verdict_cases (VerdictSays (PlaceBehind 0 start (lines_of file))) file tt (lines_say (split LF file) 0 start))
  where
    found : (i : ℕ) (p : Place) → PlaceBehind 0 start (lines_of file) i p → LinePlace start (lines_of file) i p
    found i p (k, e, u) = subst (λ j. LinePlace start (lines_of file) j p) (let z : k ≡ i = omega arith in z) u

    told : (r : Reason) (i : ℕ) → ReasonSays (PlaceBehind 0 start (lines_of file) i) r → (refusal_of r).number ≡ 13 → LinePlace start (lines_of file) i (refusal_of r).place
    told r i u e = found i (refusal_of r).place (subst (λ b. If b (PlaceBehind 0 start (lines_of file) i (refusal_of r).place)) (eq-eqb (refusal_of r).number 13 e) u)

    go : (v : Verdict) → VerdictSays (PlaceBehind 0 start (lines_of file)) v
        → ((reply_of v).number ≡ 13 → LinePlace start (lines_of file) (reply_of v).line (reply_of v).place) × (¬ ((reply_of v).number ≡ 13) → (reply_of v).place ≡ 0)
    go (accept c) u = ((λ e. absurd (omega (arith, e))), (λ h. refl))
    go (refuse r i) u = (told r i u, (λ h. ⊎_elim (λ e. e) (λ e. absurd (h (ap (λ (x : Reason). (refusal_of x).number) e.1))) (reason_fits r).2))
