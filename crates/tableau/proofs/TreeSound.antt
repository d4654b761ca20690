-- A step keeps refutation: if the tree after it has no model, the tree before it has none.
use mathlib.Core.Path.{◌≡◌, sym, ◌∙◌, subst}
use mathlib.Core.Bool.{true}
use mathlib.Core.List.{List, [], ◌∷◌, ◌++◌, map}
use mathlib.Core.Logic.{◌↔◌}
use Prim.Native.Nat.{ℕ, ◌≤◌}
use native.Mathlib.Nat.{le_refl, le_trans}
use native.Mathlib.Omega.{arith}
use lib.ListN.{length, take, length-append, length-take}
use lib.Seq.{take-append-le, take-take, take-append_seam}
use Rattle.tableau.specs.declared.Rule.{Rule}
use Rattle.tableau.specs.Basics.{Four, every}
use Rattle.tableau.specs.Fields.{Use, unused, place, name, side, clause, term, of, rule_uses}
use Rattle.tableau.specs.Terms.{TermNo, Table, Term, Literal, Clauses, clause_of, at, sort_of, result}
use Rattle.tableau.specs.Meaning.{FiniteHeap, Values, value, AllTrue, EveryClauseTrue}
use Rattle.tableau.specs.Rules.{rule}
use Rattle.tableau.specs.Steps.{freshness, conclude}
use Rattle.tableau.specs.Saturation.{contradicted}
use Rattle.tableau.specs.Tree.{passed, Waiting, Tree, Status, is_open, is_closed, literal_at, is_there, room_on_branch, room_to_wait, close, grow, require_fresh, answer, alternatives, grown}
use Rattle.tableau.specs.Reply.{of_sort}
use Rattle.tableau.proofs.Bools.{every_true}
use Rattle.tableau.proofs.Checks.{next_passed, require_passed, require_some_passed, require_some_is, passed_injective}
use Rattle.tableau.proofs.WellFormed.{WellFormed}
use Rattle.tableau.proofs.Match.{same_sort_lem, kind_value}
use Rattle.tableau.proofs.RowMeaning.{Asked}
use Rattle.tableau.proofs.StepSound.{Refuted, rule_sound}

pub all_append : {H : FiniteHeap} (ρ : Values H) (table : TermNo → Term) (B k : List Literal) → AllTrue ρ table (B ++ k) ↔ (AllTrue ρ table B × AllTrue ρ table k)
all_append ρ table [] k = ((λ t. (tt, t)), (λ t. t.1))
all_append ρ table (l ∷ B) k =
    let h = all_append ρ table B k in
    ((λ t. let u = h.0 t.1 in ((t.0, u.0), u.1)), (λ t. (t.0.0, h.1 (t.0.1, t.1))))

-- the lengths of the waiting alternatives fall
abbrev pub Falling : ℕ → List Waiting → Type 0
Falling n [] = Unit {0}
Falling n (x ∷ ws) = (x.length ≤ n) × Falling x.length ws

module _ (table : Table) (C : Clauses) (H : FiniteHeap) where
  -- no values make the literals true, and one of every clause
  abbrev pub Refutes : List Literal → Type 0
  Refutes B = (ρ : Values H) → EveryClauseTrue ρ (at table) C → AllTrue ρ (at table) B → ⊥

  abbrev pub AllRefuted : List Literal → List Waiting → Type 0
  AllRefuted B [] = Unit {0}
  AllRefuted B (x ∷ ws) = Refutes (take x.length B ++ x.alternative) × AllRefuted B ws

  -- no branch of the tree has a model (the lengths fall in every tree that a file reaches)
  abbrev pub StatusRefuted : Status → Type 0
  StatusRefuted (is_open τ) = Falling (length τ.branch) τ.waiting → Refutes τ.branch × AllRefuted τ.branch τ.waiting
  StatusRefuted is_closed = Unit {0}

module _ (table : Table) (C : Clauses) (wf : WellFormed (at table)) (H : FiniteHeap) where
  lower : (m n : ℕ) (ws : List Waiting) → m ≤ n → Falling m ws → Falling n ws
  lower m n [] h f = tt
  lower m n (x ∷ ws) h f = (le_trans f.0 h, f.1)

  -- a branch that agrees up to n serves the same alternatives
  agrees : (B B' : List Literal) (n : ℕ) → ((m : ℕ) → m ≤ n → take m B' ≡ take m B) → (ws : List Waiting) → Falling n ws → AllRefuted table C H B' ws → AllRefuted table C H B ws
  agrees B B' n e [] f w = tt
  agrees B B' n e (x ∷ ws) f w = (
    subst (λ (k : List Literal). Refutes table C H (k ++ x.alternative)) (e x.length f.0) w.0,
    agrees B B' x.length (λ m h. e m (le_trans h f.0)) ws f.1 w.1,
  )

  abbrev wait : ℕ → List Literal → Waiting
  wait n m = record { length = n; alternative = m }

  wait_falling : (n k : ℕ) (ks : List (List Literal)) (ws : List Waiting) → n ≤ k → Falling n ws → Falling k (map (wait n) ks ++ ws)
  wait_falling n k [] ws h f = lower n k ws h f
  wait_falling n k (x ∷ ks) ws h f = (h, wait_falling n n ks ws (le_refl n) f)

  wait_refuted : (B k : List Literal) (ks : List (List Literal)) (ws : List Waiting) → AllRefuted table C H (B ++ k) (map (wait (length B)) ks ++ ws)
      → Refuted table C H B ks × AllRefuted table C H (B ++ k) ws
  wait_refuted B k [] ws d = (tt, d)
  wait_refuted B k (x ∷ ks) ws d =
      let r = wait_refuted B k ks ws d.1 in
      (((λ ρ u t s. d.0 ρ u (subst (λ (z : List Literal). AllTrue ρ (at table) (z ++ x)) (sym (take-append_seam B k)) ((all_append ρ (at table) B x).1 (t, s)))), r.0), r.1)

  -- a closing
  close_refuted : (B : List Literal) (ws : List Waiting) → Falling (length B) ws → StatusRefuted table C H (close B ws) → AllRefuted table C H B ws
  unfolding close
  close_refuted B [] f k = tt
  close_refuted B (x ∷ ws) f k =
      let len : x.length ≤ length (take x.length B ++ x.alternative) = at_least x.length B x.alternative f.0 in
      let d = k (lower x.length _ ws len f.1) in
      (d.0, agrees B (take x.length B ++ x.alternative) x.length (λ m h. cut m x.length B x.alternative h f.0) ws f.1 d.1)
    where
      at_least : (n : ℕ) (B k : List Literal) → n ≤ length B → n ≤ length (take n B ++ k)
      at_least n B k h = simp (length-append, length-take) (omega arith)

      cut : (m n : ℕ) (B k : List Literal) → m ≤ n → n ≤ length B → take m (take n B ++ k) ≡ take m B
      cut m n B k h g =
          let l : m ≤ length (take n B) = simp length-take (omega arith) in
          take-append-le m (take n B) k l ∙ take-take m n B h

  -- a split or a closing: s says that a true branch has a true alternative
  grow_refuted : (τ : Tree) (ks : List (List Literal)) → (Refuted table C H τ.branch ks → Refutes table C H τ.branch) → StatusRefuted table C H (grow τ ks)
      → StatusRefuted table C H (is_open τ)
  unfolding grow
  grow_refuted τ [] s e f = (s tt, close_refuted τ.branch τ.waiting f e)
  grow_refuted τ (k ∷ ks) s e f =
      let B = τ.branch in
      let long : length B ≤ length (B ++ k) = simp length-append (omega arith) in
      let d = e (wait_falling (length B) _ ks τ.waiting long f) in
      let r = wait_refuted B k ks τ.waiting d.1 in
      (s ((λ ρ v t u. d.0 ρ v ((all_append ρ (at table) B k).1 (t, u))), r.0), agrees B (B ++ k) (length B) (λ m h. take-append-le m B k h) τ.waiting f r.1)

  -- a term that passed check 9 has a value of the sort asked
  asked : (fld : Use) (n : TermNo) → of_sort table fld n ≡ true → (ρ : Values H) → Asked H fld (value ρ (at table) n)
  unfolding result
  asked unused n h ρ = tt
  asked place n h ρ = tt
  asked name n h ρ = tt
  asked side n h ρ = tt
  asked clause n h ρ = tt
  asked term n h ρ = tt
  asked (of s) n h ρ = kind_value (at table) wf H ρ n ∙ sym (same_sort_lem s (sort_of (at table n)) h)

  -- A STEP
  pub step_refuted : (τ : Tree) (x : Rule) (n : Four ℕ) (ks : List (List Literal)) (s : Status) → every (of_sort table) (rule_uses x) n ≡ true
      → alternatives table C τ.branch x n ≡ passed ks → grown τ ks ≡ passed s → StatusRefuted table C H s → StatusRefuted table C H (is_open τ)
  unfolding answer alternatives grown
  step_refuted τ x n ks s sorts e g d =
      let B = τ.branch in
      let a = every_true (of_sort table) (rule_uses x) n sorts in
      let e₁₁ = require_passed (every (is_there C B) (rule_uses x) n) _ _ e in
      let there = every_true (is_there C B) (rule_uses x) n e₁₁.0 in
      let e₁₂ = require_some_passed (conclude table (literal_at B n.a) (literal_at B n.b) n.c n.d (clause_of C n.c) (contradicted table B) (rule x)) _ _ e₁₁.1 in
      let e₁₃ = next_passed (require_fresh e₁₂.0.fresh (freshness table C B n.d)) _ e₁₂.2 in
      let e₁₄ = require_some_is e₁₂.0.adds _ e₁₃.1 in
      let e₁₅ = require_passed (room_on_branch (length B) ks) _ _ g in
      let e₁₆ = require_passed (room_to_wait (length τ.waiting) ks) _ _ e₁₅.1 in
      grow_refuted τ ks
      (λ r ρ u t. rule_sound table C wf H ρ u B t n.a n.b n.c n.d x there.2 (asked (rule_uses x).c n.c a.2 ρ) (asked (rule_uses x).d n.d a.3 ρ)
      e₁₂.0 e₁₂.1 e₁₃.0 ks e₁₄ r)
      (subst (StatusRefuted table C H) (sym (passed_injective e₁₆.1)) d)
