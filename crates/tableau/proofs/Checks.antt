-- What follows from checks that passed: for a check alone, a word looked up, a line, the lines of an accepted file.
use mathlib.Core.Path.{◌≡◌, refl, sym, ◌∙◌, ap, subst}
use mathlib.Core.Bool.{Bool, true, false, ◌&&◌, true≢false}
use mathlib.Core.List.{List, [], ◌∷◌, ◌++◌, map, tail-eq_of_cons-eq}
use Rattle.std.specs.Prelude.{Option, None, Some}
use Rattle.std.proofs.lemmas.Option.{none-some}
use Prim.Native.Nat.{ℕ, suc, ◌<◌}
use lib.Dec.{eqb, leb, ltb}
use lib.ListN.{length}
use borrow.Author.Tests.{eqb-true, ltb-true}
use Rattle.tableau.specs.declared.Letter.{Letter}
use Rattle.tableau.specs.declared.Reason.{Reason}
use Rattle.tableau.specs.declared.Relation.{Relation}
use Rattle.tableau.specs.declared.Rule.{Rule}
use Rattle.tableau.specs.Basics.{Four, every, bytes, same_bytes, Named, lookup}
use Rattle.tableau.specs.File.{Line, in_order, max_digits, shape, letters, split, LF, max_bytes}
use Rattle.tableau.specs.declared.Word.{Word}
use Rattle.tableau.specs.Words.{words, relations, rule_names, Command, make, assume, disjoin, infer, some_of, command_of}
use Rattle.tableau.specs.Fields.{Use, word_fields, sides, clause_fields, rule_uses}
use Rattle.tableau.specs.Terms.{Table, Literal, literal, Clauses, at, sort_of, written, one_sort, max_terms}
use Rattle.tableau.specs.Tree.{Checked, refused, passed, ◌>>=◌, ◌>>◌, require, require_some, Tree, Status, is_open, is_closed, max_places, alternatives, grown}
use Rattle.tableau.specs.Reply.{Counts, State, start, require_open, zero_if_unused, term_or_name, of_sort, is_new, term_line, literal_line, assumed, takes_disjunct, disjoined, step_line}
use Rattle.tableau.specs.Reply.{counted, with_clauses, run_open, run_read, run_line, RunEnd, stopped, ended, run_lines, Verdict, accept, refuse, at_end, verdict_on, verdict_if, verdict_within, verdict, reply_of, reply}
use Rattle.tableau.specs.Claims.{all_but_last, lines_of}
use Rattle.tableau.proofs.Bools.{both_true}

-- CHECKS
pub refused≢passed : {A B : Type 0} {r : Reason} {x : A} → refused r ≡ passed x → B
refused≢passed {A} {B} {r} {x} e = let z : true ≡ false = cc in absurd (true≢false z)

pub passed_injective : {A : Type 0} {x y : A} → passed x ≡ passed y → x ≡ y
passed_injective e = cc

pub bind_passed : {A B : Type 0} {y : B} (m : Checked A) (k : A → Checked B) → (m >>= k) ≡ passed y → (x : A) × (m ≡ passed x) × (k x ≡ passed y)
bind_passed (refused r) k e = refused≢passed e
bind_passed (passed x) k e = (x, refl, e)

pub next_passed : {B : Type 0} {y : B} (l : Checked (Unit {0})) (m : Checked B) → (l >> m) ≡ passed y → (l ≡ passed tt) × (m ≡ passed y)
next_passed (refused r) m e = refused≢passed e
next_passed (passed x) m e = (refl, e)

pub require_passed : {B : Type 0} {y : B} (b : Bool) (r : Reason) (m : Checked B) → (require b r >> m) ≡ passed y → (b ≡ true) × (m ≡ passed y)
require_passed true r m e = (refl, e)
require_passed false r m e = refused≢passed e

pub require_some_passed : {A B : Type 0} {y : B} (o : Option A) (r : Reason) (k : A → Checked B) → (require_some o r >>= k) ≡ passed y
    → (x : A) × (o ≡ Some x) × (k x ≡ passed y)
require_some_passed None r k e = refused≢passed e
require_some_passed (Some x) r k e = (x, refl, e)

pub require_some_is : {A : Type 0} {x : A} (o : Option A) (r : Reason) → require_some o r ≡ passed x → o ≡ Some x
require_some_is None r e = refused≢passed e
require_some_is (Some x) r e = cc

pub require_open_passed : {τ : Tree} (s : Status) → require_open s ≡ passed τ → s ≡ is_open τ
require_open_passed (is_open τ) e = cc
require_open_passed is_closed e = refused≢passed e

-- WORDS
pub same_bytes_lem : (as' bs : List ℕ) → same_bytes as' bs ≡ true → as' ≡ bs
unfolding same_bytes
same_bytes_lem [] [] e = refl
same_bytes_lem [] (b ∷ bs) e = absurd (true≢false (sym e))
same_bytes_lem (a ∷ as') [] e = absurd (true≢false (sym e))
same_bytes_lem (a ∷ as') (b ∷ bs) e =
    let h = both_true (eqb a b) _ e in
    λ i. eqb-true a b h.0 i ∷ same_bytes_lem as' bs h.1 i

-- a function of what an entry stands for and one of its text, which agree on each entry of a table, agree on a word found there
pub lookup_agree : {A B : Type 0} {x : A} (f : A → B) (g : List ℕ → B) (ns : List (Named A)) (w : List ℕ)
    → map (λ n. f n.is) ns ≡ map (λ n. g (bytes n.text)) ns → lookup ns w ≡ Some x → f x ≡ g w
unfolding lookup
lookup_agree f g [] w h e = absurd (none-some _ e)
lookup_agree {A} {B} {x} f g (n ∷ ns) w h e = go (same_bytes (bytes n.text) w) refl e (lookup_agree f g ns w (tail-eq_of_cons-eq h))
  where
    go : (b : Bool) → same_bytes (bytes n.text) w ≡ b → elim b [ true ↦ Some n.is | false ↦ lookup ns w ] ≡ Some x
        → (lookup ns w ≡ Some x → f x ≡ g w) → f x ≡ g w
    go true s e later = cc (same_bytes_lem (bytes n.text) w s)
    go false s e later = later e

abbrev pub letter_of : Command → Letter
letter_of (make w) = Letter.T
letter_of (assume R) = Letter.A
letter_of (disjoin R) = Letter.C
letter_of (infer x) = Letter.S

-- the word of a line's command is one of its letter's words
pub some_of_some : {A : Type 0} {c : Command} (f : A → Command) (o : Option A) → some_of f o ≡ Some c → (x : A) × (o ≡ Some x) × (c ≡ f x)
some_of_some f None e = absurd (none-some _ e)
some_of_some f (Some x) e = (x, refl, cc)

pub command_letter : {c : Command} (k : Letter) (w : List ℕ) → command_of k w ≡ Some c → letter_of c ≡ k
unfolding command_of
command_letter Letter.T w e = ap letter_of (some_of_some make (lookup words w) e).2
command_letter Letter.A w e = ap letter_of (some_of_some assume (lookup relations w) e).2
command_letter Letter.C w e = ap letter_of (some_of_some disjoin (lookup relations w) e).2
command_letter Letter.S w e = ap letter_of (some_of_some infer (lookup rule_names w) e).2

-- LINES: a T line
pub record TermPassed (table : Table) (w : Word) (n : Four ℕ) (table' : Table) : Type 0 where
  pub unused_zero : every zero_if_unused (word_fields w) n ≡ true
  pub room : ltb (length table) max_terms ≡ true
  pub terms : every (term_or_name table) (word_fields w) n ≡ true
  pub sorts : every (of_sort table) (word_fields w) n ≡ true
  pub new : is_new table (written w n) ≡ true
  pub after : table' ≡ table ++ (written w n ∷ [])

pub term_passed : {table' : Table} (table : Table) (w : Word) (n : Four ℕ) → term_line table w n ≡ passed table' → TermPassed table w n table'
unfolding term_line
term_passed table w n e =
    let e₆ = require_passed (every zero_if_unused (word_fields w) n) _ _ e in
    let e₇ = require_passed (ltb (length table) max_terms) _ _ e₆.1 in
    let e₈ = require_passed (every (term_or_name table) (word_fields w) n) _ _ e₇.1 in
    let e₉ = require_passed (every (of_sort table) (word_fields w) n) _ _ e₈.1 in
    let e₁₀ = require_passed (is_new table (written w n)) _ _ e₉.1 in
    record { unused_zero = e₆.0; room = e₇.0; terms = e₈.0; sorts = e₉.0; new = e₁₀.0; after = sym (passed_injective e₁₀.1) }

-- an A or C line
pub record LiteralPassed (table : Table) (uses : Four Use) (R : Relation) (n : Four ℕ) (l : Literal) : Type 0 where
  pub terms : every (term_or_name table) uses n ≡ true
  pub sorts : (every (of_sort table) uses n && one_sort R (sort_of (at table n.a)) (sort_of (at table n.b))) ≡ true
  pub is : l ≡ literal R n.a n.b

pub literal_passed : {l : Literal} (table : Table) (uses : Four Use) (R : Relation) (n : Four ℕ) → literal_line table uses R n ≡ passed l → LiteralPassed table uses R n l
unfolding literal_line
literal_passed table uses R n e =
    let e₆ = require_passed (every zero_if_unused uses n) _ _ e in
    let e₈ = require_passed (every (term_or_name table) uses n) _ _ e₆.1 in
    let e₉ = require_passed (every (of_sort table) uses n && one_sort R (sort_of (at table n.a)) (sort_of (at table n.b))) _ _ e₈.1 in
    record { terms = e₈.0; sorts = e₉.0; is = sym (passed_injective e₉.1) }

-- a C line
pub record DisjunctPassed (table : Table) (C : Clauses) (R : Relation) (n : Four ℕ) (C' : Clauses) : Type 0 where
  pub line : literal_line table (clause_fields R) R n ≡ passed (literal R n.a n.b)
  pub fits : takes_disjunct C n.c ≡ true
  pub after : C' ≡ C ++ (record { clause = n.c; is = literal R n.a n.b } ∷ [])

disjunct_passed : {l : Literal} {C' : Clauses} (table : Table) (C : Clauses) (R : Relation) (n : Four ℕ) → literal_line table (clause_fields R) R n ≡ passed l
    → disjoined C n.c l ≡ passed C' → DisjunctPassed table C R n C'
unfolding disjoined
disjunct_passed table C R n e g =
    let q = (literal_passed table (clause_fields R) R n e).is in
    let e₂₁ = require_passed (takes_disjunct C n.c) _ _ g in
    record { line = e ∙ ap passed q; fits = e₂₁.0; after = sym (passed_injective e₂₁.1) ∙ ap (λ (k : Literal). C ++ (record { clause = n.c; is = k } ∷ [])) q }

-- an S line
pub record StepPassed (table : Table) (C : Clauses) (τ : Tree) (x : Rule) (n : Four ℕ) (s : Status) : Type 0 where
  pub sorts : every (of_sort table) (rule_uses x) n ≡ true
  pub adds : List (List Literal)
  pub concluded : alternatives table C τ.branch x n ≡ passed adds
  pub after : grown τ adds ≡ passed s

step_passed : {ks : List (List Literal)} {s : Status} (table : Table) (C : Clauses) (τ : Tree) (x : Rule) (n : Four ℕ) → step_line table C τ.branch x n ≡ passed ks
    → grown τ ks ≡ passed s → StepPassed table C τ x n s
unfolding step_line
step_passed {ks} table C τ x n e g =
    let e₆ = require_passed (every zero_if_unused (rule_uses x) n) _ _ e in
    let e₈ = require_passed (every (term_or_name table) (rule_uses x) n) _ _ e₆.1 in
    let e₉ = require_passed (every (of_sort table) (rule_uses x) n) _ _ e₈.1 in
    record { sorts = e₉.0; adds = ks; concluded = e₉.1; after = g }

-- WHAT A LINE THAT PASSED DID, by what it asks for
abbrev pub Did : State → Tree → Command → Four ℕ → State → Type 0
Did σ τ (make w) n σ' = TermPassed σ.table w n σ'.table × (σ'.status ≡ is_open τ) × (σ'.clauses ≡ σ.clauses)
Did σ τ (assume R) n σ' = (σ'.table ≡ σ.table) × (σ'.status ≡ is_open (record { branch = τ.branch ++ (literal R n.a n.b ∷ []); waiting = τ.waiting }))
    × (literal_line σ.table (sides R) R n ≡ passed (literal R n.a n.b)) × (σ'.clauses ≡ σ.clauses) × (length τ.branch < max_places)
Did σ τ (disjoin R) n σ' = (σ'.table ≡ σ.table) × (σ'.status ≡ is_open τ) × DisjunctPassed σ.table σ.clauses R n σ'.clauses
Did σ τ (infer x) n σ' = (σ'.table ≡ σ.table) × StepPassed σ.table σ.clauses τ x n σ'.status × (σ'.clauses ≡ σ.clauses)

pub record Ran (σ : State) (τ : Tree) (c : Command) (n : Four ℕ) (σ' : State) : Type 0 where
  pub did : Did σ τ c n σ'
  pub letter : σ'.letter ≡ letter_of c
  pub counts : σ'.counts ≡ counted σ.counts c

-- a fact of the state after a line, from the record that it is
after_line : {σ σ' : State} {τ : Tree} {c : Command} {n : Four ℕ} → passed σ ≡ passed σ' → {σ₀ : State} → Ran σ₀ τ c n σ → Ran σ₀ τ c n σ'
after_line {σ} {σ'} {τ} {c} {n} e {σ₀} r = subst (Ran σ₀ τ c n) (passed_injective e) r

ran : {σ' : State} (σ : State) (τ : Tree) (c : Command) (n : Four ℕ) → run_open σ τ c n ≡ passed σ' → Ran σ τ c n σ'
unfolding run_open assumed
ran σ τ (make w) n e =
    let t = bind_passed (term_line σ.table w n) _ e in
    after_line t.2 (record { did = (term_passed σ.table w n t.1, refl, refl); letter = refl; counts = refl })
ran σ τ (assume R) n e =
    let l = bind_passed (literal_line σ.table (sides R) R n) _ e in
    let t = bind_passed (assumed τ l.0) _ l.2 in
    let r = require_passed (ltb (length τ.branch) max_places) _ _ t.1 in
    let q = (literal_passed σ.table (sides R) R n l.1).is in
    let s = sym (passed_injective r.1) ∙ ap (λ (k : Literal). record { branch = τ.branch ++ (k ∷ []); waiting = τ.waiting }) q in
    after_line t.2 (record { did = (refl, ap is_open s, l.1 ∙ ap passed q, refl, ltb-true (length τ.branch) max_places r.0); letter = refl; counts = refl })
ran σ τ (disjoin R) n e =
    let l = bind_passed (literal_line σ.table (clause_fields R) R n) _ e in
    let c = bind_passed (disjoined σ.clauses n.c l.0) _ l.2 in
    after_line c.2 (record { did = (refl, refl, disjunct_passed σ.table σ.clauses R n l.1 c.1); letter = refl; counts = refl })
ran σ τ (infer x) n e =
    let k = bind_passed (step_line σ.table σ.clauses τ.branch x n) _ e in
    let s = bind_passed (grown τ k.0) _ k.2 in
    after_line s.2 (record { did = (refl, step_passed σ.table σ.clauses τ x n k.1 s.1, refl); letter = refl; counts = refl })

pub record LinePassed (σ : State) (bs : List ℕ) (σ' : State) : Type 0 where
  pub line : Line Letter
  pub command : Command
  pub tree : Tree
  pub shaped : shape letters bs ≡ Some line
  pub ordered : in_order σ.letter line.letter ≡ true
  pub known : command_of line.letter line.word ≡ Some command
  pub tree_open : σ.status ≡ is_open tree
  pub run : Ran σ tree command line.fields σ'

pub line_passed : {σ' : State} (σ : State) (bs : List ℕ) → run_line σ bs ≡ passed σ' → LinePassed σ bs σ'
unfolding run_read
line_passed σ bs e =
    let e₂ = require_some_passed (shape letters bs) _ _ e in
    let l = e₂.0 in
    let e₃ = require_passed (in_order σ.letter l.letter) _ _ e₂.2 in
    let e₄ = require_some_passed (command_of l.letter l.word) _ _ e₃.1 in
    let e₅ = bind_passed (require_open σ.status) _ e₄.2 in
    record {
      line = l;
      command = e₄.0;
      tree = e₅.0;
      shaped = e₂.1;
      ordered = e₃.0;
      known = e₄.1;
      tree_open = require_open_passed σ.status e₅.1;
      run = ran σ e₅.0 e₄.0 l.fields e₅.2;
    }

-- Lines that pass one after the other, with the states before and after each, and what is known of one that passes.
pub data Run {S : Type 0} (Passed : S → List ℕ → S → Type 0) : S → List (List ℕ) → S → Type 0 where
  done : {σ : S} → Run Passed σ [] σ
  next : {σ σ' τ : S} {l : List ℕ} {ls : List (List ℕ)} → Passed σ l σ' → Run Passed σ' ls τ → Run Passed σ (l ∷ ls) τ

stopped≢ended : {S B : Type 0} {r : Reason} {i j : ℕ} {σ : S} → stopped r i ≡ ended σ j → B
stopped≢ended {S} {B} {r} {i} {j} {σ} e = let z : true ≡ false = cc in absurd (true≢false z)

module _ {S : Type 0} (Passed : S → List ℕ → S → Type 0) (run : S → List ℕ → Checked S)
    (line : (σ σ' : S) (l : List ℕ) → run σ l ≡ passed σ' → Passed σ l σ') {τ : S} {j : ℕ} where
  run_end : {σ : S} {i : ℕ} → ended σ i ≡ ended τ j → Run Passed σ [] τ
  run_end {σ} e = subst (Run Passed σ []) (let q : σ ≡ τ = cc in q) done

  pub lines_passed : (ls : List (List ℕ)) (i : ℕ) (σ : S) → run_lines run ls i (passed σ) ≡ ended τ j → Run Passed σ (all_but_last ls) τ
  unfolding run_lines
  lines_passed [] i σ e = run_end e
  lines_passed ([] ∷ []) i σ e = run_end e
  lines_passed ((b ∷ bs) ∷ []) i σ e = stopped≢ended e
  lines_passed (l ∷ m ∷ ls) i σ e = go (lines_passed (m ∷ ls) (suc i)) (run σ l) refl e
    where
      go : ((σ' : S) → run_lines run (m ∷ ls) (suc i) (passed σ') ≡ ended τ j → Run Passed σ' (all_but_last (m ∷ ls)) τ)
          → (x : Checked S) → run σ l ≡ x → run_lines run (m ∷ ls) (suc i) x ≡ ended τ j → Run Passed σ (l ∷ all_but_last (m ∷ ls)) τ
      go later (refused r) h e = stopped≢ended e
      go later (passed σ') h e = next (line σ σ' l h) (later σ' e)

-- FILES
pub record Accepted (σ : State) (ls : List (List ℕ)) (c : Counts) : Type 0 where
  pub last : State
  pub run : Run LinePassed σ ls last
  pub closed : last.status ≡ is_closed
  pub counts : with_clauses last.counts last.clauses ≡ c

refuse≢accept : {B : Type 0} {r : Reason} {i : ℕ} {c : Counts} → refuse r i ≡ accept c → B
refuse≢accept {B} {r} {i} {c} e = let z : true ≡ false = cc in absurd (true≢false z)

lines_accepted : {c : Counts} (ls : List (List ℕ)) (i : ℕ) (σ : State) → verdict_on (run_lines run_line ls i (passed σ)) ≡ accept c → Accepted σ (all_but_last ls) c
lines_accepted {c} ls i σ = go (run_lines run_line ls i (passed σ)) refl
  where
    end : (τ : State) (s : Status) (j : ℕ) → Run LinePassed σ (all_but_last ls) τ → τ.status ≡ s → at_end τ s j ≡ accept c → Accepted σ (all_but_last ls) c
    end τ (is_open x) j r h e = refuse≢accept e
    end τ is_closed j r h e = record { last = τ; run = r; closed = h; counts = cc }

    go : (x : RunEnd State) → run_lines run_line ls i (passed σ) ≡ x → verdict_on x ≡ accept c → Accepted σ (all_but_last ls) c
    go (stopped r j) h e = refuse≢accept e
    go (ended τ j) h e = end τ τ.status j (lines_passed LinePassed run_line (λ σ σ'. line_passed σ) ls i σ h) refl e

-- a file is too long, or its lines are read
pub verdict_cases : (P : Verdict → Type 0) (file : List ℕ) → P (refuse Reason.TooLong 0) → P (verdict_on (run_lines run_line (split LF file) 0 (passed start))) → P (verdict file)
unfolding verdict_within
verdict_cases P file p q = go (leb (length file) max_bytes)
  where
    go : (b : Bool) → P (verdict_if max_digits b file)
    go true = q
    go false = p

pub file_accepted : {c : Counts} (file : List ℕ) → verdict file ≡ accept c → Accepted start (lines_of file) c
file_accepted {c} file = verdict_cases (λ v. v ≡ accept c → Accepted start (lines_of file) c) file refuse≢accept (lines_accepted (split LF file) 0 start)

pub yes_accepted : (file : List ℕ) → (reply file).is_yes ≡ true → (c : Counts) × Accepted start (lines_of file) c
unfolding reply reply_of
yes_accepted file = go (verdict file) refl
  where
    go : (v : Verdict) → verdict file ≡ v → (reply_of v).is_yes ≡ true → (c : Counts) × Accepted start (lines_of file) c
    go (accept c) e h = (c, file_accepted file e)
    go (refuse r i) e h = absurd (true≢false (sym h))
