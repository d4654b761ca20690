-- S lines in the specification's run.
use mathlib.Core.Path.{◌≡◌, refl, sym, ◌∙◌, ap, ap₂, subst}
use mathlib.Core.Bool.{Bool, true, false, cond}
use mathlib.Core.List.{List, [], ◌∷◌, map}
use Rattle.std.specs.Prelude.{Option, None, Some, Result, Ok, Err, IfOk, IfSome}
use Prim.Native.Nat.{ℕ, suc, ◌+◌, ◌≤◌}
use native.Mathlib.Omega.{arith}
use native.Mathlib.Numerals.{add-one}
use lib.ListN.{length}
use Rattle.tableau.specs.declared.Letter.{Letter}
use Rattle.tableau.specs.declared.Reason.{Reason}
use Rattle.tableau.specs.declared.Rule.{Rule}
use Rattle.tableau.specs.Basics.{Four, every, lookup}
use Rattle.tableau.specs.File.{letters, rank, in_order}
use Rattle.tableau.specs.Words.{rule_names, infer, some_of}
use Rattle.tableau.specs.Fields.{rule_uses}
use Rattle.tableau.specs.Terms.{Table, Literal, Clauses, clause_of}
use Rattle.tableau.specs.Tree as specification
use Rattle.tableau.specs.Tree.{Checked, refused, passed, ◌>>=◌, Status, grown}
use Rattle.tableau.specs.Reply.{State, zero_if_unused, step_line, require_open, is_closing, counted}
use Rattle.tableau.specs.Reply.{run_open}
use Rattle.syntax.specs.declared.Step.{Step}
use Rattle.syntax.specs.Syntax.{step_fields}
use Rattle.lines.specs.declared.LineFields.{LineFields}
use Rattle.lines.specs.Lines.{numbers_of}
use Rattle.words.specs.Words.{lookup_packed}
use Rattle.packing.specs.Packing.{unpack_literal}
use Rattle.terms.specs.Arrays.{Arrays, Held}
use Rattle.freshness.specs.Prefixes.{PrefixRows}
use Rattle.freshness.proofs.PrefixLaws.{prefix_less}
use Rattle.tree.specs.declared.Change.{Change}
use Rattle.tree.specs.State.{AreWaiting, tree_in}
use Rattle.tree.specs.Change.{Fits, opened, status_after, each_alone}
use Rattle.tree.proofs.Waiting.{each_map}
use Rattle.clauses.specs.declared.Span.{Span}
use Rattle.clauses.specs.Held.{codes_at, ClausesHeld, SpanOf}
use Rattle.reply.specs.Verdict.{counts_of}
use Rattle.growth.specs.declared.Progress.{Progress}
use Rattle.growth.specs.declared.LineEffect.{LineEffect}
use Rattle.growth.specs.Growth.{SplitsClause}
use Rattle.growth.specs.Progress.{Counted, status_of, state_at, after_step, grown_to}
use Rattle.growth.proofs.Laws.{closings_most}
use Rattle.running.specs.Running.{packed_command, run_fields}
use Rattle.running.proofs.Lines.{run_unknown, run_known}
use Rattle.line_checks.specs.Checks.{Ready, Filled, StepTakes, HeldBy, LineDone}
use Rattle.line_checks.proofs.Results.{with, grown_state, grown_next}

-- an S line is never out of order
steps_last : (l : Letter) → in_order l Letter.S ≡ true
unfolding rank
steps_last Letter.T = refl
steps_last Letter.A = refl
steps_last Letter.C = refl
steps_last Letter.S = refl

-- the counts after a step
closings_are : (c : ℕ) (b : Bool) → cond b (suc c) c ≡ c + cond b 1 0
closings_are c true = sym (add-one c)
closings_are c false = omega arith

bind_bind : {A B C : Type 0} (m : Checked A) (f : A → Checked B) (g : B → Checked C)
    → ((m >>= f) >>= g) ≡ (m >>= λ x. f x >>= g)
bind_bind (refused r) f g = refl
bind_bind (passed x) f g = refl

module _ (table : Table) (C : Clauses) (g : Progress) (B V : List ℕ) (W : Ready g B V) where
  abbrev τ : specification.Tree
  τ = tree_in unpack_literal B V

  -- A STEP that is taken apart, on an open tree: what its alternatives make of the tree
  module _ (x : Step) (noted : ℕ) (words prefix : List ℕ) where
    abbrev after : Progress
    after = after_step g x.rule noted

    -- the state by the status of the tree, as the specification counts it
    abbrev made : Status → Checked State
    made s =
        passed (record {
          table = table;
          clauses = C;
          status = s;
          letter = Letter.S;
          counts = counted (counts_of g.counts) (infer x.rule);
        })

    counted_so : (n : Checked Status) → (n >>= made) ≡ (n >>= with table C after)
    counted_so (refused r) = refl
    counted_so (passed s) = ap₂ (λ (i j : ℕ). passed (record {
      table = table;
      clauses = C;
      status = s;
      letter = Letter.S;
      counts =
          record {
            terms = g.counts.terms;
            assumptions = g.counts.assumptions;
            steps = i;
            closings = j;
          };
    })) (sym (add-one g.counts.steps)) (closings_are g.counts.closings (is_closing x.rule))

    counted_after : Counted after
    unfolding rank
    counted_after =
        let c = W.counted in
        let k = closings_most x.rule in
        record {
          terms = omega arith;
          assumptions = omega arith;
          steps = omega arith;
          closings = omega arith;
          clauses = omega arith;
          closed = λ z. refl;
          no_clause_yet = λ z. absurd (let y : ◌≡◌ {A = ℕ} 0 1 = cc in omega arith);
        }

    runs_by : {m : Checked (List (List Literal))} → m
        ≡ step_line table C (map unpack_literal B) x.rule (step_fields x)
        → run_open (state_at table C τ g) τ (infer x.rule) (step_fields x)
        ≡ ((m >>= grown τ) >>= with table C after)
    unfolding run_open
    runs_by {m} said =
        ap (λ (n : Checked (List (List Literal))). n >>= λ ks. grown τ ks >>= made) (sym said)
        ∙ sym (bind_bind m (grown τ) made) ∙ counted_so (m >>= grown τ)

    -- one of the checks 8 to 14 refuses it
    pub step_refused : {r : Reason} → refused r
        ≡ step_line table C (map unpack_literal B) x.rule (step_fields x)
        → StepTakes table C g B V x words prefix (Err r)
    step_refused said = record { rows = tt; follows = tt; runs = runs_by said }

    module _ (ks : List (List Literal))
        (said : passed ks ≡ step_line table C (map unpack_literal B) x.rule (step_fields x)) where
      -- check 15 or 16
      pub step_full : {r : Reason} → refused r ≡ grown τ ks
          → StepTakes table C g B V x words prefix (Err r)
      step_full G =
          record {
            rows = tt;
            follows = tt;
            runs = runs_by said
                ∙ ap (λ (n : Checked Status). n >>= with table C after) (sym G);
          }

      module _ (m : noted ≤ length B) (P : PrefixRows table C B prefix noted) where
        -- the rows that hold after the test hold after the line
        rows_kept : (y : Option Change) → Filled table C B g prefix (grown_to after B V y).progress
        rows_kept (Some c) =
            record { terms = refl; clauses = refl; rows = prefix_less (omega arith) P }
        rows_kept None = record { terms = refl; clauses = refl; rows = P }

        pub step_taken : (y : Option Change) → (AreWaiting V → IfSome y (Fits B V))
            → passed (status_after unpack_literal words B V y) ≡ grown τ ks
            → StepTakes table C g B V x words prefix (Ok (grown_to after B V y))
        step_taken y F G = record {
          rows = rows_kept y;
          follows = grown_next g after B V refl counted_after m W.branch refl y F;
          runs = runs_by said ∙ ap (λ (n : Checked Status). n >>= with table C after) (sym G)
              ∙ sym (grown_state words table C B V after refl y);
        }

  -- `cla`: the literals of the clause k stand at s
  pub clause_grown : {words : List ℕ} {k : ℕ} {s : Span} → SpanOf C words k s
      → {r : Result Change Reason} → SplitsClause words B V s r
      → opened unpack_literal words B V r ≡ grown τ (each_alone (clause_of C k))
  clause_grown {words} {k} {s} S G = G.result unpack_literal
      ∙ ap (grown τ)
      (each_map unpack_literal (codes_at words s.from s.count)
      ∙ ap (each_alone {A = Literal}) S.literals)

  -- AN S LINE
  module _ (f : LineFields) (k : lookup letters (f.letter ∷ []) ≡ Some Letter.S) (A : Arrays)
      (words prefix : List ℕ) (K : ClausesHeld C words g.clauses) where
    -- the line is refused
    refusal : (r : Reason) → run_fields (state_at table C τ g) f ≡ refused r
        → LineDone table C g B V f A words prefix (Err r)
    refusal r h =
        record { after = table; clauses = C; held = tt; done = record { follows = tt; runs = h } }

    -- check 4
    pub step_unknown : lookup_packed rule_names f.word ≡ None
        → LineDone table C g B V f A words prefix (Err Reason.UnknownWord)
    unfolding packed_command
    step_unknown h =
        refusal Reason.UnknownWord
        (run_unknown (state_at table C τ g) f k (steps_last g.letter) (ap (some_of infer) h))

    module _ (x : Rule) (h : lookup_packed rule_names f.word ≡ Some x) where
      step_runs : run_fields (state_at table C τ g) f
          ≡ (require_open (status_of g.closed τ) >>= λ τ'. run_open (state_at table C τ g) τ'
          (infer x) (numbers_of f))
      unfolding packed_command
      step_runs =
          run_known (state_at table C τ g) f k (infer x) (steps_last g.letter)
          (ap (some_of infer) h)

      by_status : {b : Bool} → g.closed ≡ b → run_fields (state_at table C τ g) f
          ≡ (require_open (status_of b τ) >>= λ τ'. run_open (state_at table C τ g) τ' (infer x)
          (numbers_of f))
      by_status z = step_runs
          ∙ ap (λ (b : Bool). require_open (status_of b τ) >>= λ τ'. run_open
          (state_at table C τ g) τ' (infer x) (numbers_of f)) z

      -- check 5
      pub step_closed : g.closed ≡ true
          → LineDone table C g B V f A words prefix (Err Reason.TreeClosed)
      step_closed z = refusal Reason.TreeClosed (by_status z)

      module _ (z : g.closed ≡ false) where
        -- check 6
        pub step_unused : every zero_if_unused (rule_uses x) (numbers_of f) ≡ false
            → LineDone table C g B V f A words prefix (Err Reason.UnusedField)
        unfolding run_open step_line
        step_unused u = refusal Reason.UnusedField (by_status z ∙ rw u)

        held : Held table A g.counts.terms → (r : Result LineEffect Reason)
            → IfOk r (λ e. Filled table C B g prefix e.progress)
            → IfOk r (λ e. HeldBy table C B A words prefix e.progress)
        held H (Ok e) h =
            record {
              held = subst (Held table A) (sym h.terms) H;
              clauses = subst (ClausesHeld C words) (sym h.clauses) K;
              rows = h.rows;
            }
        held H (Err r) h = tt

        -- the checks from 8 on
        pub step_takes : Held table A g.counts.terms → (s : Step) → s.rule ≡ x → step_fields s
            ≡ numbers_of f
            → (r : Result LineEffect Reason) → StepTakes table C g B V s words prefix r
            → LineDone table C g B V f A words prefix r
        step_takes H s is_x is-k r S = record {
          after = table;
          clauses = C;
          held = held H r S.rows;
          done = record {
            follows = S.follows;
            runs = by_status z
                ∙ ap₂ (λ (y : Rule) (n : Four ℕ). run_open (state_at table C τ g) τ (infer y) n)
                (sym is_x) (sym is-k) ∙ S.runs;
          };
        }
