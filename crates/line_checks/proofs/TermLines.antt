-- T lines in the specification's run.
use mathlib.Core.Path.{◌≡◌, refl, sym, ◌∙◌, ap, ap₂}
use mathlib.Core.Bool.{Bool, true, false}
use mathlib.Core.List.{List, [], ◌∷◌, ◌++◌}
use Rattle.std.specs.Prelude.{None, Some, Ok, Err}
use Prim.Native.Nat.{ℕ}
use native.Mathlib.Omega.{arith}
use native.Mathlib.Numerals.{add-one}
use Rattle.tableau.specs.declared.Letter.{Letter}
use Rattle.tableau.specs.declared.Reason.{Reason}
use Rattle.tableau.specs.declared.Word.{Word}
use Rattle.tableau.specs.Basics.{Four, every, lookup}
use Rattle.tableau.specs.File.{letters, rank, in_order}
use Rattle.tableau.specs.Words.{words, make, some_of}
use Rattle.tableau.specs.Fields.{word_fields}
use Rattle.tableau.specs.Terms.{Table, Clauses}
use Rattle.tableau.specs.Tree as specification
use Rattle.tableau.specs.Tree.{Checked, refused, passed, ◌>>=◌, is_open}
use Rattle.tableau.specs.Reply.{State, zero_if_unused, term_line, counted, require_open, run_open}
use Rattle.tableau.proofs.Checks.{term_passed}
use Rattle.syntax.specs.declared.Term.{Term}
use Rattle.syntax.specs.Syntax.{word_in, fields_in, term_in}
use Rattle.lines.specs.declared.LineFields.{LineFields}
use Rattle.lines.specs.Lines.{numbers_of}
use Rattle.words.specs.Words.{lookup_packed}
use Rattle.packing.specs.Packing.{unpack_literal}
use Rattle.terms.specs.Arrays.{Arrays}
use Rattle.terms.specs.Lines.{making_of, MakesTerm}
use Rattle.terms.proofs.LineLaws.{written_term}
use Rattle.tree.specs.declared.Begun.{Begun}
use Rattle.tree.specs.State.{tree_in}
use Rattle.tree.specs.Change.{split_into, no_literals}
use Rattle.tree.proofs.Changes.{unchanged_fits, unchanged_tree}
use Rattle.reply.specs.Verdict.{counts_of}
use Rattle.growth.specs.declared.Progress.{Progress}
use Rattle.growth.specs.Progress.{status_of, state_at, after_term}
use Rattle.running.specs.Running.{packed_command, run_fields}
use Rattle.running.proofs.Lines.{run_unknown, run_known}
use Rattle.line_checks.specs.Checks.{Ready, TermDone}
use Rattle.line_checks.proofs.Results.{open_before, before_assumption}

module _ (table : Table) (C : Clauses) (g : Progress) (B V : List ℕ) (f : LineFields)
    (W : Ready g B V) (k : lookup letters (f.letter ∷ []) ≡ Some Letter.T)
    (o : in_order g.letter Letter.T ≡ true) where
  opened : g.closed ≡ false
  unfolding rank
  opened = open_before W.counted Letter.T refl o

  -- the line is refused
  refusal : (A : Arrays) (r : Reason)
      → ((τ : specification.Tree) → run_fields (state_at table C τ g) f ≡ refused r)
      → TermDone table C g B V f A (Err r)
  refusal A r h =
      record {
        after = table;
        made = tt;
        done = λ words. record { follows = tt; runs = h (tree_in unpack_literal B V) };
      }

  -- check 4
  pub term_unknown : (A : Arrays) → lookup_packed words f.word ≡ None
      → TermDone table C g B V f A (Err Reason.UnknownWord)
  unfolding packed_command
  term_unknown A h =
      refusal A Reason.UnknownWord
      (λ τ. run_unknown (state_at table C τ g) f k o (ap (some_of make) h))

  module _ (w : Word) (h : lookup_packed words f.word ≡ Some w) where
    -- the state with the table that the line makes
    abbrev after : specification.Tree → Table → State
    after τ T =
        record {
          table = T;
          clauses = C;
          status = is_open τ;
          letter = Letter.T;
          counts = counted (counts_of g.counts) (make w);
        }

    term_runs : (τ : specification.Tree) → run_fields (state_at table C τ g) f
        ≡ (term_line table w (numbers_of f) >>= λ T. passed (after τ T))
    unfolding packed_command run_open
    term_runs τ = run_known (state_at table C τ g) f k (make w) o (ap (some_of make) h)
        ∙ ap (λ (b : Bool). require_open (status_of b τ) >>= λ τ. run_open (state_at table C τ g) τ
        (make w) (numbers_of f)) opened

    -- check 6
    pub term_unused : (A : Arrays) → every zero_if_unused (word_fields w) (numbers_of f) ≡ false
        → TermDone table C g B V f A (Err Reason.UnusedField)
    unfolding term_line
    term_unused A z = refusal A Reason.UnusedField (λ τ. term_runs τ ∙ rw z)

    -- checks 7 to 10: the line is that of the term which was taken from it
    module _ (term : Term) (is-w : word_in term ≡ w) (is-k : fields_in term ≡ numbers_of f) where
      abbrev line : Checked Table
      line = term_line table (word_in term) (fields_in term)

      runs_as : (τ : specification.Tree) → run_fields (state_at table C τ g) f
          ≡ (line >>= λ T. passed (after τ T))
      runs_as τ = term_runs τ
          ∙ ap₂ (λ (v : Word) (n : Four ℕ). term_line table v n >>= λ T. passed (after τ T))
          (sym is-w) (sym is-k)

      pub term_refused : {old new : Arrays} {n : ℕ} (A : Arrays) {r : Reason}
          → MakesTerm table term old new n (Err r)
          → TermDone table C g B V f A (Err r)
      term_refused A {r} m = refusal A r (λ τ. runs_as τ ∙ go τ line refl m.reply)
        where
          go : (τ : specification.Tree) (c : Checked Table) → line ≡ c → Err r ≡ making_of c
              → (line >>= λ T. passed (after τ T)) ≡ refused r
          go τ (refused x) q h = rw q (cc)
          go τ (passed T) q h = let z : ◌≡◌ {A = ℕ} 0 1 = cc in absurd (omega arith)

      abbrev table' : Table
      table' = table ++ (term_in term ∷ [])

      made : (τ : specification.Tree) (c : Checked Table) → line ≡ c → Ok tt ≡ making_of c
          → (line >>= λ T. passed (after τ T)) ≡ passed (after τ table')
      made τ (refused r) q h = let z : ◌≡◌ {A = ℕ} 0 1 = cc in absurd (omega arith)
      made τ (passed T) q h =
          let p = term_passed table (word_in term) (fields_in term) q in
          rw q (ap (λ (x : Table). passed (after τ x))
          (p.after ∙ ap (λ y. table ++ (y ∷ [])) (written_term term)))

      pub term_made : {old new : Arrays} → MakesTerm table term old new g.counts.terms (Ok tt)
          → TermDone table C g B V f new
          (Ok (record {
            progress = after_term g;
            change = split_into B V no_literals Begun.Nothing;
          }))
      term_made m =
          let c = W.counted in
          record {
            after = table';
            made = record { held = m.after; noted = refl; clauses = refl };
            done = λ words. record {
              follows = record {
                lines = refl;
                counted = record {
                  terms = omega arith;
                  assumptions = omega arith;
                  steps = omega arith;
                  closings = omega arith;
                  clauses = omega arith;
                  closed = λ z. absurd (let y : ◌≡◌ {A = ℕ} 0 1 = cc in omega arith);
                  no_clause_yet = λ z. c.no_clause_yet (before_assumption g.letter o);
                };
                fits = λ v. unchanged_fits B V W.branch v;
                noted = omega arith;
              };
              runs = runs_as (tree_in unpack_literal B V)
                  ∙ made (tree_in unpack_literal B V) line refl m.reply
                  ∙ ap₂ (λ (τ : specification.Tree) (i : ℕ). passed (record {
                    table = table';
                    clauses = C;
                    status = is_open τ;
                    letter = Letter.T;
                    counts =
                        record {
                          terms = i;
                          assumptions = g.counts.assumptions;
                          steps = g.counts.steps;
                          closings = g.counts.closings;
                        };
                  })) (sym (unchanged_tree unpack_literal words B V))
                  (sym (add-one g.counts.terms));
            };
          }
