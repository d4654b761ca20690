-- C lines in the specification's run.
use mathlib.Core.Path.{◌≡◌, refl, ◌∙◌, ap}
use mathlib.Core.Bool.{true, false}
use mathlib.Core.List.{List, [], ◌∷◌, ◌++◌}
use Rattle.std.specs.Prelude.{Some, Ok, Err}
use Prim.Native.Nat.{ℕ, ◌+◌, ◌≤◌}
use native.Mathlib.Omega.{arith}
use lib.ListN.{length}
use Rattle.tableau.specs.declared.Letter.{Letter}
use Rattle.tableau.specs.declared.Reason.{Reason}
use Rattle.tableau.specs.Basics.{lookup}
use Rattle.tableau.specs.File.{letters, rank, in_order}
use Rattle.tableau.specs.Words.{disjoin}
use Rattle.tableau.specs.Terms.{Table, Clauses, last_clause, max_terms}
use Rattle.tableau.specs.Terms as terms
use Rattle.tableau.specs.Tree as specification
use Rattle.tableau.specs.Tree.{Checked, refused, passed, ◌>>=◌, is_open}
use Rattle.tableau.specs.Reply.{State, takes_disjunct, disjoined, run_open}
use Rattle.tableau.proofs.ClauseLaws.{fitting}
use Rattle.lines.specs.declared.LineFields.{LineFields}
use Rattle.packing.specs.Packing.{unpack_literal}
use Rattle.clauses.specs.Held.{ClausesHeld}
use Rattle.freshness.specs.Prefixes.{PrefixRows}
use Rattle.terms.specs.Lines.{assumption_of}
use Rattle.tree.specs.declared.Begun.{Begun}
use Rattle.tree.specs.State.{tree_in}
use Rattle.tree.specs.Change.{split_into, no_literals}
use Rattle.tree.proofs.Changes.{unchanged_fits, unchanged_tree}
use Rattle.reply.specs.Verdict.{counts_of}
use Rattle.growth.specs.declared.Progress.{Progress}
use Rattle.growth.specs.Progress.{state_at, after_disjunct}
use Rattle.running.specs.Running.{packed_command, run_fields}
use Rattle.line_checks.specs.Checks.{Ready, literal_read, DisjunctDone}
use Rattle.line_checks.proofs.Results.{open_before}
use Rattle.line_checks.proofs.LiteralLines.{literal_runs, refused_so, assumed_so}

module _ (table : Table) (C : Clauses) (g : Progress) (B V : List ℕ) (f : LineFields)
    (W : Ready g B V) (k : lookup letters (f.letter ∷ []) ≡ Some Letter.C)
    (o : in_order g.letter Letter.C ≡ true) where
  opened : g.closed ≡ false
  unfolding rank
  opened = open_before W.counted Letter.C refl o

  -- the state with the clauses after the line
  abbrev made : specification.Tree → Clauses → Checked State
  made τ C' =
      passed (record {
        table = table;
        clauses = C';
        status = is_open τ;
        letter = Letter.C;
        counts = counts_of g.counts;
      })

  -- checks 4, 6, 8 and 9, then 21
  clause_runs : (τ : specification.Tree) → run_fields (state_at table C τ g) f
      ≡ (literal_read table Letter.C f >>= λ x. disjoined C f.c x >>= made τ)
  unfolding packed_command run_open
  clause_runs =
      literal_runs table C g f k o opened disjoin refl (λ τ x. disjoined C f.c x >>= made τ)
      (λ τ R. refl)

  module _ (words prefix : List ℕ) where
    refusal : (r : Reason)
        → ((τ : specification.Tree) → run_fields (state_at table C τ g) f ≡ refused r)
        → DisjunctDone table C g B V f words prefix (Err r)
    refusal r h =
        record {
          after = C;
          joined = tt;
          done = record { follows = tt; runs = h (tree_in unpack_literal B V) };
        }

    -- one of the checks before 21 refuses the line
    pub disjunct_refused : (r : Reason) → Err r ≡ assumption_of (literal_read table Letter.C f)
        → DisjunctDone table C g B V f words prefix (Err r)
    disjunct_refused r h =
        refusal r
        (λ τ. clause_runs τ
        ∙ ap (λ (m : Checked terms.Literal). m >>= λ x. disjoined C f.c x >>= made τ)
        (refused_so (literal_read table Letter.C f) h))

    module _ (code : ℕ) (few : length table ≤ max_terms)
        (h : Ok code ≡ assumption_of (literal_read table Letter.C f)) where
      read_so : (τ : specification.Tree) → run_fields (state_at table C τ g) f
          ≡ (disjoined C f.c (unpack_literal code) >>= made τ)
      read_so τ = clause_runs τ
          ∙ ap (λ (m : Checked terms.Literal). m >>= λ x. disjoined C f.c x >>= made τ)
          (assumed_so table few Letter.C f h)

      -- check 21
      pub disjunct_misplaced : takes_disjunct C f.c ≡ false
          → DisjunctDone table C g B V f words prefix (Err Reason.BadClause)
      unfolding disjoined
      disjunct_misplaced z = refusal Reason.BadClause (λ τ. read_so τ ∙ rw z)

      abbrev C' : Clauses
      C' = C ++ (record { clause = f.c; is = unpack_literal code } ∷ [])

      few_clauses : takes_disjunct C f.c ≡ true → last_clause C ≡ g.clauses → f.c ≤ g.lines + 1
      few_clauses z l = omega (arith, (fitting C f.c z).most, l, W.counted.clauses)

      pub disjunct_joined : takes_disjunct C f.c ≡ true → last_clause C ≡ g.clauses
          → ClausesHeld C' words f.c → PrefixRows table C' B prefix 0
          → DisjunctDone table C g B V f words prefix
          (Ok (record {
            progress = after_disjunct g f.c;
            change = split_into B V no_literals Begun.Nothing;
          }))
      unfolding disjoined rank
      disjunct_joined z l H P =
          let c = W.counted in
          let n = few_clauses z l in
          record {
            after = C';
            joined = record { terms = refl; held = H; rows = P };
            done = record {
              follows = record {
                lines = refl;
                counted = record {
                  terms = omega arith;
                  assumptions = omega arith;
                  steps = omega arith;
                  closings = omega arith;
                  clauses = n;
                  closed = λ y. absurd (let x : ◌≡◌ {A = ℕ} 0 1 = cc in omega arith);
                  no_clause_yet = λ y. absurd (let x : ◌≡◌ {A = ℕ} 0 1 = cc in omega arith);
                };
                fits = λ v. unchanged_fits B V W.branch v;
                noted = omega arith;
              };
              runs = read_so (tree_in unpack_literal B V)
                  ∙ rw (z, unchanged_tree unpack_literal words B V);
            };
          }
