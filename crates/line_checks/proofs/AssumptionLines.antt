-- A lines in the specification's run.
use mathlib.Core.Path.{◌≡◌, refl, sym, ◌∙◌, ap}
use mathlib.Core.Bool.{Bool, true, false, ◌&&◌}
use mathlib.Core.List.{List, [], ◌∷◌, ◌++◌, reverse}
use Rattle.std.specs.Prelude.{Some, Result, Ok, Err}
use Prim.Native.Nat.{ℕ, suc, ◌+◌, ◌≤◌}
use native.Mathlib.Omega.{arith}
use native.Mathlib.Numerals.{add-one}
use lib.Dec.{leb}
use lib.ListN.{length, length-map}
use Rattle.std.proofs.lemmas.List.{length-reverse}
use borrow.Author.Tests.{le-leb}
use Rattle.tableau.specs.declared.Letter.{Letter}
use Rattle.tableau.specs.declared.Reason.{Reason}
use Rattle.tableau.specs.Basics.{lookup}
use Rattle.tableau.specs.File.{letters, rank, in_order}
use Rattle.tableau.specs.Words.{assume}
use Rattle.tableau.specs.Terms.{Table, Clauses, max_terms}
use Rattle.tableau.specs.Terms as terms
use Rattle.tableau.specs.Tree as specification
use Rattle.tableau.specs.Tree.{Checked, refused, passed, ◌>>=◌, ◌>>◌, require, Status, is_open}
use Rattle.tableau.specs.Tree.{is_closed, max_places, max_waiting, room_on_branch, room_to_wait}
use Rattle.tableau.specs.Tree.{grow, grown}
use Rattle.tableau.specs.Reply.{State, assumed, run_open}
use Rattle.lines.specs.declared.LineFields.{LineFields}
use Rattle.packing.specs.Packing.{unpack_literal}
use Rattle.terms.specs.Lines.{assumption_of}
use Rattle.tree.specs.declared.Change.{Change}
use Rattle.tree.specs.State.{waiting_of, tree_in}
use Rattle.tree.specs.Change.{opened, Splits}
use Rattle.growth.specs.declared.Progress.{Progress}
use Rattle.growth.specs.Progress.{Counted, state_at, after_literal, changed_to}
use Rattle.running.specs.Running.{packed_command, run_fields}
use Rattle.line_checks.specs.Checks.{Ready, literal_read, AssumptionDone}
use Rattle.line_checks.proofs.LiteralLines.{literal_runs, refused_so, assumed_so}
use Rattle.line_checks.proofs.Results.{open_before, with, changed_next}

-- CHECK 15 of a line is that of a step with one alternative of one literal, which never closes the
-- tree
module _ (τ : specification.Tree) (l : terms.Literal) (room : length τ.waiting ≤ max_waiting) where
  abbrev added : Status
  added = is_open (record { branch = τ.branch ++ (l ∷ []); waiting = τ.waiting })

  on_branch_lem : (b : Bool) → leb (suc (length τ.branch)) max_places ≡ b
      → room_on_branch (length τ.branch) ((l ∷ []) ∷ []) ≡ b
  unfolding room_on_branch
  on_branch_lem true q = ap (λ (i : ℕ). leb i max_places && true) (add-one (length τ.branch))
      ∙ ap (λ (x : Bool). x && true) q
  on_branch_lem false q = ap (λ (i : ℕ). leb i max_places && true) (add-one (length τ.branch))
      ∙ ap (λ (x : Bool). x && true) q

  to_wait : room_to_wait (length τ.waiting) ((l ∷ []) ∷ []) ≡ true
  unfolding room_to_wait
  to_wait = le-leb (0 + length τ.waiting) max_waiting (omega (arith, room))

  one_more : (b : Bool) → leb (suc (length τ.branch)) max_places ≡ b
      → (grown τ ((l ∷ []) ∷ []) ≡ (require b Reason.BranchFull >> passed added))
      × ((assumed τ l >>= λ τ'. passed (is_open τ'))
      ≡ (require b Reason.BranchFull >> passed added))
  unfolding grown grow assumed
  one_more true q = (rw (on_branch_lem true q, to_wait), rw q)
  one_more false q = (rw (on_branch_lem false q), rw q)

  pub assumed_grown : (assumed τ l >>= λ τ'. passed (is_open τ')) ≡ grown τ ((l ∷ []) ∷ [])
  assumed_grown = let h = one_more _ refl in h.1 ∙ sym h.0

module _ (table : Table) (C : Clauses) (g : Progress) (B V : List ℕ) (f : LineFields)
    (W : Ready g B V) (k : lookup letters (f.letter ∷ []) ≡ Some Letter.A)
    (o : in_order g.letter Letter.A ≡ true) where
  still_open : g.closed ≡ false
  unfolding rank
  still_open = open_before W.counted Letter.A refl o

  -- the state with the tree after the line
  abbrev made : specification.Tree → Checked State
  made τ = passed (record {
    table = table;
    clauses = C;
    status = is_open τ;
    letter = Letter.A;
    counts =
        record {
          terms = g.counts.terms;
          assumptions = suc g.counts.assumptions;
          steps = g.counts.steps;
          closings = g.counts.closings;
        };
  })

  -- checks 4, 6, 8 and 9, then 15
  assumption_runs : (τ : specification.Tree) → run_fields (state_at table C τ g) f
      ≡ (literal_read table Letter.A f >>= λ x. assumed τ x >>= made)
  unfolding packed_command run_open
  assumption_runs =
      literal_runs table C g f k o still_open assume refl (λ τ x. assumed τ x >>= made)
      (λ τ R. refl)

  by_status : (m : Checked specification.Tree) → (m >>= made)
      ≡ ((m >>= λ τ. passed (is_open τ)) >>= with table C (after_literal g))
  by_status (refused r) = refl
  by_status (passed τ) = ap (λ (i : ℕ). passed (record {
    table = table;
    clauses = C;
    status = is_open τ;
    letter = Letter.A;
    counts =
        record {
          terms = g.counts.terms;
          assumptions = i;
          steps = g.counts.steps;
          closings = g.counts.closings;
        };
  })) (sym (add-one g.counts.assumptions))

  abbrev τ : specification.Tree
  τ = tree_in unpack_literal B V

  -- one of the checks before 15 refuses the line
  pub assumption_refused : (r : Reason) → Err r ≡ assumption_of (literal_read table Letter.A f)
      → AssumptionDone table C g B V f (Err r)
  assumption_refused r h = record {
    kept = tt;
    done = λ words. record {
      follows = tt;
      runs = assumption_runs τ
          ∙ ap (λ (m : Checked terms.Literal). m >>= λ x. assumed τ x >>= made)
          (refused_so (literal_read table Letter.A f) h);
    };
  }

  -- check 15
  module _ (code : ℕ) (few : length table ≤ max_terms)
      (h : Ok code ≡ assumption_of (literal_read table Letter.A f)) where
    room : length τ.waiting ≤ max_waiting
    room = omega (
      arith,
      length-map (reverse V) (waiting_of unpack_literal),
      length-reverse V,
      W.waiting,
    )

    assumption_grown : (r : Result Change Reason) (words : List ℕ) → Splits B V ((code ∷ []) ∷ []) r
        → run_fields (state_at table C τ g) f
        ≡ (opened unpack_literal words B V r >>= with table C (after_literal g))
    assumption_grown r words S =
        let l = unpack_literal code in
        assumption_runs τ
        ∙ ap (λ (n : Checked terms.Literal). n >>= λ y. assumed τ y >>= made)
        (assumed_so table few Letter.A f h) ∙ by_status (assumed τ l)
        ∙ ap (λ (n : Checked Status). n >>= with table C (after_literal g))
        (assumed_grown τ l room ∙ sym ((S words).result unpack_literal))

    pub assumption_full : {r : Reason} → Splits B V ((code ∷ []) ∷ []) (Err r)
        → AssumptionDone table C g B V f (Err r)
    assumption_full {r} S =
        record {
          kept = tt;
          done = λ words. record { follows = tt; runs = assumption_grown (Err r) words S };
        }

    counted : Counted (after_literal g)
    counted =
        let c = W.counted in
        record {
          terms = omega arith;
          assumptions = omega arith;
          steps = omega arith;
          closings = omega arith;
          clauses = omega arith;
          closed = λ z. absurd (let y : ◌≡◌ {A = ℕ} 0 1 = cc in omega arith);
          no_clause_yet = λ z. c.no_clause_yet o;
        }

    pub assumption_added : {c : Change} → Splits B V ((code ∷ []) ∷ []) (Ok c)
        → AssumptionDone table C g B V f (Ok (changed_to (after_literal g) c))
    assumption_added {c} S = record {
      kept = record { terms = refl; noted = omega arith; clauses = refl };
      done = λ words. record {
        follows = changed_next g (after_literal g) B V refl counted c
            (λ v. (S words).fits);
        runs = assumption_grown (Ok c) words S;
      };
    }
