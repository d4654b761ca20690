-- The literal of an A or C line, as it is taken from the line and as the specification reads it.
use mathlib.Core.Path.{◌≡◌, refl, sym, ◌∙◌, ap}
use mathlib.Core.Bool.{Bool, true, false}
use mathlib.Core.List.{[], ◌∷◌}
use Rattle.std.specs.Prelude.{Option, None, Some, Ok, Err}
use mathlib.Core.Logic.{◌⊎◌, inl, inr}
use Prim.Native.Nat.{ℕ, ◌≤◌}
use native.Mathlib.Omega.{arith}
use lib.ListN.{length}
use borrow.Author.Tests.{eqb-true}
use Rattle.tableau.specs.declared.Letter.{Letter}
use Rattle.tableau.specs.declared.Reason.{Reason}
use Rattle.tableau.specs.declared.Relation.{Relation}
use Rattle.tableau.specs.Basics.{Four, four, every, lookup}
use Rattle.tableau.specs.File.{letters, in_order}
use Rattle.tableau.specs.Words.{Command, relations, some_of}
use Rattle.tableau.specs.Fields.{unused, sides, clause_fields}
use Rattle.tableau.specs.Terms.{Table, Clauses, max_terms}
use Rattle.tableau.specs.Terms as terms
use Rattle.tableau.specs.Tree.{Checked, refused, passed, ◌>>=◌, Tree}
use Rattle.tableau.specs.Reply.{State, zero_if_unused, literal_line, require_open, run_open}
use Rattle.tableau.proofs.Bools.{dec, every_true}
use Rattle.tableau.proofs.Checks.{literal_passed}
use Rattle.tableau.proofs.ClauseLaws.{disjunct_as_assumption}
use Rattle.syntax.specs.declared.Literal.{Literal}
use Rattle.syntax.specs.Syntax.{literal_in, sides_in}
use Rattle.lines.specs.declared.LineFields.{LineFields}
use Rattle.lines.specs.Lines.{numbers_of}
use Rattle.words.specs.Words.{lookup_packed}
use Rattle.parsing.specs.Taken.{literal_fields}
use Rattle.packing.specs.Packing.{pack_literal, unpack_literal}
use Rattle.packing.proofs.PackingLaws.{literal_unpack_pack}
use Rattle.terms.specs.Lines.{assumption_of}
use Rattle.terms.proofs.LineLaws.{sides_packable}
use Rattle.growth.specs.declared.Progress.{Progress}
use Rattle.growth.specs.Progress.{status_of, state_at}
use Rattle.running.specs.Running.{packed_command, run_fields}
use Rattle.running.proofs.Lines.{run_unknown, run_known}
use Rattle.line_checks.specs.Checks.{literal_read}

-- AN A LINE that passed check 6 has zeros behind its sides
behind_sides : (R : Relation) → ((sides R).c ≡ unused) × ((sides R).d ≡ unused)
unfolding sides
behind_sides Relation.In = (refl, refl)
behind_sides Relation.Ni = (refl, refl)
behind_sides Relation.Eq = (refl, refl)
behind_sides Relation.Ne = (refl, refl)
behind_sides Relation.Le = (refl, refl)
behind_sides Relation.Nl = (refl, refl)

two_zeros : (R : Relation) (k : Four ℕ) → every zero_if_unused (sides R) k ≡ true → k
    ≡ four k.a k.b 0 0
two_zeros R k h =
    let z = every_true zero_if_unused (sides R) k h in
    let u = behind_sides R in
    λ i. four k.a k.b (eqb-true k.c 0 (rw u.0 at z.2) i) (eqb-true k.d 0 (rw u.1 at z.3) i)

-- so a line that passed it, of either letter, is read as its sides alone are
module _ (table : Table) (R : Relation) (k : Four ℕ) where
  assumption : every zero_if_unused (sides R) k ≡ true → literal_line table (sides R) R k
      ≡ literal_line table (sides R) R (four k.a k.b 0 0)
  assumption h = ap (literal_line table (sides R) R) (two_zeros R k h)

  disjunct : every zero_if_unused (clause_fields R) k ≡ true
      → literal_line table (clause_fields R) R k ≡ literal_line table (sides R) R (four k.a k.b 0 0)
  disjunct h = disjunct_as_assumption table R k
      ∙ ap (λ x. literal_line table (sides R) R (four k.a k.b 0 x))
      (eqb-true k.d 0 (every_true zero_if_unused (clause_fields R) k h).3)

  pub sides_alone : (l : Letter) → every zero_if_unused (literal_fields l R) k ≡ true
      → literal_line table (literal_fields l R) R k
      ≡ literal_line table (sides R) R (four k.a k.b 0 0)
  sides_alone Letter.T h = assumption h
  sides_alone Letter.A h = assumption h
  sides_alone Letter.C h = disjunct h
  sides_alone Letter.S h = assumption h

literal_as : Table → terms.Literal → Checked terms.Literal
literal_as table (terms.literal S m n) = literal_line table (sides S) S (four m n 0 0)

module _ (table : Table) (l : Letter) (f : LineFields) where
  -- check 4
  pub read_unknown : lookup_packed relations f.word ≡ None → literal_read table l f
      ≡ refused Reason.UnknownWord
  read_unknown h = rw h

  module _ (R : Relation) (h : lookup_packed relations f.word ≡ Some R) where
    -- check 6
    pub read_unused : every zero_if_unused (literal_fields l R) (numbers_of f) ≡ false
        → literal_read table l f ≡ refused Reason.UnusedField
    unfolding literal_line
    read_unused z = rw (h, z)

    -- checks 8 and 9
    pub read_taken : every zero_if_unused (literal_fields l R) (numbers_of f) ≡ true → (x : Literal)
        → literal_in x ≡ terms.literal R f.a f.b
        → literal_line table (sides x.relation) x.relation (sides_in x) ≡ literal_read table l f
    unfolding literal_as
    read_taken z x e = ap (literal_as table) e ∙ sym (rw h (sides_alone table R (numbers_of f) l z))

-- THE RUN of such a line, which checks 2, 3 and 5 let through: those of its literal, then what its
-- command does with the literal
module _ (table : Table) (C : Clauses) (g : Progress) (f : LineFields) {l : Letter}
    (k : lookup letters (f.letter ∷ []) ≡ Some l) (o : in_order g.letter l ≡ true)
    (opened : g.closed ≡ false)
    (ask : Relation → Command)
    (asked : packed_command l f.word ≡ some_of ask (lookup_packed relations f.word))
    (end : Tree → terms.Literal → Checked State)
    (ends : (τ : Tree) (R : Relation) → run_open (state_at table C τ g) τ (ask R) (numbers_of f)
    ≡ (literal_line table (literal_fields l R) R (numbers_of f) >>= end τ)) where
  pub literal_runs : (τ : Tree) → run_fields (state_at table C τ g) f
      ≡ (literal_read table l f >>= end τ)
  literal_runs τ = go (lookup_packed relations f.word) refl
    where
      go : (m : Option Relation) → lookup_packed relations f.word ≡ m
          → run_fields (state_at table C τ g) f ≡ (literal_read table l f >>= end τ)
      go None h = run_unknown (state_at table C τ g) f k o (asked ∙ ap (some_of ask) h) ∙ sym (rw h)
      go (Some R) h = run_known (state_at table C τ g) f k (ask R) o (asked ∙ ap (some_of ask) h)
          ∙ ap (λ (b : Bool). require_open (status_of b τ) >>= λ τ'. run_open
          (state_at table C τ g) τ' (ask R) (numbers_of f)) opened ∙ ends τ R ∙ sym (rw h)

-- WHAT WAS READ is what the specification reads
pub refused_so : (m : Checked terms.Literal) {r : Reason} → Err r ≡ assumption_of m → m ≡ refused r
refused_so (refused s) h = cc
refused_so (passed y) h = let z : ◌≡◌ {A = ℕ} 0 1 = cc in absurd (omega arith)

not_refused : {B : Type 0} {r : Reason} {code : ℕ} → Ok code ≡ assumption_of (refused r) → B
not_refused h = let z : ◌≡◌ {A = ℕ} 0 1 = cc in absurd (omega arith)

-- a literal that passed is given back by its code
module _ (table : Table) (few : length table ≤ max_terms) {code : ℕ} where
  sides_so : (R : Relation) (m n : ℕ) → Ok code
      ≡ assumption_of (literal_line table (sides R) R (four m n 0 0))
      → literal_line table (sides R) R (four m n 0 0) ≡ passed (unpack_literal code)
  sides_so R m n h = go (literal_line table (sides R) R (four m n 0 0)) refl h
    where
      x : Literal
      x = record { relation = R; left = record { 0 = m }; right = record { 0 = n } }

      go : (c : Checked terms.Literal) → literal_line table (sides R) R (four m n 0 0) ≡ c → Ok code
          ≡ assumption_of c → literal_line table (sides R) R (four m n 0 0)
          ≡ passed (unpack_literal code)
      go (refused r) q h = not_refused h
      go (passed y) q h =
          let p = literal_passed table (sides R) R (four m n 0 0) q in
          let c : code ≡ pack_literal y = cc in
          q ∙ ap passed
          (p.is ∙ sym
          (ap unpack_literal (c ∙ ap pack_literal p.is)
          ∙ literal_unpack_pack (literal_in x) (sides_packable table x few p.terms)))

  pub assumed_so : (l : Letter) (f : LineFields) → Ok code ≡ assumption_of (literal_read table l f)
      → literal_read table l f ≡ passed (unpack_literal code)
  assumed_so l f h = known (lookup_packed relations f.word) refl
    where
      known : (m : Option Relation) → lookup_packed relations f.word ≡ m → literal_read table l f
          ≡ passed (unpack_literal code)
      known None e = not_refused (h ∙ ap assumption_of (read_unknown table l f e))
      known (Some R) e = zeros (dec (every zero_if_unused (literal_fields l R) (numbers_of f)))
        where
          zeros : (every zero_if_unused (literal_fields l R) (numbers_of f) ≡ true) ⊎
              (every zero_if_unused (literal_fields l R) (numbers_of f) ≡ false)
              → literal_read table l f ≡ passed (unpack_literal code)
          zeros (inr z) = not_refused (h ∙ ap assumption_of (read_unused table l f R e z))
          zeros (inl z) =
              let q : literal_read table l f ≡ literal_line table (sides R) R (four f.a f.b 0 0) =
              rw e (sides_alone table R (numbers_of f) l z) in
              q ∙ sides_so R f.a f.b (h ∙ ap assumption_of q)
