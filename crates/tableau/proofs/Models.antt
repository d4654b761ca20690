-- The meaning is not empty: a finite heap, and values of the variables that make all assumed literals of a file true in it.
use mathlib.Core.Path.{◌≡◌, refl, ap, ◌∙◌}
use mathlib.Core.Bool.{Bool, true, false, cond, not, false≢true}
use mathlib.Core.List.{List, [], ◌∷◌}
use mathlib.Core.Logic.{inl, inr}
use Prim.Native.Nat.{ℕ, zero, suc, ◌<◌}
use lib.Dec.{eqb, lit<}
use native.Mathlib.Fin
use native.Mathlib.Omega.{arith}
use lib.ListN.{length}
use borrow.Author.Tests.{eqb-true, eq-eqb, ne_eqb}
use Rattle.tableau.specs.Terms.{Name, ClauseNo, Clauses, clause_of, at}
use Rattle.tableau.specs.Meaning.{◌and◌, ◌or◌, Below, same, any, FiniteHeap, Ref, Region, region, within, image, as_ref, as_region, operation, Values, value_of, AllTrue, EveryClauseTrue}
use Rattle.tableau.specs.Claims.{terms_in, literals_in, clauses_in, terms_of, assumed_of, clauses_of, Model}
use Rattle.tableau.specs.Cases.{file_of}
use Rattle.tableau.specs.Failings.{incident, stale_witness, names_compared, literals_kept, outside_all, failings, AllHaveModels}
use Rattle.tableau.specs.StartUp.{start_up, allocation_unsaid, StartUpModel, StartUpModels}
use Rattle.tableau.specs.Disjunctions.{no_jog, witness_in_clause, gap_in_numbers, ClauseModels}
use Rattle.tableau.specs.InsideImage.{region_inside_image, image_inside_region, ImageInsideRegionModel}
use Rattle.tableau.proofs.Evaluate.{evaluate}
use Rattle.tableau.proofs.Bools.{and_i}
use Rattle.tableau.proofs.Values.{region_path, union_with_part}

-- Two references.
abbrev nul : Below 2
nul = (0, lit< tt)

abbrev one : Below 2
one = (1, lit< tt)

-- A FINITE HEAP of these, in which those are allocated that pass the test. It has one field and two classes, and each class is `le` itself
-- alone. `typ` of `one` is the class 0, as is `dty` of the field; `typ` of `nul` is the class 1.
abbrev two_references : (test : Below 2 → Bool) → test nul ≡ false → FiniteHeap
two_references test not_nul = record {
  references = 2;
  fields = 1;
  classes = 2;
  nul = nul;
  a_field = (0, lit< tt);
  a_class = (0, lit< tt);
  le = same;
  le_refl = λ c. eq-eqb c.0 c.0 refl;
  le_trans = λ b c d p q. eq-eqb b.0 d.0 (eqb-true b.0 c.0 p ∙ eqb-true c.0 d.0 q);
  le_anti = λ b c p q. Fin.val_path {i = b} {j = c} (eqb-true b.0 c.0 p);
  all = test;
  all_nul = not_nul;
  typ = λ x. cond (eqb x.0 1) (0, lit< tt) (1, lit< tt);
  dty = λ f. (0, lit< tt);
}

abbrev one_allocated : FiniteHeap
one_allocated = two_references (same one) refl

abbrev nothing_allocated : FiniteHeap
nothing_allocated = two_references (λ x. false) refl

-- VALUES of the variables: `rfv` a is the reference u and any other `rfv` is `nul`; `rgv` e is the empty region and any other `rgv` is
-- `all`; each heap value gives x everywhere. (No variable has the name 0.)
abbrev values_with : (H : FiniteHeap) → Name → Ref H → Name → Ref H → Values H
values_with H a u e x = record {
  rfv = λ n. cond (eqb n a) u H.nul;
  rgv = λ n. within H (λ y. not (eqb n e));
  arv = λ n y f. x;
  fnv = λ n. H.a_field;
  clv = λ n. H.a_class;
}

-- they make all assumed literals of a file true, and one of every clause; to unfold this is to unfold all that it is computed from
unfoldable AssumedTrue : (H : FiniteHeap) → Name → Ref H → Name → Ref H → List ℕ → Type 0
unfolding evaluate terms_in literals_in clauses_in operation value_of any ◌and◌ ◌or◌
AssumedTrue H a u e x file = AllTrue (values_with H a u e x) (at (terms_of file)) (assumed_of file) × EveryClauseTrue (values_with H a u e x) (at (terms_of file)) (clauses_of file)

model_in : (H : FiniteHeap) {file : List ℕ} (a : Name) (u : Ref H) (e : Name) (x : Ref H) → AssumedTrue H a u e x file → Model file
unfolding AssumedTrue
model_in H a u e x h = record { finite_heap = H; values = values_with H a u e x; all_true = h.0; every_clause_true = h.1 }

-- a file with no C line
no_clause : {A : Type 0} → ℕ → 0 < 0 → A
no_clause k n = absurd (omega arith)

-- where `rfv` a is the allocated reference
abbrev model : {file : List ℕ} (a e : Name) (x : Ref one_allocated) → AssumedTrue one_allocated a one e x file → Model file
model a e x h = model_in one_allocated a one e x h

-- the last-jog record is `nul`, and so in no region
pub incident_model : Model (file_of incident)
unfolding AssumedTrue incident
incident_model = model 1 0 nul ((refl, (refl, (refl, tt))), no_clause)

-- u is what its field holds, and w is `nul`
stale_witness_model : Model (file_of stale_witness)
unfolding AssumedTrue stale_witness
stale_witness_model = model 1 0 one ((refl, (refl, tt)), no_clause)

-- both regions are `all`, and one of the two references is `nul`
names_compared_model : Model (file_of names_compared)
unfolding AssumedTrue names_compared
names_compared_model = model 3 0 nul ((refl, ((λ p. omega (arith, ap (λ v. (as_ref v).0) p)), tt)), no_clause)

-- u is in the second region alone
literals_kept_model : Model (file_of literals_kept)
unfolding AssumedTrue literals_kept
literals_kept_model = model 1 1 nul ((refl, (refl, tt)), no_clause)

-- u is `nul`
outside_all_model : Model (file_of outside_all)
unfolding AssumedTrue outside_all
outside_all_model = model 0 0 nul ((refl, tt), no_clause)

-- THE FILES OF THE OLD CHECKER'S FAILINGS, in their order
pub failings_have_models : AllHaveModels failings
unfolding AllHaveModels failings
failings_have_models = (incident_model, (stale_witness_model, (names_compared_model, (literals_kept_model, (outside_all_model, tt)))))

-- the file of no bytes: "where a file assumes nothing, all that it assumes counts as true"
pub nothing_assumed : Model []
unfolding AssumedTrue
nothing_assumed = model 0 0 nul (tt, no_clause)

-- BEFORE THE FIRST ALLOCATION there is one region
one_region : (f g : Below 2 → Bool) → region (within nothing_allocated f) ≡ region (within nothing_allocated g)
unfolding ◌and◌
one_region f g = ap region (region_path (within nothing_allocated f) (within nothing_allocated g) (λ x. refl))

start_up_model : {file : List ℕ} → AssumedTrue nothing_allocated 0 nul 0 nul file → StartUpModel file
unfolding model_in
start_up_model h = record { model = model_in nothing_allocated 0 nul 0 nul h; none_allocated = λ x. refl }

pub start_up_models : StartUpModels
unfolding AssumedTrue start_up allocation_unsaid
start_up_models = (start_up_model ((one_region _ _, tt), no_clause), start_up_model ((refl, (one_region _ _, (one_region _ _, tt))), no_clause))

-- FILES WITH CLAUSES
-- a number that no literal has
abbrev NoneWith : ClauseNo → Clauses → Type 0
NoneWith k [] = Unit {0}
NoneWith k (d ∷ C) = (d.clause ≡ k → ⊥) × NoneWith k C

none_with : {A : Type 0} (k : ClauseNo) (C : Clauses) → NoneWith k C → 0 < length (clause_of C k) → A
unfolding clause_of
none_with k [] h n = absurd (omega arith)
none_with k (d ∷ C) h n = none_with k C h.1 (rw (ne_eqb d.clause k h.0) at n)

-- u is in the second region alone
no_jog_model : Model (file_of no_jog)
unfolding AssumedTrue no_jog
no_jog_model = model 1 1 nul ((refl, tt), go)
  where
    go : EveryClauseTrue (values_with one_allocated 1 one 1 nul) (at (terms_of (file_of no_jog))) (clauses_of (file_of no_jog))
    go zero n = absurd (omega arith)
    go (suc zero) n = inr (inl refl)
    go (suc (suc k)) n = none_with (suc (suc k)) (clauses_of (file_of no_jog)) ((λ e. omega arith), ((λ e. omega arith), tt)) n

-- w is `nul`, and the first region is empty
witness_in_clause_model : Model (file_of witness_in_clause)
unfolding AssumedTrue witness_in_clause
witness_in_clause_model = model 0 1 nul (((λ p. false≢true (ap (λ v. (as_region v).has one) p)), tt), go)
  where
    go : EveryClauseTrue (values_with one_allocated 0 one 1 nul) (at (terms_of (file_of witness_in_clause))) (clauses_of (file_of witness_in_clause))
    go zero n = absurd (omega arith)
    go (suc zero) n = inl refl
    go (suc (suc zero)) n = inl refl
    go (suc (suc (suc k))) n = none_with (suc (suc (suc k))) (clauses_of (file_of witness_in_clause)) ((λ e. omega arith), ((λ e. omega arith), tt)) n

-- u is in the region
gap_in_numbers_model : Model (file_of gap_in_numbers)
unfolding AssumedTrue gap_in_numbers
gap_in_numbers_model = model 1 0 nul (tt, go)
  where
    go : EveryClauseTrue (values_with one_allocated 1 one 0 nul) (at (terms_of (file_of gap_in_numbers))) (clauses_of (file_of gap_in_numbers))
    go zero n = absurd (omega arith)
    go (suc zero) n = absurd (omega arith)
    go (suc (suc zero)) n = inl refl
    go (suc (suc (suc k))) n = none_with (suc (suc (suc k))) (clauses_of (file_of gap_in_numbers)) ((λ e. omega arith), tt) n

pub clause_models : ClauseModels
clause_models = (no_jog_model, witness_in_clause_model, gap_in_numbers_model)

-- THE IMAGE INSIDE THE REGION: u is in the region, whose image is empty
pub image_inside_region_model : ImageInsideRegionModel
unfolding AssumedTrue region_inside_image image_inside_region
image_inside_region_model = model 1 0 nul ((ap region adds_nothing_lem, (refl, (refl, tt))), no_clause)
  where
    everything : Region one_allocated
    everything = within one_allocated (λ y. true)

    its_image : Region one_allocated
    its_image = within one_allocated (image one_allocated (λ y f. nul) everything one_allocated.a_field)

    adds_nothing_lem : within one_allocated (λ x. its_image.has x or everything.has x) ≡ everything
    adds_nothing_lem = union_with_part its_image everything (λ x h. and_i {a = one_allocated.all x} (its_image.inside x h) refl)
