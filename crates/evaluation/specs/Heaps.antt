-- The finite heap and the values of the variables that D lines say.
use Rattle.std.specs.Prelude.{◌≡◌, refl, Bool, true, false, not, ℕ, suc, ◌-◌, min, ◌<◌, eqb}
use Rattle.std.proofs.Common.{ap, arith, eq-eqb}
use Rattle.std.proofs.Math.Nat.{min-le_right, zero-min}
use Rattle.tableau.specs.Basics.{four}
use Rattle.tableau.specs.Terms.{Name}
use Rattle.tableau.specs.Meaning.{◌and◌, ◌or◌, Below, same, and_left, FiniteHeap, Ref, Field, Class, within, Values}
use Rattle.evaluation.specs.declared.FactWord.{FactWord}
use Rattle.evaluation.specs.Orders.{is_transitive, is_antisymmetric, and_right, transitive, antisymmetric}
use Rattle.evaluation.specs.Facts.{Facts, sizes, said, given}

-- Check 19 keeps a size at least 1, and a number below its size. `count` and `element` say no more than that: of lines that passed, nothing is cut off (`AsSaid`).
abbrev pub count : ℕ → ℕ
count n = suc (n - 1)

pub below_count : (n i : ℕ) → min i (n - 1) < count n
below_count n i = omega (arith, min-le_right i (n - 1))

abbrev pub element : (n : ℕ) → ℕ → Below (count n)
element n i = (min i (n - 1), below_count n i)

module _ (facts : Facts) where
  abbrev pub SaidRef : Type 0
  SaidRef = Below (count (sizes facts).a)

  abbrev pub SaidClass : Type 0
  SaidClass = Below (count (sizes facts).c)

  -- `sub` lower, upper; "a class is always under itself"
  unfoldable pub is_under : SaidClass → SaidClass → Bool
  is_under b c = same b c or said facts FactWord.Sub (four b.0 c.0 0 0)

  -- check 20: "an order that isn't transitive and antisymmetric"
  unfoldable pub is_order : Bool
  is_order = is_transitive is_under and is_antisymmetric is_under

  -- `alc` reference, "reference 0 being `nul`", which is not allocated
  unfoldable pub is_allocated : SaidRef → Bool
  is_allocated x = not (eqb x.0 0) and said facts FactWord.Alc (four x.0 0 0 0)

pub under_itself : (facts : Facts) (c : SaidClass facts) → is_under facts c c ≡ true
unfolding is_under ◌or◌
under_itself facts c = ap (λ b. b or said facts FactWord.Sub (four c.0 c.0 0 0)) (eq-eqb c.0 c.0 refl)

pub nul_unallocated : (facts : Facts) → is_allocated facts (element (sizes facts).a 0) ≡ false
unfolding is_allocated ◌and◌
nul_unallocated facts = rw (zero-min ((sizes facts).a - 1))

-- THE FINITE HEAP: `typ` reference, class; `dty` field, class
unfoldable pub heap_of : (facts : Facts) → is_order facts ≡ true → FiniteHeap
unfolding is_order
heap_of facts ordered = record {
  references = count (sizes facts).a;
  fields = count (sizes facts).b;
  classes = count (sizes facts).c;
  nul = element (sizes facts).a 0;
  a_field = element (sizes facts).b 0;
  a_class = element (sizes facts).c 0;
  le = is_under facts;
  le_refl = under_itself facts;
  le_trans = transitive (is_under facts) (and_left (is_transitive (is_under facts)) _ ordered);
  le_anti = antisymmetric (is_under facts) (and_right (is_transitive (is_under facts)) _ ordered);
  all = is_allocated facts;
  all_nul = nul_unallocated facts;
  typ = λ x. element (sizes facts).c (given facts FactWord.Typ (four x.0 0 0 0)).b;
  dty = λ f. element (sizes facts).c (given facts FactWord.Dty (four f.0 0 0 0)).b;
}

-- THE VALUES: `rfv`, `fnv`, `clv` name, value; `rgv` name, member; `arv` name, reference, field, value. "What isn't said is 0 or absent"
unfoldable pub values_of : (facts : Facts) (ordered : is_order facts ≡ true) → Values (heap_of facts ordered)
unfolding heap_of
values_of facts ordered = record {
  rfv = λ n. element (sizes facts).a (given facts FactWord.Rfv (four n 0 0 0)).b;
  rgv = λ n. within (heap_of facts ordered) (λ x. said facts FactWord.Rgv (four n x.0 0 0));
  arv = λ n x f. element (sizes facts).a (given facts FactWord.Arv (four n x.0 f.0 0)).d;
  fnv = λ n. element (sizes facts).b (given facts FactWord.Fnv (four n 0 0 0)).b;
  clv = λ n. element (sizes facts).c (given facts FactWord.Clv (four n 0 0 0)).b;
}

-- A HEAP AND VALUES AS THE LINES SAY THEM, nothing cut off
pub record AsSaid (facts : Facts) (H : FiniteHeap) (ρ : Values H) : Type 0 where
  pub references : H.references ≡ (sizes facts).a
  pub fields : H.fields ≡ (sizes facts).b
  pub classes : H.classes ≡ (sizes facts).c
  pub nul : H.nul.0 ≡ 0
  pub all : (x : Ref H) → H.all x ≡ said facts FactWord.Alc (four x.0 0 0 0)
  pub le : (b c : Class H) → H.le b c ≡ (same b c or said facts FactWord.Sub (four b.0 c.0 0 0))
  pub typ : (x : Ref H) → (H.typ x).0 ≡ (given facts FactWord.Typ (four x.0 0 0 0)).b
  pub dty : (f : Field H) → (H.dty f).0 ≡ (given facts FactWord.Dty (four f.0 0 0 0)).b
  pub rfv : (n : Name) → (ρ.rfv n).0 ≡ (given facts FactWord.Rfv (four n 0 0 0)).b
  pub rgv : (n : Name) (x : Ref H) → (ρ.rgv n).has x ≡ said facts FactWord.Rgv (four n x.0 0 0)
  pub arv : (n : Name) (x : Ref H) (f : Field H) → (ρ.arv n x f).0 ≡ (given facts FactWord.Arv (four n x.0 f.0 0)).d
  pub fnv : (n : Name) → (ρ.fnv n).0 ≡ (given facts FactWord.Fnv (four n 0 0 0)).b
  pub clv : (n : Name) → (ρ.clv n).0 ≡ (given facts FactWord.Clv (four n 0 0 0)).b
