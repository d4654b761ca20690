-- What an access says of its three terms.
use mathlib.Core.Path.{◌≡◌, refl, ap}
use mathlib.Core.List.{List}
use Rattle.std.specs.Prelude.{Option, None, Some, Result, Ok, Err}
use Prim.Native.Nat.{ℕ}
use Rattle.tableau.specs.declared.Reason.{Reason}
use Rattle.tableau.specs.Terms.{TermNo, Table, number_of}
use Rattle.packing.specs.Packing.{number}
use Rattle.rules.specs.Answer.{SearchableBy}
use Rattle.heap_rules.specs.declared.images.Access.{Access}
use Rattle.heap_rules.specs.Accesses.{Accesses, access_of, typ, dty, rea}

all : {r : Result Access Reason} {a : Access} (m n o : Option TermNo) → r ≡ access_of m n o
    → r ≡ Ok a
    → (m ≡ Some a.class.0) × (n ≡ Some a.owner.0) × (o ≡ Some a.value.0)
all None n o e q = ((cc), (cc), (cc))
all (Some m) None o e q = ((cc), (cc), (cc))
all (Some m) (Some n) None e q = ((cc), (cc), (cc))
all {a = a} (Some m) (Some n) (Some o) e q =
    let p : ◌≡◌ {A = Access} (record { class = number m; owner = number n; value = number o }) a =
    cc in (
      ap (λ (b : Access). Some b.class.0) p,
      ap (λ (b : Access). Some b.owner.0) p,
      ap
          (λ (b : Access). Some b.value.0) p,
    )

first : {X : Type 0} {r : Result Access Reason} {d : Reason} (m n o : Option TermNo)
    → r ≡ access_of m n o → r ≡ Err d
    → (d ≡ Reason.TermNotMade → m ≡ None → X)
    → ((c : TermNo) → d ≡ Reason.TermNotMade → m ≡ Some c → n ≡ None → X)
    → ((c k : TermNo) → d ≡ Reason.TermNotMade → m ≡ Some c → n ≡ Some k → o ≡ None → X) → X
first None n o e q f g h = f (cc) refl
first (Some m) None o e q f g h = g m (cc) refl refl
first (Some m) (Some n) None e q f g h = h m n (cc) refl refl refl
first (Some m) (Some n) (Some o) e q f g h = f (cc) (cc)

module _ {terms chains : List ℕ} {h u f : TermNo} {r : Result Access Reason}
    (A : Accesses terms chains h u f r) {table : Table}
    (s : SearchableBy terms chains table) where
  pub all_made : {a : Access} → r ≡ Ok a
      → (number_of table (typ u) ≡ Some a.class.0) × (number_of table (dty f) ≡ Some a.owner.0) ×
      (number_of table (rea h u f) ≡ Some a.value.0)
  all_made q =
      all (number_of table (typ u)) (number_of table (dty f)) (number_of table (rea h u f))
      (A.is table s) q

  -- by the first that is missing
  pub one_missing : {X : Type 0} {d : Reason} → r ≡ Err d
      → (d ≡ Reason.TermNotMade → number_of table (typ u) ≡ None → X)
      → ((c : TermNo) → d ≡ Reason.TermNotMade → number_of table (typ u) ≡ Some c
      → number_of table (dty f) ≡ None → X)
      → ((c k : TermNo) → d ≡ Reason.TermNotMade → number_of table (typ u) ≡ Some c
      → number_of table (dty f) ≡ Some k → number_of table (rea h u f) ≡ None → X) → X
  one_missing q x y z =
      first (number_of table (typ u)) (number_of table (dty f)) (number_of table (rea h u f))
      (A.is table s) q x y z
