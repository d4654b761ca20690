-- What the arrays hold: the specification's table of terms, and the chains by which a term is searched for.
use Rattle.std.specs.Prelude.{◌≡◌, Bool, true, false, cond, List, ℕ, zero, suc, ◌+◌, ◌*◌, ◌/◌, ◌%◌, ◌<◌, ◌≤◌, eqb, length, get_or, Option, None, Some, option_map, IfSome}
use Rattle.tableau.specs.declared.TermNumber.{TermNumber}
use Rattle.tableau.specs.Terms.{TermNo, Table, Term, at, number_of, max_terms}
use Rattle.packing.specs.declared.TermView.{TermView}
use Rattle.packing.specs.Packing.{pack_term, Packable, number, view_of, Small, SmallView}

-- The packed terms, each at its number; a number that no term has holds 0, as `no_term` does.
pub record Entries (table : Table) (terms : List ℕ) : Type 0 where
  pub size : length terms ≡ 1024
  pub few : length table ≤ max_terms
  pub packed : (t : TermNo) → get_or terms t 0 ≡ pack_term (at table t)
  pub packable : (t : TermNo) → Packable (at table t)

-- THE CHAINS: terms whose numbers have one hash. It mixes the low and the high bits of a packed term; nothing but its size is needed of it.
abbrev pub hashes : ℕ
hashes = 1024

abbrev pub mixed : ℕ → ℕ → ℕ → ℕ
mixed low high p = (p % 268435456 * low + p / 268435456 % 268435456 * high) / 33554432 % hashes

unfoldable pub hash_of : ℕ → ℕ
hash_of p = mixed 26004655931 33930833365 p

-- the length of the chains' array: a head for each hash, a link for each number of a term
abbrev pub links : ℕ
links = 1625

-- the last of the terms 1 to m that has the hash h; 0 where there is none
unfoldable pub last_with : List ℕ → ℕ → ℕ → TermNo
last_with terms h zero = 0
last_with terms h (suc m) = cond (eqb (hash_of (get_or terms (suc m) 0)) h) (suc m) (last_with terms h m)

-- a chain begins at the last term with its hash, and goes from each to the one before
pub record Chains (terms chains : List ℕ) (n : ℕ) : Type 0 where
  pub size : length chains ≡ links
  pub begins : (h : ℕ) → h < hashes → get_or chains h 0 ≡ last_with terms h n
  pub goes_on : (t : ℕ) → t < n → get_or chains (hashes + suc t) 0 ≡ last_with terms (hash_of (get_or terms (suc t) 0)) t

pub record Searchable (table : Table) (terms chains : List ℕ) : Type 0 where
  pub entries : Entries table terms
  pub chained : Chains terms chains (length table)
  -- no term stands twice
  pub numbered : (t : TermNo) → 0 < t → t ≤ length table → number_of table (at table t) ≡ Some t

-- Where a search for the number p stands: no term past t is p, and t has p's hash.
pub record Seeking (terms : List ℕ) (n p t : ℕ) : Type 0 where
  pub within : t ≤ n
  pub same : 0 < t → hash_of (get_or terms t 0) ≡ hash_of p
  pub passed : (j : ℕ) → t < j → j ≤ n → get_or terms j 0 ≡ p → ⊥

-- no term from first on, and before last, is p
abbrev pub Absent : List ℕ → ℕ → ℕ → ℕ → Type 0
Absent terms p first last = (j : ℕ) → first ≤ j → j < last → get_or terms j 0 ≡ p → ⊥

-- r says whether one of the four terms from t on is p
abbrev pub AmongFour : List ℕ → ℕ → ℕ → Bool → Type 0
AmongFour terms p t true = Absent terms p t (t + 4) → ⊥
AmongFour terms p t false = Absent terms p t (t + 4)

-- what a search for p among the numbers up to n ends with: a number that has it, or that none has
abbrev pub Sought : List ℕ → ℕ → ℕ → Option TermNumber → Type 0
Sought terms n p (Some t) = (0 < t.0) × (t.0 ≤ n) × (get_or terms t.0 0 ≡ p)
Sought terms n p None = Absent terms p 1 (suc n)

-- THE ANSWER OF A SEARCH for a term
abbrev pub found_of : Option TermNo → Option TermNumber
found_of o = option_map number o

abbrev pub SmallFound : Option TermNumber → Type 0
SmallFound o = IfSome o (λ n. Small n.0)

pub record FoundAs (table : Table) (e : Term) (f : Option TermNumber) : Type 0 where
  pub is : f ≡ found_of (number_of table e)
  pub small : SmallFound f

-- x is the view of term n
pub record ViewAt (table : Table) (n : TermNo) (x : TermView) : Type 0 where
  pub is : view_of (at table n) ≡ x
  pub small : SmallView x
