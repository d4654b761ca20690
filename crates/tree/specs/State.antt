-- What the arrays of the tree state hold. A literal is a number here, its code; the definitions are
-- for any reading f of the codes.
use Rattle.std.specs.Prelude.{◌≡◌, Bool, List, [], ◌∷◌, map, ℕ, ◌+◌, ◌*◌, ◌/◌, ◌%◌, ◌^◌, ◌≤◌, ◌<◌, length, take, reverse, get_or, All, Some}
use Rattle.tableau.specs.Terms.{Literal}
use Rattle.tableau.specs.Tree as specification
use Rattle.tableau.specs.Tree.{literal_at, on_branch, max_places, max_waiting, Waiting}
use Rattle.packing.specs.Packing.{code_limit, unpack_literal}
use Rattle.tree.specs.declared.Alternative.{Alternative}
use Rattle.tree.specs.declared.Tree.{Tree}

-- ALTERNATIVES: the codes that one adds, in order.
abbrev pub codes_of : Alternative → List ℕ
codes_of a = take a.count (a.first ∷ a.second ∷ a.third ∷ [])

-- at most n codes
pub record AtMost (n : ℕ) (a : Alternative) : Type 0 where
  pub count : a.count ≤ n
  pub first : a.first < code_limit
  pub second : a.second < code_limit
  pub third : a.third < code_limit

-- one code
abbrev pub one_code : ℕ → Alternative
one_code code = record { count = 1; first = code; second = 0; third = 0 }

-- An alternative that waits is one number: the length of the branch at its split (10 bits), its
-- count (2 bits), two codes.
abbrev pub packed : ℕ → Alternative → ℕ
packed cut a = cut + 2 ^ 10 * (a.count + 2 ^ 2 * (a.first + 2 ^ 23 * a.second))

abbrev pub packed_one : ℕ → ℕ → ℕ
packed_one cut code = packed cut (one_code code)

abbrev pub cut_of : ℕ → ℕ
cut_of w = w % 2 ^ 10

abbrev pub unpacked : ℕ → Alternative
unpacked w = record {
  count = w / 2 ^ 10 % 2 ^ 2;
  first = w / 2 ^ 10 / 2 ^ 2 % 2 ^ 23;
  second = w / 2 ^ 10 / 2 ^ 2 / 2 ^ 23 % 2 ^ 23;
  third = 0;
}

-- THE BRANCH: an array whose first n numbers are its codes.
pub record IsBranch (array : List ℕ) (n : ℕ) : Type 0 where
  pub size : length array ≡ max_places
  pub room : n ≤ max_places
  pub bounded : (k : ℕ) → get_or array k 0 < code_limit

-- the codes of a branch alone
pub record AreCodes (codes : List ℕ) : Type 0 where
  pub room : length codes ≤ max_places
  pub bounded : (k : ℕ) → get_or codes k 0 < code_limit

-- the branch that the first n codes of an array stand for
abbrev pub branch_of : List ℕ → ℕ → List Literal
branch_of array n = map unpack_literal (take n array)

-- r is what check 11 says of place p, on every branch of n literals
abbrev pub HasPlace : ℕ → ℕ → Bool → Type 0
HasPlace n p r = (B : List Literal) → length B ≡ n → r ≡ on_branch B p

-- r is the code at place p
pub record IsAt (codes : List ℕ) (p r : ℕ) : Type 0 where
  pub bounded : r < code_limit
  pub literal : (f : ℕ → Literal) → literal_at (map f codes) p ≡ Some (f r)

-- WHAT WAITS: packed alternatives, each of which the branch has room for. The last is taken next.
abbrev pub HasRoom : ℕ → Type 0
HasRoom w = cut_of w + (unpacked w).count ≤ max_places

pub record AreWaiting (waiting : List ℕ) : Type 0 where
  pub room : length waiting ≤ max_waiting
  pub places : All HasRoom waiting

-- the arrays have room for so many codes and packed alternatives
pub record InLimits (B W : List ℕ) : Type 0 where
  pub branch : length B ≤ max_places
  pub waiting : length W ≤ max_waiting

abbrev pub waiting_of : (ℕ → Literal) → ℕ → Waiting
waiting_of f w = record { length = cut_of w; alternative = map f (codes_of (unpacked w)) }

-- THE TREE that codes and packed alternatives stand for
abbrev pub tree_in : (ℕ → Literal) → List ℕ → List ℕ → specification.Tree
tree_in f branch waiting =
    record { branch = map f branch; waiting = map (waiting_of f) (reverse waiting) }

-- and a state, and what is always so of one
abbrev pub codes_in : Tree → List ℕ
codes_in t = take t.len t.branch

abbrev pub waiting_in : Tree → List ℕ
waiting_in t = take t.count t.waiting

abbrev pub tree_of : (ℕ → Literal) → Tree → specification.Tree
tree_of f t = tree_in f (codes_in t) (waiting_in t)

pub record Within (t : Tree) : Type 0 where
  pub len : t.len ≤ max_places
  pub count : t.count ≤ max_waiting
  pub branch : AreCodes (codes_in t)
  pub waiting : AreWaiting (waiting_in t)
  -- what lies behind them in the arrays is of the same kind
  pub cells : (k : ℕ) → get_or t.branch k 0 < code_limit
  pub stack : (k : ℕ) → HasRoom (get_or t.waiting k 0)
