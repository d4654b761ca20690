-- The tree: the branch, the alternatives that wait, splits and closings, and the checks 11 to 16 of a step.
use Rattle.std.specs.Prelude.{Bool, true, false, ◌&&◌, List, [], ◌∷◌, ◌++◌, map, ℕ, zero, suc, ◌+◌, leb, length, take, Option, None, Some, slice_get}
use Rattle.tableau.specs.declared.Freshness.{Freshness}
use Rattle.tableau.specs.declared.Reason.{Reason}
use Rattle.tableau.specs.declared.Rule.{Rule}
use Rattle.tableau.specs.Basics.{Four, every}
use Rattle.tableau.specs.Fields.{Use, unused, place, name, side, clause, term, of, rule_uses}
use Rattle.tableau.specs.Terms.{Place, ClauseNo, Table, Literal, Clauses, clause_of}
use Rattle.tableau.specs.Rules.{rule}
use Rattle.tableau.specs.Steps.{freshness, conclude}
use Rattle.tableau.specs.Saturation.{contradicted}

-- The answer of a check: a reason to refuse, or what follows.
pub data Checked (A : Type 0) : Type 0 where
  refused : Reason → Checked A
  passed : A → Checked A

infixl 1 ◌>>=◌ ◌>>◌
abbrev pub ◌>>=◌ : {A B : Type 0} → Checked A → (A → Checked B) → Checked B
refused r >>= k = refused r
passed x >>= k = k x

abbrev pub ◌>>◌ : {B : Type 0} → Checked (Unit {0}) → Checked B → Checked B
refused r >> m = refused r
passed x >> m = m

abbrev pub require : Bool → Reason → Checked (Unit {0})
require true r = passed tt
require false r = refused r

abbrev pub require_some : {A : Type 0} → Option A → Reason → Checked A
require_some None r = refused r
require_some (Some x) r = passed x

-- "A branch starts with no literals and has room for 1,000."
abbrev pub max_places : ℕ
max_places = 1000

-- "The rest wait, at most 200 alternatives over all."
abbrev pub max_waiting : ℕ
max_waiting = 200

-- An alternative that waits, with the length of the branch at its split.
pub record Waiting : Type 0 where
  pub length : ℕ
  pub alternative : List Literal

-- what waits, the next to be taken first
pub record Tree : Type 0 where
  pub branch : List Literal
  pub waiting : List Waiting

pub data Status : Type 0 where
  is_open : Tree → Status
  is_closed : Status

abbrev pub root : Tree
root = record { branch = []; waiting = [] }

-- the literal at a place, counted from 1
abbrev pub literal_at : List Literal → Place → Option Literal
literal_at B zero = None
literal_at B (suc n) = slice_get B n

-- check 11: "a place used is not on the branch", "a `cla` on no clause"
abbrev pub on_branch : List Literal → Place → Bool
on_branch B n = leb 1 n && leb n (length B)

abbrev pub is_clause : Clauses → ClauseNo → Bool
is_clause C k = leb 1 (length (clause_of C k))

abbrev pub is_there : Clauses → List Literal → Use → ℕ → Bool
is_there C B unused n = true
is_there C B place n = on_branch B n
is_there C B name n = true
is_there C B side n = true
is_there C B clause n = is_clause C n
is_there C B term n = true
is_there C B (of s) n = true

-- check 15: "any alternative would pass 1,000 places"
unfoldable pub room_on_branch : ℕ → List (List Literal) → Bool
room_on_branch n [] = true
room_on_branch n (k ∷ ks) = leb (n + length k) max_places && room_on_branch n ks

-- check 16: "over 200 alternatives would wait"; the first alternative of a split does not
unfoldable pub room_to_wait : ℕ → List (List Literal) → Bool
room_to_wait n [] = true
room_to_wait n (k ∷ ks) = leb (length ks + n) max_waiting

-- "A closing takes the alternative that began waiting last, the leftmost first within one split: the branch is cut back to its length
-- at that split and that alternative is added. When none waits, the tree is closed."
unfoldable pub close : List Literal → List Waiting → Status
close B [] = is_closed
close B (x ∷ ws) = is_open (record { branch = take x.length B ++ x.alternative; waiting = ws })

-- "A split continues with its first alternative; the rest wait." With no alternative the rule closes.
unfoldable pub grow : Tree → List (List Literal) → Status
grow τ [] = close τ.branch τ.waiting
grow τ (k ∷ ks) = is_open (record {
  branch = τ.branch ++ k;
  waiting = map (λ m. record { length = length τ.branch; alternative = m }) ks ++ τ.waiting;
})

-- check 13: "w not fresh", where the rule asks for a fresh w
abbrev pub require_fresh : Bool → Freshness → Checked (Unit {0})
require_fresh false f = passed tt
require_fresh true Freshness.Fresh = passed tt
require_fresh true (Freshness.NotFresh p) = refused (Reason.NotFresh p)

-- The alternatives that rule x adds, where P and Q are the literals at places p and q, D those of clause t, E says whether the branch's equalities and order contradict it, and f
-- whether w is fresh: checks 12 to 14, a line for each, in the order of their numbers.
unfoldable pub answer : Table → Freshness → Option Literal → Option Literal → List Literal → Bool → ℕ → ℕ → Rule → Checked (List (List Literal))
answer table f P Q D E t w x = do
  c ← require_some (conclude table P Q t w D E (rule x)) Reason.NeedNotMet
  require_fresh c.fresh f
  require_some c.adds Reason.TermNotMade

-- The same on a branch: check 11, then those above.
unfoldable pub alternatives : Table → Clauses → List Literal → Rule → Four ℕ → Checked (List (List Literal))
alternatives table C B x n = do
  require (every (is_there C B) (rule_uses x) n) Reason.NoSuchPlace
  answer table (freshness table C B n.d) (literal_at B n.a) (literal_at B n.b) (clause_of C n.c) (contradicted table B) n.c n.d x

-- What they make of an open tree: checks 15 and 16.
unfoldable pub grown : Tree → List (List Literal) → Checked Status
grown τ ks = do
  require (room_on_branch (length τ.branch) ks) Reason.BranchFull
  require (room_to_wait (length τ.waiting) ks) Reason.WaitingFull
  passed (grow τ ks)
