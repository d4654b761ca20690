-- What a step makes of a tree, worked out from the codes of its branch and the packed alternatives
-- that wait.
use Rattle.std.specs.Prelude.{◌≡◌, Option, Some, None, Result, Ok, Err, IfOk, IfSome, List, [], ◌∷◌, ◌++◌, map, ℕ, ◌+◌, ◌≤◌, ◌<◌, length, take, reverse, if◌then◌else◌, nat_lt, ⊤}
use Rattle.std.specs.Prelude.{get_or}
use Rattle.tableau.specs.declared.Reason.{Reason}
use Rattle.tableau.specs.Terms.{Literal}
use Rattle.tableau.specs.Tree as specification
use Rattle.tableau.specs.Tree.{Checked, refused, passed, Status, is_open, is_closed, close, grown}
use Rattle.tableau.specs.Tree.{max_places, max_waiting}
use Rattle.tableau.specs.Reply.{max_clause_lines}
use Rattle.packing.specs.Packing.{code_limit}
use Rattle.clauses.specs.Held.{codes_at}
use Rattle.tree.specs.declared.Alternative.{Alternative}
use Rattle.tree.specs.declared.Begun.{Begun}
use Rattle.tree.specs.declared.Change.{Change}
use Rattle.tree.specs.declared.Tree.{Tree}
use Rattle.tree.specs.State.{codes_of, AtMost, packed_one, AreCodes, HasRoom, AreWaiting, tree_in}
use Rattle.tree.specs.State.{codes_in, waiting_in, Within}

-- WHAT BEGINS TO WAIT where the branch has so many literals: packed alternatives, the one that is
-- taken first in front. Literals stand in an array.
abbrev pub begun_of : List ℕ → ℕ → Begun → List ℕ
begun_of words cut Begun.Nothing = []
begun_of words cut (Begun.One w) = w ∷ []
begun_of words cut (Begun.Two v w) = v ∷ w ∷ []
begun_of words cut (Begun.Each s) = map (packed_one cut) (codes_at words s.from s.count)

abbrev pub begun_count : Begun → ℕ
begun_count Begun.Nothing = 0
begun_count (Begun.One w) = 1
begun_count (Begun.Two v w) = 2
begun_count (Begun.Each s) = s.count

-- the branch has room for each of them
abbrev pub MayBegin : ℕ → Begun → Type 0
MayBegin cut Begun.Nothing = ⊤
MayBegin cut (Begun.One w) = HasRoom w
MayBegin cut (Begun.Two v w) = HasRoom v × HasRoom w
MayBegin cut (Begun.Each s) = (s.from + s.count ≤ max_clause_lines) × (cut < max_places)

-- where a span of the array begins to wait, its literals are codes; else it may hold anything
abbrev pub ReadsCodes : Begun → List ℕ → Type 0
ReadsCodes Begun.Nothing words = ⊤
ReadsCodes (Begun.One w) words = ⊤
ReadsCodes (Begun.Two v w) words = ⊤
ReadsCodes (Begun.Each s) words = (i : ℕ) → get_or words i 0 < code_limit

-- A CHANGE: the tree that it makes of a tree, and what is so of one that the arrays have room for.
abbrev pub codes_after : List ℕ → Change → List ℕ
codes_after B c = take c.cut B ++ codes_of c.adds

abbrev pub waiting_after : List ℕ → List ℕ → Change → List ℕ
waiting_after words W c = take c.kept W ++ reverse (begun_of words c.cut c.begun)

abbrev pub changed : (ℕ → Literal) → List ℕ → List ℕ → List ℕ → Change → specification.Tree
changed f words B W c = tree_in f (codes_after B c) (waiting_after words W c)

pub record Fits (B W : List ℕ) (c : Change) : Type 0 where
  pub cut : c.cut ≤ length B
  pub adds : AtMost 3 c.adds
  pub places : c.cut + c.adds.count ≤ max_places
  pub kept : c.kept ≤ length W
  pub waiting : c.kept + begun_count c.begun ≤ max_waiting
  pub begun : MayBegin c.cut c.begun

-- the change that adds an alternative, and keeps all that waits
abbrev pub split_into : List ℕ → List ℕ → Alternative → Begun → Change
split_into B W a b = record { cut = length B; adds = a; kept = length W; begun = b }

abbrev pub no_literals : Alternative
no_literals = record { count = 0; first = 0; second = 0; third = 0 }

-- what is stored for a change
pub record Stored (words : List ℕ) (t : Tree) (c : Change) (t' : Tree) : Type 0 where
  pub within : Within t'
  pub branch : codes_in t' ≡ codes_after (codes_in t) c
  pub waiting : waiting_in t' ≡ waiting_after words (waiting_in t) c

-- CHECKS 15 AND 16, by the length of the longest alternative and the number of those that begin to
-- wait
abbrev pub room_for : List ℕ → List ℕ → ℕ → ℕ → Result (Unit {0}) Reason
room_for B W literals begun =
    if nat_lt max_places (length B + literals) then Err Reason.BranchFull
    else (if nat_lt max_waiting (length W + begun) then Err Reason.WaitingFull else Ok tt)

-- A STEP: for every reading of the codes, its change or refusal is what the specification says of
-- its alternatives. Literals that begin to wait stand in an array.
abbrev pub opened : (ℕ → Literal) → List ℕ → List ℕ → List ℕ → Result Change Reason → Checked Status
opened f words B W (Ok c) = passed (is_open (changed f words B W c))
opened f words B W (Err r) = refused r

pub record SplitsAt (words B W : List ℕ) (ks : List (List ℕ))
    (r : Result Change Reason) : Type 0 where
  pub fits : IfOk r (Fits B W)
  pub result : (f : ℕ → Literal) → opened f words B W r ≡ grown (tree_in f B W) (map (map f) ks)

abbrev pub Splits : List ℕ → List ℕ → List (List ℕ) → Result Change Reason → Type 0
Splits B W ks r = (words : List ℕ) → SplitsAt words B W ks r

-- alternatives of one literal each
abbrev pub each_alone : {A : Type 0} → List A → List (List A)
each_alone = map (λ l. l ∷ [])

-- A CLOSING: its change, or that the tree is closed
abbrev pub status_after : (ℕ → Literal) → List ℕ → List ℕ → List ℕ → Option Change → Status
status_after f words B W (Some c) = is_open (changed f words B W c)
status_after f words B W None = is_closed

pub record Closes (B W : List ℕ) (o : Option Change) : Type 0 where
  pub fits : AreCodes B → AreWaiting W → IfSome o (Fits B W)
  pub result : (f : ℕ → Literal) (words : List ℕ) → status_after f words B W o
      ≡ close (tree_in f B W).branch (tree_in f B W).waiting
