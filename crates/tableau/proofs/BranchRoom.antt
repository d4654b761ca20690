-- No branch of a tree that a file reaches has more than 1,000 places, nor will have when an alternative that waits is taken.
use mathlib.Core.Path.{◌≡◌, subst}
use mathlib.Core.Bool.{true}
use mathlib.Core.List.{List, [], ◌∷◌, ◌++◌, map}
use Prim.Native.Nat.{ℕ, ◌+◌, ◌≤◌}
use native.Mathlib.Omega.{arith}
use lib.Dec.{leb}
use lib.ListN.{length, take, length-append, length-take}
use borrow.Author.Tests.{leb-true}
use Rattle.tableau.specs.Words.{Command, make, assume, disjoin, infer}
use Rattle.tableau.specs.Terms.{Literal, literal}
use Rattle.tableau.specs.Tree.{passed, Waiting, Tree, Status, is_open, is_closed, max_places, room_on_branch, room_to_wait, close, grow, grown}
use Rattle.tableau.specs.Reply.{State, run_line}
use Rattle.tableau.specs.Claims.{after}
use Rattle.tableau.proofs.Bools.{both_true}
use Rattle.tableau.proofs.Checks.{passed_injective, bind_passed, require_passed, Did, LinePassed, line_passed}

-- each alternative that waits, added to the branch cut back to its length
abbrev AllRoom : List Waiting → Type 0
AllRoom [] = Unit {0}
AllRoom (x ∷ ws) = (x.length + length x.alternative ≤ max_places) × AllRoom ws

-- the branch, and what waits
abbrev pub Room : Status → Type 0
Room (is_open τ) = (length τ.branch ≤ max_places) × AllRoom τ.waiting
Room is_closed = Unit {0}

-- A STEP, by check 15: the alternatives that begin to wait, a closing, a split
wait_room : (n : ℕ) (ks : List (List Literal)) (ws : List Waiting) → room_on_branch n ks ≡ true → AllRoom ws → AllRoom (map (λ m. record { length = n; alternative = m }) ks ++ ws)
unfolding room_on_branch
wait_room n [] ws h r = r
wait_room n (k ∷ ks) ws h r = let t = both_true (leb (n + length k) max_places) _ h in (leb-true (n + length k) max_places t.0, wait_room n ks ws t.1 r)

close_room : (B : List Literal) (ws : List Waiting) → AllRoom ws → Room (close B ws)
unfolding close
close_room B [] r = tt
close_room B (x ∷ ws) r = (omega (arith, length-append (take x.length B) x.alternative, length-take x.length B, r.0), r.1)

grow_room : (τ : Tree) (ks : List (List Literal)) → room_on_branch (length τ.branch) ks ≡ true → AllRoom τ.waiting → Room (grow τ ks)
unfolding grow room_on_branch
grow_room τ [] h r = close_room τ.branch τ.waiting r
grow_room τ (k ∷ ks) h r =
    let t = both_true (leb (length τ.branch + length k) max_places) _ h in
    (omega (arith, length-append τ.branch k, leb-true (length τ.branch + length k) max_places t.0), wait_room (length τ.branch) ks τ.waiting t.1 r)

grown_room : {s : Status} (τ : Tree) (ks : List (List Literal)) → grown τ ks ≡ passed s → AllRoom τ.waiting → Room s
unfolding grown
grown_room τ ks g r =
    let e₁₅ = require_passed (room_on_branch (length τ.branch) ks) _ _ g in
    let e₁₆ = require_passed (room_to_wait (length τ.waiting) ks) _ _ e₁₅.1 in
    subst Room (passed_injective e₁₆.1) (grow_room τ ks e₁₅.0 r)

-- A LINE, and lines one after the other
line_room : {σ σ' : State} {l : List ℕ} → LinePassed σ l σ' → Room σ.status → Room σ'.status
line_room {σ} {σ'} p r = go p.command p.run.did (rw p.tree_open at r)
  where
    go : (c : Command) → Did σ p.tree c p.line.fields σ' → Room (is_open p.tree) → Room σ'.status
    go (make w) d r = rw d.1 r
    go (assume R) d r = let n = p.line.fields in rw d.1 (omega (arith, length-append p.tree.branch (literal R n.a n.b ∷ []), d.4), r.1)
    go (disjoin R) d r = rw d.1 r
    go (infer x) d r = grown_room p.tree d.1.adds d.1.after r.1

pub after_room : {τ : State} (σ : State) (ls : List (List ℕ)) → after σ ls ≡ passed τ → Room σ.status → Room τ.status
unfolding after
after_room σ [] e r = subst (λ (x : State). Room x.status) (passed_injective e) r
after_room σ (l ∷ ls) e r = let b = bind_passed (run_line σ l) _ e in after_room b.0 ls b.2 (line_room (line_passed σ l b.1) r)
