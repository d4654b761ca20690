-- When a term or a branch mentions w, and where first.
use mathlib.Core.Path.{◌≡◌, refl, sym, ◌∙◌, ap}
use mathlib.Core.Bool.{Bool, true, false, ◌||◌, true≢false, false≢true}
use mathlib.Core.List.{List, [], ◌∷◌, ◌++◌, map, map-append}
use Rattle.std.specs.Prelude.{Option, None, Some, option_map}
use Rattle.std.specs.Option.{unwrap_or, MatchOption}
use Rattle.std.specs.List.{AllWithin, HoldsAt}
use Prim.Native.Nat.{ℕ, zero, suc, ◌+◌, ◌<◌, ◌≤◌}
use native.Mathlib.Omega.{arith}
use lib.ListN.{length, take, get_or}
use lib.Seq.{take-suc}
use borrow.Author.Tests.{ne_eqb}
use Rattle.tableau.specs.declared.Freshness.{Freshness}
use Rattle.tableau.specs.declared.Place as declared
use Rattle.tableau.specs.Basics.{is_some}
use Rattle.tableau.specs.Fields.{arguments}
use Rattle.tableau.specs.Terms.{Place, TermNo, Table, Term, Literal, literal, Disjunct, Clauses, disjuncts, at, layer, to_depth, fold, mentions, mentioned_in, place_from, first_place, mentioned}
use Rattle.tableau.specs.Steps.{is_rfv, not_fresh, fresh_if, freshness}
use Rattle.tableau.proofs.Bools.{clash}
use Rattle.tableau.proofs.FirstPlace.{mentioned_last}
use Rattle.tableau.proofs.TableGrowth.{at_zero, at_beyond}
use Rattle.packing.specs.Packing.{left_in, right_in}
use Rattle.mentions.proofs.MentionLaws.{mentions_zero}
use Rattle.freshness.specs.Prefixes.{SideRow}

-- a number that no term has stands for no term with w in it
not_beyond : (table : Table) (w t : TermNo) → w ≤ length table → length table < t → mentions (at table) w t ≡ false
unfolding mentions fold to_depth layer arguments
not_beyond table w t h k = rw (at_beyond table t k, ne_eqb t w (λ e. omega arith))

-- the row of a literal's side: that of 0 for a number past the table
pub side_beyond : (n t : ℕ) → n < t → SideRow n t 0
side_beyond n t h = record {
  made = omega arith;
  same = λ table w e first l. mentions_zero (at table) (at_zero table) w first ∙ sym (not_beyond table w t (omega arith) (omega arith));
}

pub side_own : (n t : ℕ) → t ≤ n → SideRow n t t
side_own n t h = record { made = h; same = λ table w e first l. refl }

-- a literal mentions what its sides do
pub in_sides : (table : TermNo → Term) (w : TermNo) (l : Literal)
    → mentioned_in table w l ≡ (mentions table w (left_in l) || mentions table w (right_in l))
in_sides table w (literal R m n) = refl

-- a literal more on the branch
pub mentioned_one_more : (f : ℕ → Literal) (table : TermNo → Term) (w : TermNo) (b : List ℕ) (i : ℕ) → i < length b
    → mentioned table w (map f (take (suc i) b)) ≡ mentioned table w (map f (take i b)) || mentioned_in table w (f (get_or b i 0))
mentioned_one_more f table w b i h =
    ap (λ (ls : List Literal). mentioned table w ls) (ap (map f) (take-suc b i 0 h) ∙ map-append f (take i b) (get_or b i 0 ∷ [])) ∙ mentioned_last table w (map f (take i b)) (f (get_or b i 0))

-- a literal more in the clauses
pub mentioned_after : (table : TermNo → Term) (w : TermNo) (C : Clauses) (d : Disjunct) → mentioned table w (disjuncts (C ++ (d ∷ []))) ≡ (mentioned table w (disjuncts C) || mentioned_in table w d.is)
mentioned_after table w C d = ap (λ (ls : List Literal). mentioned table w ls) (map-append (λ x. x.is) C (d ∷ [])) ∙ mentioned_last table w (disjuncts C) d.is

-- THE FIRST PLACE, counted from k, where a search over the literals ends at index r
pub first_found : (f : ℕ → Literal) (table : TermNo → Term) (w : TermNo) (b : List ℕ) (k : Place)
    (r : Option ℕ)
    → MatchOption r (AllWithin (λ l. mentioned_in table w (f l) ≡ false) b 0 (length b))
    (λ i. (i < length b) × HoldsAt (λ l. mentioned_in table w (f l) ≡ true) b i
    × AllWithin (λ l. mentioned_in table w (f l) ≡ false) b 0 i)
    → place_from k table w (map f b) ≡ option_map (λ i. k + i) r
unfolding place_from
first_found f table w [] k None h = refl
first_found f table w (x ∷ b) k None h =
    rw (h 0 0 (omega arith) (omega arith))
    (first_found f table w b (suc k) None (λ j d l m. h (suc j) d (omega arith) (omega arith)))
first_found f table w [] k (Some i) h = absurd (omega (arith, h.0))
first_found f table w (x ∷ b) k (Some zero) h =
    rw (h.1 0) (ap Some (let z : k ≡ k + 0 = omega arith in z))
first_found f table w (x ∷ b) k (Some (suc i)) h =
    rw (h.2 0 0 (omega arith) (omega arith))
    (first_found f table w b (suc k) (Some i) (
      omega (arith, h.0),
      h.1,
      λ j d l m. h.2 (suc j) d (omega arith) (omega arith),
    )
    ∙ ap Some (let z : suc k + i ≡ k + suc i = omega arith in z))

-- a place that is found, as a reply gives it
pub told_place : (p : Option Place) (r : Option declared.Place) → option_map (λ x. x.0) r ≡ p
    → (unwrap_or r (record { 0 = 0 })).0 ≡ unwrap_or p 0
told_place p None e = rw (← e)
told_place p (Some x) e = rw (← e)

-- FRESHNESS: of a term that is no `rfv`; of an `rfv` that neither a clause nor the branch mentions; of one that is mentioned, by the first place on the branch
module _ (table : Table) (C : Clauses) (B : List Literal) (w : TermNo) where
  pub no_rfv : is_rfv (at table w) ≡ false → freshness table C B w ≡ not_fresh 0
  unfolding freshness
  no_rfv i = rw i

  pub fresh_rfv : is_rfv (at table w) ≡ true → (mentioned (at table) w (disjuncts C) || mentioned (at table) w B) ≡ false → freshness table C B w ≡ Freshness.Fresh
  unfolding freshness
  fresh_rfv i = rw i (go (first_place (at table) w B) (mentioned (at table) w (disjuncts C)))
    where
      go : (p : Option Place) (c : Bool) → (c || is_some p) ≡ false → fresh_if true p c ≡ Freshness.Fresh
      go None false h = refl
      go None true h = absurd (true≢false h)
      go (Some p) false h = absurd (true≢false h)
      go (Some p) true h = absurd (true≢false h)

  pub used_rfv : is_rfv (at table w) ≡ true
      → (mentioned (at table) w (disjuncts C) || mentioned (at table) w B) ≡ true
      → freshness table C B w ≡ not_fresh (unwrap_or (first_place (at table) w B) 0)
  unfolding freshness
  used_rfv i = rw i (go (first_place (at table) w B) (mentioned (at table) w (disjuncts C)))
    where
      go : (p : Option Place) (c : Bool) → (c || is_some p) ≡ true
          → fresh_if true p c ≡ not_fresh (unwrap_or p 0)
      go None false h = absurd (false≢true h)
      go None true h = refl
      go (Some p) c h = refl

-- no term has the number 0
pub rfv_first : (table : Table) (w : TermNo) → is_rfv (at table w) ≡ true → 0 < w
rfv_first table zero e = clash e (ap is_rfv (at_zero table))
rfv_first table (suc w) e = omega arith
