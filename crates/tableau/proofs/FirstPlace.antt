-- The first place whose literal mentions w: there w is mentioned, and at none before.
use mathlib.Core.Path.{◌≡◌, refl, sym, ◌∙◌, ap, subst}
use mathlib.Core.Bool.{Bool, true, false, ◌||◌, cond, or-false, or_assoc}
use mathlib.Core.List.{List, [], ◌∷◌, ◌++◌}
use mathlib.Core.Logic.{⊎_elim}
use Rattle.std.specs.Prelude.{None, Some}
use Prim.Native.Nat.{ℕ, zero, suc, ◌+◌, ◌<◌}
use native.Mathlib.Omega.{arith}
use Rattle.tableau.specs.Basics.{is_some}
use Rattle.tableau.specs.Terms.{Place, TermNo, Table, Term, Literal, at, mentioned_in, place_from, first_place, mentioned}
use Rattle.tableau.specs.Claims.{MentionsAt, FirstMention}
use Rattle.tableau.proofs.Bools.{dec, both_false, clash, none≢some, some_inj}

module _ (table : TermNo → Term) (w : TermNo) where
  -- whether there is one does not depend on the place from which they count
  counted_from : (i j : Place) (ls : List Literal) → is_some (place_from i table w ls) ≡ is_some (place_from j table w ls)
  unfolding place_from
  counted_from i j [] = refl
  counted_from i j (l ∷ ls) = let e = counted_from (suc i) (suc j) ls in ⊎_elim (λ h. rw h) (λ h. rw h e) (dec (mentioned_in table w l))

  -- literals mention w if the first does or the others do
  pub mentioned_more : (l : Literal) (ls : List Literal) → mentioned table w (l ∷ ls) ≡ (mentioned_in table w l || mentioned table w ls)
  unfolding place_from
  mentioned_more l ls = ⊎_elim (λ h. rw h) (λ h. rw h (counted_from 2 1 ls)) (dec (mentioned_in table w l))

  -- so if they do not, neither does
  pub not_mentioned : (l : Literal) (ls : List Literal) → mentioned table w (l ∷ ls) ≡ false → (mentioned_in table w l ≡ false) × (mentioned table w ls ≡ false)
  not_mentioned l ls h = both_false (mentioned_in table w l) _ (sym (mentioned_more l ls) ∙ h)

  -- or if those but the last do, or the last does
  pub mentioned_last : (ls : List Literal) (l : Literal) → mentioned table w (ls ++ (l ∷ [])) ≡ (mentioned table w ls || mentioned_in table w l)
  unfolding place_from
  mentioned_last [] l = mentioned_more l [] ∙ or-false (mentioned_in table w l)
  mentioned_last (x ∷ ls) l =
      let m = mentioned_in table w x in
      mentioned_more x (ls ++ (l ∷ [])) ∙ ap (λ r. m || r) (mentioned_last ls l) ∙ sym (or_assoc m _ _) ∙ ap (λ r. r || mentioned_in table w l) (sym (mentioned_more x ls))

  pub mentioned_none : mentioned table w [] ≡ false
  unfolding place_from
  mentioned_none = refl

module _ (table : Table) (w : TermNo) where
  -- behind a literal that does not mention w, a place that does is one of the others'
  of_others : (l : Literal) (B : List Literal) → mentioned_in (at table) w l ≡ false → (q : Place) → MentionsAt table (l ∷ B) w q → (k : Place) × (q ≡ suc k) × MentionsAt table B w k
  of_others l B h zero u = none≢some u.1
  of_others l B h (suc zero) u = clash u.2 (ap (mentioned_in (at table) w) (sym (some_inj u.1)) ∙ h)
  of_others l B h (suc (suc k)) u = (suc k, refl, u)

  -- so the first of them is the next one of the whole
  before_others : (l : Literal) (B : List Literal) (k : ℕ) → mentioned_in (at table) w l ≡ false → FirstMention table B w (suc k) → FirstMention table (l ∷ B) w (suc (suc k))
  before_others l B k h f = record {
    here = f.here;
    none_before = λ q m u. let v = of_others l B h q u in f.none_before v.0 (omega (arith, v.1)) v.2;
  }

  -- the place that is found, where they count from i
  place_from_lem : (i : Place) (B : List Literal) (p : Place) → place_from i (at table) w B ≡ Some p → (k : ℕ) × (p ≡ i + k) × FirstMention table B w (suc k)
  unfolding place_from
  place_from_lem i [] p e = none≢some e
  place_from_lem i (l ∷ B) p e = go (mentioned_in (at table) w l) refl e (place_from_lem (suc i) B p)
    where
      go : (b : Bool) → mentioned_in (at table) w l ≡ b → cond b (Some i) (place_from (suc i) (at table) w B) ≡ Some p
          → (place_from (suc i) (at table) w B ≡ Some p → (k : ℕ) × (p ≡ suc i + k) × FirstMention table B w (suc k))
          → (k : ℕ) × (p ≡ i + k) × FirstMention table (l ∷ B) w (suc k)
      go true h e later = (
        0,
        (let q : i ≡ p = some_inj e in omega arith),
        record { here = (l, refl, h); none_before = none_before_lem },
      )
        where
          none_before_lem : (q : Place) → q < 1 → ¬ MentionsAt table (l ∷ B) w q
          none_before_lem zero m u = none≢some u.1
          none_before_lem (suc q) m u = absurd (omega arith)
      go false h e later = let r = later e in (suc r.0, (let q = r.1 in omega arith), before_others l B r.0 h r.2)

  pub first_mention : (B : List Literal) (p : Place) → first_place (at table) w B ≡ Some p → FirstMention table B w p
  first_mention B p e = let r = place_from_lem 1 B p e in subst (FirstMention table B w) (let q = r.1 in let z : suc r.0 ≡ p = omega arith in z) r.2

  -- where there is none, no place mentions w
  no_place_from : (i : Place) (B : List Literal) → place_from i (at table) w B ≡ None → (q : Place) → ¬ MentionsAt table B w q
  unfolding place_from
  no_place_from i [] e = nowhere
    where
      nowhere : (q : Place) → ¬ MentionsAt table [] w q
      nowhere zero u = none≢some u.1
      nowhere (suc q) u = none≢some u.1
  no_place_from i (l ∷ B) e = go (mentioned_in (at table) w l) refl e (no_place_from (suc i) B)
    where
      go : (b : Bool) → mentioned_in (at table) w l ≡ b → cond b (Some i) (place_from (suc i) (at table) w B) ≡ None
          → (place_from (suc i) (at table) w B ≡ None → (q : Place) → ¬ MentionsAt table B w q) → (q : Place) → ¬ MentionsAt table (l ∷ B) w q
      go true h e later q u = none≢some (sym e)
      go false h e later q u = let v = of_others l B h q u in later e v.0 v.2

  pub no_mention : (B : List Literal) → first_place (at table) w B ≡ None → (q : Place) → ¬ MentionsAt table B w q
  no_mention = no_place_from 1
