-- Laws of the changes: what they make of the lists is what the specification says of the tree.
use Prim.Native.Nat.{ℕ, zero, suc, ◌+◌, ◌≤◌, ◌<◌, min, max}
use mathlib.Core.Path.{◌≡◌, refl, sym, ◌∙◌, ap, subst}
use mathlib.Core.Bool.{true, false}
use mathlib.Core.List.{List, [], ◌∷◌, ◌++◌, map, map-append, append-nil, reverse}
use native.Mathlib.Decide.{dec_le}
use native.Mathlib.Omega.{arith}
use borrow.Author.Tests.{le-leb, lt-leb, le-ltb, lt-ltb}
use lib.ListN.{length, take, get_or, length-map, length-append, length-take}
use Rattle.std.specs.Prelude.{Some, None, Result, Ok, Err}
use Rattle.std.proofs.lemmas.List.{length-take-le, reverse-append, reverse-reverse, length-reverse}
use Rattle.std.proofs.lemmas.List.{take_all, take_min, take-map}
use lib.Seq.{take-take, take-append_seam, get_or-append_seam}
use Rattle.std.proofs.lemmas.List.Elements.{All-append, All-take}
use Rattle.std.proofs.lemmas.List.Sorted.{All-permutation, IsPermutation-reverse}
use Rattle.tableau.specs.declared.Reason.{Reason}
use Rattle.tableau.specs.Terms.{Literal}
use Rattle.tableau.specs.Tree.{max_places, max_waiting, is_open, room_on_branch, room_to_wait}
use Rattle.tableau.specs.Tree.{close, grow, grown}
use Rattle.packing.specs.Packing.{code_limit}
use Rattle.tree.specs.declared.Alternative.{Alternative}
use Rattle.tree.specs.declared.Begun.{Begun}
use Rattle.tree.specs.declared.Change.{Change}
use Rattle.tree.specs.declared.Tree.{Tree}
use Rattle.tree.specs.State.{AtMost, codes_of, AreCodes, HasRoom, AreWaiting, cut_of, unpacked}
use Rattle.tree.specs.State.{InLimits, waiting_of, tree_in, codes_in, waiting_in, Within}
use Rattle.tree.specs.Change.{begun_of, begun_count, changed, Fits, split_into, no_literals, Stored}
use Rattle.tree.specs.Change.{room_for, opened, ReadsCodes, SplitsAt, Closes}
use Rattle.tree.proofs.Branch.{taken_bounded}
use Rattle.tree.proofs.Waiting.{wait, Begins, unpacked_holds, begun_length, begun_room}

pub codes_count : (a : Alternative) → a.count ≤ 3 → length (codes_of a) ≡ a.count
codes_count a h = length-take-le a.count (a.first ∷ a.second ∷ a.third ∷ []) h

-- CHECK 15, by the length of the longest alternative
abbrev pub longest : List (List ℕ) → ℕ
longest [] = 0
longest (k ∷ ks) = max (length k) (longest ks)

room : (f : ℕ → Literal) (n : ℕ) (ks : List (List ℕ)) → n + longest ks ≤ max_places
    → room_on_branch n (map (map f) ks) ≡ true
unfolding room_on_branch
room f n [] r = refl
room f n (k ∷ ks) r =
    let h : n + length k ≤ max_places = omega arith in
    rw (length-map k f, le-leb _ _ h) (room f n ks (omega arith))

over : (f : ℕ → Literal) (n : ℕ) (ks : List (List ℕ)) → n ≤ max_places → max_places < n + longest ks
    → room_on_branch n (map (map f) ks) ≡ false
unfolding room_on_branch
over f n [] h r = absurd (omega arith)
over f n (k ∷ ks) h r =
    elim (dec_le (n + length k) max_places) [
      | yes p ↦ rw (length-map k f, le-leb _ _ p) (over f n ks h (omega arith))
      | no p ↦ let q : max_places < n + length k = omega arith in rw (length-map k f, lt-leb _ _ q)
    ]

-- WHAT A CHANGE MAKES OF A TREE, in the order in which alternatives are taken
stacked : (f : ℕ → Literal) (V begun : List ℕ) → map (waiting_of f) (reverse (V ++ reverse begun))
    ≡ map (waiting_of f) begun ++ map (waiting_of f) (reverse V)
stacked f V begun = ap (map (waiting_of f)) (reverse-append V (reverse begun))
    ∙ map-append (waiting_of f) (reverse (reverse begun)) (reverse V)
    ∙ ap (λ l. map (waiting_of f) l ++ map (waiting_of f) (reverse V)) (reverse-reverse begun)

has_room : (B W : List ℕ) (n m : ℕ) → {u : Unit {0}} → Ok u ≡ room_for B W n m
    → (length B + n ≤ max_places) × (length W + m ≤ max_waiting)
has_room B W n m z =
    elim (dec_le (length B + n) max_places) [
      | no g ↦ absurd (cc (z, lt-ltb max_places (length B + n) (omega arith)))
      | yes h ↦
          elim (dec_le (length W + m) max_waiting) [
            | no g ↦ absurd
                (cc (
                  z,
                  le-ltb max_places (length B + n) h,
                  lt-ltb max_waiting (length W + m) (omega arith),
                ))
            | yes w ↦ (h, w)
          ]
    ]

-- A STEP with the alternatives k and ks, on a branch B where W waits
module _ (words B W : List ℕ) (are : InLimits B W) (k : List ℕ) (ks : List (List ℕ)) where
  waiting_length : (f : ℕ → Literal) → length (map (map f) ks) + length (tree_in f B W).waiting
      ≡ length ks + length W
  waiting_length f =
      rw (length-map ks (map f), length-map (reverse W) (waiting_of f), length-reverse W)

  abbrev Grows : Result Change Reason → Type 0
  Grows r = (f : ℕ → Literal) → opened f words B W r ≡ grown (tree_in f B W) (map (map f) (k ∷ ks))

  full : max_places < length B + longest (k ∷ ks) → Grows (Err Reason.BranchFull)
  unfolding grown
  full r f = rw (length-map B f, over f (length B) (k ∷ ks) are.branch r)

  module _ (h : length B + longest (k ∷ ks) ≤ max_places) where
    crowded : max_waiting < length W + length ks → Grows (Err Reason.WaitingFull)
    unfolding grown room_to_wait
    crowded r f =
        rw (
          length-map B f,
          room f (length B) (k ∷ ks) h,
          waiting_length f,
          lt-leb (length ks + length W) max_waiting (omega arith),
        )

    module _ (a : Alternative) (b : Begun) (few : AtMost 3 a) (adds : codes_of a ≡ k)
        (waits : length W + length ks ≤ max_waiting) (p : Begins words (length B) b ks) where
      tree_changed : (f : ℕ → Literal) → changed f words B W (split_into B W a b)
          ≡ record {
            branch = map f B ++ map f k;
            waiting = map (wait (length B)) (map (map f) ks) ++ map (waiting_of f) (reverse W);
          }
      tree_changed f =
          let b₁ = map-append f (take (length B) B) (codes_of a) in
          let b₂ : take (length B) B ≡ B = take_all (length B) B (omega arith) in
          let w₁ = stacked f (take (length W) W) (begun_of words (length B) b) in
          let w₂ : take (length W) W ≡ W = take_all (length W) W (omega arith) in
          cc (p.waiting f)

      grows : Grows (Ok (split_into B W a b))
      unfolding grown room_to_wait grow
      grows f =
          rw (
            length-map B f,
            room f (length B) (k ∷ ks) h,
            waiting_length f,
            le-leb (length ks + length W) max_waiting (omega arith),
          )
          (cc (tree_changed f))

      fits : Fits B W (split_into B W a b)
      fits = record {
        cut = omega arith;
        adds = few;
        places = omega (arith, codes_count a few.count, ap (length {A = ℕ}) adds);
        kept = omega arith;
        waiting = omega (arith, p.count);
        begun = p.may_begin;
      }

  -- one of the checks refuses the step
  pub split_refused : (n m : ℕ) → n ≡ longest (k ∷ ks) → m ≡ length ks → {r : Reason} → Err r
      ≡ room_for B W n m → SplitsAt words B W (k ∷ ks) (Err r)
  split_refused n m e q {r} z =
      elim (dec_le (length B + n) max_places) [
        | no g ↦
            let s : r ≡ Reason.BranchFull =
            cc (z, lt-ltb max_places (length B + n) (omega arith)) in
            rw s (record { fits = tt; result = full (omega arith) })
        | yes h ↦
            elim (dec_le (length W + m) max_waiting) [
              | no g ↦
                  let s : r
                  ≡ Reason.WaitingFull = cc (
                    z,
                    le-ltb max_places (length B + n) h,
                    lt-ltb max_waiting (length W + m) (omega arith),
                  ) in
                  rw s (record { fits = tt; result = crowded (omega arith) (omega arith) })
              | yes w ↦ absurd
                  (cc (z, le-ltb max_places (length B + n) h, le-ltb max_waiting (length W + m) w))
            ]
      ]

  -- they let it through
  pub split_passed : (n m : ℕ) → n ≡ longest (k ∷ ks) → m ≡ length ks → {u : Unit {0}} → Ok u
      ≡ room_for B W n m
      → (a : Alternative) (b : Begun) → AtMost 3 a → codes_of a ≡ k
      → (length B + n ≤ max_places → Begins words (length B) b ks)
      → SplitsAt words B W (k ∷ ks) (Ok (split_into B W a b))
  split_passed n m e q z a b few adds p =
      let r = has_room B W n m z in
      let h : length B + longest (k ∷ ks) ≤ max_places = omega arith in
      let w : length W + length ks ≤ max_waiting = omega arith in
      record { fits = fits h a b few adds w (p r.0); result = grows h a b few adds w (p r.0) }

-- A CLOSING
pub closes_last : (B W : List ℕ) → length W ≡ 0 → Closes B W None
unfolding close
closes_last B [] z = record { fits = λ b w. tt; result = λ f words. refl }
closes_last B (x ∷ W) z = absurd (omega arith)

module _ (B V : List ℕ) (top : ℕ) where
  abbrev closing : Change
  closing =
      record {
        cut = min (cut_of top) (length B);
        adds = unpacked top;
        kept = length V;
        begun = Begun.Nothing;
      }

  closing_fits : AreCodes B → AreWaiting (V ++ (top ∷ [])) → Fits B (V ++ (top ∷ [])) closing
  closing_fits b w =
      let n = length-append V (top ∷ []) in
      let h = subst HasRoom (get_or-append_seam V top [] 0) (w.places (length V) 0 (omega arith)) in
      record {
        cut = omega arith;
        adds = unpacked_holds top;
        places = omega (arith, h);
        kept = omega arith;
        waiting = omega (arith, w.room);
        begun = tt;
      }

  closing_closes : (f : ℕ → Literal) (words : List ℕ)
      → is_open (changed f words B (V ++ (top ∷ [])) closing)
      ≡ close (map f B) (map (waiting_of f) (reverse (V ++ (top ∷ []))))
  unfolding close
  closing_closes f words =
      let b₁ = map-append f (take (min (cut_of top) (length B)) B) (codes_of (unpacked top)) in
      let b₂ = take_min (cut_of top) B in
      let b₃ = take-map f (cut_of top) B in
      let w₁ = stacked f (take (length V) (V ++ (top ∷ []))) [] in
      let w₂ = take-append_seam V (top ∷ []) in
      rw (reverse-append V (top ∷ [])) (cc)

  pub closes_more : {c : Change} → c ≡ closing → Closes B (V ++ (top ∷ [])) (Some c)
  closes_more e = rw e (record { fits = closing_fits; result = closing_closes })

-- WHAT IS STORED for a change
three_bounded : (x y z k : ℕ) → x < code_limit → y < code_limit → z < code_limit
    → get_or (x ∷ y ∷ z ∷ []) k 0 < code_limit
three_bounded x y z zero p q r = p
three_bounded x y z (suc zero) p q r = q
three_bounded x y z (suc (suc zero)) p q r = r
three_bounded x y z (suc (suc (suc k))) p q r = omega arith

append_bounded : (b k : List ℕ) (i : ℕ) → ((j : ℕ) → get_or b j 0 < code_limit)
    → ((j : ℕ) → get_or k j 0 < code_limit) → get_or (b ++ k) i 0 < code_limit
append_bounded [] k i p q = q i
append_bounded (x ∷ b) k zero p q = p zero
append_bounded (x ∷ b) k (suc i) p q = append_bounded b k i (λ j. p (suc j)) q

module _ (words : List ℕ) (t : Tree) (w : Within t) (c : Change) (small : ReadsCodes c.begun words)
    (F : Fits (codes_in t) (waiting_in t) c) where
  cut_codes : take c.cut t.branch ≡ take c.cut (codes_in t)
  cut_codes =
      sym (take-take c.cut t.len t.branch (omega (arith, F.cut, length-take t.len t.branch)))

  kept_waiting : take c.kept t.waiting ≡ take c.kept (waiting_in t)
  kept_waiting =
      sym (take-take c.kept t.count t.waiting
      (omega (arith, F.kept, length-take t.count t.waiting)))

  are_codes_after : AreCodes (take c.cut (codes_in t) ++ codes_of c.adds)
  are_codes_after =
      let a = c.adds in
      let n = length-take c.cut (codes_in t) in
      record {
        room = omega (
          arith,
          length-append (take c.cut (codes_in t)) (codes_of a),
          n,
          codes_count a F.adds.count,
          F.places,
        );
        bounded =
            λ k. append_bounded (take c.cut (codes_in t)) (codes_of a) k
            (λ j. taken_bounded (codes_in t) c.cut code_limit j (omega arith) w.branch.bounded)
            (λ j. taken_bounded (a.first ∷ a.second ∷ a.third ∷ []) a.count code_limit j
            (omega arith)
            (λ i. three_bounded a.first a.second a.third i F.adds.first F.adds.second F.adds.third));
      }

  are_waiting_after : AreWaiting
      (take c.kept (waiting_in t) ++ reverse (begun_of words c.cut c.begun))
  are_waiting_after =
      let begun = begun_of words c.cut c.begun in
      record {
        room = omega (
          arith,
          length-append (take c.kept (waiting_in t)) (reverse begun),
          length-take c.kept (waiting_in t),
          length-reverse begun,
          begun_length words c.cut c.begun,
          F.waiting,
        );
        places =
            All-append HasRoom (take c.kept (waiting_in t)) (reverse begun)
            (All-take HasRoom c.kept (waiting_in t) w.waiting.places)
            (All-permutation HasRoom begun (reverse begun) (IsPermutation-reverse begun)
            (begun_room words c.cut c.begun small F.begun));
      }

  pub stored : (t' : Tree) → t'.len ≡ c.cut + c.adds.count → t'.count ≡ c.kept + begun_count c.begun
      → codes_in t' ≡ take c.cut t.branch ++ codes_of c.adds
      → waiting_in t' ≡ take c.kept t.waiting ++ reverse (begun_of words c.cut c.begun)
      → ((k : ℕ) → get_or t'.branch k 0 < code_limit)
      → ((k : ℕ) → HasRoom (get_or t'.waiting k 0)) → Stored words t c t'
  stored t' l n b v cells stack =
      let b' = b ∙ ap (λ x. x ++ codes_of c.adds) cut_codes in
      let v' = v ∙ ap (λ x. x ++ reverse (begun_of words c.cut c.begun)) kept_waiting in
      record {
        within =
            record {
              len = omega (arith, F.places);
              count = omega (arith, F.waiting);
              branch = subst AreCodes (sym b') are_codes_after;
              waiting = subst AreWaiting (sym v') are_waiting_after;
              cells = cells;
              stack = stack;
            };
        branch = b';
        waiting = v';
      }

-- the change that leaves the tree as it is
pub unchanged_fits : (B W : List ℕ) → AreCodes B → AreWaiting W
    → Fits B W (split_into B W no_literals Begun.Nothing)
unchanged_fits B W b w = record {
  cut = omega arith;
  adds = record {
    count = omega arith;
    first = omega arith;
    second = omega arith;
    third = omega arith;
  };
  places = omega (arith, b.room);
  kept = omega arith;
  waiting = omega (arith, w.room);
  begun = tt;
}

pub unchanged_tree : (f : ℕ → Literal) (words B W : List ℕ)
    → changed f words B W (split_into B W no_literals Begun.Nothing) ≡ tree_in f B W
unchanged_tree f words B W =
    let b₁ = append-nil (take (length B) B) in
    let b₂ : take (length B) B ≡ B = take_all (length B) B (omega arith) in
    let w₁ = append-nil (take (length W) W) in
    let w₂ : take (length W) W ≡ W = take_all (length W) W (omega arith) in
    cc
