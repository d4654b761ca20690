-- Laws of the alternatives that wait: packing, and what begins to wait.
use Prim.Native.Nat.{ℕ, zero, suc, ◌+◌, ◌*◌, ◌/◌, ◌^◌, ◌≤◌, ◌<◌}
use mathlib.Core.Path.{◌≡◌, refl, sym, ap, ◌∙◌}
use mathlib.Core.List.{List, [], ◌∷◌, ◌++◌, map, reverse}
use native.Mathlib.Omega.{arith}
use lib.ListN.{length, take, get_or, length-map}
use Rattle.std.specs.Prelude.{All}
use Rattle.std.proofs.lemmas.List.{reverse-append}
use Rattle.std.proofs.lemmas.List.Elements.{All-nil, All-cons}
use Rattle.tableau.specs.Terms.{Literal}
use Rattle.tableau.specs.Tree.{max_places, Waiting}
use Rattle.tree.specs.declared.Alternative.{Alternative}
use Rattle.tree.specs.declared.Begun.{Begun}
use Rattle.clauses.specs.declared.Span.{Span}
use Rattle.packing.specs.Packing.{code_limit}
use Rattle.tableau.specs.Reply.{max_clause_lines}
use Rattle.clauses.specs.Held.{codes_at}
use Rattle.tree.specs.State.{codes_of, AtMost, one_code, packed, packed_one, cut_of, unpacked}
use Rattle.tree.specs.State.{HasRoom, waiting_of}
use Rattle.tree.specs.Change.{begun_of, begun_count, MayBegin, ReadsCodes, each_alone}

-- the third code is not packed
short : (n x y z z' : ℕ) → n ≤ 2 → take n (x ∷ y ∷ z ∷ []) ≡ take n (x ∷ y ∷ z' ∷ [])
short zero x y z z' h = refl
short (suc zero) x y z z' h = refl
short (suc (suc zero)) x y z z' h = refl
short (suc (suc (suc n))) x y z z' h = absurd (omega arith)

module _ (cut : ℕ) (a : Alternative) (h : cut ≤ max_places) (g : AtMost 2 a) where
  cut_packed : cut_of (packed cut a) ≡ cut
  cut_packed = omega arith

  counted : packed cut a / 2 ^ 10 ≡ a.count + 2 ^ 2 * (a.first + 2 ^ 23 * a.second)
  counted = omega arith

  count_packed : (unpacked (packed cut a)).count ≡ a.count
  count_packed = rw counted (omega arith)

  codes_packed : codes_of (unpacked (packed cut a)) ≡ codes_of a
  codes_packed =
      let q : (a.count + 2 ^ 2 * (a.first + 2 ^ 23 * a.second)) / 2 ^ 2
      ≡ a.first + 2 ^ 23 * a.second = omega arith in
      let e₁ : (unpacked (packed cut a)).first ≡ a.first = rw (counted, q) (omega arith) in
      let e₂ : (unpacked (packed cut a)).second ≡ a.second = rw (counted, q) (omega arith) in
      rw (count_packed, e₁, e₂) (short a.count a.first a.second 0 a.third g.count)

pub unpacked_holds : (w : ℕ) → AtMost 3 (unpacked w)
unpacked_holds w =
    record { count = omega arith; first = omega arith; second = omega arith; third = omega arith }

abbrev pub wait : ℕ → List Literal → Waiting
wait cut k = record { length = cut; alternative = k }

-- ALTERNATIVES OF ONE SPLIT, by their codes, that begin to wait where the branch has so many
-- literals
pub record Begins (words : List ℕ) (cut : ℕ) (b : Begun) (ks : List (List ℕ)) : Type 0 where
  pub count : begun_count b ≡ length ks
  pub may_begin : MayBegin cut b
  pub waiting : (f : ℕ → Literal) → map (waiting_of f) (begun_of words cut b)
      ≡ map (wait cut) (map (map f) ks)

pub begins_none : (words : List ℕ) (cut : ℕ) → Begins words cut Begun.Nothing []
begins_none words cut = record { count = refl; may_begin = tt; waiting = λ f. refl }

module _ (cut : ℕ) (a : Alternative) (g : AtMost 2 a) (room : cut + a.count ≤ max_places) where
  inside : cut ≤ max_places
  inside = omega arith

  waiting_packed : (f : ℕ → Literal) → waiting_of f (packed cut a) ≡ wait cut (map f (codes_of a))
  waiting_packed f = rw (cut_packed cut a inside g, codes_packed cut a inside g)

  room_packed : HasRoom (packed cut a)
  room_packed = rw (cut_packed cut a inside g, count_packed cut a inside g) room

  pub begins_one : (words : List ℕ) → Begins words cut (Begun.One (packed cut a)) (codes_of a ∷ [])
  begins_one words =
      record { count = refl; may_begin = room_packed; waiting = λ f. rw (waiting_packed f) }

pub begins_two : (words : List ℕ) (cut : ℕ) (a k : Alternative) → AtMost 2 a
    → cut + a.count ≤ max_places → AtMost 2 k → cut + k.count ≤ max_places
    → Begins words cut (Begun.Two (packed cut a) (packed cut k)) (codes_of a ∷ codes_of k ∷ [])
begins_two words cut a k g r h s = record {
  count = refl;
  may_begin = (room_packed cut a g r, room_packed cut k h s);
  waiting = λ f. rw (waiting_packed cut a g r f, waiting_packed cut k h s f);
}

-- LITERALS that stand in an array, each an alternative of its own
pub codes_length : (words : List ℕ) (i n : ℕ) → length (codes_at words i n) ≡ n
codes_length words i zero = refl
codes_length words i (suc n) = ap suc (codes_length words (suc i) n)

pub one_code_lem : (code : ℕ) → code < code_limit → AtMost 2 (one_code code)
one_code_lem code small =
    record { count = omega arith; first = small; second = omega arith; third = omega arith }

pub each_map : {A B : Type 0} (f : A → B) (l : List A) → map (map f) (each_alone l)
    ≡ each_alone (map f l)
each_map f [] = refl
each_map f (x ∷ l) = ap (λ k. (f x ∷ []) ∷ k) (each_map f l)

module _ (words : List ℕ) (small : (i : ℕ) → get_or words i 0 < code_limit) (cut : ℕ)
    (h : cut < max_places) where
  pub one_packed : (i : ℕ) → HasRoom (packed_one cut (get_or words i 0))
  one_packed i =
      room_packed cut (one_code (get_or words i 0)) (one_code_lem _ (small i)) (omega arith)

  each_waits : (f : ℕ → Literal) (i n : ℕ)
      → map (waiting_of f) (map (packed_one cut) (codes_at words i n))
      ≡ map (wait cut) (map (map f) (each_alone (codes_at words i n)))
  each_waits f i zero = refl
  each_waits f i (suc n) =
      cc (
        waiting_packed cut (one_code (get_or words i 0)) (one_code_lem _ (small i))
            (omega arith) f,
        each_waits f (suc i) n,
      )

  pub begins_each : (s : Span) → s.from + s.count ≤ max_clause_lines
      → Begins words cut (Begun.Each s) (each_alone (codes_at words s.from s.count))
  begins_each s inside = record {
    count = sym
        (length-map (codes_at words s.from s.count) (λ c. c ∷ [])
        ∙ codes_length words s.from s.count);
    may_begin = (inside, h);
    waiting = λ f. each_waits f s.from s.count;
  }

-- the one before those that are stored
pub each_more : (words : List ℕ) (cut i j m k : ℕ) → i ≡ suc j → k ≡ suc m
    → reverse (map (packed_one cut) (codes_at words j k))
    ≡ reverse (map (packed_one cut) (codes_at words i m)) ++
    (packed_one cut (get_or words j 0) ∷ [])
each_more words cut i j m k e q =
    rw (e, q)
    (reverse-append (packed_one cut (get_or words j 0) ∷ [])
    (map (packed_one cut) (codes_at words (suc j) m)))

-- there is room for what begins to wait
pub begun_length : (words : List ℕ) (cut : ℕ) (b : Begun) → length (begun_of words cut b)
    ≡ begun_count b
begun_length words cut Begun.Nothing = refl
begun_length words cut (Begun.One w) = refl
begun_length words cut (Begun.Two v w) = refl
begun_length words cut (Begun.Each s) =
    length-map (codes_at words s.from s.count) (packed_one cut) ∙ codes_length words s.from s.count

each_room : (words : List ℕ) → ((i : ℕ) → get_or words i 0 < code_limit) → (cut : ℕ)
    → cut < max_places → (i n : ℕ) → All HasRoom (map (packed_one cut) (codes_at words i n))
each_room words small cut h i zero = All-nil HasRoom
each_room words small cut h i (suc n) =
    All-cons HasRoom _ _ (one_packed words small cut h i) (each_room words small cut h (suc i) n)

pub reads_codes : (words : List ℕ) → ((i : ℕ) → get_or words i 0 < code_limit) → (b : Begun)
    → ReadsCodes b words
reads_codes words small Begun.Nothing = tt
reads_codes words small (Begun.One w) = tt
reads_codes words small (Begun.Two v w) = tt
reads_codes words small (Begun.Each s) = small

pub begun_room : (words : List ℕ) (cut : ℕ) (b : Begun) → ReadsCodes b words → MayBegin cut b
    → All HasRoom (begun_of words cut b)
begun_room words cut Begun.Nothing small m = All-nil HasRoom
begun_room words cut (Begun.One w) small m = All-cons HasRoom w [] m (All-nil HasRoom)
begun_room words cut (Begun.Two v w) small m =
    All-cons HasRoom v (w ∷ []) m.0 (All-cons HasRoom w [] m.1 (All-nil HasRoom))
begun_room words cut (Begun.Each s) small m = each_room words small cut m.1 s.from s.count
