-- What the array says of check 21 and of a clause, and the array with a literal more.
use mathlib.Core.Path.{◌≡◌, refl, sym, ◌∙◌, ap, subst}
use mathlib.Core.Bool.{Bool, true, false, ◌&&◌, cond}
use mathlib.Core.List.{List, [], ◌∷◌, ◌++◌, map, append-nil, map-append}
use mathlib.Core.Logic.{◌⊎◌, inl, inr}
use Prim.Native.Nat.{ℕ, zero, suc, ◌+◌, ◌-◌, ◌≤◌, ◌<◌}
use native.Mathlib.Numerals.{add-one}
use native.Mathlib.Omega.{arith}
use lib.Dec.{eqb, leb}
use lib.ListN.{length, get_or, set, replicate, length-append, length-set, length-replicate}
use lib.Seq.{get_or-set_same, get_or-set_other}
use borrow.Author.Tests.{eqb-true, eqb-false, eq-eqb, ne_eqb, leb-true, leb-false, le-leb, lt-leb}
use Rattle.tableau.specs.Terms.{ClauseNo, Literal, Disjunct, Clauses, clause_of, last_clause, lines_to}
use Rattle.tableau.specs.Tree.{is_clause}
use Rattle.tableau.specs.Reply.{max_clause_lines, takes_disjunct}
use Rattle.tableau.proofs.Bools.{dec, eqb_same}
use Rattle.tableau.proofs.ClauseLaws.{InSequence, no_clauses, Fitting, fitting, last_after, clause_after, in_sequence_after}
use Rattle.packing.specs.Packing.{unpack_literal, code_limit}
use Rattle.clauses.proofs.Arrays.{all_set, get_d_zeros}
use Rattle.clauses.specs.Held.{words_length, end_at, codes_at, ClausesHeld}

-- CHECK 11: a clause is one of the numbers up to the last
pub is_clause_lem : (C : Clauses) (k : ClauseNo) → InSequence C → is_clause C k ≡ (leb 1 k && leb k (last_clause C))
is_clause_lem C k s = go (dec (leb 1 k)) (dec (leb k (last_clause C)))
  where
    nowhere : ((1 ≤ k) × (k ≤ last_clause C) → ⊥) → is_clause C k ≡ false
    nowhere h = lt-leb 1 (length (clause_of C k)) (few (length (clause_of C k)) refl)
      where
        few : (n : ℕ) → length (clause_of C k) ≡ n → length (clause_of C k) < 1
        few zero e = omega (arith, e)
        few (suc n) e = absurd (h (s.none k (omega (arith, e))))

    go : (leb 1 k ≡ true) ⊎ (leb 1 k ≡ false) → (leb k (last_clause C) ≡ true) ⊎ (leb k (last_clause C) ≡ false) → is_clause C k ≡ (leb 1 k && leb k (last_clause C))
    go (inl a) (inl b) = rw (a, b) (le-leb 1 _ (s.each k (leb-true 1 k a) (leb-true k _ b)))
    go (inl a) (inr b) = rw (a, b) (nowhere (λ q. omega (arith, leb-false k _ b, q.1)))
    go (inr a) b = rw a (nowhere (λ q. omega (arith, leb-false 1 k a, q.0)))

-- HOW MANY CLAUSES there are
module _ {C : Clauses} {words : List ℕ} {last : ClauseNo} (H : ClausesHeld C words last) where
  -- no clause has a number past the last
  pub none_past : (k : ClauseNo) → last < k → length (clause_of C k) ≡ 0
  none_past k h = go (length (clause_of C k)) refl
    where
      go : (n : ℕ) → length (clause_of C k) ≡ n → length (clause_of C k) ≡ 0
      go zero e = e
      go (suc n) e = absurd (let q = (H.sequence.none k (omega (arith, e))).1 in omega (arith, q, H.last))

  -- there are no more clauses than lines
  grows : (k : ClauseNo) → k ≤ last → k ≤ end_at words k
  grows zero h = omega arith
  grows (suc k) h = omega (arith, grows k (omega arith), H.counts k h, H.sequence.each (suc k) (omega arith) (omega (arith, H.last)))

  pub last_few : last ≤ max_clause_lines
  last_few = omega (arith, grows last (omega arith), H.lines, H.sequence.few)

-- THE CODES between two indices: where two arrays agree, and one more
pub same_codes : (words words' : List ℕ) (i n : ℕ) → ((j : ℕ) → i ≤ j → j < i + n → get_or words' j 0 ≡ get_or words j 0) → codes_at words' i n ≡ codes_at words i n
same_codes words words' i zero h = refl
same_codes words words' i (suc n) h = λ p. h i (omega arith) (omega arith) p ∷ same_codes words words' (suc i) n (λ j a b. h j (omega arith) (omega arith)) p

pub codes_after : (words : List ℕ) (i n : ℕ) → codes_at words i (suc n) ≡ codes_at words i n ++ (get_or words (i + n) 0 ∷ [])
codes_after words i zero = rw (let e : i + 0 ≡ i = omega arith in e)
codes_after words i (suc n) = ap (λ x. get_or words i 0 ∷ x) (codes_after words (suc i) n ∙ ap (λ j. codes_at words (suc i) n ++ (get_or words j 0 ∷ [])) (let e : suc i + n ≡ i + suc n = omega arith in e))

-- how many C lines there are up to the last of a clause, with a line more
lines_after : (C : Clauses) (d : Disjunct) (k : ClauseNo) → lines_to (C ++ (d ∷ [])) k ≡ cond (eqb d.clause k) (suc (length C)) (lines_to C k)
unfolding lines_to clause_of
lines_after [] d k = go (eqb d.clause k)
  where
    go : (b : Bool) → cond (leb 1 0) (suc 0) (cond b 1 0) ≡ cond b 1 0
    go true = refl
    go false = refl
lines_after (x ∷ C) d k = go (eqb d.clause k) (clause_after C d k) (lines_after C d k)
  where
    go : (b : Bool) → clause_of (C ++ (d ∷ [])) k ≡ clause_of C k ++ cond b (d.is ∷ []) [] → lines_to (C ++ (d ∷ [])) k ≡ cond b (suc (length C)) (lines_to C k)
        → cond (leb 1 (length (clause_of (C ++ (d ∷ [])) k))) (suc (lines_to (C ++ (d ∷ [])) k)) (cond (eqb x.clause k) 1 0)
        ≡ cond b (suc (suc (length C))) (cond (leb 1 (length (clause_of C k))) (suc (lines_to C k)) (cond (eqb x.clause k) 1 0))
    go true c l = rw (c, l, le-leb 1 (length (clause_of C k ++ (d.is ∷ []))) (omega (arith, length-append (clause_of C k) (d.is ∷ []))))
    go false c l = rw (c, append-nil, l)

-- NO CLAUSE YET
in_own : (d : Disjunct) (D : Clauses) → 0 < length (clause_of (d ∷ D) d.clause)
unfolding clause_of
in_own d D = rw (eqb_same d.clause) (omega arith)

pub none_yet : (C : Clauses) {words : List ℕ} {last : ClauseNo} → ClausesHeld C words last → last ≡ 0 → C ≡ []
none_yet [] H e = refl
none_yet (d ∷ D) H e = let n = H.sequence.none d.clause (in_own d D) in absurd (omega (arith, n.0, n.1, H.last, e))

pub none_held : (n : ℕ) → n ≡ words_length → ClausesHeld [] (replicate {A = ℕ} n 0) 0
unfolding clause_of last_clause lines_to
none_held n q = record {
  size = length-replicate {A = ℕ} n 0 ∙ q;
  bounded = λ i. omega (arith, get_d_zeros n i);
  sequence = no_clauses;
  last = refl;
  lines = get_d_zeros n (max_clause_lines + 0);
  ends = λ k h. get_d_zeros n (max_clause_lines + k);
  inside = λ k h. omega (arith, get_d_zeros n (max_clause_lines + k));
  counts = λ k h. absurd (omega arith);
  codes = λ k h. absurd (omega arith);
}

-- A LITERAL MORE, stored behind the others, and the end of its clause
module _ {C : Clauses} {words : List ℕ} {last : ClauseNo} (H : ClausesHeld C words last) (k : ClauseNo) (code : ℕ) (small : code < code_limit) (h : takes_disjunct C k ≡ true) where
  abbrev d : Disjunct
  d = record { clause = k; is = unpack_literal code }

  abbrev C' : Clauses
  C' = C ++ (d ∷ [])

  abbrev n : ℕ
  n = length C

  abbrev words' : List ℕ
  words' = set (set words n code) (max_clause_lines + k) (n + 1)

  pub ok : Fitting C k
  ok = fitting C k h

  pub next_few : k ≤ max_clause_lines
  next_few = omega (arith, ok.most, H.last, grows H last (omega arith), H.lines, ok.few)

  long : length (set words n code) ≡ words_length
  long = length-set words n code ∙ H.size

  -- the end of another clause, and of this
  other_end : (j : ClauseNo) → (j ≡ k → ⊥) → end_at words' j ≡ end_at words j
  other_end j e = get_or-set_other (set words n code) (max_clause_lines + k) (max_clause_lines + j) (n + 1) 0 (λ z. e (omega arith))
      ∙ get_or-set_other words n (max_clause_lines + j) code 0 (λ z. omega (arith, ok.few))

  own_end : end_at words' k ≡ n + 1
  own_end = get_or-set_same (set words n code) (max_clause_lines + k) (n + 1) 0 (omega (arith, long, next_few))

  -- the codes of the lines before, and of this
  other_code : (j : ℕ) → j < n → get_or words' j 0 ≡ get_or words j 0
  other_code j l = get_or-set_other (set words n code) (max_clause_lines + k) j (n + 1) 0 (λ z. omega (arith, ok.few)) ∙ get_or-set_other words n j code 0 (λ z. omega arith)

  own_code : get_or words' n 0 ≡ code
  own_code = get_or-set_other (set words n code) (max_clause_lines + k) n (n + 1) 0 (λ z. omega (arith, ok.few)) ∙ get_or-set_same words n code 0 (omega (arith, H.size, ok.few))

  -- the clause that it joins, or begins, ends with the lines so far
  ends_here : end_at words (k - 1) + length (clause_of C k) ≡ n
  ends_here = go ok.is
    where
      go : (k ≡ last_clause C) ⊎ (k ≡ suc (last_clause C)) → end_at words (k - 1) + length (clause_of C k) ≡ n
      go (inl e) =
          let q : suc (k - 1) ≡ k = omega (arith, ok.positive) in
          subst (λ j. end_at words (k - 1) + length (clause_of C j) ≡ end_at words j) q (H.counts (k - 1) (omega (arith, ok.positive, e, H.last))) ∙ ap (end_at words) (e ∙ H.last) ∙ H.lines
      go (inr e) =
          let q : k - 1 ≡ last = omega (arith, e, H.last) in
          rw (q, none_past H k (omega (arith, e, H.last))) (omega (arith, H.lines))

  -- its literals
  own_clause : clause_of C' k ≡ clause_of C k ++ (unpack_literal code ∷ [])
  own_clause = clause_after C d k ∙ ap (λ b. clause_of C k ++ cond b (unpack_literal code ∷ []) []) (eq-eqb k k refl)

  other_clause : (j : ClauseNo) → (k ≡ j → ⊥) → clause_of C' j ≡ clause_of C j
  other_clause j e = clause_after C d j ∙ ap (λ b. clause_of C j ++ cond b (unpack_literal code ∷ []) []) (ne_eqb k j e) ∙ append-nil (clause_of C j)

  -- its codes before
  old_codes : map unpack_literal (codes_at words (end_at words (k - 1)) (length (clause_of C k))) ≡ clause_of C k
  old_codes = go ok.is
    where
      empty : (ls : List Literal) → length ls ≡ 0 → map unpack_literal (codes_at words (end_at words (k - 1)) (length ls)) ≡ ls
      empty [] e = refl
      empty (l ∷ ls) e = absurd (omega arith)

      go : (k ≡ last_clause C) ⊎ (k ≡ suc (last_clause C)) → map unpack_literal (codes_at words (end_at words (k - 1)) (length (clause_of C k))) ≡ clause_of C k
      go (inl e) =
          let q : suc (k - 1) ≡ k = omega (arith, ok.positive) in
          subst (λ j. map unpack_literal (codes_at words (end_at words (k - 1)) (length (clause_of C j))) ≡ clause_of C j) q (H.codes (k - 1) (omega (arith, ok.positive, e, H.last)))
      go (inr e) = empty (clause_of C k) (none_past H k (omega (arith, e, H.last)))

  own_codes : map unpack_literal (codes_at words' (end_at words (k - 1)) (length (clause_of C' k))) ≡ clause_of C' k
  own_codes =
      let e = end_at words (k - 1) in
      let m = length (clause_of C k) in
      let q : length (clause_of C' k) ≡ suc m = ap length own_clause ∙ length-append (clause_of C k) (unpack_literal code ∷ []) ∙ omega arith in
      let before : codes_at words' e m ≡ codes_at words e m = same_codes words words' e m (λ j a b. other_code j (omega (arith, ends_here))) in
      ap (λ i. map unpack_literal (codes_at words' e i)) q ∙ ap (map unpack_literal) (codes_after words' e m)
      ∙ map-append unpack_literal (codes_at words' e m) (get_or words' (e + m) 0 ∷ [])
      ∙ (λ p. (ap (map unpack_literal) before ∙ old_codes) p ++ (unpack_literal ((ap (λ i. get_or words' i 0) ends_here ∙ own_code) p) ∷ []))
      ∙ sym own_clause

  -- a clause before it is as it was
  before_last : (j : ClauseNo) → j < k → j ≤ last
  before_last j l = omega (arith, ok.most, H.last)

  -- what is so of this clause, and of those before it
  each_to : (P : ClauseNo → Type 0) → P k → ((j : ClauseNo) → j < k → P j) → (j : ClauseNo) → j ≤ k → P j
  each_to P own others j l = go (dec (eqb j k))
    where
      go : (eqb j k ≡ true) ⊎ (eqb j k ≡ false) → P j
      go (inl e) = subst P (sym (eqb-true j k e)) own
      go (inr e) = others j (omega (arith, eqb-false j k e))

  abbrev Follows : ClauseNo → Type 0
  Follows j = (1 ≤ j) → (end_at words' (j - 1) + length (clause_of C' j) ≡ end_at words' j) × (map unpack_literal (codes_at words' (end_at words' (j - 1)) (length (clause_of C' j))) ≡ clause_of C' j)

  own_follows : Follows k
  own_follows l =
      let e = other_end (k - 1) (λ z. omega (arith, ok.positive)) in
      let m : length (clause_of C' k) ≡ length (clause_of C k) + 1 = ap length own_clause ∙ length-append (clause_of C k) (unpack_literal code ∷ []) in
      (omega (arith, e, m, ends_here, own_end), ap (λ x. map unpack_literal (codes_at words' x (length (clause_of C' k)))) e ∙ own_codes)

  other_follows : (j : ClauseNo) → j < k → Follows j
  other_follows j l f =
      let q : suc (j - 1) ≡ j = omega arith in
      let a = before_last j l in
      let e = other_end (j - 1) (λ z. omega arith) in
      let c = other_clause j (λ z. omega arith) in
      let old = subst (λ i. end_at words (j - 1) + length (clause_of C i) ≡ end_at words i) q (H.counts (j - 1) (omega (arith, a))) in
      let same : codes_at words' (end_at words (j - 1)) (length (clause_of C j)) ≡ codes_at words (end_at words (j - 1)) (length (clause_of C j)) =
      same_codes words words' (end_at words (j - 1)) (length (clause_of C j)) (λ i x y. other_code i (omega (arith, old, H.inside j a))) in (
        rw (e, c, other_end j (λ z. omega arith)) old,
        rw (e, c, same) (subst (λ i. map unpack_literal (codes_at words (end_at words (j - 1)) (length (clause_of C i))) ≡ clause_of C i) q (H.codes (j - 1) (omega (arith, a)))),
      )

  follows : (j : ClauseNo) → j < k
      → (end_at words' j + length (clause_of C' (suc j)) ≡ end_at words' (suc j)) × (map unpack_literal (codes_at words' (end_at words' j) (length (clause_of C' (suc j)))) ≡ clause_of C' (suc j))
  follows j l =
      let q : suc j - 1 ≡ j = omega arith in
      subst (λ i. (end_at words' i + length (clause_of C' (suc j)) ≡ end_at words' (suc j)) × (map unpack_literal (codes_at words' (end_at words' i) (length (clause_of C' (suc j)))) ≡ clause_of C' (suc j)))
      q (each_to Follows own_follows other_follows (suc j) l (omega arith))

  pub joined : ClausesHeld C' words' k
  joined = record {
    size = length-set (set words n code) (max_clause_lines + k) (n + 1) ∙ long;
    bounded = all_set (λ x. x < code_limit) (set words n code) (max_clause_lines + k) (n + 1) (all_set (λ x. x < code_limit) words n code H.bounded small) (omega (arith, ok.few));
    sequence = in_sequence_after C d H.sequence h;
    last = last_after C d;
    lines = own_end ∙ sym (length-append C (d ∷ []));
    ends = each_to (λ j. end_at words' j ≡ lines_to C' j)
        (own_end ∙ add-one n ∙ sym (lines_after C d k ∙ ap (λ b. cond b (suc n) (lines_to C k)) (eq-eqb k k refl)))
        (λ j l. other_end j (λ z. omega arith) ∙ H.ends j (before_last j l) ∙ sym (lines_after C d j ∙ ap (λ b. cond b (suc n) (lines_to C j)) (ne_eqb k j (λ z. omega arith))));
    inside = each_to (λ j. end_at words' j ≤ length C') (omega (arith, own_end, length-append C (d ∷ [])))
        (λ j l. omega (arith, other_end j (λ z. omega arith), H.inside j (before_last j l), length-append C (d ∷ [])));
    counts = λ j l. (follows j l).0;
    codes = λ j l. (follows j l).1;
  }
