-- A chain leads to every term with its hash, in falling order of the terms' numbers.
use mathlib.Core.Path.{◌≡◌, refl, sym, ◌∙◌, ap}
use mathlib.Core.Bool.{Bool, true, false, cond}
use mathlib.Core.List.{List}
use mathlib.Core.Logic.{inl, inr, ⊎_elim}
use Prim.Native.Nat.{ℕ, zero, suc, ◌+◌, ◌<◌, ◌≤◌}
use native.Mathlib.Nat.{eq-or-lt_of_le}
use native.Mathlib.Omega.{arith}
use lib.Dec.{eqb, leb}
use lib.ListN.{length, get_or, set, length-set}
use lib.Seq.{get_or-set_same, get_or-set_other}
use borrow.Author.Tests.{eqb-true, eqb-false, leb-true, leb-false}
use Rattle.tableau.proofs.Bools.{dec}
use Rattle.tableau.specs.Terms.{max_terms}
use Rattle.table.specs.Held.{hashes, hash_of, last_with, Chains, Seeking}

hash_small : (p : ℕ) → hash_of p < hashes
unfolding hash_of
hash_small p = omega arith

module _ (terms : List ℕ) (h : ℕ) where
  abbrev hash : ℕ → ℕ
  hash t = hash_of (get_or terms t 0)

  pub last_le : (m : ℕ) → last_with terms h m ≤ m
  unfolding last_with
  last_le zero = omega arith
  last_le (suc m) = go (last_le m) (eqb (hash (suc m)) h)
    where
      go : last_with terms h m ≤ m → (b : Bool) → cond b (suc m) (last_with terms h m) ≤ suc m
      go ih true = omega arith
      go ih false = omega arith

  pub last_hash : (m : ℕ) → 0 < last_with terms h m → hash (last_with terms h m) ≡ h
  unfolding last_with
  last_hash zero = λ p. absurd (omega arith)
  last_hash (suc m) = go (last_hash m) (eqb (hash (suc m)) h) refl
    where
      go : (0 < last_with terms h m → hash (last_with terms h m) ≡ h) → (b : Bool) → eqb (hash (suc m)) h ≡ b
          → 0 < cond b (suc m) (last_with terms h m) → hash (cond b (suc m) (last_with terms h m)) ≡ h
      go ih true e p = eqb-true _ _ e
      go ih false e p = ih p

  pub last_none : (m j : ℕ) → last_with terms h m < j → j ≤ m → hash j ≡ h → ⊥
  unfolding last_with
  last_none zero j = λ l le e. omega arith
  last_none (suc m) j = go (last_none m j) (eqb (hash (suc m)) h) refl
    where
      go : (last_with terms h m < j → j ≤ m → hash j ≡ h → ⊥) → (b : Bool) → eqb (hash (suc m)) h ≡ b
          → cond b (suc m) (last_with terms h m) < j → j ≤ suc m → hash j ≡ h → ⊥
      go ih true e l le q = omega arith
      go ih false e l le q =
          ⊎_elim (λ (z : j ≡ suc m). eqb-false _ _ e (rw z at q)) (λ (z : j < suc m). ih l (omega arith) q) (eq-or-lt_of_le le)

-- WHERE A SEARCH STANDS
module _ (terms chains : List ℕ) (n p : ℕ) (C : Chains terms chains n) where
  pub seek_start : (t : ℕ) → t ≡ get_or chains (hash_of p) 0 → Seeking terms n p t
  seek_start t e =
      rw (e, C.begins (hash_of p) (hash_small p))
      record {
        within = last_le terms (hash_of p) n;
        same = last_hash terms (hash_of p) n;
        passed = λ j m le q. last_none terms (hash_of p) n j m le (ap hash_of q);
      }

  pub seek_next : (t u : ℕ) → 0 < t → Seeking terms n p t → (get_or terms t 0 ≡ p → ⊥) → u ≡ get_or chains (hashes + t) 0 → Seeking terms n p u
  seek_next zero u l S differs e = absurd (omega arith)
  seek_next (suc t) u l S differs e =
      let b : t < n = S.within in
      rw (e, C.goes_on t b, S.same l)
      record {
        within = omega (arith, last_le terms (hash_of p) t);
        same = last_hash terms (hash_of p) t;
        passed = λ j m le q. elim (dec (leb j (suc t))) [
          | inl z ↦ ⊎_elim
              (λ (y : j ≡ suc t). differs (rw y at q))
              (λ (y : j < suc t). last_none terms (hash_of p) t j m (omega arith) (ap hash_of q))
              (eq-or-lt_of_le (leb-true j (suc t) z))
          | inr z ↦ S.passed j (leb-false j (suc t) z) le q
        ];
      }

-- however many numbers are chained
abbrev pub AllSeeking : List ℕ → List ℕ → ℕ → ℕ → Type 0
AllSeeking terms chains p t = (n : ℕ) → Chains terms chains n → Seeking terms n p t

pub seek_within : {terms chains : List ℕ} {p t : ℕ} → (n : ℕ) × Chains terms chains n × (n ≤ max_terms) → AllSeeking terms chains p t
    → (t ≤ max_terms) × AllSeeking terms chains p t
seek_within G K = (omega (arith, (K G.0 G.1).within, G.2), K)

-- A further term: it changes no chain below itself, and begins its own.
last_set : (terms : List ℕ) (h t p m : ℕ) → m < t → last_with (set terms t p) h m ≡ last_with terms h m
unfolding last_with
last_set terms h t p zero l = refl
last_set terms h t p (suc m) l = rw (get_or-set_other terms t (suc m) p 0 (omega arith), last_set terms h t p m (omega arith))

module _ (terms chains : List ℕ) (n p : ℕ) (C : Chains terms chains n) (room : suc n < length terms) (more : n < max_terms) where
  abbrev x : ℕ
  x = hash_of p

  small : x < hashes
  small = hash_small p

  abbrev linked : List ℕ
  linked = set chains (hashes + suc n) (get_or chains x 0)

  abbrev grown : List ℕ
  grown = set linked x (suc n)

  begins_new : (h : ℕ) → h < hashes → get_or grown h 0 ≡ last_with (set terms (suc n) p) h (suc n)
  unfolding last_with
  begins_new h l =
      rw (get_or-set_same terms (suc n) p 0 room, last_set terms h (suc n) p n (omega arith)) (go (C.begins h l) (eqb x h) refl)
    where
      go : get_or chains h 0 ≡ last_with terms h n → (b : Bool) → eqb x h ≡ b → get_or grown h 0 ≡ cond b (suc n) (last_with terms h n)
      go old true e = rw (← eqb-true x h e) (get_or-set_same linked x (suc n) 0 (omega (arith, C.size, small, length-set chains (hashes + suc n) (get_or chains x 0))))
      go old false e = get_or-set_other linked x h (suc n) 0 (λ z. eqb-false x h e (sym z))
          ∙ get_or-set_other chains (hashes + suc n) h (get_or chains x 0) 0 (omega arith) ∙ old

  -- a link past the heads is not the head that changes
  link_kept : (t : ℕ) → get_or grown (hashes + t) 0 ≡ get_or linked (hashes + t) 0
  link_kept t = get_or-set_other linked x (hashes + t) (suc n) 0 (omega (arith, small))

  goes_on_new : (t : ℕ) → t < suc n
      → get_or grown (hashes + suc t) 0 ≡ last_with (set terms (suc n) p) (hash_of (get_or (set terms (suc n) p) (suc t) 0)) t
  goes_on_new t l = link_kept (suc t) ∙ ⊎_elim
      (λ (e : t ≡ n).
      rw (e, get_or-set_same chains (hashes + suc n) (get_or chains x 0) 0 (omega (arith, C.size)), get_or-set_same terms (suc n) p 0 room, last_set terms x (suc n) p n (omega arith))
      (C.begins x small))
      (λ (m : t < n).
      rw (
        get_or-set_other chains (hashes + suc n) (hashes + suc t) (get_or chains x 0) 0 (omega arith),
        get_or-set_other terms (suc n) (suc t) p 0 (omega arith),
        last_set terms (hash_of (get_or terms (suc t) 0)) (suc n) p t (omega arith),
      )
      (C.goes_on t m))
      (eq-or-lt_of_le (let h : t ≤ n = omega arith in h))

  pub chains_more : Chains (set terms (suc n) p) grown (suc n)
  chains_more = record {
    size = length-set linked x (suc n) ∙ length-set chains (hashes + suc n) (get_or chains x 0) ∙ C.size;
    begins = begins_new;
    goes_on = goes_on_new;
  }
