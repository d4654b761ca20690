-- A text that is cut at a byte is its first piece, and each other piece behind that byte; pieces without that byte, put together so, are cut as they were.
use mathlib.Core.Path.{◌≡◌, refl, ◌∙◌, ap}
use mathlib.Core.Bool.{Bool, true, false, ◌&&◌, not}
use mathlib.Core.List.{List, [], ◌∷◌, ◌++◌}
use Prim.Native.Nat.{ℕ, suc, ◌+◌, ◌≤◌}
use native.Mathlib.Omega.{arith}
use lib.Dec.{eqb}
use lib.ListN.{length}
use borrow.Author.Tests.{eqb-true, not-true}
use Rattle.tableau.specs.File.{on_first, split}
use Rattle.tableau.proofs.Bools.{both_true, both_i, eqb_same}

-- each piece behind a byte
unfoldable pub each_behind : ℕ → List (List ℕ) → List ℕ
each_behind c [] = []
each_behind c (p ∷ ps) = c ∷ (p ++ each_behind c ps)

pub record Pieces (c : ℕ) (text : List ℕ) : Type 0 where
  pub first : List ℕ
  pub others : List (List ℕ)
  pub cut : split c text ≡ first ∷ others
  pub whole : text ≡ first ++ each_behind c others

-- a text that is cut
pub pieces : (c : ℕ) (text : List ℕ) → Pieces c text
unfolding split each_behind
pieces c [] = record { first = []; others = []; cut = refl; whole = refl }
pieces c (b ∷ bs) = go (pieces c bs) (eqb b c) refl
  where
    go : Pieces c bs → (t : Bool) → eqb b c ≡ t → Pieces c (b ∷ bs)
    go x true e = record { first = []; others = x.first ∷ x.others; cut = rw (e, split, x.cut); whole = λ i. eqb-true b c e i ∷ x.whole i }
    go x false e = record { first = b ∷ x.first; others = x.others; cut = rw (e, split, x.cut); whole = ap (λ l. b ∷ l) x.whole }

-- how many there are
pub few_pieces : (c : ℕ) (text : List ℕ) → length (split c text) ≤ suc (length text)
unfolding split
few_pieces c [] = omega arith
few_pieces c (b ∷ bs) = go (eqb b c) (split c bs) (few_pieces c bs)
  where
    go : (t : Bool) (ls : List (List ℕ)) → length ls ≤ suc (length bs) → length {A = List ℕ} (elim t [ true ↦ [] ∷ ls | false ↦ on_first b ls ]) ≤ suc (length (b ∷ bs))
    go true ls h = omega arith
    go false [] h = omega arith
    go false (l ∷ ls) h = omega arith

-- THE LENGTH of pieces and of the bytes that part them
abbrev pub bytes_of : List (List ℕ) → ℕ
bytes_of [] = 0
bytes_of (p ∷ ps) = suc (length p) + bytes_of ps

pub split_bytes : (c : ℕ) (l : List ℕ) → bytes_of (split c l) ≡ suc (length l)
unfolding split
split_bytes c [] = refl
split_bytes c (b ∷ l) = let k = pieces c l in cut (eqb b c) k.first k.others k.cut (split_bytes c l)
  where
    cut : (t : Bool) (p : List ℕ) (ps : List (List ℕ)) → split c l ≡ p ∷ ps → bytes_of (split c l) ≡ suc (length l)
        → bytes_of (elim t [ true ↦ [] ∷ split c l | false ↦ on_first b (split c l) ]) ≡ suc (suc (length l))
    cut true p ps k e = omega (arith, e)
    cut false p ps k e = rw k (let h : bytes_of (p ∷ ps) ≡ suc (length l) = rw k at e in omega (arith, h))

-- PIECES WITHOUT THE BYTE
unfoldable pub free : ℕ → List ℕ → Bool
free c [] = true
free c (b ∷ bs) = not (eqb b c) && free c bs

abbrev pub AllFree : ℕ → List (List ℕ) → Type 0
AllFree c [] = Unit {0}
AllFree c (p ∷ ps) = (free c p ≡ true) × AllFree c ps

-- two texts without it, one behind the other, and pieces without it behind another byte
pub free_append : (c : ℕ) (s t : List ℕ) → free c s ≡ true → free c t ≡ true → free c (s ++ t) ≡ true
unfolding free
free_append c [] t f g = g
free_append c (b ∷ s) t f g = let h = both_true (not (eqb b c)) _ f in both_i h.0 (free_append c s t h.1 g)

pub free_behind : (c s : ℕ) (ps : List (List ℕ)) → eqb s c ≡ false → AllFree c ps → free c (each_behind s ps) ≡ true
unfolding free each_behind
free_behind c s [] e f = refl
free_behind c s (p ∷ ps) e f = both_i (ap not e) (free_append c p (each_behind s ps) f.0 (free_behind c s ps e f.1))

-- a piece before a text whose first piece is empty
split_after : (c : ℕ) (p text : List ℕ) (ps : List (List ℕ)) → free c p ≡ true → split c text ≡ [] ∷ ps → split c (p ++ text) ≡ p ∷ ps
unfolding free split
split_after c [] text ps h e = e
split_after c (b ∷ bs) text ps h e = let t = both_true (not (eqb b c)) _ h in rw (not-true (eqb b c) t.0, split, split_after c bs text ps t.1 e)

-- a piece that the byte ends
pub split_ended : (c : ℕ) (p text : List ℕ) → free c p ≡ true → split c (p ++ (c ∷ text)) ≡ p ∷ split c text
unfolding split
split_ended c p text h = split_after c p (c ∷ text) (split c text) h (rw (eqb_same c, split))

-- pieces without it, each but the first behind it
pub split_behind : (c : ℕ) (p : List ℕ) (qs : List (List ℕ)) → AllFree c (p ∷ qs) → split c (p ++ each_behind c qs) ≡ p ∷ qs
unfolding split each_behind
split_behind c p [] h = split_after c p [] [] h.0 refl
split_behind c p (q ∷ qs) h = split_ended c p (q ++ each_behind c qs) h.0 ∙ ap (λ ls. p ∷ ls) (split_behind c q qs h.1)
