-- Numbers in decimal: the digits of a number are read as that number, and what is read as a number is its digits.
use mathlib.Core.Path.{◌≡◌, refl, sym, ◌∙◌, ap}
use mathlib.Core.Bool.{Bool, true, false, ◌||◌, not, true≢false}
use mathlib.Core.List.{List, [], ◌∷◌, ◌++◌, map, append_assoc, append_cancel_right}
use mathlib.Core.Logic.{◌⊎◌, inl, inr}
use Rattle.std.specs.Prelude.{Some}
use Prim.Native.Nat.{ℕ, zero, suc, ◌+◌, ◌-◌, ◌*◌, ◌/◌, ◌%◌, ◌^◌, ◌<◌, ◌≤◌}
use native.Mathlib.Decide.{dec_lt}
use native.Mathlib.Nat.{add-zero, le_trans, pow-suc, pow-le-pow_right}
use native.Mathlib.Omega.{arith}
use lib.Dec.{eqb, leb}
use lib.ListN.{length, get_or}
use borrow.Author.Tests.{lt-ltb, le-ltb, le-leb, leb-true, eqb-true, eqb-false, ne_eqb, not-true}
use Rattle.tableau.specs.Basics.{guard}
use Rattle.tableau.specs.File.{LF, comma, split, is_digit, digits, number}
use Rattle.tableau.specs.Reply.{decimal_from, decimal, comma_numbers}
use Rattle.tableau.proofs.Bools.{clash, both_true, both_i, one_true, none≢some, some_inj, guard_inv}
use Rattle.tableau.proofs.Pieces.{each_behind, free, AllFree, split_behind}

-- THE DIGITS, found from the last to the first
abbrev tested : ℕ → ℕ → List ℕ → Bool → List ℕ
tested fuel n ds b = elim b [ true ↦ (48 + n) ∷ ds | false ↦ decimal_from fuel (n / 10) ((48 + n % 10) ∷ ds) ]

-- the last one to be found, or one before others
last : (fuel n : ℕ) (ds : List ℕ) → n < 10 → decimal_from (suc fuel) n ds ≡ (48 + n) ∷ ds
unfolding decimal_from
last fuel n ds h = ap (tested fuel n ds) (lt-ltb n 10 h)

next : (fuel n : ℕ) (ds : List ℕ) → 10 ≤ n → decimal_from (suc fuel) n ds ≡ decimal_from fuel (n / 10) ((48 + n % 10) ∷ ds)
unfolding decimal_from
next fuel n ds h = ap (tested fuel n ds) (le-ltb n 10 h)

-- the fuel does not matter once it exceeds the number
enough : (f g n : ℕ) (ds : List ℕ) → n < f → n < g → decimal_from f n ds ≡ decimal_from g n ds
enough zero g n ds hf hg = absurd (omega arith)
enough (suc f) zero n ds hf hg = absurd (omega arith)
enough (suc f) (suc g) n ds hf hg = elim (dec_lt n 10) [
  | yes h ↦ last f n ds h ∙ sym (last g n ds h)
  | no h ↦
      let t = (48 + n % 10) ∷ ds in
      next f n ds (omega arith) ∙ enough f g (n / 10) t (omega arith) (omega arith) ∙ sym (next g n ds (omega arith))
]

-- the digits of n before others
abbrev pub digits_before : ℕ → List ℕ → List ℕ
digits_before n ds = decimal_from (suc n) n ds

pub last_digit : (n : ℕ) (ds : List ℕ) → n < 10 → digits_before n ds ≡ (48 + n) ∷ ds
last_digit n = last n n

pub next_digit_lem : (n : ℕ) (ds : List ℕ) → 10 ≤ n → digits_before n ds ≡ digits_before (n / 10) ((48 + n % 10) ∷ ds)
next_digit_lem n ds h = next n n ds h ∙ enough n (suc (n / 10)) (n / 10) ((48 + n % 10) ∷ ds) (omega arith) (omega arith)

-- WRITTEN: at most suc k digits l of n before ds
record Written (n k : ℕ) (ds l : List ℕ) : Type 0 where
  value : digits l 0 ≡ digits ds n
  width : length l ≤ suc k + length ds
  no_other : (c : ℕ) → is_digit c ≡ false → free c ds ≡ true → free c l ≡ true
  leading : 1 ≤ n → eqb (get_or l 0 48) 48 ≡ false

-- a digit is read as its value, and is no other byte
is_digit_lem : (d : ℕ) → d < 10 → is_digit (48 + d) ≡ true
is_digit_lem d h = both_i (le-leb 48 (48 + d) (omega arith)) (le-leb (48 + d) 57 (omega arith))

digit_read : (d n : ℕ) (ds : List ℕ) → d < 10 → digits ((48 + d) ∷ ds) n ≡ digits ds (10 * n + d)
unfolding digits
digit_read d n ds h = let e : 10 * n + (48 + d - 48) ≡ 10 * n + d = omega arith in λ i. guard (is_digit_lem d h i) (digits ds (e i))

digit_free : (d : ℕ) (ds : List ℕ) → d < 10 → (c : ℕ) → is_digit c ≡ false → free c ds ≡ true → free c ((48 + d) ∷ ds) ≡ true
unfolding free
digit_free d ds h c o f = both_i (ap not (ne_eqb (48 + d) c (λ e. clash (is_digit_lem d h) (ap is_digit e ∙ o)))) f

-- a number below 10, and one that is not
one_digit : (n k : ℕ) (ds : List ℕ) → n < 10 → Written n k ds ((48 + n) ∷ ds)
one_digit n k ds h = record {
  value = digit_read n 0 ds h ∙ ap (digits ds) (omega arith);
  width = omega arith;
  no_other = digit_free n ds h;
  leading = λ l. ne_eqb (48 + n) 48 (λ e. omega arith);
}

more_digits : (n k : ℕ) (ds l : List ℕ) → 10 ≤ n → Written (n / 10) k ((48 + n % 10) ∷ ds) l → Written n (suc k) ds l
more_digits n k ds l h w = record {
  value = w.value ∙ digit_read (n % 10) (n / 10) ds (omega arith) ∙ ap (digits ds) (omega arith);
  width = omega (arith, w.width);
  no_other = λ c o f. w.no_other c o (digit_free (n % 10) ds (omega arith) c o f);
  leading = λ m. w.leading (omega arith);
}

written : (k n : ℕ) (ds : List ℕ) → n < 10 ^ suc k → Written n k ds (digits_before n ds)
written zero n ds h = rw (last_digit n ds h) (one_digit n 0 ds h)
written (suc k) n ds h = elim (dec_lt n 10) [
  | yes l ↦ rw (last_digit n ds l) (one_digit n (suc k) ds l)
  | no l ↦ rw (next_digit_lem n ds (omega arith)) (more_digits n k ds _ (omega arith) (written k (n / 10) ((48 + n % 10) ∷ ds) (omega (arith, pow-suc 10 (suc k)))))
]

-- n has at most suc n digits
below_power : (n : ℕ) → n < 10 ^ n
below_power zero = omega arith
below_power (suc n) = omega (arith, below_power n, pow-suc 10 n)

-- a decimal has no byte but digits
pub decimal_free : (n c : ℕ) → is_digit c ≡ false → free c (decimal n) ≡ true
unfolding free
decimal_free n c o = (written n n [] (omega (arith, below_power n, pow-suc 10 n))).no_other c o refl

-- a decimal is read as its number
pub number_decimal : (most n : ℕ) → 0 < most → n < 10 ^ most → number most (decimal n) ≡ Some n
unfolding number digits decimal_from
number_decimal zero n p h = absurd (omega arith)
number_decimal (suc k) zero p h = rw (le-leb 1 (suc k) p) refl
number_decimal (suc k) (suc n) p h = go (decimal (suc n)) (written k (suc n) [] h)
  where
    go : (l : List ℕ) → Written (suc n) k [] l → number (suc k) l ≡ Some (suc n)
    go [] w = absurd (true≢false (w.leading (omega arith)))
    go (b ∷ bs) w = rw (le-leb (length (b ∷ bs)) (suc k) (omega (arith, w.width)), w.leading (omega arith)) w.value

-- READ: a first digit, behind what is read already
read_digit : (b m n : ℕ) (bs : List ℕ) → digits (b ∷ bs) m ≡ Some n → (d : ℕ) × (d < 10) × (b ≡ 48 + d) × (digits bs (10 * m + d) ≡ Some n)
unfolding digits
read_digit b m n bs e =
    let g = guard_inv (is_digit b) _ e in
    let t = both_true (leb 48 b) _ g.0 in
    let low = leb-true 48 b t.0 in
    let high = leb-true b 57 t.1 in
    (b - 48, omega arith, omega arith, g.1)

-- digits behind those of m, which is not 0, are with them the digits of what is read
read_behind : (bs : List ℕ) (m n : ℕ) → 1 ≤ m → digits bs m ≡ Some n → decimal n ≡ digits_before m bs
unfolding digits
read_behind [] m n h e = ap decimal (sym (some_inj e))
read_behind (b ∷ bs) m n h e =
    let r = read_digit b m n bs e in
    let d = r.0 in
    let q : (10 * m + d) / 10 ≡ m = omega (arith, r.1) in
    let p : 48 + (10 * m + d) % 10 ≡ b = omega (arith, r.1, r.2) in
    read_behind bs (10 * m + d) n (omega arith) r.3 ∙ next_digit_lem (10 * m + d) bs (omega arith) ∙ λ i. digits_before (q i) (p i ∷ bs)

-- so many digits make no more than this
read_below : (bs : List ℕ) (m n k : ℕ) → m < 10 ^ k → digits bs m ≡ Some n → n < 10 ^ (k + length bs)
unfolding digits
read_below [] m n k h e = rw (← some_inj e, add-zero) h
read_below (b ∷ bs) m n k h e =
    let r = read_digit b m n bs e in
    let s : suc k + length bs ≡ k + length (b ∷ bs) = omega arith in
    rw (← s) (read_below bs (10 * m + r.0) n (suc k) (omega (arith, r.1, pow-suc 10 k)) r.3)

-- all digits, with no leading zero
read_all : (b n : ℕ) (bs : List ℕ) → (not (eqb b 48) || eqb (length bs) 0) ≡ true → digits (b ∷ bs) 0 ≡ Some n → b ∷ bs ≡ decimal n
unfolding digits
read_all b n [] z e =
    let r = read_digit b 0 n [] e in
    let d : 10 * 0 + r.0 ≡ n = some_inj r.3 in
    let q : b ≡ 48 + n = omega (arith, r.2) in
    sym (last_digit n [] (omega (arith, r.1)) ∙ ap (λ y. y ∷ []) (sym q))
read_all b n (x ∷ xs) z e = go (one_true (not (eqb b 48)) _ z)
  where
    go : (not (eqb b 48) ≡ true) ⊎ (eqb (length (x ∷ xs)) 0 ≡ true) → b ∷ x ∷ xs ≡ decimal n
    go (inl t) =
        let r = read_digit b 0 n (x ∷ xs) e in
        let m : 10 * 0 + r.0 ≡ r.0 = omega arith in
        let l = eqb-false b 48 (not-true _ t) in
        let p : 1 ≤ 10 * 0 + r.0 = omega (arith, l, r.2) in
        sym (read_behind (x ∷ xs) (10 * 0 + r.0) n p r.3 ∙ (λ i. digits_before (m i) (x ∷ xs)) ∙ last_digit r.0 (x ∷ xs) r.1 ∙ ap (λ y. y ∷ x ∷ xs) (sym r.2))
    go (inr t) = absurd (omega (arith, eqb-true (length (x ∷ xs)) 0 t))

-- what is read as a number is the number's decimal, and below the limit
pub decimal_of_number : (most n : ℕ) (l : List ℕ) → number most l ≡ Some n → (l ≡ decimal n) × (n < 10 ^ most)
unfolding number
decimal_of_number most n [] e = none≢some e
decimal_of_number most n (b ∷ bs) e =
    let g = guard_inv _ _ e in
    let t = both_true (leb (length (b ∷ bs)) most) _ g.0 in
    let width = leb-true (length (b ∷ bs)) most t.0 in
    (read_all b n bs t.1 g.1, le_trans (read_below (b ∷ bs) 0 n 0 (omega arith) g.1) (pow-le-pow_right (omega arith) (omega arith)))

-- NUMBERS IN A LINE: their decimals, each behind a comma, and the LF
pub comma_numbers_lem : (ns : List ℕ) → comma_numbers ns ≡ each_behind comma (map decimal ns) ++ (LF ∷ [])
unfolding comma_numbers each_behind
comma_numbers_lem [] = refl
comma_numbers_lem (n ∷ ns) = ap (λ l. comma ∷ (decimal n ++ l)) (comma_numbers_lem ns) ∙ ap (λ l. comma ∷ l) (sym (append_assoc (decimal n) (each_behind comma (map decimal ns)) (LF ∷ [])))

-- they have no other byte than digits
pub decimals_free : (c : ℕ) → is_digit c ≡ false → (ns : List ℕ) → AllFree c (map decimal ns)
decimals_free c o [] = tt
decimals_free c o (n ∷ ns) = (decimal_free n c o, decimals_free c o ns)

-- THE LINE TELLS THEM
decimal_injective : (m n : ℕ) → decimal m ≡ decimal n → m ≡ n
decimal_injective m n e =
    let most = suc (m + n) in
    let read : (k : ℕ) → k ≤ most → number most (decimal k) ≡ Some k = λ k h. number_decimal most k (omega arith) (le_trans (below_power k) (pow-le-pow_right (omega arith) h)) in
    some_inj (sym (read m (omega arith)) ∙ ap (number most) e ∙ read n (omega arith))

decimals_injective : (ms ns : List ℕ) → map decimal ms ≡ map decimal ns → ms ≡ ns
decimals_injective [] [] e = refl
decimals_injective [] (n ∷ ns) e = let z : true ≡ false = cc in absurd (true≢false z)
decimals_injective (m ∷ ms) [] e = let z : true ≡ false = cc in absurd (true≢false z)
decimals_injective (m ∷ ms) (n ∷ ns) e =
    let h : decimal m ≡ decimal n = cc in
    let t : map decimal ms ≡ map decimal ns = cc in
    (λ i. decimal_injective m n h i ∷ decimals_injective ms ns t i)

pub numbers_told : (m n : ℕ) (ms ns : List ℕ) → decimal m ++ comma_numbers ms ≡ decimal n ++ comma_numbers ns → m ∷ ms ≡ n ∷ ns
numbers_told m n ms ns e =
    let text : (k : ℕ) (ks : List ℕ) → decimal k ++ comma_numbers ks ≡ (decimal k ++ each_behind comma (map decimal ks)) ++ (LF ∷ [])
    = λ k ks. ap (λ l. decimal k ++ l) (comma_numbers_lem ks) ∙ sym (append_assoc (decimal k) (each_behind comma (map decimal ks)) (LF ∷ [])) in
    let cut : (k : ℕ) (ks : List ℕ) → split comma (decimal k ++ each_behind comma (map decimal ks)) ≡ map decimal (k ∷ ks)
    = λ k ks. split_behind comma (decimal k) (map decimal ks) (decimals_free comma refl (k ∷ ks)) in
    let same = append_cancel_right _ _ (LF ∷ []) (sym (text m ms) ∙ e ∙ text n ns) in
    decimals_injective (m ∷ ms) (n ∷ ns) (sym (cut m ms) ∙ ap (split comma) same ∙ cut n ns)
