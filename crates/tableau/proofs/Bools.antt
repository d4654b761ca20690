-- Boolean tests and options, taken apart.
use mathlib.Core.Path.{◌≡◌, refl, sym, ◌∙◌}
use mathlib.Core.Bool.{Bool, true, false, ◌&&◌, ◌||◌, true≢false, false≢true}
use Rattle.std.specs.Prelude.{Option, None, Some}
use Rattle.std.proofs.lemmas.Option.{none-some}
use mathlib.Core.Logic.{◌⊎◌, inl, inr}
use Prim.Native.Nat.{ℕ}
use lib.Dec.{eqb}
use borrow.Author.Tests.{eq-eqb}
use Rattle.tableau.specs.Basics.{then, guard, Four, every}
use Rattle.tableau.specs.Meaning.{◌and◌, ◌or◌}

pub dec : (b : Bool) → (b ≡ true) ⊎ (b ≡ false)
dec true = inl refl
dec false = inr refl

pub clash : {b : Bool} {A : Type 0} → b ≡ true → b ≡ false → A
clash p q = absurd (true≢false (sym p ∙ q))

-- two tests, of which neither holds without the other
pub alike : (a b : Bool) → (a ≡ true) ⊎ (a ≡ false) → (b ≡ true) ⊎ (b ≡ false) → (a ≡ true → b ≡ false → ⊥) → (a ≡ false → b ≡ true → ⊥) → a ≡ b
alike a b (inl p) (inl q) k l = p ∙ sym q
alike a b (inl p) (inr q) k l = absurd (k p q)
alike a b (inr p) (inl q) k l = absurd (l p q)
alike a b (inr p) (inr q) k l = p ∙ sym q

-- of the meaning's `and` and `or`
pub and_l : (a b : Bool) → a and b ≡ true → a ≡ true
unfolding ◌and◌
and_l true b e = refl
and_l false b e = absurd (false≢true e)

pub and_r : (a b : Bool) → a and b ≡ true → b ≡ true
unfolding ◌and◌
and_r true b e = e
and_r false b e = absurd (false≢true e)

pub and_i : {a b : Bool} → a ≡ true → b ≡ true → a and b ≡ true
unfolding ◌and◌
and_i {a} {b} p q = λ i. p i and q i

pub and_true_r : (a b : Bool) → b ≡ true → a and b ≡ a
unfolding ◌and◌
and_true_r true b e = e
and_true_r false b e = refl

pub and_false_r : (a b : Bool) → b ≡ false → a and b ≡ false
unfolding ◌and◌
and_false_r true b e = e
and_false_r false b e = refl

pub and_false_of : (a b : Bool) → a ≡ true → a and b ≡ false → b ≡ false
unfolding ◌and◌
and_false_of true b t e = e
and_false_of false b t e = absurd (false≢true t)

pub or_e : (a b : Bool) → a or b ≡ true → (a ≡ true) ⊎ (b ≡ true)
unfolding ◌or◌
or_e true b e = inl refl
or_e false b e = inr e

pub or_i1 : (a b : Bool) → a ≡ true → a or b ≡ true
unfolding ◌or◌
or_i1 a b p = λ i. p i or b

pub or_i2 : (a b : Bool) → b ≡ true → a or b ≡ true
unfolding ◌or◌
or_i2 true b p = refl
or_i2 false b p = p

-- of the tests' `&&` and `||`
pub both_true : (a b : Bool) → a && b ≡ true → (a ≡ true) × (b ≡ true)
both_true true b e = (refl, e)
both_true false b e = absurd (false≢true e)

pub both_i : {a b : Bool} → a ≡ true → b ≡ true → a && b ≡ true
both_i {a} {b} p q = λ i. p i && q i

pub both_false : (a b : Bool) → a || b ≡ false → (a ≡ false) × (b ≡ false)
both_false true b e = absurd (true≢false e)
both_false false b e = (refl, e)

pub one_true : (a b : Bool) → a || b ≡ true → (a ≡ true) ⊎ (b ≡ true)
one_true true b e = inl refl
one_true false b e = inr e

pub or_l : {a : Bool} (b : Bool) → a ≡ true → a || b ≡ true
or_l {a} b p = λ i. p i || b

pub or_r : (a : Bool) {b : Bool} → b ≡ true → a || b ≡ true
or_r true e = refl
or_r false e = e

pub every_true : {A B : Type 0} (f : A → B → Bool) (x : Four A) (y : Four B) → every f x y ≡ true
    → (f x.a y.a ≡ true) × (f x.b y.b ≡ true) × (f x.c y.c ≡ true) × (f x.d y.d ≡ true)
every_true f x y h =
    let h₁ = both_true (f x.a y.a) _ h in
    let h₂ = both_true (f x.b y.b) _ h₁.1 in
    let h₃ = both_true (f x.c y.c) _ h₂.1 in
    (h₁.0, h₂.0, h₃.0, h₃.1)

-- `every`, where each test is run only if those before it hold: the flag that comes out is the whole.
module _ {A B : Type 0} (f : A → B → Bool) (x : Four A) (y : Four B) where
  pub first_fails : {r : Bool} → r ≡ f x.a y.a → r ≡ false → r ≡ every f x y
  first_fails e n = n ∙ λ i. (sym n ∙ e) i && (f x.b y.b && (f x.c y.c && f x.d y.d))

  pub second_fails : {r₁ r : Bool} → r₁ ≡ f x.a y.a → r₁ ≡ true → r ≡ f x.b y.b → r ≡ false → r ≡ every f x y
  second_fails e₁ t₁ e n = n ∙ λ i. (sym t₁ ∙ e₁) i && ((sym n ∙ e) i && (f x.c y.c && f x.d y.d))

  pub third_fails : {r₁ r₂ r : Bool} → r₁ ≡ f x.a y.a → r₁ ≡ true → r₂ ≡ f x.b y.b → r₂ ≡ true → r ≡ f x.c y.c → r ≡ false → r ≡ every f x y
  third_fails e₁ t₁ e₂ t₂ e n = n ∙ λ i. (sym t₁ ∙ e₁) i && ((sym t₂ ∙ e₂) i && ((sym n ∙ e) i && f x.d y.d))

  pub three_hold : {r₁ r₂ r₃ r : Bool} → r₁ ≡ f x.a y.a → r₁ ≡ true → r₂ ≡ f x.b y.b → r₂ ≡ true → r₃ ≡ f x.c y.c → r₃ ≡ true
      → r ≡ f x.d y.d → r ≡ every f x y
  three_hold e₁ t₁ e₂ t₂ e₃ t₃ e = λ i. (sym t₁ ∙ e₁) i && ((sym t₂ ∙ e₂) i && ((sym t₃ ∙ e₃) i && e i))

pub eqb_same : (n : ℕ) → eqb n n ≡ true
eqb_same n = eq-eqb n n refl

-- of options
pub none≢some : {A B : Type 0} {x : A} → None ≡ Some x → B
none≢some {A} {B} {x} e = absurd (none-some x e)

pub some_inj : {A : Type 0} {x y : A} → Some x ≡ Some y → x ≡ y
some_inj e = cc

pub then_inv : {A B : Type 0} {r : B} (m : Option A) (k : A → Option B) → then m k ≡ Some r → (x : A) × (m ≡ Some x) × (k x ≡ Some r)
then_inv None k e = none≢some e
then_inv (Some x) k e = (x, refl, e)

pub guard_inv : {A : Type 0} {r : A} (b : Bool) (m : Option A) → guard b m ≡ Some r → (b ≡ true) × (m ≡ Some r)
guard_inv true m e = (refl, e)
guard_inv false m e = none≢some e
