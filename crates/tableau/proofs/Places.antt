-- An enum whose variants hold nothing: its values are as many as its variants, so what a test says of each of them, it says of every value. Every rule stands
-- at its place of the table of rules.
use mathlib.Core.Path.{◌≡◌, refl, sym, ◌∙◌, ap}
use mathlib.Core.Bool.{Bool, true, false, ◌&&◌, ◌||◌, true≢false}
use mathlib.Core.List.{List, [], ◌∷◌, map}
use mathlib.Core.Logic.{inl, inr}
use Prim.Native.Nat.{ℕ}
use lib.Dec.{eqb}
use lib.ListN.{get_or}
use borrow.Author.Tests.{eqb-true}
use denote.Struct.Field.{Field}
use denote.Enum.Declared.{Choice, Record, declared, tag_of, rowss, intoss}
use denote.Enum.Enum.{tag}
use Rattle.tableau.specs.declared.Rule.{Rule}
use Rattle.tableau.specs.Words.{rule_names}
use Rattle.tableau.specs.contracts.Rule as rule-type
use Rattle.tableau.proofs.Bools.{both_true}

-- every variant holds nothing
abbrev plain : List (List Field) → Bool
plain [] = true
plain ([] ∷ Fss) = plain Fss
plain ((F ∷ Fs) ∷ Fss) = false

-- what f gives each variant, in their order
abbrev each : {A : Type 0} (Fss : List (List Field)) → (Choice Fss → A) → List A
each [] f = []
each ([] ∷ Fss) f = f (inl tt) ∷ each Fss (λ c. f (inr c))
each ((F ∷ Fs) ∷ Fss) f = []

at_tag : {A : Type 0} (Fss : List (List Field)) → plain Fss ≡ true → (f : Choice Fss → A) (c : Choice Fss) (d : A) → get_or (each Fss f) (tag (rowss Fss) (intoss Fss c)) d ≡ f c
at_tag [] p f c d = absurd c
at_tag ([] ∷ Fss) p f (inl tt) d = refl
at_tag ([] ∷ Fss) p f (inr c) d = at_tag Fss p (λ e. f (inr e)) c d
at_tag ((F ∷ Fs) ∷ Fss) p f c d = absurd (true≢false (sym p))

-- a test that holds of all of a list
abbrev pub all_of : {A : Type 0} → (A → Bool) → List A → Bool
all_of f [] = true
all_of f (x ∷ xs) = f x && all_of f xs

every_choice : {A : Type 0} (Fss : List (List Field)) → plain Fss ≡ true → (f : Choice Fss → A) (g : A → Bool) → all_of g (each Fss f) ≡ true → (c : Choice Fss)
    → g (f c) ≡ true
every_choice [] p f g h c = absurd c
every_choice ([] ∷ Fss) p f g h (inl tt) = (both_true (g (f (inl tt))) _ h).0
every_choice ([] ∷ Fss) p f g h (inr c) = every_choice Fss p (λ e. f (inr e)) g (both_true (g (f (inl tt))) _ h).1 c
every_choice ((F ∷ Fs) ∷ Fss) p f g h c = absurd (true≢false (sym p))

module _ (N : Record) (p : plain N.parts ≡ true) where
  abbrev values : List N.D
  values = each N.parts N.make

  -- a value is the one at its place
  pub at_place : (x d : N.D) → get_or values (tag_of (declared N) x) d ≡ x
  at_place x d = at_tag N.parts p N.make (N.as_values x) d ∙ N.eta x

  pub same_place : (x y : N.D) → eqb (tag_of (declared N) x) (tag_of (declared N) y) ≡ true → x ≡ y
  same_place x y e = sym (at_place x x) ∙ ap (λ n. get_or values n x) (eqb-true _ _ e) ∙ at_place y x

  pub every_value : (f : N.D → Bool) → all_of f values ≡ true → (x : N.D) → f x ≡ true
  every_value f h x = ap f (sym (N.eta x)) ∙ every_choice N.parts p N.make f h (N.as_values x)

  -- what is given to each value in two ways, in their order, is the same for every value
  pub every_equal : {A : Type 0} (f g : N.D → A) → each N.parts (λ c. f (N.make c)) ≡ each N.parts (λ c. g (N.make c)) → (x : N.D) → f x ≡ g x
  every_equal {A} f g e x = sym (at f) ∙ ap (λ l. get_or l (tag_of (declared N) x) (f x)) e ∙ at g
    where
      at : (h : N.D → A) → get_or (each N.parts (λ c. h (N.make c))) (tag_of (declared N) x) (f x) ≡ h x
      at h = at_tag N.parts p (λ c. h (N.make c)) (N.as_values x) (f x) ∙ ap h (N.eta x)

-- THE TABLE OF RULES: the rules in the order in which it names them
unfoldable pub rules : List Rule
rules = map (λ n. n.is) rule_names

abbrev pub place_of : Rule → ℕ
place_of x = tag_of rule-type.the_type x

-- EVERY RULE STANDS AT ITS PLACE OF THE TABLE
pub stands : (x d : Rule) → get_or rules (place_of x) d ≡ x
unfolding rules rule_names
stands = at_place rule-type.enum refl

-- so a test that holds of all rules of the table holds of every rule
pub every_rule : (f : Rule → Bool) → all_of f rules ≡ true → (x : Rule) → f x ≡ true
unfolding rules rule_names
every_rule = every_value rule-type.enum refl

-- rules with one place are one rule
pub same_rule : (x y : Rule) → eqb (place_of x) (place_of y) ≡ true → x ≡ y
same_rule = same_place rule-type.enum refl

-- the rule is one of these
abbrev is_one_of : Rule → List Rule → Bool
is_one_of x [] = false
is_one_of x (y ∷ ys) = eqb (place_of x) (place_of y) || is_one_of x ys

-- the rule is none of these
abbrev pub NoneOf : Rule → List Rule → Type 0
NoneOf x [] = Unit
NoneOf x (y ∷ ys) = (x ≡ y → ⊥) × NoneOf x ys

not_one_of : (ys : List Rule) (x : Rule) → NoneOf x ys → is_one_of x ys ≡ false
not_one_of [] x h = refl
not_one_of (y ∷ ys) x h = rw (apart (eqb (place_of x) (place_of y)) refl, not_one_of ys x h.1)
  where
    apart : (b : Bool) → eqb (place_of x) (place_of y) ≡ b → b ≡ false
    apart true e = absurd (h.0 (same_rule x y e))
    apart false e = refl

-- a test that holds of every rule but the named ones holds in the arm that is left when each of those has its own
pub other_rule : (f : Rule → Bool) (named : List Rule) → all_of (λ x. is_one_of x named || f x) rules ≡ true → (x : Rule) → NoneOf x named → f x ≡ true
other_rule f named h x n =
    let e = every_rule (λ y. is_one_of y named || f y) h x in
    sym (λ i. not_one_of named x n i || f x) ∙ e
