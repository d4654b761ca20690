-- What the files of the specification share: optional values, the four number fields of a line, quoted text as bytes.
use Rattle.std.specs.Prelude.{Bool, true, false, ◌&&◌, List, [], ◌∷◌, ℕ, eqb, Option, None, Some}
use Prim.Native.Char.{code}
use Prim.Native.String.{String}

-- go on with the value, if there is one
abbrev pub then : {A B : Type 0} → Option A → (A → Option B) → Option B
then None k = None
then (Some x) k = k x

-- go on if the test holds
abbrev pub guard : {A : Type 0} → Bool → Option A → Option A
guard true m = m
guard false m = None

abbrev pub is_some : {A : Type 0} → Option A → Bool
is_some None = false
is_some (Some x) = true

-- Fields 3 to 6 of a line, or what is said of each of them.
pub record Four (A : Type 0) : Type 0 where
  pub a : A
  pub b : A
  pub c : A
  pub d : A

abbrev pub four : {A : Type 0} → A → A → A → A → Four A
four x y z w = record { a = x; b = y; c = z; d = w }

-- the same said of each of the four
abbrev pub map_four : {A B : Type 0} → (A → B) → Four A → Four B
map_four f x = four (f x.a) (f x.b) (f x.c) (f x.d)

-- a test that holds of each of the four, beside what is said of it
abbrev pub every : {A B : Type 0} → (A → B → Bool) → Four A → Four B → Bool
every f x y = f x.a y.a && (f x.b y.b && (f x.c y.c && f x.d y.d))

-- the bytes of a quoted text
unfoldable pub bytes : String → List ℕ
bytes String.[] = []
bytes (String.◌∷◌ c s) = code c ∷ bytes s

unfoldable pub same_bytes : List ℕ → List ℕ → Bool
same_bytes [] [] = true
same_bytes [] (b ∷ bs) = false
same_bytes (a ∷ as') [] = false
same_bytes (a ∷ as') (b ∷ bs) = eqb a b && same_bytes as' bs

-- A table of words: each text with what it stands for.
pub record Named (A : Type 0) : Type 0 where
  pub text : String
  pub is : A

infix 10 ◌↣◌
abbrev pub ◌↣◌ : {A : Type 0} → String → A → Named A
s ↣ x = record { text = s; is = x }

unfoldable pub lookup : {A : Type 0} → List (Named A) → List ℕ → Option A
lookup [] w = None
lookup (n ∷ ns) w = elim (same_bytes (bytes n.text) w) [ true ↦ Some n.is | false ↦ lookup ns w ]
