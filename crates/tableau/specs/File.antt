-- 'The file': from bytes to lines of six fields.
use Rattle.std.specs.Prelude.{Bool, true, false, ◌&&◌, ◌||◌, not, List, [], ◌∷◌, ℕ, ◌+◌, ◌*◌, ◌-◌, eqb, leb, length, Option, None, Some}
use Rattle.tableau.specs.declared.Letter.{Letter}
use Rattle.tableau.specs.Basics.{then, guard, Four, four, Named, ◌↣◌, lookup}

-- "At most 60,000 bytes."
abbrev pub max_bytes : ℕ
max_bytes = 60000

abbrev pub LF : ℕ
LF = 10

abbrev pub comma : ℕ
comma = 44

-- A text cut at each byte c: where c stands n times there are n + 1 pieces.
abbrev pub on_first : ℕ → List (List ℕ) → List (List ℕ)
on_first b [] = (b ∷ []) ∷ []
on_first b (l ∷ ls) = (b ∷ l) ∷ ls

unfoldable pub split : ℕ → List ℕ → List (List ℕ)
split c [] = [] ∷ []
split c (b ∷ bs) = elim (eqb b c) [ true ↦ [] ∷ split c bs | false ↦ on_first b (split c bs) ]

-- "Field 1 is one of the letters T, A, [C], S."
unfoldable pub letters : List (Named Letter)
letters = ("T" ↣ Letter.T) ∷ ("A" ↣ Letter.A) ∷ ("C" ↣ Letter.C) ∷ ("S" ↣ Letter.S) ∷ []

-- "T lines come first, then A, [then C], then S; any kind may be missing": "C lines between A and S"
unfoldable pub rank : Letter → ℕ
rank Letter.T = 0
rank Letter.A = 1
rank Letter.C = 2
rank Letter.S = 3

abbrev pub in_order : Letter → Letter → Bool
in_order last next = leb (rank last) (rank next)

abbrev pub same_letter : Letter → Letter → Bool
same_letter k l = eqb (rank k) (rank l)

-- "Field 2 is two or three small letters."
abbrev pub is_small : ℕ → Bool
is_small b = leb 97 b && leb b 122

unfoldable pub all_small : List ℕ → Bool
all_small [] = true
all_small (b ∷ bs) = is_small b && all_small bs

abbrev pub is_word : List ℕ → Bool
is_word w = (eqb (length w) 2 || eqb (length w) 3) && all_small w

-- "Fields 3 to 6 are numbers of one to [five] digits, with no leading zero unless the number is `0`."
abbrev pub is_digit : ℕ → Bool
is_digit b = leb 48 b && leb b 57

-- "A name is 1 to [99,999]": no number is larger.
abbrev pub max_digits : ℕ
max_digits = 5

unfoldable pub digits : List ℕ → ℕ → Option ℕ
digits [] n = Some n
digits (b ∷ bs) n = guard (is_digit b) (digits bs (10 * n + (b - 48)))

-- a number of at most so many digits
unfoldable pub number : ℕ → List ℕ → Option ℕ
number limit [] = None
number limit (b ∷ bs) = guard (leb (length (b ∷ bs)) limit && (not (eqb b 48) || eqb (length bs) 0)) (digits (b ∷ bs) 0)

-- a line of a file whose lines begin with letters of a kind L
pub record Line (L : Type 0) : Type 0 where
  pub letter : L
  pub word : List ℕ
  pub fields : Four ℕ

-- "Each line has six fields parted by five commas." The first is a letter by the test that the file's letters give, a number has at most so many digits.
unfoldable pub six_fields : {L : Type 0} → ℕ → (List ℕ → Option L) → List (List ℕ) → Option (Line L)
six_fields limit first [] = None
six_fields limit first (k ∷ []) = None
six_fields limit first (k ∷ w ∷ []) = None
six_fields limit first (k ∷ w ∷ a ∷ []) = None
six_fields limit first (k ∷ w ∷ a ∷ b ∷ []) = None
six_fields limit first (k ∷ w ∷ a ∷ b ∷ c ∷ []) = None
six_fields limit first (k ∷ w ∷ a ∷ b ∷ c ∷ d ∷ []) =
    then (first k) λ letter'.
    guard (is_word w)
    (then (number limit a) λ a'. then (number limit b) λ b'. then (number limit c) λ c'. then (number limit d) λ d'.
    Some (record { letter = letter'; word = w; fields = four a' b' c' d' }))
six_fields limit first (k ∷ w ∷ a ∷ b ∷ c ∷ d ∷ e ∷ fs) = None

-- the fields of a line, its LF taken off, in a file with these letters, whose numbers have at most so many digits
abbrev pub shape_within : {L : Type 0} → ℕ → List (Named L) → List ℕ → Option (Line L)
shape_within limit known l = six_fields limit (lookup known) (split comma l)

abbrev pub shape : {L : Type 0} → List (Named L) → List ℕ → Option (Line L)
shape = shape_within max_digits
