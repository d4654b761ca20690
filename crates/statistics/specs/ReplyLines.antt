-- 'Figures over a night's replies': a reply line, from its bytes to a reply.
use Rattle.std.specs.Prelude.{Bool, true, false, ◌&&◌, ◌||◌, not, cond, List, [], ◌∷◌, ℕ, eqb, length, get_or, Option, None, Some}
use Rattle.tableau.specs.Basics.{then, guard, Named, ◌↣◌, lookup}
use Rattle.tableau.specs.File.{comma, split, number}
use Rattle.tableau.specs.Reply.{Reply}

-- "`yes` or `no`"
unfoldable pub answers : List (Named Bool)
answers = ("yes" ↣ true) ∷ ("no" ↣ false) ∷ []

-- "Numbers in reply lines have at most five digits and no leading zero."
abbrev pub reply_digits : ℕ
reply_digits = 5

-- the numbers that texts are, if each of them is one
unfoldable pub numbers : List (List ℕ) → Option (List ℕ)
numbers [] = Some []
numbers (p ∷ ps) = then (number reply_digits p) λ n. then (numbers ps) λ ns. Some (n ∷ ns)

-- "reply lines in the form of Req 05", which adds the place to document 01's reply: seven numbers,
-- in the reply's order
abbrev pub seven_numbers : Bool → List ℕ → Option Reply
seven_numbers is_yes' ns =
    guard (eqb (length ns) 7)
    (Some
    (record {
      is_yes = is_yes';
      number = get_or ns 0 0;
      line = get_or ns 1 0;
      terms = get_or ns 2 0;
      assumptions = get_or ns 3 0;
      steps = get_or ns 4 0;
      closings = get_or ns 5 0;
      place = get_or ns 6 0;
    }))

abbrev pub reply_fields : List (List ℕ) → Option Reply
reply_fields [] = None
reply_fields (p ∷ ps) =
    then (lookup answers p) λ is_yes'. then (numbers ps) λ ns. seven_numbers is_yes' ns

-- the reply of a line, its LF taken off, if it is shaped as one
unfoldable pub reply_shape : List ℕ → Option Reply
reply_shape l = reply_fields (split comma l)

-- "a yes with a nonzero number, line or place"
abbrev pub contradictory_yes : Reply → Bool
contradictory_yes r = not (eqb r.number 0) || (not (eqb r.line 0) || not (eqb r.place 0))

-- "or a no with number 0, a nonzero count, or a place but not number 13"
abbrev pub any_count : Reply → Bool
any_count r =
    not (eqb r.terms 0) ||
    (not (eqb r.assumptions 0) || (not (eqb r.steps 0) || not (eqb r.closings 0)))

abbrev pub contradictory_no : Reply → Bool
contradictory_no r =
    eqb r.number 0 || (any_count r || (not (eqb r.place 0) && not (eqb r.number 13)))

unfoldable pub contradictory : Reply → Bool
contradictory r = cond r.is_yes (contradictory_yes r) (contradictory_no r)
