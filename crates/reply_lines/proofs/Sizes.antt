-- A reply line is so long at least, and its numbers are small.
use mathlib.Core.Bool.{Bool, true, false}
use mathlib.Core.List.{List, [], ◌∷◌}
use Rattle.std.specs.Prelude.{Some}
use mathlib.Core.Path.{◌≡◌, refl, sym, ◌∙◌}
use Prim.Native.Nat.{ℕ, suc, ◌+◌, ◌*◌, ◌^◌, ◌≤◌, ◌<◌}
use native.Mathlib.Omega.{arith}
use lib.Dec.{eqb}
use lib.ListN.{length}
use borrow.Author.Tests.{eqb-true}
use Rattle.tableau.specs.Basics.{lookup}
use Rattle.tableau.specs.File.{comma, split, is_word, number}
use Rattle.tableau.specs.Reply.{Reply}
use Rattle.tableau.proofs.Bools.{none≢some, some_inj, then_inv, guard_inv}
use Rattle.tableau.proofs.SixFields.{some_digit, word_long}
use Rattle.tableau.proofs.Pieces.{bytes_of, split_bytes}
use Rattle.statistics.specs.ReplyLines.{answers, reply_digits, numbers, reply_fields, reply_shape}
use Rattle.statistics.proofs.ReplyShapes.{steps_below}
use Rattle.reply_lines.specs.Reading.{least_reply}
use Rattle.reply_lines.proofs.Shapes.{only_words, answers_are_words}

pub record Sizes (l : List ℕ) (r : Reply) : Type 0 where
  pub long : least_reply ≤ length l + 1
  pub steps : r.steps < 10 ^ reply_digits

-- a number has a digit, and its comma
numbers_long : (ps : List (List ℕ)) (ns : List ℕ) → numbers ps ≡ Some ns
    → 2 * length ns ≤ bytes_of ps
unfolding numbers
numbers_long [] ns e = let q = some_inj e in rw (← q) (omega arith)
numbers_long (p ∷ ps) ns e =
    let h = then_inv (number reply_digits p) _ e in
    let k = then_inv (numbers ps) _ h.2 in
    let long = numbers_long ps k.0 k.1 in
    rw (← some_inj k.2) (omega (arith, long, some_digit reply_digits p h.1))

-- an answer has two letters at least
answer_long : (p : List ℕ) {y : Bool} → lookup answers p ≡ Some y → 2 ≤ length p
answer_long p e = which (is_word p) refl
  where
    which : (b : Bool) → is_word p ≡ b → 2 ≤ length p
    which true w = word_long p w
    which false w = none≢some (sym (only_words answers answers_are_words p w) ∙ e)

pub sizes : (l : List ℕ) (r : Reply) → reply_shape l ≡ Some r → Sizes l r
unfolding reply_shape
sizes l r e = go (split comma l) (split_bytes comma l) e
  where
    go : (ps : List (List ℕ)) → bytes_of ps ≡ suc (length l) → reply_fields ps ≡ Some r → Sizes l r
    go [] b e = none≢some e
    go (p ∷ ps) b h₀ =
        let h = then_inv (lookup answers p) _ h₀ in
        let k = then_inv (numbers ps) _ h.2 in
        let g = guard_inv (eqb (length k.0) 7) _ k.2 in
        record {
          long =
              omega (
                arith,
                b,
                answer_long p h.1,
                numbers_long ps k.0 k.1,
                eqb-true
                    (length k.0) 7 g.0,
              );
          steps = steps_below l r e;
        }
