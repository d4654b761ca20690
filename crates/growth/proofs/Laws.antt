-- Which rules close, and what an outcome makes of the tree.
use mathlib.Core.Path.{◌≡◌, refl, sym, ◌∙◌, ap}
use mathlib.Core.Bool.{Bool, true, false, not, cond}
use mathlib.Core.List.{List, [], ◌∷◌, map}
use Rattle.std.specs.Prelude.{Option, Some, Result, Ok, Err, IsOkAnd, MatchResult}
use Prim.Native.Nat.{ℕ, suc, ◌+◌, ◌-◌, ◌≤◌, ◌<◌}
use native.Mathlib.Numerals.{add-one}
use lib.ListN.{length, get_or, length-map}
use native.Mathlib.Omega.{arith}
use borrow.Author.Tests.{not-true}
use Rattle.tableau.specs.declared.Reason.{Reason}
use Rattle.tableau.specs.declared.Rule.{Rule}
use Rattle.tableau.specs.Words.{rule_names}
use Rattle.tableau.specs.Rules.{rule}
use Rattle.tableau.specs.Reply.{is_closing}
use Rattle.tableau.proofs.Places.{rules, NoneOf, other_rule}
use Rattle.tableau.specs.Tree.{grown}
use Rattle.tableau.specs.Reply.{max_clause_lines}
use Rattle.packing.specs.Packing.{unpack_literal, code_limit}
use Rattle.clauses.specs.declared.Span.{Span}
use Rattle.clauses.specs.Held.{codes_at}
use Rattle.tree.specs.declared.Change.{Change}
use Rattle.tree.specs.declared.Alternative.{Alternative}
use Rattle.tree.specs.declared.Begun.{Begun}
use Rattle.tree.specs.State.{codes_of, AtMost, one_code, InLimits, tree_in}
use Rattle.tree.specs.Change.{split_into, room_for, Splits, each_alone}
use Rattle.tree.proofs.Waiting.{codes_length, begins_each}
use Rattle.tree.proofs.Changes.{longest, split_refused, split_passed}
use Rattle.rules.specs.declared.outcome.Outcome.{Outcome}
use Rattle.rules.specs.Answer.{alternatives_of}
use Rattle.growth.specs.Growth.{closings_of, Grows, SplitsClause}

pub closings_most : (x : Rule) → closings_of x ≤ 1
closings_most x = go (is_closing x)
  where
    go : (b : Bool) → cond b 1 0 ≤ 1
    go true = omega arith
    go false = omega arith

abbrev closings : Bool → ℕ
closings b = cond b 1 0

-- the rules that close are `cls`, `emp` and `bck`
closes_not : (x : Rule) → NoneOf x (Rule.Cls ∷ Rule.Emp ∷ Rule.Bck ∷ []) → is_closing x ≡ false
unfolding rules rule_names rule
closes_not x o =
    not-true (is_closing x)
    (other_rule (λ y. not (is_closing y)) (Rule.Cls ∷ Rule.Emp ∷ Rule.Bck ∷ []) refl x o)

pub not_closing : (x : Rule) → NoneOf x (Rule.Cls ∷ Rule.Emp ∷ Rule.Bck ∷ []) → closings_of x ≡ 0
not_closing x o = ap closings {x = is_closing x} {y = false} (closes_not x o)

-- WHAT AN OUTCOME MAKES OF THE TREE is the change of its alternatives
module _ (B W : List ℕ) (x : Outcome) (ks : List (List ℕ))
    (are : alternatives_of x ≡ map (map unpack_literal) ks) where
  pub grows_split : (r : Result Change Reason) (q : Result (Option Change) Reason)
      (post : Change → Option Change → Type 0)
      → ((c : Change) (o : Option Change) → post c o → o ≡ Some c)
      → MatchResult r (λ c. IsOkAnd q (post c)) (λ e. q ≡ Err e)
      → Splits B W ks r → Grows B W x q
  grows_split (Ok c) (Ok o) post some h S =
      rw (some c o h)
      (record {
        fits = λ b w. (S []).fits;
        result = λ words. (S words).result unpack_literal
            ∙ sym (ap (grown (tree_in unpack_literal B W)) are);
      })
  grows_split (Ok c) (Err s) post some h S = absurd h
  grows_split (Err r) q post some h S =
      rw h (record {
        fits = λ b w. tt;
        result = λ words. (S words).result unpack_literal
            ∙ sym (ap (grown (tree_in unpack_literal B W)) are);
      })

-- A CLAUSE has an alternative for each of its literals
longest_alone : (l : List ℕ) → longest (each_alone l) ≤ 1
longest_alone [] = omega arith
longest_alone (x ∷ l) = omega (arith, longest_alone l)

module _ (words B W : List ℕ) (are : InLimits B W) (s : Span) (some : 1 ≤ s.count) where
  abbrev rest : List ℕ
  rest = codes_at words (s.from + 1) (s.count - 1)

  clause_is : each_alone (codes_at words s.from s.count)
      ≡ (get_or words s.from 0 ∷ []) ∷ each_alone rest
  clause_is =
      let n : s.count ≡ suc (s.count - 1) = omega arith in
      ap (λ k. each_alone (codes_at words s.from k)) n
      ∙ ap (λ i. (get_or words s.from 0 ∷ []) ∷ each_alone (codes_at words i (s.count - 1)))
      (sym (add-one s.from))

  rest_length : length (each_alone rest) ≡ s.count - 1
  rest_length = length-map rest (λ l. l ∷ []) ∙ codes_length words (s.from + 1) (s.count - 1)

  pub clause_refused : {r : Reason} → Err r ≡ room_for B W 1 (s.count - 1)
      → SplitsClause words B W s (Err r)
  clause_refused e =
      rw clause_is
      (split_refused words B W are (get_or words s.from 0 ∷ []) (each_alone rest) 1
      (s.count - 1) (omega (arith, longest_alone rest)) (sym rest_length) e)

  pub clause_passed : ((i : ℕ) → get_or words i 0 < code_limit)
      → s.from + s.count ≤ max_clause_lines → {u : Unit {0}} → Ok u ≡ room_for B W 1 (s.count - 1)
      → (a : Alternative) → AtMost 1 a × (a ≡ one_code (get_or words s.from 0))
      → SplitsClause words B W s
      (Ok (split_into B W a (Begun.Each (record { from = s.from + 1; count = s.count - 1 }))))
  clause_passed small inside e a is =
      rw clause_is
      (split_passed words B W are (get_or words s.from 0 ∷ []) (each_alone rest) 1 (s.count - 1)
      (omega (arith, longest_alone rest)) (sym rest_length) e
      a _ (record {
        count = omega (arith, is.0.count);
        first = is.0.first;
        second = is.0.second;
        third = is.0.third;
      }) (ap codes_of is.1)
      (λ h. begins_each words small (length B) (omega arith) _ (omega arith)))
