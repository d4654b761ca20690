-- The checks 8, 9 and 11 of an S line, of one field each.
use Rattle.std.specs.Prelude.{◌≡◌, Bool, ◌&&◌, ℕ}
use Rattle.tableau.specs.declared.Rule.{Rule}
use Rattle.tableau.specs.Fields.{rule_uses}
use Rattle.tableau.specs.Terms.{Table}
use Rattle.tableau.specs.Reply.{of_sort}

-- r is what check 9 says of the terms t and w of the rule
abbrev pub HasSorts : Table → Rule → ℕ → ℕ → Bool → Type 0
HasSorts table x t w r = r ≡ (of_sort table (rule_uses x).c t && of_sort table (rule_uses x).d w)
