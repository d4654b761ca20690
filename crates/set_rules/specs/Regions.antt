-- What the rules on regions test.
use Rattle.std.specs.Prelude.{Bool, ◌&&◌}
use Rattle.tableau.specs.declared.Sort.{Sort}
use Rattle.tableau.specs.Terms.{TermNo, Table, at, sort_of, same_sort}

abbrev pub are_regions : Table → TermNo → TermNo → Bool
are_regions table m n =
    same_sort Sort.Region (sort_of (at table m)) && same_sort Sort.Region (sort_of (at table n))
