use mathlib.Core.Path.{sym, subst}
use Rattle.table.specs.Held.{SmallFound}
use Rattle.table.proofs.EntryLaws.{found_small}
use Rattle.table.proofs.find.Goals as goal

pub returns : goal.returns
returns c =
    λ table S.
    let e = c.search.ensures table S _ (record { is = c.pack.ensures; packable = c.requires.packable }) in
    record { is = e; small = subst SmallFound (sym e) (found_small table _ S.entries _) }
