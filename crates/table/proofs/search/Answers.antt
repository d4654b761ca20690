use Rattle.table.proofs.EntryLaws.{found_number}
use Rattle.table.proofs.search.Goals as goal

pub seek-requires : goal.seek-requires
seek-requires c = let G = c.requires in (_, G.1.chained, G.1.entries.few)

pub returns : goal.returns
returns c table S e P = found_number table _ _ S _ e P _ (c.seek.ensures _ S.chained)
