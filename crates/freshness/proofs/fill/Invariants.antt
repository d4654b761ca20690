-- The invariant: the words before k are filled, and no row before i is changed, nor its words from k on.
use Rattle.mentions.specs.Mentions.{Filled}
use Rattle.freshness.specs.Prefixes.{next_bits}
use Rattle.freshness.proofs.PrefixLaws.{Ahead}
use Rattle.freshness.proofs.fill.Given as goal

abbrev pub invariant-loop-k : goal.invariant-loop-k
invariant-loop-k l = record {
  filled : Filled l.initial.prefix l.prefix l.i
      (next_bits l.initial.prefix l.rows l.from l.left l.right) l.k;
  ahead : Ahead l.initial.prefix l.prefix l.i l.k;
}
