use Rattle.partition.proofs.JoinLaws.{joined_valid, joined}
use Rattle.partition.proofs.Partition.join.Goals as goal

pub invariant_of-self : goal.invariant_of-self
invariant_of-self c =
    record { valid = joined_valid c.args.self.now _ _ _ c.requires.0 c.requires.1 c.merge.ensures }

pub returns : goal.returns
returns c = joined _ _ _ _ c.requires.0 c.requires.1 c.merge.ensures c.if-from-to.false
