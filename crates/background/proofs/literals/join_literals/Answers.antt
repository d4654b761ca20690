use Rattle.std.proofs.Common.{arith}
use Rattle.background.proofs.LiteralLaws.{part_more, part_all}
use Rattle.background.proofs.literals.join_literals.Goals as goal

pub loop-code-preserved : goal.loop-code-preserved
loop-code-preserved c = part_more _ _ _ c.args.branch.now _ _ _ (omega arith) c.loop-code.invariant
    c.join_literal-changed.ensures

pub returns : goal.returns
returns c = part_all _ _ c.args.branch.now _ _ (omega arith) c.loop-code.invariant
