use Rattle.std.proofs.Common.{arith}
use Rattle.class_order.proofs.FillLaws.{pass_all}
use Rattle.class_order.proofs.Rows.pass.Goals as goal

pub returns : goal.returns
returns c = pass_all _ _ _ c.args.branch.now _ _ (omega arith) c.loop-code.invariant
