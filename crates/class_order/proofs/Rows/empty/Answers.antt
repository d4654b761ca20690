use Rattle.std.proofs.Common.{refl}
use Rattle.class_order.proofs.WordLaws.{no_bits, none_under}
use Rattle.class_order.proofs.Rows.empty.Goals as goal

pub invariant_of-result : goal.invariant_of-result
invariant_of-result c = record { valid = no_bits _ refl }

pub returns : goal.returns
returns c x y = none_under 16384 x y
