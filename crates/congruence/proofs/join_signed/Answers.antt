use Rattle.std.proofs.Common.{arith, sym, ◌∙◌}
use Rattle.congruence.proofs.AlikeLaws.{signed_new, signed_met}
use Rattle.congruence.proofs.join_signed.Goals as goal

pub join-requires : goal.join-requires
join-requires c =
    let G = c.requires.by_index in
    let k = c.in-Some.ensures G.0 G.1 in
    (c.requires.small, omega (arith, k.1, G.2))

-- no term before has the signature
pub returns-in_default : goal.returns-in_default
returns-in_default c m C l = signed_new _ _ m _ _ _ (c.in_default.ensures m C)

pub returns : goal.returns
returns c m C l =
    signed_met _ _ _ m _ _ _ _ _ (sym c.takes_terms.ensures ∙ c.if-not-takes_terms.false)
    (c.in-Some.ensures m C) c.join.ensures
