use Rattle.std.proofs.Common.{sym, ◌∙◌, ap}
use Rattle.packing.proofs.PackingLaws.{literal_read_lem, literal_view_small}
use Rattle.background.specs.Closure.{denies}
use Rattle.background.proofs.OrderLaws.{denied_other}
use Rattle.background.proofs.order.denies_literal.Goals as goal

pub together-requires : goal.together-requires
together-requires c = literal_view_small c.args.code _ c.in-Ne.ensures

pub terms_under-requires : goal.terms_under-requires
terms_under-requires c = literal_view_small c.args.code _ c.in-Nl.ensures

-- ne
pub returns-in-Ne : goal.returns-in-Ne
unfolding denies
returns-in-Ne c =
    c.together.ensures
    ∙ sym (ap (denies c.args.blocks.now c.args.rows.now) (literal_read_lem _ _ c.in-Ne.ensures))

-- nl
pub returns-in-Nl : goal.returns-in-Nl
unfolding denies
returns-in-Nl c =
    c.terms_under.ensures
    ∙ sym (ap (denies c.args.blocks.now c.args.rows.now) (literal_read_lem _ _ c.in-Nl.ensures))

-- another relation
pub returns-in_default : goal.returns-in_default
returns-in_default c =
    let p = c.view.result in
    sym (ap (denies c.args.blocks.now c.args.rows.now) (literal_read_lem _ p c.view.ensures)
    ∙ denied_other _ _ p (c.in_default.not-Ne, c.in_default.not-Nl))
