use Rattle.std.proofs.Common.{◌∙◌, ap, Iter}
use Rattle.facts.specs.declared.StoredFact.{StoredFact}
use Rattle.std.specs.declared.iter.Rev.{Rev}
use Rattle.heap_tables.proofs.ScanLaws.{scattered_start, scattered_some, scattered_none, scattered_end}
use Rattle.heap_tables.proofs.scans.scatter.Goals as goal

pub loop-fact-init : goal.loop-fact-init
loop-fact-init c =
    let source = ap (λ (r : Rev (Iter StoredFact)). r.iter.rest.now) c.into_iter-fact-iterator.ensures.into_iter_gives in
    scattered_start _ _ _ _ _ _ (source ∙ ap (λ (i : Iter StoredFact). i.rest.now) c.rev-fact-items.ensures.source ∙ c.iter.ensures.rest) (c.fill.ensures.after (λ y e. e))

pub loop-fact-preserved-in-Some-place_of : goal.loop-fact-preserved-in-Some-place_of
loop-fact-preserved-in-Some-place_of c = scattered_some _ _ _ _ _ _ c.loop-fact.invariant _ _ c.in-Some.ensures.steps _ c.in-Some-place_of.ensures

pub loop-fact-preserved : goal.loop-fact-preserved
loop-fact-preserved c = scattered_none _ _ _ _ _ _ c.loop-fact.invariant _ _ c.in-Some.ensures.steps c.in_default.ensures

pub returns : goal.returns
returns c = scattered_end _ _ _ _ _ _ c.loop-fact.invariant c.in-None.ensures.steps.0
