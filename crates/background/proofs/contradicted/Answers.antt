use Rattle.background.proofs.RoundLaws.{sound_first, answered}
use Rattle.background.proofs.contradicted.Goals as goal

pub loop-answer-init : goal.loop-answer-init
loop-answer-init c = sound_first _ _ _ c.singletons-blocks.result c.singletons-blocks.ensures

pub returns-in-Some : goal.returns-in-Some
returns-in-Some c = answered _ _ _ c.args.branch.now _ _ c.loop-answer.invariant c.in-Some.ensures
