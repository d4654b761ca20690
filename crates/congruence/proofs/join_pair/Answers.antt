use Rattle.std.proofs.Common.{sym, ◌∙◌, eqb-true}
use Rattle.partition.proofs.JoinLaws.{coarsened_where}
use Rattle.congruence.proofs.SignatureLaws.{signed_follow}
use Rattle.congruence.proofs.join_pair.Goals as goal
use Rattle.congruence.proofs.join_pair.Goals.{then-takes_terms, else-takes_terms}

pub returns-then-signature : goal.returns-then-signature
returns-then-signature c = elim c.if-takes_terms.branch [
  | then-takes_terms w ↦
      let same = eqb-true _ _ (sym w.value-is ∙ c.if-signature.true) in
      coarsened_where _ _ _ _ _ c.join.ensures.change
      (λ table B E C. signed_follow table _ E B c.args.blocks.now C _ _
      (sym c.takes_terms.ensures ∙ w.if-takes_terms.true)
      (sym w.signature.ensures ∙ same ∙ w.signature-then-takes_terms.ensures))
  | else-takes_terms w ↦ absurd cc
]
