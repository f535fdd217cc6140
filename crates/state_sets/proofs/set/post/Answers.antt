use Rattle.lts_base.proofs.SetLaws.{IsSetAfter-next}
use Rattle.state_sets.proofs.set.post.Goals as goal

pub returns-clause-after : goal.returns-clause-after
returns-clause-after c = λ σ set. IsSetAfter-next _ _ σ _ _ set c.in_ok-next.ensures.next
