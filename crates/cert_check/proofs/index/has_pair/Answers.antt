use Rattle.std.proofs.lemmas.Bool.{false≢true}
use Rattle.cert_check.proofs.IndexLaws.{found_key, no_key}
use Rattle.cert_check.proofs.index.has_pair.Goals as goal

pub returns-in-Some : goal.returns-in-Some
returns-in-Some c = found_key _ _ _ _ _ _ _ _ c.requires c.in-Some.ensures c.has.ensures

pub returns-in-None : goal.returns-in-None
returns-in-None c = (λ t. absurd (false≢true t), λ has. absurd (no_key _ _ _ _ _ _ c.requires c.in-None.ensures has))
