use Rattle.session_core.proofs.PlaceLaws.{allowed_at}
use Rattle.session_core.proofs.place.is_allowed.Goals as goal

pub returns : goal.returns
returns g c = λ σ at. allowed_at _ _ _ _ _ σ c.requires.item at c.allows.ensures
