use Rattle.session_core.proofs.PlaceLaws.{shown_at}
use Rattle.session_core.proofs.place.is_shown.Goals as goal

pub returns : goal.returns
returns g c = λ σ at. shown_at _ _ _ _ _ σ at c.shows.ensures
