use Rattle.std.proofs.lemmas.Bool.{ltb-true, lt-ltb}
use Rattle.sim_core.proofs.LeadLaws.{takes_exactly}
use Rattle.sim_core.proofs.detour.test_takes.Goals as goal

pub returns : goal.returns
returns c =
    let both = takes_exactly c.args.lts.now c.args.state c.args.label c.moves_of.result.now c.moves_of.ensures.value in
    ((λ t. both.0 (rw c.count_open.ensures.count at (ltb-true 0 c.count_open.result t))), (λ takes. lt-ltb 0 c.count_open.result (rw c.count_open.ensures.count (both.1 takes))))
