use Rattle.std.proofs.Common.{inr}
use Rattle.sim_core.specs.Simulated.{Place}
use Rattle.sim_core.specs.declared.among.Among.TheVariants.{Taking}
use Rattle.sim_core.proofs.LeadLaws.{Goes-leads, halts_on_cycle, able_at, Steps-taken}
use Rattle.sim_core.proofs.taking.take_from.Goals as goal

pub detour-requires-clause-cycle : goal.detour-requires-clause-cycle
detour-requires-clause-cycle g c =
    let (ms, goes, halts) = rw c.in-None.is at c.go_on-gone.ensures.gone in
    let leads = Goes-leads g.R.NextWord.step c.args.lts.now (Taking c.args.input) _ ms _ goes in
    halts_on_cycle c.args.lts.now c.args.input c.go_on-gone.result.state (able_at c.args.lts.now c.args.input c.args.from _ c.requires.input c.requires.simulating leads) halts

pub detour-requires-clause-able : goal.detour-requires-clause-able
detour-requires-clause-able g c =
    let (ms, goes, halts) = rw c.in-None.is at c.go_on-gone.ensures.gone in
    able_at c.args.lts.now c.args.input c.args.from _ c.requires.input c.requires.simulating (Goes-leads g.R.NextWord.step c.args.lts.now (Taking c.args.input) _ ms _ goes)

pub returns-in-Some-clause-taken : goal.returns-in-Some-clause-taken
returns-in-Some-clause-taken g c = Steps-taken g.R.NextWord.step c.args.lts.now _ c.args.input c.in-Some.field-0 _ (rw c.in-Some.is at c.go_on-gone.ensures.gone)

pub returns-in-None-clause-taken : goal.returns-in-None-clause-taken
returns-in-None-clause-taken g c =
    let (ms, goes, halts) = rw c.in-None.is at c.go_on-gone.ensures.gone in
    let u : Place g.row.R.Denot = record { at = c.go_on-gone.result.state; rng = c.go_on-gone.new.rng } in
    inr (ms, u, goes, c.detour.ensures.taken)
