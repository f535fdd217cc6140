use Rattle.std.proofs.Common.{◌∙◌, ℕ, ◌<◌, List, length, arith, subst}
use Rattle.std.specs.Borrow.{Bor}
use Rattle.std.proofs.lemmas.List.{length-map}
use Rattle.std.proofs.lemmas.List.Elements.{All-more}
use Rattle.lts_base.specs.Shape.{IsConvergent}
use Rattle.lts_base.proofs.MoveLaws.{all_from_taken}
use Rattle.tool_base.specs.Given.{names_of}
use Rattle.tool_base.proofs.LoadLaws.{IsDiverging-at}
use Rattle.tool_base.proofs.StoppedLaws.{mapped_at, divergence_found, convergent_more}
use Rattle.tool_base.proofs.cycles.first_cycle.Goals as goal

pub returns-in-Some : goal.returns-in-Some
returns-in-Some c =
    let low : c.systems.index < length c.args.names.now = omega (arith, c.systems-test.true, c.requires.names) in
    IsDiverging-at (names_of c.args.names.now) c.args.systems.now c.systems.index _ c.index-systems-index.result _
    (length-map c.args.names.now (λ (w : Bor (List ℕ)). w.now) ∙ c.requires.names) c.systems-test.true
    (mapped_at (λ (w : Bor (List ℕ)). w.now) c.args.names.now c.systems.index _ low) c.index-systems-index.is c.systems.invariant
    (divergence_found _ _ _ _ c.in-Some.is c.in_ok-refusal.ensures)

pub systems-preserved : goal.systems-preserved
systems-preserved c = All-more IsConvergent c.args.systems.now c.systems.index c.index-systems-index.result c.systems-test.true c.systems.invariant (subst IsConvergent c.index-systems-index.is (convergent_more _ _ _ c.in_default.is c.in_ok-refusal.ensures))

pub returns : goal.returns
returns c = all_from_taken IsConvergent c.args.systems.now c.systems.index c.systems-test.false c.systems.invariant
