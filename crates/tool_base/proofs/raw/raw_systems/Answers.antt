use Rattle.std.proofs.Common.{ℕ, ◌≤◌, List, length, arith}
use Rattle.std.specs.Borrow.{Bor}
use Rattle.std.proofs.lemmas.List.{length-map}
use Rattle.edge_io.proofs.OutsideLaws.{KeepsFiles-then}
use Rattle.tool_base.specs.Given.{names_of}
use Rattle.tool_base.proofs.LoadLaws.{AreRead-more, AreRead-all}
use Rattle.tool_base.proofs.StoppedLaws.{passed_on, raws_stopped, file_before, below_map, mapped_at}
use Rattle.tool_base.proofs.raw.raw_systems.Goals as goal

pub returns-in_err-raw-clause-read : goal.returns-in_err-raw-clause-read
returns-in_err-raw-clause-read g c =
    passed_on _ _ _ _ c.from_residual.ensures.1 (raws_stopped _ _ _ (names_of c.args.names.now) _ c.names.name-index _ _ c.names.invariant.keeps
    (below_map (λ (w : Bor (List ℕ)). w.now) c.args.names.now c.names.name-index c.names-test.true)
    (mapped_at (λ (w : Bor (List ℕ)). w.now) c.args.names.now c.names.name-index _ c.names-test.true) c.names.invariant.read c.in_err-raw.ensures.loaded)

pub names-preserved : goal.names-preserved
names-preserved g c = rw c.in_ok-push.ensures.ok (record {
  read = AreRead-more _ (names_of c.args.names.now) _ c.names.name-index _ _
      (below_map (λ (w : Bor (List ℕ)). w.now) c.args.names.now c.names.name-index c.names-test.true)
      (mapped_at (λ (w : Bor (List ℕ)). w.now) c.args.names.now c.names.name-index _ c.names-test.true) c.names.invariant.read
      (file_before _ _ _ _ c.names.invariant.keeps c.in_ok-raw.ensures.loaded);
  keeps = KeepsFiles-then c.names.invariant.keeps c.in_ok-raw.ensures.keeps;
})

pub returns-clause-read : goal.returns-clause-read
returns-clause-read g c =
    let long = length-map c.args.names.now (λ (w : Bor (List ℕ)). w.now) in
    let past : length (names_of c.args.names.now) ≤ c.names.name-index = omega (arith, long, c.names-test.false) in
    AreRead-all _ (names_of c.args.names.now) _ c.names.name-index past c.names.invariant.read
