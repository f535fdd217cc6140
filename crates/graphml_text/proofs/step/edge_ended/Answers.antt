use Rattle.std.proofs.Common.{refl}
use Rattle.graphml_text.specs.MachineValues.{draft_of}
use Rattle.graphml_text.proofs.KeptLaws.{edge_labelled}
use Rattle.graphml_text.proofs.step.edge_ended.Goals as goal

pub add_edge-requires : goal.add_edge-requires
add_edge-requires c = edge_labelled _ (draft_of c.in-Some.draft) _ _ refl c.in_ok-edge.ensures
