use Rattle.std.proofs.Common.{◌∙◌, ℕ, List, length, sym}
use Rattle.std.specs.Borrow.{Bor}
use Rattle.std.proofs.lemmas.List.{length-map}
use Rattle.edge_io.proofs.OutsideLaws.{KeepsFiles-none}
use Rattle.tool_base.proofs.LoadLaws.{AreRead-long}
use Rattle.tool_base.proofs.StoppedLaws.{passed_on, rule_unread, ruled_before, systems_loaded, loaded_over}
use Rattle.tool_base.proofs.systems.over_files.Goals as goal

pub returns-in_err-rule-clause-loaded : goal.returns-in_err-rule-clause-loaded
returns-in_err-rule-clause-loaded g c = passed_on _ _ _ _ c.from_residual.ensures.1 (rule_unread _ _ _ _ _ _ (KeepsFiles-none _) c.requires.read c.in_err-rule.ensures.ruled)

pub over_one_alphabet-requires : goal.over_one_alphabet-requires
over_one_alphabet-requires g c = record { names = sym (length-map c.args.sources.now.names.now (λ (w : Bor (List ℕ)). w.now)) ∙ AreRead-long _ _ _ c.requires.read }

pub returns-clause-loaded : goal.returns-clause-loaded
returns-clause-loaded g c = systems_loaded _ _ _ _ _ _ (ruled_before (g.F.Files.told c.args.files.now) (g.F.Files.told c.args.files.now) _ _ _ (KeepsFiles-none (g.F.Files.told c.args.files.now)) c.requires.read c.in_ok-rule.ensures.ruled) c.over_one_alphabet.ensures.read

pub returns-clause-over : goal.returns-clause-over
returns-clause-over g c = loaded_over _ _ _ _ (returns-clause-loaded g c)
