-- `replay` and `migrate` answer one thing for files whose contents are told.
use Rattle.std.proofs.Common.{◌≡◌, ◌∙◌, ℕ, List, [], ◌∷◌, ◌++◌, Some, inl, inr, ◌⊎◌, sym, ap, subst}
use Rattle.lts_base.specs.Alphabet.{Alphabet}
use Rattle.lts_base.specs.System.{System}
use Rattle.log_text.specs.declared.log.Digest.{Digest}
use Rattle.log_text.specs.declared.log.Named.{Named}
use Rattle.log_report.specs.declared.heads.OtherHead.{OtherHead}
use Rattle.log_report.specs.declared.replayed.ReplayOutcome.{ReplayOutcome}
use Rattle.log_report.specs.declared.migrated.MigrateOutcome.{MigrateOutcome}
use Rattle.log_report.specs.Heads.{AreSameHeads, RefusesHeads}
use Rattle.log_report.specs.Migrated.{IsMigrated}
use Rattle.log_report.specs.Replayed.{IsReplayed}
use Rattle.log_report.proofs.OnceLaws.{replayed_once, heads_once, heads_apart, migrated_once}
use Rattle.sha2.specs.Sha256.{sha256}
use Rattle.tool_base.specs.declared.refusal.Refusal.{Refusal}
use Rattle.tool_base.specs.declared.refusal.Refusal.TheVariants.{BadFile}
use Rattle.tool_base.specs.Contents.{Contents, AreTold}
use Rattle.tool_base.specs.Kinds.{IsFile, RefusesFile, logs_kind, IsDigestOfFile}
use Rattle.tool_base.specs.Once.{IsLike, IsOnce, without_cycle}
use Rattle.tool_base.specs.Sources.{AreSystems, RefusesSources, all_names}
use Rattle.tool_base.proofs.KindLaws.{logs_is_kind}
use Rattle.tool_base.proofs.InputOnce.{AreTold-left, AreTold-right, content_once, sources_refused_once, sources_apart, systems_once, file_once, file_apart, file_refused_once}
use Rattle.cmd_replay.specs.Asked.{AskedReplay, replay_sources}
use Rattle.cmd_replay.specs.Logged.{error_of, AreLogged, RefusesLogsOf, RefusesHeadsOf, RefusesLogged, AreGood, logged_names}
use Rattle.cmd_replay.specs.Replay.{AnswersReplay, replay_page}
use Rattle.cmd_replay.specs.Migrate.{AnswersMigrate, migrate_page}

same_system : (s t : System) → s ∷ [] ≡ t ∷ [] → s ≡ t
same_system s t e = cc

-- a file has one digest
digest_once : (contents : Contents) (name told : List ℕ) (d e : Digest) → contents name ≡ Some told → IsDigestOfFile contents name d → IsDigestOfFile contents name e → d ≡ e
digest_once contents name told d e tells one other =
    let same : one.content ≡ other.content = content_once contents name told one.content other.content tells one.has other.has in
    let bytes : d.0 ≡ e.0 = one.is ∙ ap sha256 same ∙ sym other.is in
    ap {A = List ℕ} {B = Digest} (λ (b : List ℕ). record { 0 = b }) bytes

module _ (contents : Contents) (asked : AskedReplay) (told : AreTold contents (logged_names asked)) where
  files : AreTold contents (all_names (replay_sources asked))
  files = AreTold-left contents (all_names (replay_sources asked)) (asked.logs ∷ []) told

  file : AreTold contents (asked.logs ∷ [])
  file = AreTold-right contents (all_names (replay_sources asked)) (asked.logs ∷ []) told

  -- what holds of the files as they are read in one way holds of them as they are read in another
  moved : (P : Alphabet → System → Digest → List Named → Type 0) (a b : Alphabet) (s t : System) (d e : Digest) (ls ms : List Named) → AreLogged contents asked a s d ls → AreLogged contents asked b t e ms → P b t e ms → P a s d ls
  moved P a b s t d e ls ms one two h =
      let same = systems_once contents (replay_sources asked) a b (s ∷ []) (t ∷ []) files one.systems two.systems in
      let digest : e ≡ d = digest_once contents asked.spec files.0.0 e d files.0.1 two.digested one.digested in
      let logs : ms ≡ ls = file_once logs_kind contents asked.logs file.0.0 ms ls logs_is_kind file.0.1 two.read one.read in
      let first : P a t e ms = subst (λ (c : Alphabet). P c t e ms) same.0 h in
      let second : P a s e ms = subst (λ (z : System). P a z e ms) (same_system t s same.1) first in
      let third : P a s d ms = subst (λ (z : Digest). P a s z ms) digest second in
      subst (λ (z : List Named). P a s d z) logs third

  -- files that are read aren't refused
  good_refused : (a : Alphabet) (s : System) (d : Digest) (ls : List Named) (r : Refusal) → AreGood contents asked a s d ls → ¬ RefusesLogged contents asked r
  good_refused a s d ls r good (inl h) = sources_apart contents (replay_sources asked) r a (s ∷ []) files h good.logged.systems
  good_refused a s d ls r good (inr (inl h)) = file_apart logs_kind contents asked.logs file.0.0 ls r logs_is_kind file.0.1 good.logged.read h.refused
  good_refused a s d ls r good (inr (inr h)) =
      heads_apart d asked.divergence ls h.other good.heads
      (moved (λ b t e ms. RefusesHeads e asked.divergence ms h.other) a h.a s h.s d h.digest ls h.logs good.logged h.logged h.heads)

  -- files are refused for one cause
  refused_once : (r q : Refusal) → RefusesLogged contents asked r → RefusesLogged contents asked q → IsLike r q
  refused_once r q (inl one) (inl two) = sources_refused_once contents (replay_sources asked) r q files one two
  refused_once r q (inl one) (inr (inl two)) = absurd (sources_apart contents (replay_sources asked) r two.a (two.s ∷ []) files one two.systems)
  refused_once r q (inl one) (inr (inr two)) = absurd (sources_apart contents (replay_sources asked) r two.a (two.s ∷ []) files one two.logged.systems)
  refused_once r q (inr (inl one)) (inl two) = absurd (sources_apart contents (replay_sources asked) q one.a (one.s ∷ []) files two one.systems)
  refused_once r q (inr (inl one)) (inr (inl two)) = file_refused_once logs_kind contents asked.logs file.0.0 r q logs_is_kind file.0.1 one.refused two.refused
  refused_once r q (inr (inl one)) (inr (inr two)) = absurd (file_apart logs_kind contents asked.logs file.0.0 two.logs r logs_is_kind file.0.1 two.logged.read one.refused)
  refused_once r q (inr (inr one)) (inl two) = absurd (sources_apart contents (replay_sources asked) q one.a (one.s ∷ []) files two one.logged.systems)
  refused_once r q (inr (inr one)) (inr (inl two)) = absurd (file_apart logs_kind contents asked.logs file.0.0 one.logs q logs_is_kind file.0.1 one.logged.read two.refused)
  refused_once r q (inr (inr one)) (inr (inr two)) =
      let here = moved (λ b t e ms. RefusesHeads e asked.divergence ms one.other) two.a one.a two.s one.s two.digest one.digest two.logs one.logs two.logged one.logged one.heads in
      let same : one.other ≡ two.other = heads_once two.digest asked.divergence two.logs one.other two.other here two.heads in
      ap without_cycle (one.is ∙ ap (λ (o : OtherHead). BadFile asked.logs (error_of o)) same ∙ sym two.is)

  pub replay_once : IsOnce (replay_page contents asked)
  replay_once = record {
    refused = refused_once;
    apart = λ r o t h answer. good_refused answer.a answer.s answer.digest answer.logs r answer.good h;
    answered = answered;
  }
    where
      answered : (o p : ReplayOutcome) (t u : List ℕ) → AnswersReplay contents asked o t → AnswersReplay contents asked p u → o ≡ p
      answered o p t u one two =
          let here = moved (λ b x e ms. IsReplayed b x ms o t) two.a one.a two.s one.s two.digest one.digest two.logs one.logs two.good.logged one.good.logged one.replayed in
          (replayed_once two.a two.s two.logs o p t u two.good.logged.systems.split.alphabet.alphabet here two.replayed).0

  pub migrate_once : IsOnce (migrate_page contents asked)
  migrate_once = record {
    refused = refused_once;
    apart = λ r o t h answer. good_refused answer.a answer.s answer.digest answer.logs r answer.good h;
    answered = answered;
  }
    where
      answered : (o p : MigrateOutcome) (t u : List ℕ) → AnswersMigrate contents asked o t → AnswersMigrate contents asked p u → o ≡ p
      answered o p t u one two =
          let here = moved (λ b x e ms. IsMigrated b x e asked.divergence ms o t) two.a one.a two.s one.s two.digest one.digest two.logs one.logs two.good.logged one.good.logged one.migrated in
          (migrated_once two.a two.s two.digest asked.divergence two.logs o p t u here two.migrated).0
