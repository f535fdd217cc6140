-- `verify` answers one thing for files whose contents are told.
use Rattle.std.proofs.Common.{◌≡◌, ℕ, ◌≤◌, ◌^◌, List, [], ◌∷◌, ◌++◌, inl, inr, ◌⊎◌, subst, arith}
use Rattle.lts_base.specs.Alphabet.{Alphabet}
use Rattle.lts_base.specs.System.{System, IsSystem}
use Rattle.cert_text.specs.declared.cert.Cert.{Cert}
use Rattle.tool_base.specs.declared.refusal.Refusal.{Refusal}
use Rattle.tool_base.specs.Contents.{Contents, AreTold}
use Rattle.tool_base.specs.Kinds.{IsFile, RefusesFile, cert_kind}
use Rattle.tool_base.specs.Once.{IsLike, IsOnce, IsKind}
use Rattle.tool_base.specs.Sources.{RefusesSources, AreSystems, all_names}
use Rattle.tool_base.proofs.KindLaws.{cert_is_kind}
use Rattle.tool_base.proofs.StoppedLaws.{systems_sound}
use Rattle.tool_base.proofs.InputOnce.{AreTold-left, AreTold-right, sources_refused_once, sources_apart, systems_once, file_once, file_apart, file_refused_once}
use Rattle.cmd_verify.specs.declared.outcome.VerifyOutcome.{VerifyOutcome}
use Rattle.cmd_verify.specs.Asked.{AskedVerify, verify_sources}
use Rattle.cmd_verify.specs.Verify.{IsVerified, RefusesCertOf, AnswersVerify, verify_page}
use Rattle.cmd_verify.proofs.CheckLaws.{verified_once}

same_first : (s i t j : System) → s ∷ i ∷ [] ≡ t ∷ j ∷ [] → s ≡ t
same_first s i t j e = cc

same_second : (s i t j : System) → s ∷ i ∷ [] ≡ t ∷ j ∷ [] → i ≡ j
same_second s i t j e = cc

-- what holds of the systems of the files holds of these
moved : (contents : Contents) (asked : AskedVerify) (P : Alphabet → System → System → Type 0) (a b : Alphabet) (s i t j : System) → AreTold contents (all_names (verify_sources asked)) →
    AreSystems contents (verify_sources asked) a (s ∷ i ∷ []) → AreSystems contents (verify_sources asked) b (t ∷ j ∷ []) → P b t j → P a s i
moved contents asked P a b s i t j told one two h =
    let same = systems_once contents (verify_sources asked) a b (s ∷ i ∷ []) (t ∷ j ∷ []) told one two in
    let first : P a t j = subst (λ (c : Alphabet). P c t j) same.0 h in
    let second : P a s j = subst (λ (z : System). P a z j) (same_first t j s i same.1) first in
    subst (λ (z : System). P a s z) (same_second t j s i same.1) second

-- certificates for the systems of the files are of one kind
kind : (contents : Contents) (asked : AskedVerify) (a : Alphabet) (s i : System) → AreSystems contents (verify_sources asked) a (s ∷ i ∷ []) → IsKind (cert_kind a i.states s.states)
kind contents asked a s i are =
    let sound = systems_sound contents (verify_sources asked) a (s ∷ i ∷ []) are in
    let spec : IsSystem s = sound 0 s (omega arith) in
    let imp : IsSystem i = sound 1 i (omega arith) in
    cert_is_kind a i.states s.states (record { alphabet = are.split.alphabet.alphabet; imp_small = omega (arith, imp.states); spec_small = omega (arith, spec.states) })

-- what an answer says of its own certificate it says of the one that the file is read as
pub verified_moved : (contents : Contents) (asked : AskedVerify) (o : VerifyOutcome) (t : List ℕ) (a : Alphabet) (s i : System) (cert : Cert) → AreTold contents (verify_page contents asked).names → AnswersVerify contents asked o t →
    AreSystems contents (verify_sources asked) a (s ∷ i ∷ []) → IsFile (cert_kind a i.states s.states) contents asked.cert cert → IsVerified i s cert o
verified_moved contents asked o t a s i cert told one systems file =
    let files = AreTold-left contents (all_names (verify_sources asked)) (asked.cert ∷ []) told in
    let own = AreTold-right contents (all_names (verify_sources asked)) (asked.cert ∷ []) told in
    let read : IsFile (cert_kind a i.states s.states) contents asked.cert one.cert =
    moved contents asked (λ b x y. IsFile (cert_kind b y.states x.states) contents asked.cert one.cert) a one.a s i one.s one.i files systems one.systems one.read in
    let is : IsVerified i s one.cert o = moved contents asked (λ b x y. IsVerified y x one.cert o) a one.a s i one.s one.i files systems one.systems one.verified in
    let same : one.cert ≡ cert = file_once (cert_kind a i.states s.states) contents asked.cert own.0.0 one.cert cert (kind contents asked a s i systems) own.0.1 read file in
    subst (λ (c : Cert). IsVerified i s c o) same is

pub verify_once : (contents : Contents) (asked : AskedVerify) → AreTold contents (verify_page contents asked).names → IsOnce (verify_page contents asked)
verify_once contents asked told = record { refused = refused; apart = apart; answered = answered }
  where
    files : AreTold contents (all_names (verify_sources asked))
    files = AreTold-left contents (all_names (verify_sources asked)) (asked.cert ∷ []) told

    file : AreTold contents (asked.cert ∷ [])
    file = AreTold-right contents (all_names (verify_sources asked)) (asked.cert ∷ []) told

    refused : (r q : Refusal) → RefusesSources contents (verify_sources asked) r ⊎ RefusesCertOf contents asked r → RefusesSources contents (verify_sources asked) q ⊎ RefusesCertOf contents asked q → IsLike r q
    refused r q (inl one) (inl two) = sources_refused_once contents (verify_sources asked) r q files one two
    refused r q (inl one) (inr two) = absurd (sources_apart contents (verify_sources asked) r two.a (two.s ∷ two.i ∷ []) files one two.systems)
    refused r q (inr one) (inl two) = absurd (sources_apart contents (verify_sources asked) q one.a (one.s ∷ one.i ∷ []) files two one.systems)
    refused r q (inr one) (inr two) =
        let here : RefusesFile (cert_kind two.a two.i.states two.s.states) contents asked.cert r =
        moved contents asked (λ a s i. RefusesFile (cert_kind a i.states s.states) contents asked.cert r) two.a one.a two.s two.i one.s one.i files two.systems one.systems one.refused in
        file_refused_once (cert_kind two.a two.i.states two.s.states) contents asked.cert file.0.0 r q (kind contents asked two.a two.s two.i two.systems) file.0.1 here two.refused

    apart : (r : Refusal) (o : VerifyOutcome) (t : List ℕ) → RefusesSources contents (verify_sources asked) r ⊎ RefusesCertOf contents asked r → ¬ AnswersVerify contents asked o t
    apart r o t (inl one) two = sources_apart contents (verify_sources asked) r two.a (two.s ∷ two.i ∷ []) files one two.systems
    apart r o t (inr one) two =
        let here : RefusesFile (cert_kind two.a two.i.states two.s.states) contents asked.cert r =
        moved contents asked (λ a s i. RefusesFile (cert_kind a i.states s.states) contents asked.cert r) two.a one.a two.s two.i one.s one.i files two.systems one.systems one.refused in
        file_apart (cert_kind two.a two.i.states two.s.states) contents asked.cert file.0.0 two.cert r (kind contents asked two.a two.s two.i two.systems) file.0.1 two.read here

    answered : (o p : VerifyOutcome) (t u : List ℕ) → AnswersVerify contents asked o t → AnswersVerify contents asked p u → o ≡ p
    answered o p t u one two = verified_once two.i two.s two.cert o p (verified_moved contents asked o t two.a two.s two.i two.cert told one two.systems two.read) two.verified
