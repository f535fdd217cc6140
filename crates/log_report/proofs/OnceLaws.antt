-- What is told of the logs of a file is one thing.
use Rattle.std.proofs.Common.{◌≡◌, ◌∙◌, ℕ, ◌<◌, List, [], ◌∷◌, ◌++◌, length, map, All, refl, sym, ap, arith}
use Rattle.std.specs.List.{AllZip, count_by, flat_map}
use Rattle.std.proofs.lemmas.List.Elements.{All-nil, All-cons, All-head, All-tail}
use Rattle.std.proofs.lemmas.List.{length-map}
use Rattle.std.proofs.lemmas.Grind.{flat_map-append}
use Rattle.log_text.specs.Printed.{printed, log_lines, all_lines, with_ends}
use Rattle.log_text.specs.Logs.{IsDigest, IsNamed, AreLogsOf}
use Rattle.lts_base.specs.System.{System}
use Rattle.lts_base.specs.Alphabet.{Alphabet, IsAlphabet}
use Rattle.lts_base.specs.declared.divergence.Divergence.{Divergence}
use Rattle.log_text.specs.declared.log.Digest.{Digest}
use Rattle.log_text.specs.declared.log.Head.{Head}
use Rattle.log_text.specs.declared.log.Head.TheVariants.{One, Two}
use Rattle.log_text.specs.declared.log.Named.{Named}
use Rattle.trace_log.specs.declared.judge.LogVerdict.{LogVerdict}
use Rattle.log_report.specs.declared.heads.OtherHead.{OtherHead}
use Rattle.log_report.specs.declared.heads.OtherHead.TheVariants.{OtherSpec, OtherDivergence}
use Rattle.log_report.specs.declared.replayed.ReplayOutcome.{ReplayOutcome}
use Rattle.log_report.specs.declared.migrated.MigrateOutcome.{MigrateOutcome}
use Rattle.log_report.specs.declared.migrated.MigrateOutcome.TheVariants.{Printed, NotOf}
use Rattle.log_report.specs.Replayed.{IsLogVerdict, IsReplayed, is_fail, is_off, verdict_line}
use Rattle.log_report.specs.Heads.{IsSameHead, TellsOtherSpec, TellsOtherDivergence, IsFirstOther, RefusesHeads, AreSameHeads}
use Rattle.log_report.specs.Migrated.{IsMigratable, IsMigrated, in_two}
use Rattle.log_report.proofs.ReplayLaws.{log_verdict_once}

-- logs have one list of verdicts
verdicts_once : (a : Alphabet) (s : System) (logs : List Named) (vs ws : List LogVerdict) → IsAlphabet a → AllZip (IsLogVerdict a s) logs vs → AllZip (IsLogVerdict a s) logs ws → vs ≡ ws
verdicts_once a s [] [] [] alphabet one two = refl
verdicts_once a s [] (v ∷ vs) ws alphabet one two = absurd one
verdicts_once a s [] [] (w ∷ ws) alphabet one two = absurd two
verdicts_once a s (n ∷ logs) [] ws alphabet one two = absurd one
verdicts_once a s (n ∷ logs) (v ∷ vs) [] alphabet one two = absurd two
verdicts_once a s (n ∷ logs) (v ∷ vs) (w ∷ ws) alphabet one two =
    let first : v ≡ w = log_verdict_once a s n w v alphabet two.0 one.0 in
    let rest : vs ≡ ws = verdicts_once a s logs vs ws alphabet one.1 two.1 in
    cc

-- a replay answers one thing
pub replayed_once : (a : Alphabet) (s : System) (logs : List Named) (o p : ReplayOutcome) (t u : List ℕ) → IsAlphabet a → IsReplayed a s logs o t → IsReplayed a s logs p u → (o ≡ p) × (t ≡ u)
replayed_once a s logs o p t u alphabet one two =
    let same : one.verdicts ≡ two.verdicts = verdicts_once a s logs one.verdicts two.verdicts alphabet one.each two.each in
    let fails : o.fails ≡ p.fails = one.fails ∙ ap (count_by is_fail) same ∙ sym two.fails in
    let offs : o.offs ≡ p.offs = one.offs ∙ ap (count_by is_off) same ∙ sym two.offs in (
      ap {A = ℕ} {B = ReplayOutcome} (λ f. record { fails = f; offs = o.offs }) fails ∙ ap {A = ℕ} {B = ReplayOutcome} (λ f. record { fails = p.fails; offs = f }) offs,
      one.printed ∙ ap (flat_map verdict_line) same ∙ sym two.printed,
    )

-- the first log of which this doesn't hold is one
first_once : (P : Named → Type 0) (xs ys : List Named) (x y : Named) (us vs : List Named) → xs ++ x ∷ us ≡ ys ++ y ∷ vs → All P xs → All P ys → (P x → ⊥) → (P y → ⊥) → (xs ≡ ys) × (x ≡ y)
first_once P [] [] x y us vs same one two not_x not_y = (refl, cc)
first_once P [] (z ∷ ys) x y us vs same one two not_x not_y =
    let first : x ≡ z = cc in
    absurd (not_x (rw first (All-head P z ys two)))
first_once P (z ∷ xs) [] x y us vs same one two not_x not_y =
    let first : y ≡ z = cc in
    absurd (not_y (rw first (All-head P z xs one)))
first_once P (z ∷ xs) (w ∷ ys) x y us vs same one two not_x not_y =
    let first : z ≡ w = cc in
    let tails : xs ++ x ∷ us ≡ ys ++ y ∷ vs = cc in
    let (rest, here) = first_once P xs ys x y us vs tails (All-tail P z xs one) (All-tail P w ys two) not_x not_y in
    let whole : z ∷ xs ≡ w ∷ ys = cc in
    (whole, here)

-- where this holds of all logs there is none of which it doesn't
first_none : (P : Named → Type 0) (xs : List Named) (x : Named) (us : List Named) → All P (xs ++ x ∷ us) → P x
first_none P [] x us all = All-head P x us all
first_none P (z ∷ xs) x us all = first_none P xs x us (All-tail P z (xs ++ x ∷ us) all)

-- a head that tells otherwise isn't the same
spec_differs : (spec : Digest) (v : Divergence) (head : Head) → TellsOtherSpec spec head → IsSameHead spec v head → ⊥
spec_differs spec v One tells same = tells
spec_differs spec v (Two w d) tells same = tells same.0

divergence_differs : (spec : Digest) (v : Divergence) (head : Head) → TellsOtherDivergence spec v head → IsSameHead spec v head → ⊥
divergence_differs spec v One tells same = tells
divergence_differs spec v (Two w d) tells same = tells.1 same.1

both_tell : (spec : Digest) (v : Divergence) (head : Head) → TellsOtherSpec spec head → TellsOtherDivergence spec v head → ⊥
both_tell spec v One one two = one
both_tell spec v (Two w d) one two = one two.0

-- two first logs whose heads tell otherwise are one
other_once : (spec : Digest) (v : Divergence) (logs : List Named) (k m : ℕ) (T U : Head → Type 0) → ((h : Head) → T h → IsSameHead spec v h → ⊥) → ((h : Head) → U h → IsSameHead spec v h → ⊥) → (one : IsFirstOther spec v logs k T) → (two : IsFirstOther spec v logs m U) → (k ≡ m) × (one.log ≡ two.log)
other_once spec v logs k m T U t u one two =
    let (same, here) = first_once (λ n. IsSameHead spec v n.head) one.before two.before one.log two.log one.others two.others (sym one.whole ∙ two.whole) one.same two.same (t one.log.head one.tells) (u two.log.head two.tells) in
    let long : length one.before ≡ length two.before = ap length same in
    let a = one.number in
    let b = two.number in
    (omega (arith, long, a, b), here)

-- logs are refused for their heads in one way
pub heads_once : (spec : Digest) (v : Divergence) (logs : List Named) (o p : OtherHead) → RefusesHeads spec v logs o → RefusesHeads spec v logs p → o ≡ p
heads_once spec v logs (OtherSpec k) (OtherSpec m) one two =
    ap {A = ℕ} {B = OtherHead} OtherSpec (other_once spec v logs k m (TellsOtherSpec spec) (TellsOtherSpec spec) (spec_differs spec v) (spec_differs spec v) one two).0
heads_once spec v logs (OtherDivergence k) (OtherDivergence m) one two =
    ap {A = ℕ} {B = OtherHead} OtherDivergence (other_once spec v logs k m (TellsOtherDivergence spec v) (TellsOtherDivergence spec v) (divergence_differs spec v) (divergence_differs spec v) one two).0
heads_once spec v logs (OtherSpec k) (OtherDivergence m) one two =
    let same = (other_once spec v logs k m (TellsOtherSpec spec) (TellsOtherDivergence spec v) (spec_differs spec v) (divergence_differs spec v) one two).1 in
    absurd (both_tell spec v two.log.head (rw same at one.tells) two.tells)
heads_once spec v logs (OtherDivergence k) (OtherSpec m) one two =
    let same = (other_once spec v logs k m (TellsOtherDivergence spec v) (TellsOtherSpec spec) (divergence_differs spec v) (spec_differs spec v) one two).1 in
    absurd (both_tell spec v two.log.head two.tells (rw same at one.tells))

-- logs with the same heads aren't refused for them
pub heads_apart : (spec : Digest) (v : Divergence) (logs : List Named) (o : OtherHead) → AreSameHeads spec v logs → RefusesHeads spec v logs o → ⊥
heads_apart spec v logs (OtherSpec k) all one = spec_differs spec v one.log.head one.tells (first_none (λ n. IsSameHead spec v n.head) one.before one.log one.others (rw (one.whole) at all))
heads_apart spec v logs (OtherDivergence k) all one = divergence_differs spec v one.log.head one.tells (first_none (λ n. IsSameHead spec v n.head) one.before one.log one.others (rw (one.whole) at all))

-- a migration answers one thing
pub migrated_once : (a : Alphabet) (s : System) (spec : Digest) (v : Divergence) (logs : List Named) (o p : MigrateOutcome) (t u : List ℕ) → IsMigrated a s spec v logs o t → IsMigrated a s spec v logs p u → (o ≡ p) × (t ≡ u)
migrated_once a s spec v logs Printed Printed t u (all, is) (also, too) = (refl, is ∙ sym too)
migrated_once a s spec v logs Printed (NotOf k) t u (all, is) (first, too) = absurd (first.fault (first_none (IsMigratable a s) first.before first.log first.others (rw (first.whole) at all)))
migrated_once a s spec v logs (NotOf k) Printed t u (first, is) (all, too) = absurd (first.fault (first_none (IsMigratable a s) first.before first.log first.others (rw (first.whole) at all)))
migrated_once a s spec v logs (NotOf k) (NotOf m) t u (one, is) (two, too) =
    let (same, here) = first_once (IsMigratable a s) one.before two.before one.log two.log one.others two.others (sym one.whole ∙ two.whole) one.good two.good one.fault two.fault in
    let long : length one.before ≡ length two.before = ap length same in
    let x = one.number in
    let y = two.number in
    let number : k ≡ m = omega (arith, long, x, y) in
    (ap {A = ℕ} {B = MigrateOutcome} NotOf number, is ∙ rw number (sym too))

-- the texts of logs are the text of them all
printed_all : (logs : List Named) → flat_map printed logs ≡ with_ends (all_lines logs)
printed_all [] = refl
printed_all (n ∷ logs) = ap {A = List ℕ} {B = List ℕ} (λ t. printed n ++ t) (printed_all logs) ∙ sym (flat_map-append (λ (line : List ℕ). line ++ 10 ∷ []) (log_lines n) (all_lines logs))

-- logs in version 2 are in their form
named_two : (spec : Digest) (v : Divergence) (logs : List Named) → IsDigest spec → All IsNamed logs → All IsNamed (map (in_two spec v) logs)
named_two spec v [] digest all = All-nil IsNamed
named_two spec v (n ∷ logs) digest all =
    let first : IsNamed n = All-head IsNamed n logs all in
    All-cons IsNamed (in_two spec v n) (map (in_two spec v) logs) (record { head = digest; log = first.log }) (named_two spec v logs digest (All-tail IsNamed n logs all))

-- what is told in version 2 is the text of the logs with these heads
pub told_again : (a : Alphabet) (s : System) (spec : Digest) (v : Divergence) (logs : List Named) (o : MigrateOutcome) (text : List ℕ) → IsDigest spec → 0 < length logs → All IsNamed logs → IsMigrated a s spec v logs o text → o ≡ Printed → AreLogsOf text (map (in_two spec v) logs)
told_again a s spec v logs Printed text digest some all (good, is) e = record {
  some = let long = length-map logs (in_two spec v) in omega (arith, long, some);
  sound = named_two spec v logs digest all;
  text = is ∙ printed_all (map (in_two spec v) logs);
}
told_again a s spec v logs (NotOf k) text digest some all is e = cc
