-- Laws on the logs of a file, one after another.
use Rattle.std.proofs.Common.{◌≡◌, ◌∙◌, ℕ, ◌+◌, ◌<◌, ◌≤◌, List, [], ◌∷◌, ◌++◌, length, map, take, drop, get_or, All, inl, inr, sym, ap, subst, arith, Bool, Result, Ok, Err}
use Rattle.std.proofs.lemmas.List.{take_more, drop_more, take-append-drop, append_assoc, length-take-le, get_or_default, get_or-take}
use Rattle.std.proofs.lemmas.Bool.{cases_lt}
use Rattle.std.specs.Prelude.{IsTrue, IfOk, ◌↔◌}
use Rattle.lts_base.specs.declared.memory.Memory.{Memory}
use Rattle.log_text.specs.declared.log.Head.{Head}
use Rattle.log_text.specs.declared.log.Head.TheVariants.{One, Two}
use Rattle.lts_base.specs.System.{System}
use Rattle.lts_base.specs.Alphabet.{Alphabet, IsAlphabet}
use Rattle.lts_base.specs.declared.divergence.Divergence.{Divergence}
use Rattle.log_text.specs.declared.log.Digest.{Digest}
use Rattle.log_text.specs.declared.log.Named.{Named}
use Rattle.std.specs.List.{flat_map}
use Rattle.log_text.specs.Printed.{printed}
use Rattle.trace_log.specs.declared.judge.LogVerdict.{LogVerdict}
use Rattle.trace_log.proofs.VerdictLaws.{all_seen_once, verdict_once}
use Rattle.log_report.specs.declared.heads.OtherHead.{OtherHead}
use Rattle.log_report.specs.declared.heads.OtherHead.TheVariants.{OtherSpec, OtherDivergence}
use Rattle.log_report.specs.Replayed.{IsLogVerdict}
use Rattle.log_report.specs.Heads.{IsSameHead, RefusesHeads, TellsOther}
use Rattle.log_report.specs.Migrated.{IsOf, MayMigrate, IsMigratable, IsFirstNotOf}

-- of the first so many logs this holds
abbrev pub HoldsTo : (Named → Type 0) → List Named → ℕ → Type 0
HoldsTo P logs n = (k : ℕ) (d : Named) → k < n → P (get_or logs k d)

-- one log more
pub holds_more : (P : Named → Type 0) (logs : List Named) (n : ℕ) (x : Named) → x ≡ get_or logs n x → n < length logs → P x → HoldsTo P logs n → HoldsTo P logs (n + 1)
holds_more P logs n x is below one all k d low = elim (cases_lt k n) [
  | inl before ↦ all k d before
  | inr at ↦
      let same : k ≡ n = omega (arith, low, at) in
      rw same (subst P (is ∙ get_or_default logs n x d below) one)
]

-- of all logs
pub holds_all : (P : Named → Type 0) (logs : List Named) (n : ℕ) → length logs ≤ n → HoldsTo P logs n → All P logs
holds_all P logs n most all k d below = all k d (omega (arith, below, most))

-- of the logs before it
holds_front : (P : Named → Type 0) (logs : List Named) (n : ℕ) → n ≤ length logs → HoldsTo P logs n → All P (take n logs)
holds_front P logs n below all k d low =
    let long : length (take n logs) ≡ n = length-take-le n logs below in
    let under : k < n = omega (arith, low, long) in
    rw (get_or-take n logs k d under) (all k d under)

-- the logs are those before it, it, and the others
split_at : (logs : List Named) (n : ℕ) (x : Named) → x ≡ get_or logs n x → n < length logs → logs ≡ take n logs ++ x ∷ drop (n + 1) logs
split_at logs n x is below = sym (take-append-drop (n + 1) logs) ∙ ap {A = List Named} {B = List Named} (λ t. t ++ drop (n + 1) logs) (take_more logs n x below) ∙ append_assoc (take n logs) (get_or logs n x ∷ []) (drop (n + 1) logs) ∙
    ap {A = Named} {B = List Named} (λ y. take n logs ++ y ∷ drop (n + 1) logs) (sym is)

-- the first log that isn't of the specification
pub not_of_first : (a : Alphabet) (s : System) (logs : List Named) (n number : ℕ) (x : Named) → x ≡ get_or logs n x → n < length logs → number ≡ n → (IsMigratable a s x → ⊥) → HoldsTo (IsMigratable a s) logs n → IsFirstNotOf a s logs (number + 1)
not_of_first a s logs n number x is below same fault all = record {
  before = take n logs;
  log = x;
  others = drop (n + 1) logs;
  whole = split_at logs n x is below;
  good = holds_front (IsMigratable a s) logs n (omega (arith, below)) all;
  fault = fault;
  number = let long = length-take-le n logs (omega (arith, below)) in omega (arith, long, same);
}

-- the first log whose head tells otherwise
pub other_first : (spec : Digest) (v : Divergence) (logs : List Named) (n number : ℕ) (x : Named) (o : OtherHead) → x ≡ get_or logs n x → n < length logs → number ≡ n → TellsOther spec v x.head (number + 1) o → HoldsTo (λ n. IsSameHead spec v n.head) logs n → RefusesHeads spec v logs o
other_first spec v logs n number x (OtherSpec k) is below same (here, tells) all = rw here (record {
  before = take n logs;
  log = x;
  others = drop (n + 1) logs;
  whole = split_at logs n x is below;
  same = holds_front (λ n. IsSameHead spec v n.head) logs n (omega (arith, below)) all;
  tells = tells;
  number = let long = length-take-le n logs (omega (arith, below)) in omega (arith, long, same);
})
other_first spec v logs n number x (OtherDivergence k) is below same (here, tells) all = rw here (record {
  before = take n logs;
  log = x;
  others = drop (n + 1) logs;
  whole = split_at logs n x is below;
  same = holds_front (λ n. IsSameHead spec v n.head) logs n (omega (arith, below)) all;
  tells = tells;
  number = let long = length-take-le n logs (omega (arith, below)) in omega (arith, long, same);
})

-- a log has one verdict
pub log_verdict_once : (a : Alphabet) (s : System) (n : Named) (v w : LogVerdict) → IsAlphabet a → IsLogVerdict a s n v → IsLogVerdict a s n w → w ≡ v
log_verdict_once a s n v w alphabet (seen, resolved, is) (other, too, also) =
    let same : other ≡ seen = all_seen_once a n.log.entries seen other alphabet resolved too in
    verdict_once n.log.mode s seen v w is (rw same at also)

-- the log's verdict is the one that is told exactly where the two are the same
pub of_told : (a : Alphabet) (s : System) (n : Named) (v w told : LogVerdict) (same : Bool) → IsAlphabet a → IsLogVerdict a s n v → w ≡ told → (IsTrue same ↔ (v ≡ w)) → IsTrue same ↔ IsLogVerdict a s n told
of_told a s n v w told same alphabet is e tells = (λ t. subst (IsLogVerdict a s n) (tells.0 t ∙ e) is, λ h. tells.1 (sym (log_verdict_once a s n v told alphabet is h) ∙ sym e))

-- a log of version 1 may be told in version 2 where it is of the specification
pub migrates_one : (a : Alphabet) (s : System) (n : Named) (r : Result Bool Memory) → n.head ≡ One → IfOk r (λ b. IsTrue b ↔ IsOf a s n) → IfOk r (λ b. IsTrue b ↔ IsMigratable a s n)
migrates_one a s n (Ok b) e h = subst (λ (x : Head). IsTrue b ↔ MayMigrate a s n x) (sym e) h
migrates_one a s n (Err m) e h = h

-- a log of version 2 tells its specification by itself
pub migrates_two : (a : Alphabet) (s : System) (n : Named) (v : Divergence) (d : Digest) → n.head ≡ Two v d → IsMigratable a s n
migrates_two a s n v d e = subst (λ (x : Head). MayMigrate a s n x) (sym e) tt

-- the text of one log more
pub told_more : (g : Named → Named) (logs : List Named) (i : ℕ) (x : Named) (old new one all : List ℕ) → i < length logs → x ≡ get_or logs i x → one ≡ printed (g x) → new ≡ old ++ one → old ++ flat_map printed (map g (drop i logs)) ≡ all →
    new ++ flat_map printed (map g (drop (i + 1) logs)) ≡ all
told_more g logs i x old new one all below is text longer before =
    let parts : drop i logs ≡ x ∷ drop (i + 1) logs = drop_more logs i x below ∙ ap {A = Named} {B = List Named} (λ y. y ∷ drop (i + 1) logs) (sym is) in
    let whole : old ++ (printed (g x) ++ flat_map printed (map g (drop (i + 1) logs))) ≡ all = rw parts at before in
    ap {A = List ℕ} {B = List ℕ} (λ t. t ++ flat_map printed (map g (drop (i + 1) logs))) (longer ∙ ap {A = List ℕ} {B = List ℕ} (λ t. old ++ t) text) ∙
    append_assoc old (printed (g x)) (flat_map printed (map g (drop (i + 1) logs))) ∙ whole
