-- Each kind of files has one reading: a content is read as one value, or else it has one first fault.
use Rattle.std.proofs.Common.{◌≡◌, ◌∙◌, ℕ, ◌<◌, ◌≤◌, ◌^◌, List, length, Ok, Err, inl, inr, ◌⊎◌, refl, sym, ap, subst, arith}
use Rattle.std.proofs.lemmas.Bool.{cases_Bool}
use Rattle.lts_base.specs.declared.limits.TheConstants.{MOST_AUT_BYTES, MOST_CERT_BYTES, MOST_FILE_BYTES}
use Rattle.lts_base.specs.Alphabet.{Alphabet, IsAlphabet}
use Rattle.text_scan.specs.Lines.{lines_of}
use Rattle.text_scan.specs.Listing.{IsListing, RefusesListing}
use Rattle.text_scan.specs.declared.error.LinesError.{LinesError}
use Rattle.text_scan.specs.declared.error.LinesError.TheVariants.{Memory as NoRoomForList}
use Rattle.text_scan.proofs.LineLaws.{few_lines}
use Rattle.text_scan.proofs.ListingOnce.{listing_only, refuses_only}
use Rattle.aut_text.specs.Loaded.{IsMetFirst}
use Rattle.aut_text.proofs.LoadLaws.{met_refuses, long_met}
use Rattle.aut_text.specs.declared.error.AutError.{AutError}
use Rattle.aut_text.specs.declared.error.AutError.TheVariants.{Memory as NoRoomForFile}
use Rattle.aut_text.proofs.OnceLaws.{aut_excludes}
use Rattle.aut_text.proofs.RawOnce.{raw_once}
use Rattle.aut_text.proofs.FaultLaws.{refuses_once}
use Rattle.graphml_text.specs.Document.{IsGraphmlFile, RefusesGraphml}
use Rattle.graphml_text.specs.declared.error.GraphError.{GraphError}
use Rattle.graphml_text.specs.declared.error.GraphError.TheVariants.{Memory as NoRoomForGraph}
use Rattle.graphml_text.proofs.ReadOnce.{graphml_excludes, raw_once as graph_once, refuses_once as graph_refuses_once}
use Rattle.trace_text.specs.Traces.{IsTrace}
use Rattle.trace_text.proofs.OnceLaws.{trace_fine, fault_once, trace_once}
use Rattle.script_text.specs.Script.{IsScript, RefusesScript}
use Rattle.script_text.specs.declared.error.ScriptError.{ScriptError}
use Rattle.script_text.specs.declared.error.ScriptError.TheVariants.{Memory as NoRoomForScript}
use Rattle.script_text.proofs.OnceLaws.{script_once, script_fine, fault_once as script_fault_once}
use Rattle.cert_text.specs.declared.error.CertError.{CertError}
use Rattle.cert_text.specs.declared.error.CertError.TheVariants.{Memory as NoRoomForCert}
use Rattle.cert_text.specs.Certificate.{IsCertOf}
use Rattle.cert_text.specs.Faults.{RefusesCert}
use Rattle.cert_text.proofs.AddingOnce.{IsSetting}
use Rattle.cert_text.proofs.CertOnce.{cert_only, refuses_only as cert_refuses_only}
use Rattle.log_text.specs.declared.error.LogError.{LogError}
use Rattle.log_text.specs.declared.error.LogError.TheVariants.{Memory as NoRoomForLogs}
use Rattle.log_text.specs.Logs.{AreLogsOf}
use Rattle.log_text.specs.Faults.{RefusesLogs}
use Rattle.log_text.proofs.LogsOnce.{logs_exclude, logs_once, fault_once as logs_fault_once}
use Rattle.tool_base.specs.declared.refusal.FileError.{FileError}
use Rattle.tool_base.specs.declared.refusal.FileError.TheVariants.{Aut, Graph, Lines, Cert as Certified, Logs, UnknownLabel, GoalLength}
use Rattle.tool_base.specs.Kinds.{Kind, IsFaultBy, IsGoal, whole_kind, aut_kind, graph_kind, is_graphml, system_kind, list_kind, trace_kind, goal_kind, script_kind, cert_kind, logs_kind, script_error, IsFaultyTrace, IsFaultyGoal}
use Rattle.tool_base.specs.Once.{IsKind, IsReading}

-- a reader that refuses a content for one thing, but for want of memory, tells one fault of it
fault_by_once : {E : Type 0} (told : E → FileError) (memory : E) (refuses : List ℕ → E → Type 0) (c : List ℕ) (e f : FileError) →
    ((x y : E) → refuses c x → refuses c y → ¬ (x ≡ memory) → ¬ (y ≡ memory) → x ≡ y) → IsFaultBy told memory refuses c e → IsFaultBy told memory refuses c f → e ≡ f
fault_by_once told memory refuses c e f once (x, is, why, some) (y, also, for, some_too) = is ∙ ap told (once x y why for some some_too) ∙ sym also

-- of two that are the same or the second is want of memory, where it isn't
the_same : {E : Type 0} (x y memory : E) → (x ≡ y) ⊎ (x ≡ memory) → ¬ (x ≡ memory) → x ≡ y
the_same x y memory (inl same) some = same
the_same x y memory (inr none) some = absurd (some none)

aut_met : (c : List ℕ) (x y : AutError) → IsMetFirst MOST_AUT_BYTES c x → IsMetFirst MOST_AUT_BYTES c y → ¬ (x ≡ NoRoomForFile) → ¬ (y ≡ NoRoomForFile) → x ≡ y
aut_met c x y why for some some_too = elim (refuses_once c x y (met_refuses MOST_AUT_BYTES c x why) (met_refuses MOST_AUT_BYTES c y for)) [
  | inl same ↦ same
  | inr (inl none) ↦ absurd (some none)
  | inr (inr none) ↦ absurd (some_too none)
]

aut_is_kind : IsKind aut_kind
aut_is_kind = record {
  once = λ c x y short one other. raw_once c x y one other;
  fault = λ c e f one other. fault_by_once Aut NoRoomForFile (IsMetFirst MOST_AUT_BYTES) c e f (λ x y why for some some_too. aut_met c x y why for some some_too) one other;
  apart = λ c x e short file fault. fault.3 (aut_excludes c x fault.0 file.file (met_refuses MOST_AUT_BYTES c fault.0 fault.2));
  short = λ c short long. let more = long.0 in omega (arith, short, more);
  fine = λ c e long fault. long_met MOST_AUT_BYTES c fault.0 long fault.2;
}

-- files that are read as a whole
whole_is_kind : {X : Type 0} (most : ℕ) (reads : List ℕ → X → Type 0) (faulty : List ℕ → FileError → Type 0) → IsReading most reads faulty → IsKind (whole_kind most reads faulty)
whole_is_kind {X} most reads faulty is = record {
  once = is.once;
  fault = λ c e f one other. is.fault c e f one.0 one.1 other.1;
  apart = λ c x e short read fault. is.apart c x e short read fault.1;
  short = λ c short long. omega (arith, short, long);
  fine = λ c e long fault. let short = fault.0 in omega (arith, short, long);
}

graph_fault : (c : List ℕ) (x y : GraphError) → RefusesGraphml c x → RefusesGraphml c y → ¬ (x ≡ NoRoomForGraph) → ¬ (y ≡ NoRoomForGraph) → x ≡ y
graph_fault c x y why for some some_too = elim (graph_refuses_once c x y why for) [
  | inl same ↦ same
  | inr (inl none) ↦ absurd (some none)
  | inr (inr none) ↦ absurd (some_too none)
]

graph_is_kind : IsKind graph_kind
graph_is_kind = whole_is_kind MOST_FILE_BYTES IsGraphmlFile (IsFaultBy Graph NoRoomForGraph RefusesGraphml) (record {
  once = λ c x y short one other. graph_once c x y one other;
  fault = λ c e f short one other. fault_by_once Graph NoRoomForGraph RefusesGraphml c e f (graph_fault c) one other;
  apart = λ c x e short file fault. fault.3 (graphml_excludes c x fault.0 file.file fault.2);
})

pub system_is_kind : (name : List ℕ) → IsKind (system_kind name)
system_is_kind name = elim (cases_Bool (is_graphml name)) [ inl graph ↦ rw graph graph_is_kind | inr other ↦ rw other aut_is_kind ]

list_fault : (c : List ℕ) (x y : LinesError) → RefusesListing c x → RefusesListing c y → ¬ (x ≡ NoRoomForList) → ¬ (y ≡ NoRoomForList) → x ≡ y
list_fault c x y why for some some_too = the_same x y NoRoomForList (refuses_only c y (Err x) why for some_too) some

pub list_is_kind : IsKind list_kind
list_is_kind = whole_is_kind MOST_FILE_BYTES IsListing (IsFaultBy Lines NoRoomForList RefusesListing) (record {
  once = λ c x y short one other. one.texts ∙ sym other.texts;
  fault = λ c e f short one other. fault_by_once Lines NoRoomForList RefusesListing c e f (list_fault c) one other;
  apart = λ c labels e short is fault. fault.3 (listing_only c labels (Err fault.0) fault.2 is);
})

pub trace_is_kind : (a : Alphabet) → IsAlphabet a → IsKind (trace_kind a)
trace_is_kind a alphabet = whole_is_kind MOST_FILE_BYTES (IsTrace a) (IsFaultyTrace a) (record {
  once = λ c σ τ short one other. trace_once a c σ τ alphabet one other;
  fault = λ c e f short one other. one.1 ∙ ap UnknownLabel (fault_once a c one.0 other.0 one.2 other.2) ∙ sym other.1;
  apart = λ c σ e short is fault. trace_fine a c σ fault.0 is fault.2;
})

-- a goal that is at fault is so once
goal_fault : (a : Alphabet) (steps : ℕ) (c : List ℕ) (e f : FileError) → IsAlphabet a → IsFaultyGoal a steps c e → IsFaultyGoal a steps c f → e ≡ f
goal_fault a steps c e f alphabet (inl one) (inl other) = one.1 ∙ ap UnknownLabel (fault_once a c one.0 other.0 one.2 other.2) ∙ sym other.1
goal_fault a steps c e f alphabet (inl one) (inr (σ, is, long, so)) = absurd (trace_fine a c σ one.0 is one.2)
goal_fault a steps c e f alphabet (inr (σ, is, long, so)) (inl other) = absurd (trace_fine a c σ other.0 is other.2)
goal_fault a steps c e f alphabet (inr (σ, is, long, so)) (inr (τ, too, length, also)) = so ∙ sym also

pub goal_is_kind : (a : Alphabet) (steps : ℕ) → IsAlphabet a → IsKind (goal_kind a steps)
goal_is_kind a steps alphabet = whole_is_kind MOST_FILE_BYTES (IsGoal a steps) (IsFaultyGoal a steps) (record {
  once = λ c σ τ short one other. trace_once a c σ τ alphabet one.0 other.0;
  fault = λ c e f short one other. goal_fault a steps c e f alphabet one other;
  apart = λ c σ e short is fault. elim fault [
    | inl other ↦ trace_fine a c σ other.0 is.0 other.2
    | inr (τ, too, long, so) ↦ long (subst (λ t. (0 < length t) × (length t ≤ steps)) (trace_once a c σ τ alphabet is.0 too) is.1)
  ];
})

pub script_is_kind : (a : Alphabet) → IsAlphabet a → IsKind (script_kind a)
script_is_kind a alphabet = whole_is_kind MOST_FILE_BYTES (IsScript a) (IsFaultBy script_error NoRoomForScript (RefusesScript a)) (record {
  once = λ c x y short one other. script_once a c x y alphabet one other;
  fault = λ c e f short one other. fault_by_once script_error NoRoomForScript (RefusesScript a) c e f (λ x y why for some some_too. script_fault_once a c x y why for some some_too) one other;
  apart = λ c x e short is fault. script_fine a c x fault.0 is fault.2 fault.3;
})

-- a certificate that isn't too long has few lines
cert_lines : (c : List ℕ) → length c ≤ MOST_CERT_BYTES → length (lines_of c) < 2 ^ 32
cert_lines c short = omega (arith, few_lines c, short)

cert_fault : (a : Alphabet) (imp spec : ℕ) (c : List ℕ) (x y : CertError) → IsSetting a imp spec → length c ≤ MOST_CERT_BYTES → RefusesCert a imp spec c x → RefusesCert a imp spec c y → ¬ (x ≡ NoRoomForCert) → ¬ (y ≡ NoRoomForCert) → x ≡ y
cert_fault a imp spec c x y set short why for some some_too = the_same x y NoRoomForCert (cert_refuses_only a imp spec c y (Err x) set (cert_lines c short) why for some_too) some

pub cert_is_kind : (a : Alphabet) (imp spec : ℕ) → IsSetting a imp spec → IsKind (cert_kind a imp spec)
cert_is_kind a imp spec set = whole_is_kind MOST_CERT_BYTES (IsCertOf a imp spec) (IsFaultBy Certified NoRoomForCert (RefusesCert a imp spec)) (record {
  once = λ c x y short one other. cert_only a imp spec c y (Ok x) set (cert_lines c short) one other;
  fault = λ c e f short one other. fault_by_once Certified NoRoomForCert (RefusesCert a imp spec) c e f (λ x y why for some some_too. cert_fault a imp spec c x y set short why for some some_too) one other;
  apart = λ c x e short is fault. fault.3 (cert_only a imp spec c x (Err fault.0) set (cert_lines c short) fault.2 is);
})

logs_fault : (c : List ℕ) (x y : LogError) → RefusesLogs c x → RefusesLogs c y → ¬ (x ≡ NoRoomForLogs) → ¬ (y ≡ NoRoomForLogs) → x ≡ y
logs_fault c x y why for some some_too = elim (logs_fault_once c x y why for) [
  | inl same ↦ same
  | inr (inl none) ↦ absurd (some none)
  | inr (inr none) ↦ absurd (some_too none)
]

pub logs_is_kind : IsKind logs_kind
logs_is_kind = whole_is_kind MOST_FILE_BYTES AreLogsOf (IsFaultBy Logs NoRoomForLogs RefusesLogs) (record {
  once = λ c x y short one other. logs_once c x y one other;
  fault = λ c e f short one other. fault_by_once Logs NoRoomForLogs RefusesLogs c e f (logs_fault c) one other;
  apart = λ c x e short is fault. fault.3 (logs_exclude c x fault.0 is fault.2);
})
