-- The words and the content of the file decide what is answered, but for failures.
use Rattle.std.proofs.Common.{arith, ◌≡◌, ◌∙◌, ℕ, List, [], ◌∷◌, ◌⊎◌, inl, inr, refl, sym, ap, subst}
use Rattle.lts_base.specs.Alphabet.{Alphabet}
use Rattle.lts_base.specs.System.{System}
use Rattle.lts_base.specs.Shape.{IsInputEnabled}
use Rattle.lts_shape.specs.Inputs.{IsFirstMissing}
use Rattle.edge_io.specs.Outside.{ToldFiles, ToldSink}
use Rattle.torx_words.specs.declared.kind.UsageKind.TheVariants.{Words}
use Rattle.tool_base.specs.declared.refusal.Refusal.{Refusal}
use Rattle.tool_base.specs.declared.refusal.Refusal.TheVariants.{TooLong as LongFile, BadFile as FaultyFile, BadLabels as FaultyLabels, Divergent as Diverging, FileFault as UnreadFile}
use Rattle.tool_base.specs.declared.refusal.Stop.TheVariants.{Usage as BadWords, Refused}
use Rattle.tool_base.specs.declared.report.Report.{Report}
use Rattle.tool_base.specs.Contents.{Contents, AreTold}
use Rattle.tool_base.specs.Pages.{IsFault}
use Rattle.tool_base.specs.Sources.{AreSystems, RefusesSources}
use Rattle.tool_base.proofs.InputOnce.{sources_apart, sources_refused_once, systems_once}
use Rattle.sim_serve.specs.declared.status.SimStatus.{SimStatus}
use Rattle.sim_serve.specs.declared.status.SimStatus.TheVariants.{Served, Usage, TooLong, BadFile, BadLabels, Divergent, NotEnabled, FileFault, OutFault, DoorFault, Memory}
use Rattle.sim_serve.specs.Asked.{Asked, AsksFor}
use Rattle.sim_serve.specs.Exact.{IsAnswered, IsBut, IsByFile, IsFailure, IsRefusedBy}
use Rattle.sim_serve.specs.Loaded.{IsNoImp, imp_sources}
use Rattle.sim_serve.specs.Report.{IsOrNoMemory, IsWritten, lacking_report, no_memory, stop_report}
use Rattle.sim_serve.specs.Serve.{IsOpened, IsServed, IsServedFor, Scene}
use Rattle.sim_serve.specs.Status.{refusal_status}

-- the answer of a report is given, or there is a failure
report_answer : (report : Report SimStatus) (before after : ToldSink) (status : SimStatus) → IsWritten report before after status → IsBut report.outcome status
report_answer report before after status (inl (none, is, written)) = inr (subst IsFailure (sym is) tt)
report_answer report before after status (inr (some, inl (is, written))) = inl is
report_answer report before after status (inr (some, inr (is, fails, front))) = inr (subst IsFailure (sym is) tt)

-- want of memory is a failure
no_memory_answer : (report : Report SimStatus) (before after : ToldSink) (status : SimStatus) → report ≡ no_memory → IsWritten report before after status → IsFailure status
no_memory_answer report before after status none written = go (report_answer report before after status written)
  where
    go : IsBut report.outcome status → IsFailure status
    go (inl is) = subst IsFailure (sym (is ∙ ap (λ (r : Report SimStatus). r.outcome) none)) tt
    go (inr fails) = fails

-- a report that is known gives its answer
known_answer : (told report : Report SimStatus) (before after : ToldSink) (status : SimStatus) → report ≡ told → IsWritten report before after status → IsBut told.outcome status
known_answer told report before after status is written = go (report_answer report before after status written)
  where
    go : IsBut report.outcome status → IsBut told.outcome status
    go (inl same) = inl (same ∙ ap (λ (r : Report SimStatus). r.outcome) is)
    go (inr fails) = inr fails

-- a file that couldn't be read is a failure
fault_answer : (old new : ToldFiles) (names : List (List ℕ)) (r : Refusal) (status : SimStatus) → IsFault old new names r → IsBut (refusal_status r) status → IsFailure status
fault_answer old new names (UnreadFile name) status fault (inl is) = subst IsFailure (sym is) tt
fault_answer old new names (UnreadFile name) status fault (inr fails) = fails
fault_answer old new names (LongFile name) status fault h = absurd fault
fault_answer old new names (FaultyFile name error) status fault h = absurd fault
fault_answer old new names (FaultyLabels error) status fault h = absurd fault
fault_answer old new names (Diverging name cycle) status fault h = absurd fault

-- a system that lacks an input isn't input-enabled
lacking_unable : (s : System) (state input : ℕ) → IsFirstMissing s s.inputs state input → ¬ IsInputEnabled s
lacking_unable s state input missing able = let (σ, ends) = missing.ends in missing.lacks (able σ state ends input missing.input)

-- it lacks one first input
first_once : (s : System) (q p a b : ℕ) → IsFirstMissing s s.inputs q a → IsFirstMissing s s.inputs p b → (q ≡ p) × (a ≡ b)
first_once s q p a b one other =
    let state : q ≡ p = omega (arith, one.state p b other.ends other.input other.lacks, other.state q a one.ends one.input one.lacks) in
    let here : IsFirstMissing s s.inputs p a = subst (λ (r : ℕ). IsFirstMissing s s.inputs r a) state one in
    (state, omega (arith, here.least b other.input other.lacks, other.least a here.input here.lacks))

-- words ask for one file
asks_once : (words : List (List ℕ)) (p q : Asked) → AsksFor words p → AsksFor words q → p.imp ≡ q.imp
asks_once [] p q one other = absurd one
asks_once (x ∷ []) p q one other = absurd one
asks_once (x ∷ y ∷ []) p q one other = absurd one
asks_once (x ∷ y ∷ z ∷ []) p q one other = absurd one
asks_once (x ∷ y ∷ z ∷ w ∷ []) p q one other = one.imp_is ∙ sym other.imp_is
asks_once (x ∷ y ∷ z ∷ w ∷ v ∷ words) p q one other = absurd one

-- ---- a file that is refused

refused_no_imp : (old new : ToldFiles) (name : List ℕ) (report : Report SimStatus) (before after : ToldSink) (status : SimStatus) (r : Refusal) → AreTold old.content (name ∷ []) →
    IsNoImp old new name report → IsWritten report before after status → RefusesSources old.content (imp_sources name) r → IsRefusedBy r status
refused_no_imp old new name report before after status r told (inl none) written refuses = inr (no_memory_answer report before after status none written)
refused_no_imp old new name report before after status r told (inr (inl refused)) written refuses =
    go refused.cause (known_answer (stop_report (Refused refused.refusal)) report before after status refused.report_is written)
  where
    go : IsFault old new (name ∷ []) refused.refusal ⊎ RefusesSources old.content (imp_sources name) refused.refusal → IsBut (refusal_status refused.refusal) status → IsRefusedBy r status
    go (inl fault) but = inr (fault_answer old new (name ∷ []) refused.refusal status fault but)
    go (inr cause) (inl is) = inl (refused.refusal, sources_refused_once old.content (imp_sources name) r refused.refusal told refuses cause, is)
    go (inr cause) (inr fails) = inr fails
refused_no_imp old new name report before after status r told (inr (inr lacks)) written refuses =
    absurd (sources_apart old.content (imp_sources name) r lacks.a (lacks.s ∷ []) told refuses lacks.systems)

-- ---- a system that is had

-- it is the one that was read
same_system : (contents : Contents) (name : List ℕ) (a b : Alphabet) (s t : System) → AreTold contents (name ∷ []) → AreSystems contents (imp_sources name) a (s ∷ []) → AreSystems contents (imp_sources name) b (t ∷ []) → t ≡ s
same_system contents name a b s t told one other =
    let same : t ∷ [] ≡ s ∷ [] = (systems_once contents (imp_sources name) a b (s ∷ []) (t ∷ []) told one other).1 in
    cc same

-- with a system, what there is no system for is a failure, or an input that the system lacks
had_no_imp : (old new : ToldFiles) (name : List ℕ) (report : Report SimStatus) (before after : ToldSink) (status : SimStatus) (a : Alphabet) (s : System) → AreTold old.content (name ∷ []) →
    IsNoImp old new name report → IsWritten report before after status → AreSystems old.content (imp_sources name) a (s ∷ []) →
    IsFailure status ⊎ ((state : ℕ) × (input : ℕ) × IsFirstMissing s s.inputs state input × IsBut (NotEnabled name state input) status)
had_no_imp old new name report before after status a s told (inl none) written are = inl (no_memory_answer report before after status none written)
had_no_imp old new name report before after status a s told (inr (inl refused)) written are =
    go refused.cause (known_answer (stop_report (Refused refused.refusal)) report before after status refused.report_is written)
  where
    go : IsFault old new (name ∷ []) refused.refusal ⊎ RefusesSources old.content (imp_sources name) refused.refusal → IsBut (refusal_status refused.refusal) status →
        IsFailure status ⊎ ((state : ℕ) × (input : ℕ) × IsFirstMissing s s.inputs state input × IsBut (NotEnabled name state input) status)
    go (inl fault) but = inl (fault_answer old new (name ∷ []) refused.refusal status fault but)
    go (inr cause) but = absurd (sources_apart old.content (imp_sources name) refused.refusal a (s ∷ []) told cause are)
had_no_imp old new name report before after status a s told (inr (inr lacks)) written are =
    let same : lacks.s ≡ s = same_system old.content name a lacks.a s lacks.s told are lacks.systems in
    inr (
      lacks.state,
      lacks.input,
      subst (λ (t : System). IsFirstMissing t t.inputs lacks.state lacks.input) same lacks.missing,
      known_answer (lacking_report lacks.a.texts name lacks.state lacks.input) report before after status lacks.report_is written,
    )

-- what is answered for a system that lacks an input
lacking_answer : (s : System) (name : List ℕ) (q p a b : ℕ) (status : SimStatus) → IsFirstMissing s s.inputs q a → IsFirstMissing s s.inputs p b → IsBut (NotEnabled name q a) status → IsBut (NotEnabled name p b) status
lacking_answer s name q p a b status one other (inr fails) = inr fails
lacking_answer s name q p a b status one other (inl is) =
    let same = first_once s q p a b one other in
    inl (is ∙ ap (λ (r : ℕ). NotEnabled name r a) same.0 ∙ ap (NotEnabled name p) same.1)

-- what is answered where the door was opened
opened_answer : (asked : Asked) (a : Alphabet) (s : System) (x : Scene) (status : SimStatus) → IsOpened asked a s x status → (status ≡ DoorFault) ⊎ IsBut Served status
opened_answer asked a s x Served h = inr (inl refl)
opened_answer asked a s x DoorFault h = inl refl
opened_answer asked a s x OutFault h = inr (inr tt)
opened_answer asked a s x Memory h = inr (inr tt)
opened_answer asked a s x (Usage kind) h = absurd h
opened_answer asked a s x (TooLong name) h = absurd h
opened_answer asked a s x (BadFile name error) h = absurd h
opened_answer asked a s x (BadLabels error) h = absurd h
opened_answer asked a s x (Divergent name cycle) h = absurd h
opened_answer asked a s x (NotEnabled name state input) h = absurd h
opened_answer asked a s x (FileFault name) h = absurd h

-- ---- the file decides

file_decides : (asked : Asked) (old new : ToldFiles) (x : Scene) (status : SimStatus) → AreTold old.content (asked.imp ∷ []) → IsServedFor asked old new x status → IsByFile old.content asked.imp status
file_decides asked old new x status told (inl turned) = record {
  refused = λ r. refused_no_imp old new asked.imp turned.report x.before x.after status r told turned.why turned.written;
  lacking = λ a s state input are missing. lacking s state input missing (had_no_imp old new asked.imp turned.report x.before x.after status a s told turned.why turned.written are);
  served = λ a s imp. able s imp.enabled (had_no_imp old new asked.imp turned.report x.before x.after status a s told turned.why turned.written imp.systems);
}
  where
    lacking : (s : System) (state input : ℕ) → IsFirstMissing s s.inputs state input →
        IsFailure status ⊎ ((q : ℕ) × (b : ℕ) × IsFirstMissing s s.inputs q b × IsBut (NotEnabled asked.imp q b) status) → IsBut (NotEnabled asked.imp state input) status
    lacking s state input missing (inl fails) = inr fails
    lacking s state input missing (inr (q, b, other, but)) = lacking_answer s asked.imp q state b input status other missing but

    able : (s : System) → IsInputEnabled s →
        IsFailure status ⊎ ((q : ℕ) × (b : ℕ) × IsFirstMissing s s.inputs q b × IsBut (NotEnabled asked.imp q b) status) → (status ≡ DoorFault) ⊎ IsBut Served status
    able s enabled (inl fails) = inr (inr fails)
    able s enabled (inr (q, b, other, but)) = absurd (lacking_unable s q b other enabled)
file_decides asked old new x status told (inr (a, s, imp, opened)) = record {
  refused = λ r refuses. absurd (sources_apart old.content (imp_sources asked.imp) r a (s ∷ []) told refuses imp.systems);
  lacking = λ b t state input are missing. absurd (lacking_unable s state input (same b t state input are missing) imp.enabled);
  served = λ b t other. opened_answer asked a s x status opened;
}
  where
    same : (b : Alphabet) (t : System) (state input : ℕ) → AreSystems old.content (imp_sources asked.imp) b (t ∷ []) → IsFirstMissing t t.inputs state input → IsFirstMissing s s.inputs state input
    same b t state input are missing = subst (λ (u : System). IsFirstMissing u u.inputs state input) (same_system old.content asked.imp a b s t told imp.systems are) missing

-- the words decide whether there is a file
pub served_answered : (words : List (List ℕ)) (old new : ToldFiles) (x : Scene) (status : SimStatus) → IsServed words old new x status → IsAnswered old.content words status
served_answered words old new x status (inl (none, turned)) = record {
  usage = λ asks. refused turned.why;
  file = λ asked asks told. absurd (none asked asks);
}
  where
    refused : IsOrNoMemory (stop_report (BadWords Words)) turned.report → IsBut (Usage Words) status
    refused (inl is) = known_answer (stop_report (BadWords Words)) turned.report x.before x.after status is turned.written
    refused (inr none) = inr (no_memory_answer turned.report x.before x.after status none turned.written)
served_answered words old new x status (inr (asked, asks, served)) = record {
  usage = λ none. absurd (none asked asks);
  file = λ other other_asks told. rw (asks_once words other asked other_asks asks) (file_decides asked old new x status (rw (asks_once words other asked other_asks asks) at told) served);
}
