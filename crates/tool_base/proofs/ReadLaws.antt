-- What a content is read as, as what loading its file answers.
use Rattle.std.proofs.Common.{◌≡◌, ℕ, ◌<◌, ◌≤◌, List, [], ◌∷◌, ◌++◌, length, Result, Ok, Err, arith, inl, inr, refl, sym, subst}
use Rattle.edge_io.specs.Outside.{ToldFiles, KeepsFiles}
use Rattle.edge_io.proofs.OutsideLaws.{KeepsFiles-none}
use Rattle.lts_base.specs.declared.sorting.SplitSystems.{SplitSystems}
use Rattle.lts_base.specs.declared.limits.TheConstants.{MOST_AUT_BYTES, MOST_FILE_BYTES}
use Rattle.lts_base.specs.Raw.{RawSystem}
use Rattle.lts_base.specs.System.{System}
use Rattle.lts_base.specs.Alphabet.{Alphabet}
use Rattle.aut_text.specs.declared.error.AutError.{AutError}
use Rattle.aut_text.specs.declared.error.AutError.TheVariants.{Memory as NoRoomForFile}
use Rattle.aut_text.specs.Loaded.{IsLoaded, IsOfContent, IsTooLong, IsMetFirst}
use Rattle.graphml_text.specs.Document.{IsGraphmlFile, RefusesGraphml}
use Rattle.graphml_text.specs.declared.error.GraphError.TheVariants.{Memory as NoRoomForGraph}
use Rattle.log_text.specs.declared.log.Digest.{Digest}
use Rattle.log_text.specs.Logs.{IsDigest}
use Rattle.sha2.specs.Sha256.{sha256}
use Rattle.tool_base.specs.declared.refusal.FileError.{FileError}
use Rattle.tool_base.specs.declared.refusal.FileError.TheVariants.{Aut, Graph}
use Rattle.tool_base.specs.declared.refusal.Refusal.TheVariants.{TooLong, BadFile, BadLabels, Divergent, FileFault}
use Rattle.tool_base.specs.declared.refusal.Stop.{Stop}
use Rattle.tool_base.specs.declared.refusal.Stop.TheVariants.{Usage, Refused, Memory}
use Rattle.tool_base.specs.Contents.{Contents}
use Rattle.tool_base.specs.Pages.{IsStopped}
use Rattle.tool_base.specs.Kinds.{IsFile, IsFaultBy, RefusesFile, whole_kind, aut_kind, graph_kind, system_kind, IsDigestOfFile}
use Rattle.tool_base.specs.Loads.{Loads, LoadsTapped, HasShortContent, ReadsAs, ReadsGraph, IsStopBy}
use Rattle.tool_base.specs.Loaded.{LoadsSystems}
use Rattle.tool_base.specs.Sources.{Sources, AreRead, AreSystems, RefusesSystems, RefusesSources, all_names}
use Rattle.tool_base.proofs.StoppedLaws.{IsStopped-wider, same_contents, one_loaded, two_loaded, raws_stopped, file_before}

-- a content that was read is that of its file
pub read_loads : {X : Type 0} (most : ℕ) (reads : List ℕ → X → Type 0) (faulty : List ℕ → FileError → Type 0) (old new : ToldFiles) (name content : List ℕ) (result : Result X Stop) → HasShortContent most old name content → ReadsAs reads faulty name content result → Loads (whole_kind most reads faulty) old new name result
read_loads most reads faulty old new name content (Ok x) (has, short) read = record { content = content; has = has; short = short; reads = read }
read_loads most reads faulty old new name content (Err (Usage k)) (has, short) why = absurd why
read_loads most reads faulty old new name content (Err Memory) (has, short) why = tt
read_loads most reads faulty old new name content (Err (Refused (BadFile named error))) (has, short) (at, fault) = inr (at, record { content = content; has = has; faulty = (short, fault) })
read_loads most reads faulty old new name content (Err (Refused (TooLong named))) (has, short) why = absurd why
read_loads most reads faulty old new name content (Err (Refused (BadLabels error))) (has, short) why = absurd why
read_loads most reads faulty old new name content (Err (Refused (Divergent named cycle))) (has, short) why = absurd why
read_loads most reads faulty old new name content (Err (Refused (FileFault named))) (has, short) why = absurd why

-- so is that of a drawn system
pub drawn_loads : (old new : ToldFiles) (name content : List ℕ) (result : Result RawSystem Stop) → HasShortContent MOST_FILE_BYTES old name content → ReadsGraph name content result → Loads graph_kind old new name result
drawn_loads old new name content result short read = read_loads MOST_FILE_BYTES IsGraphmlFile (IsFaultBy Graph NoRoomForGraph RefusesGraphml) old new name content result short read

-- a system that was read while the bytes came is that of the file
pub tapped_file : (contents : Contents) (name : List ℕ) (before after : List ℕ → Type 0) (raw : RawSystem) → IsLoaded (contents name) MOST_AUT_BYTES before after raw → IsFile aut_kind contents name raw
tapped_file contents name before after raw is = record { content = is.bytes; has = is.whole; short = is.short; reads = is.file }

pub tapped_loads : (old new : ToldFiles) (name : List ℕ) (before after : List ℕ → Type 0) (result : Result RawSystem Stop) → LoadsTapped old new name before after result → Loads aut_kind old new name result
tapped_loads old new name before after (Ok raw) is = tapped_file old.content name before after raw is
tapped_loads old new name before after (Err stop) why = why

-- what stops the work where bytes are too many, or where a fault is met
pub long_stops : (old new : ToldFiles) (name : List ℕ) (stop : Stop) → IsOfContent (old.content name) (IsTooLong MOST_AUT_BYTES) → IsStopBy (TooLong name) stop → IsStopped old new (name ∷ []) (RefusesFile aut_kind old.content name) stop
long_stops old new name stop long (inl memory) = rw memory tt
long_stops old new name stop long (inr is) = rw is (inr (refl, record { content = long.content; has = long.has; long = long.so }))

pub bad_stops : (old new : ToldFiles) (name : List ℕ) (e : AutError) (stop : Stop) → (¬ (e ≡ NoRoomForFile)) × IsOfContent (old.content name) (λ c. IsMetFirst MOST_AUT_BYTES c e) → IsStopBy (BadFile name (Aut e)) stop → IsStopped old new (name ∷ []) (RefusesFile aut_kind old.content name) stop
bad_stops old new name e stop (some, bad) (inl memory) = rw memory tt
bad_stops old new name e stop (some, bad) (inr is) = rw is (inr (refl, record { content = bad.content; has = bad.has; faulty = (e, refl, bad.so, some) }))

-- the digest of the bytes that were taken is that of the file
pub tapped_digest : (contents : Contents) (name : List ℕ) (before after : List ℕ → Type 0) (raw : RawSystem) (digest : Digest) → IsLoaded (contents name) MOST_AUT_BYTES before after raw → before [] → ((m : List ℕ) → after m → (digest.0 ≡ sha256 m) × IsDigest digest) → IsDigestOfFile contents name digest
tapped_digest contents name before after raw digest is none gives =
    let given = gives is.bytes (is.tapped [] none) in
    record { content = is.bytes; has = is.whole; is = given.0; sound = given.1 }

-- what loading answers by later contents, it answers by the first
pub loads_before : (old mid new : ToldFiles) (sources : Sources) (result : Result SplitSystems Stop) → KeepsFiles old mid → LoadsSystems mid new sources result → LoadsSystems old new sources result
loads_before old mid new sources (Ok s) keeps are = subst (λ (c : Contents). AreSystems c sources s.labels s.systems) (same_contents old mid keeps) are
loads_before old mid new sources (Err stop) keeps why =
    IsStopped-wider old mid new (all_names sources) (all_names sources) (RefusesSources mid.content sources) (RefusesSources old.content sources) stop keeps (λ name has. has)
    (λ r h. subst (λ (c : Contents). RefusesSources c sources r) (same_contents old mid keeps) h) why

-- what stopped later work stopped the whole
pub stopped_before : (old mid new : ToldFiles) (sources : Sources) (stop : Stop) → KeepsFiles old mid → IsStopped mid new (all_names sources) (RefusesSources mid.content sources) stop → IsStopped old new (all_names sources) (RefusesSources old.content sources) stop
stopped_before old mid new sources stop keeps why = loads_before old mid new sources (Err stop) keeps why

-- the one system of a file that was read before, and the digest of the file
pub digested_loads : (old mid : ToldFiles) (sources : Sources) (name : List ℕ) (a : Alphabet) (systems rest : List System) (s : System) (digest : Digest) → KeepsFiles old mid → sources.names ≡ name ∷ [] → AreSystems mid.content sources a systems →
    systems ≡ rest ++ s ∷ [] → IsDigestOfFile old.content name digest → AreSystems old.content sources a (s ∷ []) × IsDigestOfFile old.content name digest
digested_loads old mid sources name a systems rest s digest keeps names are is of_file =
    let same = one_loaded mid.content sources name a systems rest s names are is in
    (subst (λ (c : Contents). AreSystems c sources a (s ∷ [])) (same_contents old mid keeps) (subst (AreSystems mid.content sources a) same are), of_file)

-- files that were read are read of later contents
pub read_later : (old mid : ToldFiles) (names : List (List ℕ)) (raws : List RawSystem) → KeepsFiles old mid → AreRead old.content names raws → AreRead mid.content names raws
read_later old mid names raws keeps read = subst (λ (c : Contents). AreRead c names raws) (sym (same_contents old mid keeps)) read

-- the first of two files stopped the whole
pub first_unread : (old new : ToldFiles) (first second : List ℕ) (stop : Stop) → IsStopped old new (first ∷ []) (RefusesFile (system_kind first) old.content first) stop →
    IsStopped old new (first ∷ second ∷ []) (RefusesSystems old.content (first ∷ second ∷ [])) stop
first_unread old new first second stop h =
    let below : 0 < length (first ∷ second ∷ []) = omega arith in
    raws_stopped old old new (first ∷ second ∷ []) [] 0 first stop (KeepsFiles-none old) below refl tt h

-- so did the second, where the first was read
pub second_unread : (old mid new : ToldFiles) (first second : List ℕ) (raw : RawSystem) (stop : Stop) → KeepsFiles old mid → IsFile (system_kind first) old.content first raw →
    IsStopped mid new (second ∷ []) (RefusesFile (system_kind second) mid.content second) stop → IsStopped old new (first ∷ second ∷ []) (RefusesSystems old.content (first ∷ second ∷ [])) stop
second_unread old mid new first second raw stop keeps read h =
    let below : 1 < length (first ∷ second ∷ []) = omega arith in
    raws_stopped old mid new (first ∷ second ∷ []) (raw ∷ []) 1 second stop keeps below refl (read, tt) h

-- both were read
pub pair_read : (old mid : ToldFiles) (first second : List ℕ) (raw other : RawSystem) (raws : List RawSystem) → KeepsFiles old mid → raws ≡ raw ∷ other ∷ [] → IsFile (system_kind first) old.content first raw → IsFile (system_kind second) mid.content second other →
    AreRead old.content (first ∷ second ∷ []) raws
pair_read old mid first second raw other raws keeps is read later = rw is (read, (file_before old mid second other keeps later, tt))

-- the two systems of files that were read before, and the digest of the first
pub pair_loads : (old mid : ToldFiles) (sources : Sources) (one two : List ℕ) (a : Alphabet) (systems more rest : List System) (s t : System) (digest : Digest) → KeepsFiles old mid → sources.names ≡ one ∷ two ∷ [] → AreSystems mid.content sources a systems →
    systems ≡ more ++ t ∷ [] → more ≡ rest ++ s ∷ [] → IsDigestOfFile old.content one digest → AreSystems old.content sources a (s ∷ t ∷ []) × IsDigestOfFile old.content one digest
pair_loads old mid sources one two a systems more rest s t digest keeps names are is so of_file =
    let same = two_loaded mid.content sources one two a systems more rest s t names are is so in
    (subst (λ (c : Contents). AreSystems c sources a (s ∷ t ∷ [])) (same_contents old mid keeps) (subst (AreSystems mid.content sources a) same are), of_file)
