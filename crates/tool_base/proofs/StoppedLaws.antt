-- Laws on results of calls over files: what a later call says, seen from an earlier state of the files on.
use Rattle.std.proofs.Common.{◌≡◌, ◌∙◌, ℕ, zero, suc, ◌+◌, ◌<◌, List, [], ◌∷◌, ◌++◌, length, take, get_or, map, All, Contains, Result, Ok, Err, IsErrAnd, MatchResult, IfOk, Option, Some, None, MatchOption, arith, inl, inr, refl, subst, sym, ap}
use Rattle.std.proofs.Math.Path.{fun_ext}
use Rattle.std.proofs.lemmas.List.{length-map, length_push}
use Rattle.std.proofs.lemmas.List.Elements.{Contains-append_left, Contains-append_right, Contains-get_or, All-nil, All-cons, All-head, All-tail}
use Rattle.edge_io.specs.Outside.{ToldFiles, KeepsFiles}
use Rattle.edge_io.proofs.OutsideLaws.{FailsAt-before, KeepsFiles-none}
use Rattle.lts_base.specs.declared.divergence.Divergence.{Divergence}
use Rattle.lts_base.specs.declared.divergence.Divergence.TheVariants.{Refuse, Quiet}
use Rattle.lts_base.specs.declared.sorting.Rule.{Rule}
use Rattle.lts_base.specs.declared.sorting.SplitSystems.{SplitSystems}
use Rattle.lts_base.specs.System.{System, IsSystem}
use Rattle.lts_base.specs.Alphabet.{Alphabet, IsOver}
use Rattle.lts_base.specs.Raw.{RawSystem}
use Rattle.lts_base.specs.Shape.{IsConvergent}
use Rattle.lts_base.proofs.ListLaws.{Contains-first_cases, Contains-none}
use Rattle.lts_base.proofs.SplitOnce.{AreSystemsFor-over}
use Rattle.tool_base.specs.declared.refusal.Refusal.{Refusal}
use Rattle.tool_base.specs.declared.refusal.Refusal.TheVariants.{TooLong, BadFile, BadLabels, Divergent, FileFault}
use Rattle.tool_base.specs.declared.refusal.Stop.{Stop}
use Rattle.tool_base.specs.declared.refusal.Stop.TheVariants.{Usage, Refused, Memory}
use Rattle.tool_base.specs.Contents.{Contents}
use Rattle.tool_base.specs.Kinds.{IsFile, RefusesFile, system_kind}
use Rattle.tool_base.specs.Sources.{Sources, AreRead, RefusesSystems, IsRule, RefusesRule, IsCycleOf, IsDiverging, RefusesCycles, AreRuled, AreSystems, RefusesSources, read_as, all_names, list_names}
use Rattle.tool_base.specs.Pages.{IsFault, IsStopped}
use Rattle.tool_base.specs.Loaded.{LoadsSystems, IsOneOver, AreTwoOver}
use Rattle.tool_base.specs.Given.{IsHalted, IsSettledOf, RefusesSettled, IsReadOf}
use Rattle.tool_base.proofs.LoadLaws.{RefusesSystems-at, AreSystems-of, RefusesSources-settled, AreRead-long, only_one}

-- files that are kept tell the same contents
pub same_contents : (old new : ToldFiles) → KeepsFiles old new → new.content ≡ old.content
same_contents old new keeps = fun_ext (λ name. keeps.contents name)

-- a fault of one of some files, since before an earlier call, as one of more files
pub IsFault-wider : (old mid new : ToldFiles) (names more : List (List ℕ)) (r : Refusal) → KeepsFiles old mid → ((name : List ℕ) → Contains names name → Contains more name) → IsFault mid new names r → IsFault old new more r
IsFault-wider old mid new names more (FileFault named) keeps within (has, fails) = (within named has, FailsAt-before keeps fails)
IsFault-wider old mid new names more (TooLong named) keeps within h = absurd h
IsFault-wider old mid new names more (BadFile named error) keeps within h = absurd h
IsFault-wider old mid new names more (BadLabels error) keeps within h = absurd h
IsFault-wider old mid new names more (Divergent named cycle) keeps within h = absurd h

-- what stopped a later call stopped the whole, where its cause is one of the whole
pub IsStopped-wider : (old mid new : ToldFiles) (names more : List (List ℕ)) (cause whole : Refusal → Type 0) (stop : Stop) → KeepsFiles old mid → ((name : List ℕ) → Contains names name → Contains more name) →
    ((r : Refusal) → cause r → whole r) → IsStopped mid new names cause stop → IsStopped old new more whole stop
IsStopped-wider old mid new names more cause whole (Usage kind) keeps within leads h = absurd h
IsStopped-wider old mid new names more cause whole (Refused r) keeps within leads (inl fault) = inl (IsFault-wider old mid new names more r keeps within fault)
IsStopped-wider old mid new names more cause whole (Refused r) keeps within leads (inr why) = inr (leads r why)
IsStopped-wider old mid new names more cause whole Memory keeps within leads h = tt

-- what stopped work without files stopped the whole
pub IsStopped-halted : (old new : ToldFiles) (names : List (List ℕ)) (cause whole : Refusal → Type 0) (stop : Stop) → ((r : Refusal) → cause r → whole r) → IsHalted cause stop → IsStopped old new names whole stop
IsStopped-halted old new names cause whole (Usage kind) leads h = absurd h
IsStopped-halted old new names cause whole (Refused r) leads h = inr (leads r h)
IsStopped-halted old new names cause whole Memory leads h = tt

-- what halted a part halted the whole
pub IsHalted-wider : (cause whole : Refusal → Type 0) (stop : Stop) → ((r : Refusal) → cause r → whole r) → IsHalted cause stop → IsHalted whole stop
IsHalted-wider cause whole (Usage kind) leads h = absurd h
IsHalted-wider cause whole (Refused r) leads h = leads r h
IsHalted-wider cause whole Memory leads h = tt

-- names of the first part, and of the second, are among all
pub within_left : (xs ys : List (List ℕ)) (name : List ℕ) → Contains xs name → Contains (xs ++ ys) name
within_left xs ys name has = Contains-append_left xs ys name has

pub within_right : (xs ys : List (List ℕ)) (name : List ℕ) → Contains ys name → Contains (xs ++ ys) name
within_right xs ys name has = Contains-append_right xs ys name has

-- an error that is passed on
pub passed_on : {X : Type 0} (P : X → Type 0) (Q : Stop → Type 0) (r : Result X Stop) (e : Stop) → IsErrAnd r (λ f. f ≡ e) → Q e → MatchResult r P Q
passed_on P Q (Ok x) e is h = absurd is
passed_on P Q (Err f) e is h = rw is h

-- ---- one file of several

-- a file that was loaded in turn stopped the whole
pub raws_stopped : (old mid new : ToldFiles) (names : List (List ℕ)) (raws : List RawSystem) (i : ℕ) (name : List ℕ) (stop : Stop) → KeepsFiles old mid → i < length names → name ≡ get_or names i name →
    AreRead old.content (take i names) raws → IsStopped mid new (name ∷ []) (RefusesFile (system_kind name) mid.content name) stop → IsStopped old new names (RefusesSystems old.content names) stop
raws_stopped old mid new names raws i name stop keeps below is read h =
    IsStopped-wider old mid new (name ∷ []) names (RefusesFile (system_kind name) mid.content name) (RefusesSystems old.content names) stop keeps
    (λ n has. rw (one_name n has) (named))
    (λ r why. RefusesSystems-at old.content names raws i name r below is read (subst (λ (c : Contents). RefusesFile (system_kind name) c name r) (same_contents old mid keeps) why)) h
  where
    named : Contains names name
    named = rw (← is) at (Contains-get_or names i name below)

    one_name : (n : List ℕ) → Contains (name ∷ []) n → n ≡ name
    one_name n has = elim (Contains-first_cases name [] n has) [ inl same ↦ sym same | inr none ↦ absurd (Contains-none n none) ]

-- a file that was loaded in turn is read of the first contents
pub file_before : (old mid : ToldFiles) (name : List ℕ) (raw : RawSystem) → KeepsFiles old mid → IsFile (system_kind name) mid.content name raw → IsFile (system_kind name) old.content name raw
file_before old mid name raw keeps file = subst (λ (c : Contents). IsFile (system_kind name) c name raw) (same_contents old mid keeps) file

-- ---- all systems

-- what stopped the reading of the files stopped the whole
pub systems_unread : (old new : ToldFiles) (sources : Sources) (stop : Stop) → IsStopped old new sources.names (RefusesSystems old.content sources.names) stop → IsStopped old new (all_names sources) (RefusesSources old.content sources) stop
systems_unread old new sources stop h =
    IsStopped-wider old old new sources.names (all_names sources) (RefusesSystems old.content sources.names) (RefusesSources old.content sources) stop (KeepsFiles-none old)
    (λ name has. within_left sources.names (list_names sources.sorting) name has) (λ r why. inl why) h

-- what stopped the reading of the rule stopped the whole
pub rule_unread : (old mid new : ToldFiles) (sources : Sources) (raws : List RawSystem) (stop : Stop) → KeepsFiles old mid → AreRead old.content sources.names raws →
    IsStopped mid new (list_names sources.sorting) (RefusesRule mid.content sources.sorting) stop → IsStopped old new (all_names sources) (RefusesSources old.content sources) stop
rule_unread old mid new sources raws stop keeps read h =
    IsStopped-wider old mid new (list_names sources.sorting) (all_names sources) (RefusesRule mid.content sources.sorting) (RefusesSources old.content sources) stop keeps
    (λ name has. within_right sources.names (list_names sources.sorting) name has)
    (λ r why. inr (inl (raws, read, subst (λ (c : Contents). RefusesRule c sources.sorting r) (same_contents old mid keeps) why))) h

-- the files are read and the rule is had, of the first contents
pub ruled_before : (old mid : ToldFiles) (sources : Sources) (raws : List RawSystem) (rule : Rule) → KeepsFiles old mid → AreRead old.content sources.names raws → IsRule mid.content sources.sorting rule → AreRuled old.content sources raws rule
ruled_before old mid sources raws rule keeps read ruled = record { read = read; ruled = subst (λ (c : Contents). IsRule c sources.sorting rule) (same_contents old mid keeps) ruled }

-- what was made of the files that were read is the whole
pub systems_loaded : (old new : ToldFiles) (sources : Sources) (raws : List RawSystem) (rule : Rule) (r : Result SplitSystems Stop) → AreRuled old.content sources raws rule →
    MatchResult r (λ s. IsSettledOf rule raws sources.divergence s.labels s.systems) (IsHalted (RefusesSettled rule raws sources.divergence sources.names)) → LoadsSystems old new sources r
systems_loaded old new sources raws rule (Ok s) input h = AreSystems-of old.content sources raws rule s.labels s.systems input h
systems_loaded old new sources raws rule (Err stop) input h =
    IsStopped-halted old new (all_names sources) (RefusesSettled rule raws sources.divergence sources.names) (RefusesSources old.content sources) stop
    (λ r why. RefusesSources-settled old.content sources raws rule r input why) h

-- the systems as they are read, where cycles are refused
pub settled_refuse : (names : List (List ℕ)) (plain : List System) (r : Result (List System) Stop) → MatchResult r (λ same. (same ≡ plain) × All IsConvergent plain) (IsHalted (IsDiverging names plain)) →
    MatchResult r (IsReadOf Refuse plain) (IsHalted (RefusesCycles Refuse names plain))
settled_refuse names plain (Ok systems) (same, convergent) = (convergent, same ∙ sym (as_they_are plain))
  where
    as_they_are : (xs : List System) → map (read_as Refuse) xs ≡ xs
    as_they_are [] = refl
    as_they_are (x ∷ xs) = ap (λ ys. x ∷ ys) (as_they_are xs)
settled_refuse names plain (Err stop) h = h

-- systems that are read so are over the alphabet
pub systems_over : (contents : Contents) (sources : Sources) (a : Alphabet) (systems : List System) → AreSystems contents sources a systems → All (IsOver a) systems
systems_over contents sources a systems are = rw are.read (go sources.divergence are.plain (AreSystemsFor-over a are.split.raws are.plain are.split.over))
  where
    one : (d : Divergence) (s : System) → IsOver a s → IsOver a (read_as d s)
    one Refuse s over = over
    one Quiet s over = record { inputs = over.inputs; outputs = over.outputs }

    go : (d : Divergence) (xs : List System) → All (IsOver a) xs → All (IsOver a) (map (read_as d) xs)
    go d [] over = All-nil (IsOver a)
    go d (x ∷ xs) over = All-cons (IsOver a) (read_as d x) (map (read_as d) xs) (one d x (All-head (IsOver a) x xs over)) (go d xs (All-tail (IsOver a) x xs over))

-- systems that are read so are sound
pub systems_sound : (contents : Contents) (sources : Sources) (a : Alphabet) (systems : List System) → AreSystems contents sources a systems → All IsSystem systems
systems_sound contents sources a systems are = rw are.read (go sources.divergence are.plain are.split.sound)
  where
    one : (d : Divergence) (s : System) → IsSystem s → IsSystem (read_as d s)
    one Refuse s sound = sound
    one Quiet s sound = record { start = sound.start; states = sound.states; few = sound.few; moves = sound.moves; sorted = sound.sorted }

    go : (d : Divergence) (xs : List System) → All IsSystem xs → All IsSystem (map (read_as d) xs)
    go d [] sound = All-nil IsSystem
    go d (x ∷ xs) sound = All-cons IsSystem (read_as d x) (map (read_as d) xs) (one d x (All-head IsSystem x xs sound)) (go d xs (All-tail IsSystem x xs sound))

-- ---- as the code meets them

-- a place of a list is one of what its items are mapped to
pub below_map : {X : Type 0} (f : X → List ℕ) (xs : List X) (i : ℕ) → i < length xs → i < length (map f xs)
below_map f xs i below = let long : length (map f xs) ≡ length xs = length-map xs f in omega (arith, below, long)

-- what an item is mapped to stands at its place
pub mapped_at : {X : Type 0} (f : X → List ℕ) (xs : List X) (i : ℕ) (d : X) → i < length xs → f (get_or xs i d) ≡ get_or (map f xs) i (f (get_or xs i d))
mapped_at f [] i d below = absurd (omega (arith, below))
mapped_at f (x ∷ xs) zero d below = refl
mapped_at f (x ∷ xs) (suc i) d below = mapped_at f xs i d (omega (arith, below))

-- the systems that were loaded are over their alphabet
pub loaded_over : (old new : ToldFiles) (sources : Sources) (r : Result SplitSystems Stop) → LoadsSystems old new sources r → IfOk r (λ s. All (IsOver s.labels) s.systems)
loaded_over old new sources (Ok s) are = systems_over old.content sources s.labels s.systems are
loaded_over old new sources (Err stop) h = tt

-- there are as many systems as files
pub AreSystems-long : (contents : Contents) (sources : Sources) (a : Alphabet) (systems : List System) → AreSystems contents sources a systems → length systems ≡ length sources.names
AreSystems-long contents sources a systems are =
    ap length are.read ∙ length-map are.plain (read_as sources.divergence) ∙ are.split.over.long ∙ sym (AreRead-long contents sources.names are.split.raws are.split.input.read)

-- the last system of one file is the only one
pub one_loaded : (contents : Contents) (sources : Sources) (name : List ℕ) (a : Alphabet) (systems rest : List System) (s : System) → sources.names ≡ name ∷ [] → AreSystems contents sources a systems → systems ≡ rest ++ s ∷ [] → systems ≡ s ∷ []
one_loaded contents sources name a systems rest s names are is =
    let long : length systems ≡ 1 = AreSystems-long contents sources a systems are ∙ ap length names in
    only_one systems rest s long is

-- the last two systems of two files are the only ones
pub two_loaded : (contents : Contents) (sources : Sources) (one two : List ℕ) (a : Alphabet) (systems more rest : List System) (s t : System) → sources.names ≡ one ∷ two ∷ [] → AreSystems contents sources a systems →
    systems ≡ more ++ t ∷ [] → more ≡ rest ++ s ∷ [] → systems ≡ s ∷ t ∷ []
two_loaded contents sources one two a systems more rest s t names are is so =
    let long : length systems ≡ 2 = AreSystems-long contents sources a systems are ∙ ap length names in
    let size : length systems ≡ length more + 1 = ap length is ∙ length_push more t in
    let few : length more ≡ 1 = omega (arith, long, size) in
    is ∙ ap (λ xs. xs ++ t ∷ []) (only_one more rest s few so)

pub one_over : (contents : Contents) (sources : Sources) (name : List ℕ) (a : Alphabet) (systems rest : List System) (s : System) → sources.names ≡ name ∷ [] → AreSystems contents sources a systems → All IsSystem systems → systems ≡ rest ++ s ∷ [] →
    IsOneOver (record { labels = a; system = s })
one_over contents sources name a systems rest s names are sound is =
    let same = one_loaded contents sources name a systems rest s names are is in
    let low : 0 < length (s ∷ []) = omega arith in
    record {
      alphabet = are.split.alphabet.alphabet;
      sound = (subst (All IsSystem) same sound) 0 s low;
      over = (subst (All (IsOver a)) same (systems_over contents sources a systems are)) 0 s low;
    }

pub two_over : (contents : Contents) (sources : Sources) (one two : List ℕ) (a : Alphabet) (systems more rest : List System) (s t : System) → sources.names ≡ one ∷ two ∷ [] → AreSystems contents sources a systems → All IsSystem systems →
    systems ≡ more ++ t ∷ [] → more ≡ rest ++ s ∷ [] → AreTwoOver (record { labels = a; first = s; second = t })
two_over contents sources one two a systems more rest s t names are sound is so =
    let same = two_loaded contents sources one two a systems more rest s t names are is so in
    let all : All IsSystem (s ∷ t ∷ []) = subst (All IsSystem) same sound in
    let over : All (IsOver a) (s ∷ t ∷ []) = subst (All (IsOver a)) same (systems_over contents sources a systems are) in
    let low : 0 < length (s ∷ t ∷ []) = omega arith in
    let high : 1 < length (s ∷ t ∷ []) = omega arith in
    record {
      alphabet = are.split.alphabet.alphabet;
      first_sound = all 0 s low;
      second_sound = all 1 s high;
      first_over = over 0 s low;
      second_over = over 1 s high;
    }

-- what the search for a cycle of one system found
pub divergence_found : (name : List ℕ) (s : System) (found : Option Refusal) (r : Refusal) → found ≡ Some r → MatchOption found (IsConvergent s) (IsCycleOf name s) → IsCycleOf name s r
divergence_found name s found r is h = subst (λ (o : Option Refusal). MatchOption o (IsConvergent s) (IsCycleOf name s)) is h

pub convergent_more : (name : List ℕ) (s : System) (found : Option Refusal) → found ≡ None → MatchOption found (IsConvergent s) (IsCycleOf name s) → IsConvergent s
convergent_more name s found is h = subst (λ (o : Option Refusal). MatchOption o (IsConvergent s) (IsCycleOf name s)) is h
