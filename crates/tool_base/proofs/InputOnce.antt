-- Files whose contents are told are refused for one cause, or else give one alphabet and one list of systems.
use Rattle.std.proofs.Common.{◌≡◌, ◌∙◌, ℕ, ◌≤◌, List, [], ◌∷◌, ◌++◌, length, map, All, Option, Some, IfSome, Err, inl, inr, refl, sym, ap, subst, arith}
use Rattle.std.proofs.lemmas.List.Elements.{All-head, All-tail}
use Rattle.lts_base.specs.Sorting.{IsAlphabetOf, AreSystemsFor}
use Rattle.lts_base.specs.declared.divergence.Divergence.{Divergence}
use Rattle.lts_base.specs.declared.divergence.Divergence.TheVariants.{Refuse, Quiet}
use Rattle.lts_base.specs.declared.sorting.Rule.{Rule}
use Rattle.lts_base.specs.declared.sorting.Rule.TheVariants.{Listed}
use Rattle.lts_base.specs.System.{System}
use Rattle.lts_base.specs.Alphabet.{Alphabet, IsAlphabet}
use Rattle.lts_base.specs.Raw.{RawSystem}
use Rattle.lts_base.specs.Shape.{IsConvergent}
use Rattle.lts_base.proofs.SplitOnce.{split_systems_once, split_once, memory_alone}
use Rattle.lts_shape.proofs.CycleLaws.{IsTauCycle-diverges}
use Rattle.torx_words.specs.Meaning.{AskedSorting, by_prefix, by_suffix, by_list}
use Rattle.tool_base.specs.declared.refusal.FileError.{FileError}
use Rattle.tool_base.specs.declared.refusal.Refusal.{Refusal}
use Rattle.tool_base.specs.declared.refusal.Refusal.TheVariants.{TooLong, BadFile, BadLabels, Divergent, FileFault}
use Rattle.tool_base.specs.Contents.{Contents, HasContent, AreTold}
use Rattle.tool_base.specs.Kinds.{Kind, IsFile, IsLong, IsBad, RefusesFile, system_kind, list_kind}
use Rattle.tool_base.specs.Sources.{Sources, AreRead, RefusesSystems, IsRule, RefusesRule, RefusesLabels, IsCycleOf, IsDiverging, RefusesCycles, AreSettled, AreRuled, AreSplit, AreSystems, RefusesSources, read_as, all_names, list_names}
use Rattle.tool_base.specs.Once.{IsLike, IsKind}
use Rattle.tool_base.proofs.KindLaws.{system_is_kind, list_is_kind}

-- ---- contents that are told

pub AreTold-left : (contents : Contents) (xs ys : List (List ℕ)) → AreTold contents (xs ++ ys) → AreTold contents xs
AreTold-left contents [] ys told = tt
AreTold-left contents (x ∷ xs) ys told = (told.0, AreTold-left contents xs ys told.1)

pub AreTold-right : (contents : Contents) (xs ys : List (List ℕ)) → AreTold contents (xs ++ ys) → AreTold contents ys
AreTold-right contents [] ys told = told
AreTold-right contents (x ∷ xs) ys told = AreTold-right contents xs ys told.1

-- a file that is told has one content
pub content_once : (contents : Contents) (name : List ℕ) (told c d : List ℕ) → contents name ≡ Some told → HasContent contents name c → HasContent contents name d → c ≡ d
content_once contents name told c d is one other =
    let first : c ≡ told = subst (λ (o : Option (List ℕ)). IfSome o (λ t. c ≡ t)) is one in
    let second : d ≡ told = subst (λ (o : Option (List ℕ)). IfSome o (λ t. d ≡ t)) is other in
    first ∙ sym second

-- ---- one file

-- a file is read as one value
pub file_once : {X : Type 0} (kind : Kind X) (contents : Contents) (name told : List ℕ) (x y : X) → IsKind kind → contents name ≡ Some told → IsFile kind contents name x → IsFile kind contents name y → x ≡ y
file_once {X} kind contents name told x y is tells one other =
    let same : one.content ≡ other.content = content_once contents name told one.content other.content tells one.has other.has in
    is.once other.content x y other.short (subst (λ (c : List ℕ). kind.reads c x) same one.reads) other.reads

-- a file that is read isn't refused
pub file_apart : {X : Type 0} (kind : Kind X) (contents : Contents) (name told : List ℕ) (x : X) (r : Refusal) → IsKind kind → contents name ≡ Some told → IsFile kind contents name x → ¬ RefusesFile kind contents name r
file_apart {X} kind contents name told x (TooLong named) is tells file (at, long) =
    let same : long.content ≡ file.content = content_once contents name told long.content file.content tells long.has file.has in
    is.short file.content file.short (subst kind.long same long.long)
file_apart {X} kind contents name told x (BadFile named error) is tells file (at, bad) =
    let same : bad.content ≡ file.content = content_once contents name told bad.content file.content tells bad.has file.has in
    is.apart file.content x error file.short file.reads (subst (λ (c : List ℕ). kind.faulty c error) same bad.faulty)
file_apart {X} kind contents name told x (BadLabels error) is tells file h = h
file_apart {X} kind contents name told x (Divergent named cycle) is tells file h = h
file_apart {X} kind contents name told x (FileFault named) is tells file h = h

-- a file that is too long isn't refused for a fault
long_good : {X : Type 0} (kind : Kind X) (contents : Contents) (name told : List ℕ) (error : FileError) → IsKind kind → contents name ≡ Some told → IsLong kind.long contents name → ¬ IsBad kind contents name error
long_good {X} kind contents name told error is tells long bad =
    let same : bad.content ≡ long.content = content_once contents name told bad.content long.content tells bad.has long.has in
    is.fine long.content error long.long (subst (λ (c : List ℕ). kind.faulty c error) same bad.faulty)

-- a file is refused for one cause
pub file_refused_once : {X : Type 0} (kind : Kind X) (contents : Contents) (name told : List ℕ) (r q : Refusal) → IsKind kind → contents name ≡ Some told → RefusesFile kind contents name r → RefusesFile kind contents name q → IsLike r q
file_refused_once {X} kind contents name told (TooLong one) (TooLong other) is tells h k = ap TooLong (h.0 ∙ sym k.0)
file_refused_once {X} kind contents name told (TooLong one) (BadFile other error) is tells h k = absurd (long_good kind contents name told error is tells h.1 k.1)
file_refused_once {X} kind contents name told (BadFile one error) (TooLong other) is tells h k = absurd (long_good kind contents name told error is tells k.1 h.1)
file_refused_once {X} kind contents name told (BadFile one error) (BadFile other fault) is tells h k =
    let same : h.1.content ≡ k.1.content = content_once contents name told h.1.content k.1.content tells h.1.has k.1.has in
    let e : error ≡ fault = is.fault k.1.content error fault (subst (λ (c : List ℕ). kind.faulty c error) same h.1.faulty) k.1.faulty in
    ap (λ n. BadFile n error) (h.0 ∙ sym k.0) ∙ ap (BadFile other) e
file_refused_once {X} kind contents name told (TooLong one) (BadLabels error) is tells h k = absurd k
file_refused_once {X} kind contents name told (TooLong one) (Divergent other cycle) is tells h k = absurd k
file_refused_once {X} kind contents name told (TooLong one) (FileFault other) is tells h k = absurd k
file_refused_once {X} kind contents name told (BadFile one e) (BadLabels error) is tells h k = absurd k
file_refused_once {X} kind contents name told (BadFile one e) (Divergent other cycle) is tells h k = absurd k
file_refused_once {X} kind contents name told (BadFile one e) (FileFault other) is tells h k = absurd k
file_refused_once {X} kind contents name told (BadLabels error) q is tells h k = absurd h
file_refused_once {X} kind contents name told (Divergent other cycle) q is tells h k = absurd h
file_refused_once {X} kind contents name told (FileFault other) q is tells h k = absurd h

-- ---- the files of the systems

raws_once : (contents : Contents) (names : List (List ℕ)) (rs qs : List RawSystem) → AreTold contents names → AreRead contents names rs → AreRead contents names qs → rs ≡ qs
raws_once contents [] [] [] told one other = refl
raws_once contents [] [] (q ∷ qs) told one other = absurd other
raws_once contents [] (r ∷ rs) qs told one other = absurd one
raws_once contents (n ∷ ns) [] qs told one other = absurd one
raws_once contents (n ∷ ns) (r ∷ rs) [] told one other = absurd other
raws_once contents (n ∷ ns) (r ∷ rs) (q ∷ qs) told one other =
    let here : r ≡ q = file_once (system_kind n) contents n told.0.0 r q (system_is_kind n) told.0.1 one.0 other.0 in
    let rest : rs ≡ qs = raws_once contents ns rs qs told.1 one.1 other.1 in
    ap (λ x. x ∷ rs) here ∙ ap (λ xs. q ∷ xs) rest

raws_apart : (contents : Contents) (names : List (List ℕ)) (rs : List RawSystem) (r : Refusal) → AreTold contents names → AreRead contents names rs → ¬ RefusesSystems contents names r
raws_apart contents [] rs r told read h = h
raws_apart contents (n ∷ ns) [] r told read h = read
raws_apart contents (n ∷ ns) (raw ∷ rs) r told read (inl h) = file_apart (system_kind n) contents n told.0.0 raw r (system_is_kind n) told.0.1 read.0 h
raws_apart contents (n ∷ ns) (raw ∷ rs) r told read (inr (first, h)) = raws_apart contents ns rs r told.1 read.1 h

raws_refused_once : (contents : Contents) (names : List (List ℕ)) (r q : Refusal) → AreTold contents names → RefusesSystems contents names r → RefusesSystems contents names q → IsLike r q
raws_refused_once contents [] r q told h k = absurd h
raws_refused_once contents (n ∷ ns) r q told (inl h) (inl k) = file_refused_once (system_kind n) contents n told.0.0 r q (system_is_kind n) told.0.1 h k
raws_refused_once contents (n ∷ ns) r q told (inl h) (inr ((raw, read), k)) = absurd (file_apart (system_kind n) contents n told.0.0 raw r (system_is_kind n) told.0.1 read h)
raws_refused_once contents (n ∷ ns) r q told (inr ((raw, read), h)) (inl k) = absurd (file_apart (system_kind n) contents n told.0.0 raw q (system_is_kind n) told.0.1 read k)
raws_refused_once contents (n ∷ ns) r q told (inr (first, h)) (inr (other, k)) = raws_refused_once contents ns r q told.1 h k

-- ---- the rule

rule_once : (contents : Contents) (sorting : AskedSorting) (rule other : Rule) → AreTold contents (list_names sorting) → IsRule contents sorting rule → IsRule contents sorting other → rule ≡ other
rule_once contents by_prefix rule other told one two = one ∙ sym two
rule_once contents by_suffix rule other told one two = one ∙ sym two
rule_once contents (by_list name) rule other told (inputs, read, is) (more, again, so) =
    let same : inputs ≡ more = file_once list_kind contents name told.0.0 inputs more list_is_kind told.0.1 read again in
    is ∙ ap {A = List (List ℕ)} {B = Rule} Listed same ∙ sym so

rule_apart : (contents : Contents) (sorting : AskedSorting) (rule : Rule) (r : Refusal) → AreTold contents (list_names sorting) → IsRule contents sorting rule → ¬ RefusesRule contents sorting r
rule_apart contents by_prefix rule r told is h = h
rule_apart contents by_suffix rule r told is h = h
rule_apart contents (by_list name) rule r told (inputs, read, is) h = file_apart list_kind contents name told.0.0 inputs r list_is_kind told.0.1 read h

rule_refused_once : (contents : Contents) (sorting : AskedSorting) (r q : Refusal) → AreTold contents (list_names sorting) → RefusesRule contents sorting r → RefusesRule contents sorting q → IsLike r q
rule_refused_once contents by_prefix r q told h k = absurd h
rule_refused_once contents by_suffix r q told h k = absurd h
rule_refused_once contents (by_list name) r q told h k = file_refused_once list_kind contents name told.0.0 r q list_is_kind told.0.1 h k

-- ---- labels and cycles

labels_refused_once : (rule : Rule) (raws : List RawSystem) (r q : Refusal) → RefusesLabels rule raws r → RefusesLabels rule raws q → IsLike r q
labels_refused_once rule raws (BadLabels e) (BadLabels f) h k = ap BadLabels (split_once rule raws e f h.0 k.0 h.1 k.1)
labels_refused_once rule raws (BadLabels e) (TooLong n) h k = absurd k
labels_refused_once rule raws (BadLabels e) (BadFile n x) h k = absurd k
labels_refused_once rule raws (BadLabels e) (Divergent n c) h k = absurd k
labels_refused_once rule raws (BadLabels e) (FileFault n) h k = absurd k
labels_refused_once rule raws (TooLong n) q h k = absurd h
labels_refused_once rule raws (BadFile n x) q h k = absurd h
labels_refused_once rule raws (Divergent n c) q h k = absurd h
labels_refused_once rule raws (FileFault n) q h k = absurd h

labels_apart : (contents : Contents) (sources : Sources) (rule : Rule) (raws : List RawSystem) (a : Alphabet) (plain : List System) (r : Refusal) → AreTold contents (all_names sources) → AreRuled contents sources raws rule → AreSplit contents sources a plain → ¬ RefusesLabels rule raws r
labels_apart contents sources rule raws a plain (BadLabels e) told input split (h, other) =
    let names = AreTold-left contents sources.names (list_names sources.sorting) told in
    let list = AreTold-right contents sources.names (list_names sources.sorting) told in
    let same : split.raws ≡ raws = raws_once contents sources.names split.raws raws names split.input.read input.read in
    let ruled : split.rule ≡ rule = rule_once contents sources.sorting split.rule rule list split.input.ruled input.ruled in
    let alphabet = subst (λ (u : Rule). IsAlphabetOf u raws a) ruled (subst (λ (rs : List RawSystem). IsAlphabetOf split.rule rs a) same split.alphabet) in
    other (memory_alone rule raws a alphabet e h)
labels_apart contents sources rule raws a plain (TooLong n) told input split h = h
labels_apart contents sources rule raws a plain (BadFile n x) told input split h = h
labels_apart contents sources rule raws a plain (Divergent n c) told input split h = h
labels_apart contents sources rule raws a plain (FileFault n) told input split h = h

cycle_apart : (name : List ℕ) (s : System) (r : Refusal) → IsConvergent s → ¬ IsCycleOf name s r
cycle_apart name s (Divergent named cycle) convergent h = IsTauCycle-diverges s cycle h.1 convergent
cycle_apart name s (TooLong n) convergent h = h
cycle_apart name s (BadFile n x) convergent h = h
cycle_apart name s (BadLabels e) convergent h = h
cycle_apart name s (FileFault n) convergent h = h

cycles_apart : (names : List (List ℕ)) (systems : List System) (r : Refusal) → All IsConvergent systems → ¬ IsDiverging names systems r
cycles_apart [] systems r fine h = h
cycles_apart (n ∷ ns) [] r fine h = h
cycles_apart (n ∷ ns) (s ∷ systems) r fine (inl h) = cycle_apart n s r (All-head IsConvergent s systems fine) h
cycles_apart (n ∷ ns) (s ∷ systems) r fine (inr (first, h)) = cycles_apart ns systems r (All-tail IsConvergent s systems fine) h

cycle_once : (name : List ℕ) (s : System) (r q : Refusal) → IsCycleOf name s r → IsCycleOf name s q → IsLike r q
cycle_once name s (Divergent n c) (Divergent m d) h k = ap (λ x. Divergent x []) (h.0 ∙ sym k.0)
cycle_once name s (Divergent n c) (TooLong m) h k = absurd k
cycle_once name s (Divergent n c) (BadFile m x) h k = absurd k
cycle_once name s (Divergent n c) (BadLabels e) h k = absurd k
cycle_once name s (Divergent n c) (FileFault m) h k = absurd k
cycle_once name s (TooLong n) q h k = absurd h
cycle_once name s (BadFile n x) q h k = absurd h
cycle_once name s (BadLabels e) q h k = absurd h
cycle_once name s (FileFault n) q h k = absurd h

cycles_once : (names : List (List ℕ)) (systems : List System) (r q : Refusal) → IsDiverging names systems r → IsDiverging names systems q → IsLike r q
cycles_once [] systems r q h k = absurd h
cycles_once (n ∷ ns) [] r q h k = absurd h
cycles_once (n ∷ ns) (s ∷ systems) r q (inl h) (inl k) = cycle_once n s r q h k
cycles_once (n ∷ ns) (s ∷ systems) r q (inl h) (inr (fine, k)) = absurd (cycle_apart n s r fine h)
cycles_once (n ∷ ns) (s ∷ systems) r q (inr (fine, h)) (inl k) = absurd (cycle_apart n s q fine k)
cycles_once (n ∷ ns) (s ∷ systems) r q (inr (first, h)) (inr (other, k)) = cycles_once ns systems r q h k

-- ---- all of it

-- the raw systems, the rule, the alphabet and the systems over it are fixed
splits_once : (contents : Contents) (sources : Sources) (a b : Alphabet) (ss ts : List System) → AreTold contents (all_names sources) → AreSplit contents sources a ss → AreSplit contents sources b ts → (b ≡ a) × (ts ≡ ss)
splits_once contents sources a b ss ts told one two =
    let names = AreTold-left contents sources.names (list_names sources.sorting) told in
    let list = AreTold-right contents sources.names (list_names sources.sorting) told in
    let raws : two.raws ≡ one.raws = raws_once contents sources.names two.raws one.raws names two.input.read one.input.read in
    let rule : two.rule ≡ one.rule = rule_once contents sources.sorting two.rule one.rule list two.input.ruled one.input.ruled in
    split_systems_once one.rule one.raws a b ss ts one.alphabet
    (subst (λ (u : Rule). IsAlphabetOf u one.raws b) rule (subst (λ (rs : List RawSystem). IsAlphabetOf two.rule rs b) raws two.alphabet))
    one.sound two.sound one.over (subst (λ (rs : List RawSystem). AreSystemsFor b rs ts) raws two.over)

-- files have one alphabet and one list of systems, as they are to be read
pub systems_once : (contents : Contents) (sources : Sources) (a b : Alphabet) (ss ts : List System) → AreTold contents (all_names sources) → AreSystems contents sources a ss → AreSystems contents sources b ts → (b ≡ a) × (ts ≡ ss)
systems_once contents sources a b ss ts told one two =
    let same = splits_once contents sources a b one.plain two.plain told one.split two.split in
    (same.0, two.read ∙ ap (map (read_as sources.divergence)) same.1 ∙ sym one.read)

settled_apart : (d : Divergence) (names : List (List ℕ)) (plain : List System) (r : Refusal) → AreSettled d plain → ¬ RefusesCycles d names plain r
settled_apart Refuse names plain r fine h = cycles_apart names plain r fine h
settled_apart Quiet names plain r fine h = h

unsettled_once : (d : Divergence) (names : List (List ℕ)) (plain : List System) (r q : Refusal) → RefusesCycles d names plain r → RefusesCycles d names plain q → IsLike r q
unsettled_once Refuse names plain r q h k = cycles_once names plain r q h k
unsettled_once Quiet names plain r q h k = absurd h

-- files that are refused give no systems
pub sources_apart : (contents : Contents) (sources : Sources) (r : Refusal) (a : Alphabet) (systems : List System) → AreTold contents (all_names sources) → RefusesSources contents sources r → ¬ AreSystems contents sources a systems
sources_apart contents sources r a systems told (inl h) are =
    raws_apart contents sources.names are.split.raws r (AreTold-left contents sources.names (list_names sources.sorting) told) are.split.input.read h
sources_apart contents sources r a systems told (inr (inl (raws, read, h))) are =
    rule_apart contents sources.sorting are.split.rule r (AreTold-right contents sources.names (list_names sources.sorting) told) are.split.input.ruled h
sources_apart contents sources r a systems told (inr (inr (inl (raws, rule, input, h)))) are = labels_apart contents sources rule raws a are.plain r told input are.split h
sources_apart contents sources r a systems told (inr (inr (inr (b, plain, split, h)))) are =
    let same = splits_once contents sources a b are.plain plain told are.split split in
    settled_apart sources.divergence sources.names are.plain r are.settled (subst (λ (ss : List System). RefusesCycles sources.divergence sources.names ss r) same.1 h)

-- the order of the stages, from the first to the last
pub sources_refused_once : (contents : Contents) (sources : Sources) (r q : Refusal) → AreTold contents (all_names sources) → RefusesSources contents sources r → RefusesSources contents sources q → IsLike r q
sources_refused_once contents sources r q told h k = go h k
  where
    names : AreTold contents sources.names
    names = AreTold-left contents sources.names (list_names sources.sorting) told

    list : AreTold contents (list_names sources.sorting)
    list = AreTold-right contents sources.names (list_names sources.sorting) told

    -- labels are refused for the raw systems and the rule that are fixed
    labels : (raws others : List RawSystem) (rule u : Rule) → AreRuled contents sources raws rule → AreRuled contents sources others u → RefusesLabels rule raws r → RefusesLabels u others q → IsLike r q
    labels raws others rule u one two why for =
        let same : others ≡ raws = raws_once contents sources.names others raws names two.read one.read in
        let ruled : u ≡ rule = rule_once contents sources.sorting u rule list two.ruled one.ruled in
        labels_refused_once rule raws r q why (subst (λ (v : Rule). RefusesLabels v raws q) ruled (subst (λ (rs : List RawSystem). RefusesLabels u rs q) same for))

    go : RefusesSources contents sources r → RefusesSources contents sources q → IsLike r q
    go (inl one) (inl two) = raws_refused_once contents sources.names r q names one two
    go (inl one) (inr (inl (raws, read, two))) = absurd (raws_apart contents sources.names raws r names read one)
    go (inl one) (inr (inr (inl (raws, rule, input, two)))) = absurd (raws_apart contents sources.names raws r names input.read one)
    go (inl one) (inr (inr (inr (a, plain, split, two)))) = absurd (raws_apart contents sources.names split.raws r names split.input.read one)
    go (inr (inl (raws, read, one))) (inl two) = absurd (raws_apart contents sources.names raws q names read two)
    go (inr (inl (raws, read, one))) (inr (inl (others, again, two))) = rule_refused_once contents sources.sorting r q list one two
    go (inr (inl (raws, read, one))) (inr (inr (inl (others, rule, input, two)))) = absurd (rule_apart contents sources.sorting rule r list input.ruled one)
    go (inr (inl (raws, read, one))) (inr (inr (inr (a, plain, split, two)))) = absurd (rule_apart contents sources.sorting split.rule r list split.input.ruled one)
    go (inr (inr (inl (raws, rule, input, one)))) (inl two) = absurd (raws_apart contents sources.names raws q names input.read two)
    go (inr (inr (inl (raws, rule, input, one)))) (inr (inl (others, again, two))) = absurd (rule_apart contents sources.sorting rule q list input.ruled two)
    go (inr (inr (inl (raws, rule, input, one)))) (inr (inr (inl (others, u, again, two)))) = labels raws others rule u input again one two
    go (inr (inr (inl (raws, rule, input, one)))) (inr (inr (inr (a, plain, split, two)))) = absurd (labels_apart contents sources rule raws a plain r told input split one)
    go (inr (inr (inr (a, plain, split, one)))) (inl two) = absurd (raws_apart contents sources.names split.raws q names split.input.read two)
    go (inr (inr (inr (a, plain, split, one)))) (inr (inl (others, again, two))) = absurd (rule_apart contents sources.sorting split.rule q list split.input.ruled two)
    go (inr (inr (inr (a, plain, split, one)))) (inr (inr (inl (others, u, again, two)))) = absurd (labels_apart contents sources u others a plain q told again split two)
    go (inr (inr (inr (a, plain, split, one)))) (inr (inr (inr (b, others, again, two)))) =
        let same = splits_once contents sources a b plain others told split again in
        unsettled_once sources.divergence sources.names plain r q one (subst (λ (ss : List System). RefusesCycles sources.divergence sources.names ss q) same.1 two)
