-- Laws on the loading of files: how far it is, and what it has led to.
use Rattle.std.proofs.Common.{◌≡◌, ◌∙◌, ℕ, zero, suc, ◌+◌, ◌<◌, ◌≤◌, List, [], ◌∷◌, ◌++◌, length, take, get_or, map, All, replicate, Option, Some, None, IfSome, inl, inr, refl, sym, ap, subst, arith}
use Rattle.std.proofs.lemmas.List.{length-replicate, take_more, map-append}
use Rattle.std.proofs.lemmas.List.Elements.{All-head, All-tail}
use Rattle.lts_base.specs.declared.sorting.Rule.{Rule}
use Rattle.lts_base.specs.declared.divergence.Divergence.TheVariants.{Quiet}
use Rattle.lts_base.specs.System.{System, quieted}
use Rattle.lts_base.specs.Alphabet.{Alphabet}
use Rattle.lts_base.specs.Raw.{RawSystem}
use Rattle.lts_base.specs.Shape.{IsConvergent}
use Rattle.edge_io.specs.Outside.{ToldFiles}
use Rattle.tool_base.specs.declared.refusal.Refusal.{Refusal}
use Rattle.tool_base.specs.declared.refusal.Stop.{Stop}
use Rattle.tool_base.specs.Contents.{Contents}
use Rattle.tool_base.specs.Kinds.{IsFile, IsOver, IsLong, RefusesFile, system_kind}
use Rattle.tool_base.specs.Sources.{Sources, AreRead, RefusesSystems, IsCycleOf, IsDiverging, AreRuled, AreSystems, RefusesSources, read_as}
use Rattle.tool_base.specs.declared.refusal.Refusal.TheVariants.{TooLong}
use Rattle.tool_base.specs.Loads.{IsStopBy, IsTooLong}
use Rattle.tool_base.specs.Given.{IsSettledOf, RefusesSettled}

-- a file that is told to be too long is too long; where nothing is told, some content is
pub IsLong-told : (most : ℕ) (contents : Contents) (name : List ℕ) → IfSome (contents name) (λ c. most < length c) → IsLong (IsOver most) contents name
IsLong-told most contents name h = go (contents name) refl h
  where
    go : (o : Option (List ℕ)) → contents name ≡ o → IfSome o (λ c. most < length c) → IsLong (IsOver most) contents name
    go None is h = let zeros : List ℕ = replicate (most + 1) 0 in let size : length zeros ≡ most + 1 = length-replicate {A = ℕ} (most + 1) 0 in record { content = zeros; has = rw is tt; long = rw size (omega arith) }
    go (Some c) is h = record { content = c; has = rw is refl; long = h }

-- ---- files one by one

-- one file more is read
pub AreRead-more : (contents : Contents) (names : List (List ℕ)) (raws : List RawSystem) (i : ℕ) (name : List ℕ) (raw : RawSystem) → i < length names → name ≡ get_or names i name →
    AreRead contents (take i names) raws → IsFile (system_kind name) contents name raw → AreRead contents (take (i + 1) names) (raws ++ raw ∷ [])
AreRead-more contents names raws i name raw below is read file =
    let more : take (i + 1) names ≡ take i names ++ name ∷ [] = take_more names i name below ∙ ap (λ n. take i names ++ n ∷ []) (sym is) in
    subst (λ ns. AreRead contents ns (raws ++ raw ∷ [])) (sym more) (go (take i names) raws read)
  where
    go : (ns : List (List ℕ)) (rs : List RawSystem) → AreRead contents ns rs → AreRead contents (ns ++ name ∷ []) (rs ++ raw ∷ [])
    go [] [] so = (file, tt)
    go [] (r ∷ rs) so = absurd so
    go (n ∷ ns) [] so = absurd so
    go (n ∷ ns) (r ∷ rs) so = (so.0, go ns rs so.1)

-- the next file is the first one that is refused
pub RefusesSystems-at : (contents : Contents) (names : List (List ℕ)) (raws : List RawSystem) (i : ℕ) (name : List ℕ) (r : Refusal) → i < length names → name ≡ get_or names i name →
    AreRead contents (take i names) raws → RefusesFile (system_kind name) contents name r → RefusesSystems contents names r
RefusesSystems-at contents names raws i name r below is read why = go names raws i below is read
  where
    go : (ns : List (List ℕ)) (rs : List RawSystem) (k : ℕ) → k < length ns → name ≡ get_or ns k name → AreRead contents (take k ns) rs → RefusesSystems contents ns r
    go [] rs k low at so = absurd (omega (arith, low))
    go (n ∷ ns) rs zero low at so = inl (subst (λ (m : List ℕ). RefusesFile (system_kind m) contents m r) at why)
    go (n ∷ ns) [] (suc k) low at so = absurd so
    go (n ∷ ns) (raw ∷ rs) (suc k) low at so = inr ((raw, so.0), go ns rs k (omega (arith, low)) at so.1)

pub AreRead-all : (contents : Contents) (names : List (List ℕ)) (raws : List RawSystem) (i : ℕ) → length names ≤ i → AreRead contents (take i names) raws → AreRead contents names raws
AreRead-all contents names raws i past read = go names raws i past read
  where
    go : (ns : List (List ℕ)) (rs : List RawSystem) (k : ℕ) → length ns ≤ k → AreRead contents (take k ns) rs → AreRead contents ns rs
    go [] rs zero low so = so
    go [] rs (suc k) low so = so
    go (n ∷ ns) rs zero low so = absurd (omega (arith, low))
    go (n ∷ ns) [] (suc k) low so = so
    go (n ∷ ns) (r ∷ rs) (suc k) low so = (so.0, go ns rs k (omega (arith, low)) so.1)

-- as many files as raw systems
pub AreRead-long : (contents : Contents) (names : List (List ℕ)) (raws : List RawSystem) → AreRead contents names raws → length names ≡ length raws
AreRead-long contents [] [] read = refl
AreRead-long contents [] (r ∷ rs) read = absurd read
AreRead-long contents (n ∷ ns) [] read = absurd read
AreRead-long contents (n ∷ ns) (r ∷ rs) read = let same : length ns ≡ length rs = AreRead-long contents ns rs read.1 in omega (arith, same)

-- ---- cycles

-- the next system is the first one that isn't convergent
pub IsDiverging-at : (names : List (List ℕ)) (systems : List System) (i : ℕ) (name : List ℕ) (s : System) (r : Refusal) → length names ≡ length systems → i < length systems → name ≡ get_or names i name → s ≡ get_or systems i s →
    All IsConvergent (take i systems) → IsCycleOf name s r → IsDiverging names systems r
IsDiverging-at names systems i name s r long below is at fine why = go names systems i long below is at fine
  where
    go : (ns : List (List ℕ)) (ss : List System) (k : ℕ) → length ns ≡ length ss → k < length ss → name ≡ get_or ns k name → s ≡ get_or ss k s → All IsConvergent (take k ss) → IsDiverging ns ss r
    go [] [] k same low here there so = absurd (omega (arith, low))
    go [] (t ∷ ss) k same low here there so = absurd (omega (arith, same))
    go (n ∷ ns) [] k same low here there so = absurd (omega (arith, low))
    go (n ∷ ns) (t ∷ ss) zero same low here there so = inl (subst (λ (m : List ℕ). IsCycleOf m t r) here (subst (λ (u : System). IsCycleOf name u r) there why))
    go (n ∷ ns) (t ∷ ss) (suc k) same low here there so = inr (All-head IsConvergent t (take k ss) so, go ns ss k (omega (arith, same)) (omega (arith, low)) here there (All-tail IsConvergent t (take k ss) so))

-- a name that is lent, by its place
pub name_read : {X : Type 0} (f : X → List ℕ) (xs : List X) (i : ℕ) (x : X) → i < length xs → x ≡ get_or xs i x → f x ≡ get_or (map f xs) i (f x)
name_read f [] i x below is = absurd (omega (arith, below))
name_read f (y ∷ xs) zero x below is = ap f is
name_read f (y ∷ xs) (suc i) x below is = name_read f xs i x (omega (arith, below)) is

-- ---- all systems

-- what has been read and sorted makes the systems
pub AreSystems-of : (contents : Contents) (sources : Sources) (raws : List RawSystem) (rule : Rule) (a : Alphabet) (systems : List System) → AreRuled contents sources raws rule → IsSettledOf rule raws sources.divergence a systems → AreSystems contents sources a systems
AreSystems-of contents sources raws rule a systems input settled = record {
  plain = settled.plain;
  split = record { raws = raws; rule = rule; input = input; alphabet = settled.split.alphabet; over = settled.split.over; sound = settled.split.sound };
  settled = settled.settled;
  read = settled.read;
}

-- why what has been read and sorted isn't settled
pub RefusesSources-settled : (contents : Contents) (sources : Sources) (raws : List RawSystem) (rule : Rule) (r : Refusal) → AreRuled contents sources raws rule → RefusesSettled rule raws sources.divergence sources.names r → RefusesSources contents sources r
RefusesSources-settled contents sources raws rule r input (inl labels) = inr (inr (inl (raws, rule, input, labels)))
RefusesSources-settled contents sources raws rule r input (inr (a, plain, split, cycles)) =
    inr (inr (inr (a, plain, record { raws = raws; rule = rule; input = input; alphabet = split.alphabet; over = split.over; sound = split.sound }, cycles)))

-- one and two of a list
pub only_one : {X : Type 0} (xs rest : List X) (x : X) → length xs ≡ 1 → xs ≡ rest ++ x ∷ [] → xs ≡ x ∷ []
only_one {X = X} xs [] x long is = is
only_one {X = X} xs (y ∷ rest) x long is = absurd (let e : length xs ≡ length ((y ∷ rest) ++ x ∷ []) = ap length is in omega (arith, long, e, some rest))
  where
    some : (r : List X) → 1 ≤ length (r ++ x ∷ [])
    some [] = omega arith
    some (z ∷ r) = omega arith

-- one system more is read so that states on cycles are quiet
pub quieted_more : (systems read : List System) (i : ℕ) (s t : System) → i < length systems → s ≡ get_or systems i s → read ≡ map (read_as Quiet) (take i systems) → t ≡ quieted s →
    read ++ t ∷ [] ≡ map (read_as Quiet) (take (i + 1) systems)
quieted_more systems read i s t below is so quiet =
    let more : take (i + 1) systems ≡ take i systems ++ s ∷ [] = take_more systems i s below ∙ ap (λ x. take i systems ++ x ∷ []) (sym is) in
    ap (λ xs. xs ++ t ∷ []) so ∙ ap {A = System} {B = List System} (λ x. map (read_as Quiet) (take i systems) ++ x ∷ []) quiet ∙
    sym (map-append (read_as Quiet) (take i systems) (s ∷ [])) ∙ ap (map (read_as Quiet)) (sym more)

-- what is stopped by a file that is told to be too long
pub too_long_told : (most : ℕ) (old new : ToldFiles) (name : List ℕ) (stop : Stop) → IfSome (old.content name) (λ c. most < length c) → IsStopBy (TooLong name) stop → IsTooLong most old new name stop
too_long_told most old new name stop long (inl memory) = rw memory tt
too_long_told most old new name stop long (inr is) = rw is (inr (refl, IsLong-told most old.content name long))
