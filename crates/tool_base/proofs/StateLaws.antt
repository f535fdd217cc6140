-- Systems that are read from files have at most `MOST_STATES` states.
use Rattle.std.proofs.Common.{◌≡◌, ℕ, ◌<◌, ◌≤◌, Bool, true, false, List, [], ◌∷◌, length, map, get_or, All, subst, arith}
use Rattle.std.proofs.lemmas.List.{get_or_default}
use Rattle.std.proofs.lemmas.List.Elements.{All-nil, All-cons, All-head, All-tail}
use Rattle.lts_base.specs.declared.divergence.Divergence.{Divergence}
use Rattle.lts_base.specs.declared.divergence.Divergence.TheVariants.{Refuse, Quiet}
use Rattle.lts_base.specs.declared.limits.TheConstants.{MOST_STATES}
use Rattle.lts_base.specs.System.{System}
use Rattle.lts_base.specs.Alphabet.{Alphabet}
use Rattle.lts_base.specs.Raw.{RawSystem}
use Rattle.lts_base.specs.Sorting.{AreSystemsFor, raw_at, system_at}
use Rattle.aut_text.specs.Grammar.{IsAutFile}
use Rattle.graphml_text.specs.Document.{read}
use Rattle.tool_base.specs.Contents.{Contents}
use Rattle.tool_base.specs.Kinds.{IsFile, kind_of, is_graphml, system_kind}
use Rattle.tool_base.specs.Sources.{Sources, AreRead, AreSystems, read_as}
use Rattle.graphml_text.proofs.StateLaws.{graph_small}

aut_small : (content : List ℕ) (r : RawSystem) → IsAutFile content r → r.states ≤ MOST_STATES
aut_small content r is = let low = is.file.begun.header.states in omega (arith, low, is.file.states)

kind_small : (b : Bool) (content : List ℕ) (r : RawSystem) → (kind_of b).reads content r → r.states ≤ MOST_STATES
kind_small true content r is = graph_small content r is.file
kind_small false content r is = aut_small content r is

raws_small : (contents : Contents) (names : List (List ℕ)) (raws : List RawSystem) → AreRead contents names raws → All (λ (r : RawSystem). r.states ≤ MOST_STATES) raws
raws_small contents [] [] are = All-nil (λ (r : RawSystem). r.states ≤ MOST_STATES)
raws_small contents [] (r ∷ raws) are = absurd are
raws_small contents (name ∷ names) [] are = absurd are
raws_small contents (name ∷ names) (r ∷ raws) are =
    let file : IsFile (system_kind name) contents name r = are.0 in
    All-cons (λ (x : RawSystem). x.states ≤ MOST_STATES) r raws (kind_small (is_graphml name) file.content r file.reads) (raws_small contents names raws are.1)

-- ---- systems

plain_small : (a : Alphabet) (raws : List RawSystem) (systems : List System) → AreSystemsFor a raws systems → All (λ (r : RawSystem). r.states ≤ MOST_STATES) raws → All (λ (s : System). s.states ≤ MOST_STATES) systems
plain_small a raws systems are small k d below =
    let inside : k < length raws = omega (arith, below, are.long) in
    let is : system_at systems k ≡ get_or systems k d = get_or_default systems k _ d below in
    let same = (are.each k inside).states in
    let low : (raw_at raws k).states ≤ MOST_STATES = small k _ inside in
    subst (λ (s : System). s.states ≤ MOST_STATES) is (omega (arith, low, same))

read_small : (d : Divergence) (systems : List System) → All (λ (s : System). s.states ≤ MOST_STATES) systems → All (λ (s : System). s.states ≤ MOST_STATES) (map (read_as d) systems)
read_small d [] small = All-nil (λ (s : System). s.states ≤ MOST_STATES)
read_small d (s ∷ systems) small =
    All-cons (λ (x : System). x.states ≤ MOST_STATES) (read_as d s) (map (read_as d) systems) (one d (All-head (λ (x : System). x.states ≤ MOST_STATES) s systems small)) (read_small d systems (All-tail (λ (x : System). x.states ≤ MOST_STATES) s systems small))
  where
    one : (d : Divergence) → s.states ≤ MOST_STATES → (read_as d s).states ≤ MOST_STATES
    one Refuse low = low
    one Quiet low = low

pub systems_small : (contents : Contents) (sources : Sources) (a : Alphabet) (systems : List System) → AreSystems contents sources a systems → All (λ (s : System). s.states ≤ MOST_STATES) systems
systems_small contents sources a systems are =
    rw are.read (read_small sources.divergence are.plain (plain_small a are.split.raws are.plain are.split.over (raws_small contents sources.names are.split.raws are.split.input.read)))
