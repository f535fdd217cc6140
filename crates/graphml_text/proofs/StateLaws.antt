-- Systems that are read from documents have at most `MOST_STATES` states.
use Rattle.std.proofs.Common.{◌≡◌, ℕ, ◌≤◌, Bool, true, false, cond, List, [], ◌∷◌, length, Option, Some, None, Result, Ok, Err, refl, subst}
use Rattle.std.specs.List.{find}
use Rattle.std.specs.Str.{is_utf8}
use Rattle.std.specs.Prelude.{codes, is_some}
use Rattle.lts_base.specs.declared.limits.TheConstants.{MOST_STATES}
use Rattle.lts_base.specs.Raw.{RawSystem}
use Rattle.graphml_scan.specs.Piece.{after_text}
use Rattle.graphml_scan.specs.Token.{Placed, tokens_of}
use Rattle.graphml_text.specs.declared.error.GraphError.{GraphError}
use Rattle.graphml_text.specs.Reading.{NamedEdge, Reading, nothing_read}
use Rattle.graphml_text.specs.Element.{step}
use Rattle.graphml_text.specs.Kept.{IsKept}
use Rattle.graphml_text.specs.Document.{on_ok, Said, said, said_of, read, has_nodes, joins_nodes, is_loose, is_complete, finished, stopped, read_on, unmarked, body_of, document, IsGraphml}
use Rattle.graphml_text.proofs.KeptLaws.{kept_nothing, kept_step}

said_small : (m : Reading) (d : Said) → IsKept m → ◌≡◌ {A = Result Said GraphError} (Ok (said m)) (Ok d) → d.states ≤ MOST_STATES
said_small m d kept e = let same : said m ≡ d = cc in subst (λ (x : Said). x.states ≤ MOST_STATES) same kept.nodes

nodes_small : (m : Reading) (nodes : List (List ℕ)) (d : Said) → IsKept m → has_nodes m nodes ≡ Ok d → d.states ≤ MOST_STATES
nodes_small m [] d kept e = absurd cc
nodes_small m (node ∷ nodes) d kept e = said_small m d kept e

joins_small : (m : Reading) (o : Option NamedEdge) (d : Said) → IsKept m → joins_nodes m o ≡ Ok d → d.states ≤ MOST_STATES
joins_small m (Some x) d kept e = absurd cc
joins_small m None d kept e = nodes_small m m.nodes d kept e

finished_small : (size : ℕ) (m : Reading) (d : Said) → IsKept m → finished size m ≡ Ok d → d.states ≤ MOST_STATES
finished_small size m d kept e = go (is_complete m) e
  where
    go : (b : Bool) → cond b (joins_nodes m (find (is_loose m.nodes) m.edges)) (Err (GraphError.Malformed size)) ≡ Ok d → d.states ≤ MOST_STATES
    go true f = joins_small m (find (is_loose m.nodes) m.edges) d kept f
    go false f = absurd cc

stopped_small : (size : ℕ) (rest : List ℕ) (m : Reading) (d : Said) → IsKept m → stopped size rest m ≡ Ok d → d.states ≤ MOST_STATES
stopped_small size [] m d kept e = finished_small size m d kept e
stopped_small size (b ∷ rest) m d kept e = go (is_some (after_text (codes "<!DOCTYPE") (b ∷ rest))) _ _ e
  where
    go : (c : Bool) (x y : GraphError) → cond c (Err x) (Err y) ≡ Ok d → d.states ≤ MOST_STATES
    go true x y f = absurd cc
    go false x y f = absurd cc

read_kept : (m n : Reading) (tokens : List Placed) → read m tokens ≡ Ok n → IsKept m → IsKept n
read_kept m n [] e kept = let same : m ≡ n = cc in subst IsKept same kept
read_kept m n (t ∷ tokens) e kept = go (step t.at m t.token) refl e (λ (k : Reading) f g. read_kept k n tokens f g)
  where
    go : (r : Result Reading GraphError) → step t.at m t.token ≡ r → on_ok r (λ k. read k tokens) ≡ Ok n → ((k : Reading) → read k tokens ≡ Ok n → IsKept k → IsKept n) → IsKept n
    go (Err x) is f others = absurd cc
    go (Ok k) is f others = others k f (kept_step t.at m k t.token is kept)

read_on_small : (size : ℕ) (m : Reading) (bytes : List ℕ) (d : Said) → IsKept m → read_on size m bytes ≡ Ok d → d.states ≤ MOST_STATES
read_on_small size m bytes d kept e = go (read m (tokens_of size bytes).0) refl e
  where
    go : (r : Result Reading GraphError) → read m (tokens_of size bytes).0 ≡ r → on_ok r (stopped size (tokens_of size bytes).1) ≡ Ok d → d.states ≤ MOST_STATES
    go (Err x) is f = absurd cc
    go (Ok n) is f = stopped_small size (tokens_of size bytes).1 n d (read_kept m n (tokens_of size bytes).0 is kept) f

document_small : (content : List ℕ) (d : Said) → document content ≡ Ok d → d.states ≤ MOST_STATES
unfolding document
document_small content d e = go (is_utf8 content) _ e
  where
    body : (r : Result (List ℕ) GraphError) → on_ok r (read_on (length content) nothing_read) ≡ Ok d → d.states ≤ MOST_STATES
    body (Err x) f = absurd cc
    body (Ok bytes) f = read_on_small (length content) nothing_read bytes d kept_nothing f

    go : (b : Bool) (x : GraphError) → cond b (on_ok (body_of (length content) (unmarked content)) (read_on (length content) nothing_read)) (Err x) ≡ Ok d → d.states ≤ MOST_STATES
    go true x f = body (body_of (length content) (unmarked content)) f
    go false x f = absurd cc

-- a system that is read from a document has at most `MOST_STATES` states
pub graph_small : (content : List ℕ) (r : RawSystem) → IsGraphml content r → r.states ≤ MOST_STATES
graph_small content r is = document_small content (said_of r) is
