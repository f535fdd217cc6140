-- Promise: what is known of a document after the tokens that were read.
use Rattle.std.specs.Prelude.{ℕ, Bool, false, List, [], Option, None}
use Rattle.graphml_text.specs.declared.role.Role.{Role}

-- an element that is open: its name, the offset of its start tag, what it is, and its direct text so far, where that counts
pub record Open : Type 0 where
  pub name : List ℕ
  pub at : ℕ
  pub role : Role
  pub text : List ℕ

-- the edge that is open: the ids of its ends; the trimmed direct text of each label element that began in it, empty while
-- that is open; the first trimmed direct text of its data for a label key that isn't empty, empty before
pub record Draft : Type 0 where
  pub source : List ℕ
  pub target : List ℕ
  pub labels : List (List ℕ)
  pub told : List ℕ

-- an edge that ended: the offset of its start tag, the ids of its ends, and its label, which Tau doesn't have
pub record NamedEdge : Type 0 where
  pub at : ℕ
  pub source : List ℕ
  pub target : List ℕ
  pub label : Option (List ℕ)

-- what was read: the open elements, the innermost last; whether the root began, whether a `graph` did, and whether edges
-- are undirected unless they say otherwise; the ids of label keys and of start keys; the ids of the nodes, in order; the
-- first node that was marked; the open edge; the edges that ended, in order
pub record Reading : Type 0 where
  pub stack : List Open
  pub rooted : Bool
  pub graphed : Bool
  pub undirected : Bool
  pub label_keys : List (List ℕ)
  pub start_keys : List (List ℕ)
  pub nodes : List (List ℕ)
  pub marked : Option ℕ
  pub draft : Option Draft
  pub edges : List NamedEdge

-- nothing was read
abbrev pub nothing_read : Reading
nothing_read = record {
  stack = [];
  rooted = false;
  graphed = false;
  undirected = false;
  label_keys = [];
  start_keys = [];
  nodes = [];
  marked = None;
  draft = None;
  edges = [];
}
