-- Private: edges that are kept as moves.
use Rattle.std.specs.Prelude.{◌≡◌, ℕ, ◌<◌, ◌≤◌, List, [], ◌∷◌, ◌++◌, length, Option}
use Rattle.lts_base.specs.Alphabet.{text_at}
use Rattle.lts_base.specs.declared.limits.TheConstants.{MOST_MOVES}
use Rattle.aut_text.specs.Parts.{Parts, NamedMove, named_moves, AddsMove}
use Rattle.graphml_text.specs.declared.moves.Ends.{Ends}
use Rattle.graphml_text.specs.declared.places.Places.{Places}
use Rattle.graphml_text.specs.Reading.{NamedEdge}
use Rattle.graphml_text.specs.Ends.{AreEdges, IsNear}
use Rattle.graphml_text.specs.Places.{IsPlaces}

-- the edge with this move and offset
abbrev pub joined : List (List ℕ) → ℕ → NamedMove → NamedEdge
joined ids at m = record { at = at; source = text_at ids m.from; target = text_at ids m.to; label = m.label }

-- the edges with these moves and offsets
abbrev pub joined_of : List (List ℕ) → List ℕ → List NamedMove → List NamedEdge
joined_of ids [] moves = []
joined_of ids (at ∷ offsets) [] = []
joined_of ids (at ∷ offsets) (m ∷ moves) = joined ids at m ∷ joined_of ids offsets moves

-- the moves are those of the edges that have the offsets; there aren't too many
pub record IsJoined (ids : List (List ℕ)) (offsets : List ℕ) (p : Parts) : Type 0 where
  pub counted : length offsets ≡ length p.moves
  pub few : length p.moves ≤ MOST_MOVES
  pub edges : AreEdges ids (joined_of ids offsets (named_moves p)) p

-- what is kept of the nodes tells their places, and the moves are joined
pub record IsHeld (ids : List (List ℕ)) (places : Places) (near : Option ℕ) (offsets : List ℕ) (p : Parts) : Type 0 where
  pub at : IsPlaces ids places
  pub before : IsNear ids near
  pub joined : IsJoined ids offsets p

-- the parts and the offsets have one more edge, which has these ends
pub record Keeps (ends : Ends) (e : NamedEdge) (old : Parts) (before : List ℕ) (new : Parts) (after : List ℕ) : Type 0 where
  pub room : length old.moves < MOST_MOVES
  pub moves : AddsMove old new (record { from = ends.from; label = e.label; to = ends.to })
  pub offsets : after ≡ before ++ e.at ∷ []
