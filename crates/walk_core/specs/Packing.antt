-- Private: an edge as one number, whose upper part says node and item, and whose lower 24 bits the answer.
use Rattle.std.specs.Prelude.{ℕ, ◌+◌, ◌-◌, ◌*◌, ◌/◌, ◌%◌, eqb, if◌then◌else◌, List, map, Option, Some, None}
use Rattle.walk_core.specs.declared.node.Node.{Node}
use Rattle.walk_core.specs.Edges.{Edge}

-- the place of the item with this code: 65,535 stands for the greatest place, each other code for itself
abbrev pub place_from : ℕ → ℕ
place_from code = if eqb code 65535 then 4294967295 else code

-- the number of the edge with this upper part: a node, and an item's code of 16 bits
abbrev pub key_from : ℕ → ℕ
key_from head = head / 65536 * 4294967296 + place_from (head % 65536)

-- the answer: 0 for None, else one above the number of the node
abbrev pub answer_from : ℕ → Option Node
answer_from low = if eqb low 0 then None else Some (record { 0 = low - 1 })

-- the edge that a packed number stands for
abbrev pub edge_of : ℕ → Edge
edge_of packed = (key_from (packed / 16777216), answer_from (packed % 16777216))

-- the edges of packed numbers
abbrev pub edges_of : List ℕ → List Edge
edges_of run = map edge_of run
