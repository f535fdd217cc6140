-- Private: how a link in memory keeps its acts.
use Rattle.std.specs.Prelude.{ℕ, List}
use Rattle.edge_io.specs.declared.act.Act.{Act}
use Rattle.edge_io.specs.declared.act.Act.TheVariants.{Looked, Listened, Gave}
use Rattle.edge_io.specs.declared.memory_link.Deed.{Deed}
use Rattle.edge_io.specs.declared.memory_link.Deed.TheVariants.{Look, Hear, Send}
use Rattle.edge_io.specs.Kept.{Entry}

-- the act of a deed with its text
abbrev pub act_of : Entry Deed → Act
act_of entry = go entry.head entry.text
  where
    go : Deed → List ℕ → Act
    go (Look heard) text = Looked heard text
    go (Hear heard) text = Listened heard text
    go Send text = Gave text
