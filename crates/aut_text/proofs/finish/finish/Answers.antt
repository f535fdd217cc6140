use Rattle.std.proofs.Common.{subst, List, ℕ, length, map}
use Rattle.lts_base.specs.declared.raw.RawMove.{RawMove}
use Rattle.lts_base.specs.Built.{RefusesParts}
use Rattle.lts_base.specs.Raw.{as_move}
use Rattle.aut_text.proofs.BuildLaws.{builds}
use Rattle.aut_text.proofs.finish.finish.Goals as goal

pub out_of_memory-requires : goal.out_of_memory-requires
out_of_memory-requires c =
    let lists = c.in_ok-labels.ensures.lists in
    let why =
    subst (λ (ms : List RawMove). RefusesParts c.args.header.states c.args.header.start (length c.args.parts.labels) (map as_move ms) c.in-Err.refusal) lists.1
    (subst (λ (ls : List (List ℕ)). RefusesParts c.args.header.states c.args.header.start (length ls) (map as_move c.in_ok-labels.moves) c.in-Err.refusal) lists.0 c.in-Err.ensures.err) in
    builds _ _ c.args.parts _ c.requires.start c.in_ok-labels.ensures.parts c.requires.within why
