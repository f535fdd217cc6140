use Rattle.std.proofs.Common.{arith, rules, ◌≡◌, ◌++◌, refl, length-append}
use Rattle.std.proofs.lemmas.List.{length_push}
use Rattle.edge_io.proofs.KeptLaws.{entries_push, marked_push}
use Rattle.edge_io.proofs.kept.Kept.add.Goals as goal

pub invariant_of-self-2 : goal.invariant_of-self-2
invariant_of-self-2 g c =
    let bytes : c.extend_from_slice.new.self.items ≡ c.self.inside.bytes.items ++ c.args.text.now = search rules in
    let old = c.self.invariant in
    rw (c.push_reserved.ensures.items, bytes, length_push, length-append, marked_push) (omega (arith, old.0, c.push_reserved.ensures.capacity, c.if-self-eq0.false), omega (arith, old.1, c.extend_from_slice.ensures.capacity, c.if-length-self.false), omega (arith, old.2))

pub returns-clause-kept : goal.returns-clause-kept
returns-clause-kept g c =
    let bytes : c.extend_from_slice.new.self.items ≡ c.self.inside.bytes.items ++ c.args.text.now = search rules in
    rw (c.push_reserved.ensures.items, bytes, ← c.self.view_is, entries_push _ _ _ _ c.self.invariant.2) refl
