use Rattle.std.proofs.lemmas.Bool.{iff_false}
use Rattle.log_text.proofs.LineLaws.{end_holds, end_parts, end_named}
use Rattle.log_text.proofs.entry.ending_named.Goals as goal

pub returns-in_default-cut_at : goal.returns-in_default-cut_at
returns-in_default-cut_at c e is = end_holds _ _ c.args.count e c.in-Some.ensures c.in_default-cut_at.ensures is

pub returns-then-not-is_number : goal.returns-then-not-is_number
returns-then-not-is_number c e is = iff_false c.is_number.ensures c.if-not-is_number.true (end_parts _ _ _ _ c.args.count e c.requires c.in-Some.ensures c.in-Some-cut_at.ensures is).0

pub returns : goal.returns
returns c = end_named _ _ _ _ c.args.count _ c.requires c.in-Some.ensures c.in-Some-cut_at.ensures (c.is_number.ensures.0 c.if-not-is_number.false) c.ending_of.ensures
