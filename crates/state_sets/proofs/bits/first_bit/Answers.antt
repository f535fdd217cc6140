use Rattle.std.proofs.Common.{◌^◌, refl, arith}
use Rattle.std.proofs.Math.Nat.{div-le_self}
use Rattle.state_sets.proofs.BitLaws.{first_none, first_some}
use Rattle.state_sets.proofs.bits.first_bit.Goals as goal

pub returns-then-rest-eq0 : goal.returns-then-rest-eq0
returns-then-rest-eq0 c = first_none c.args.word c.args.from c.requires c.if-rest-eq0.true

pub returns : goal.returns
returns c = first_some c.args.word c.args.from _ c.requires c.ranges.word.fits (omega (arith, c.if-rest-eq0.false)) (omega (arith, div-le_self c.args.word (2 ^ c.args.from), c.ranges.word.fits)) refl
