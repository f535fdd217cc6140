use Rattle.std.proofs.Common.{◌/◌, refl, arith}
use Rattle.state_sets.proofs.BitLaws.{agreed_more, missing_bit, agreed_past, agreed_found}
use Rattle.state_sets.proofs.bits.first_missing.Goals as goal

pub returns-then-next-most : goal.returns-then-next-most
returns-then-next-most c =
    agreed_past _ _ _ _ _ c.requires.from (omega (arith, c.if-next-most.true))
    (agreed_more c.args.row.now c.args.other.now _ c.words.place _ _ _ (c.type_inv.other (c.words.place / 64)).fits refl refl c.first_bit-bit.ensures c.words.invariant)

pub returns-then-bit-lt64 : goal.returns-then-bit-lt64
returns-then-bit-lt64 c =
    agreed_found _ _ _ _ _ (omega (arith, c.if-next-most.false)) (missing_bit c.args.row.now c.args.other.now c.words.place _ _ _ (c.type_inv.other (c.words.place / 64)).fits refl refl c.if-bit-lt64.true c.first_bit-bit.ensures)
    (agreed_more c.args.row.now c.args.other.now _ c.words.place _ _ _ (c.type_inv.other (c.words.place / 64)).fits refl refl c.first_bit-bit.ensures c.words.invariant)

pub words-preserved : goal.words-preserved
words-preserved c =
    agreed_more c.args.row.now c.args.other.now _ c.words.place _ _ _ (c.type_inv.other (c.words.place / 64)).fits refl refl c.first_bit-bit.ensures c.words.invariant
