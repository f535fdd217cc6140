use Rattle.std.proofs.Common.{sym, ◌∙◌, arith}
use Rattle.cert_text.proofs.NumberLaws.{holds, fails, shorter_less, less_is, same_not_less, greater_not_less}
use Rattle.cert_text.proofs.number.is_less.Goals as goal

pub returns-then-first-second : goal.returns-then-first-second
returns-then-first-second c =
    let less = shorter_less c.args.first.now c.args.second.now c.requires.first c.requires.second c.if-first-second.true in
    holds less

pub returns-then-second-first : goal.returns-then-second-first
returns-then-second-first c =
    let more = shorter_less c.args.second.now c.args.first.now c.requires.second c.requires.first c.if-second-first.true in
    fails (λ h. omega (arith, h, more))

pub returns-in-Less : goal.returns-in-Less
returns-in-Less c =
    let less = less_is c.args.first.now c.args.second.now c.requires.first c.requires.second c.if-first-second.false c.if-second-first.false (sym c.cmp.ensures ∙ c.in-Less.is) in
    holds less

pub returns-in-Equal : goal.returns-in-Equal
returns-in-Equal c =
    let same = same_not_less c.args.first.now c.args.second.now c.requires.first c.requires.second c.if-first-second.false c.if-second-first.false (sym c.cmp.ensures ∙ c.in-Equal.is) in
    fails same

pub returns-in-Greater : goal.returns-in-Greater
returns-in-Greater c =
    let more = greater_not_less c.args.first.now c.args.second.now c.requires.first c.requires.second c.if-first-second.false c.if-second-first.false (sym c.cmp.ensures ∙ c.in-Greater.is) in
    fails more
