use Rattle.std.proofs.Common.{◌∙◌, ◌≡◌, get_or, sym, rules}
use Rattle.graphml_text.proofs.PlaceLaws.{numbered_before}
use Rattle.graphml_text.proofs.places.numbered_place.Goals as goal

pub returns : goal.returns
returns c ids are =
    let at : c.in-Some-get.place.now ≡ get_or c.args.places.now.places.items c.in-Some.number 0 = search rules in
    numbered_before ids c.args.places.now.first c.args.places.now.places.items c.args.id.now c.in-Some.number c.in-Some-get.place.now are (sym c.number_of.ensures ∙ c.in-Some.is) at c.if-place-eq0.false
