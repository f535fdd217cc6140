use Rattle.std.proofs.Common.{◌≡◌, ◌++◌, ◌∷◌, [], length, Vec, Global, ℕ, List, rules}
use Rattle.aut_text.proofs.LabelLaws.{AreTexts-push, ArePlaces-after}
use Rattle.aut_text.proofs.labels.LabelTable.add.Goals as goal

pub invariant_of-self-2 : goal.invariant_of-self-2
invariant_of-self-2 c =
    let text_in : Vec ℕ Global → List ℕ = λ v. v.items in
    let last : c.push_reserved.new.self.items ≡ c.self.inside.texts.items ++ c.args.text.now ∷ [] = search rules in
    let count : c.len.result ≡ length c.self.inside.texts.items = search rules in
    let lacks = rw (← c.self.view_is) at c.requires.new in
    let places = ArePlaces-after text_in c.self.inside.places.entries c.insert.new.self.entries c.in_ok-key.key c.len.result c.self.inside.texts.items c.push_reserved.new.self.items c.args.text.now in
    (rw last (AreTexts-push _ _ c.self.invariant.0 c.requires.label lacks), places c.in_ok-insert.ensures.entries count c.in_ok-key.ensures.items last c.self.invariant.1)

pub returns-clause-texts : goal.returns-clause-texts
returns-clause-texts c = (invariant_of-self-2 c).0
