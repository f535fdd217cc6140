use Rattle.std.proofs.Common.{◌≡◌, ◌∙◌, sym, Vec, Global, ℕ, List}
use Rattle.std.specs.Map.{lookup}
use Rattle.std.specs.Str.{bytes_eq}
use Rattle.aut_text.specs.Parts.{texts_of}
use Rattle.aut_text.proofs.LabelLaws.{look_up_same, place_if_some, lacks_if_none}
use Rattle.aut_text.proofs.labels.LabelTable.place_of.Goals as goal

pub returns-clause-found : goal.returns-clause-found
returns-clause-found c =
    let text_in : Vec ℕ Global → List ℕ = λ v. v.items in
    let is : lookup (bytes_eq c.args.text.now) (texts_of text_in c.self.inside.places.entries) ≡ c.copied.result = sym (look_up_same text_in c.args.text.now c.self.inside.places.entries) ∙ sym c.get.ensures.value ∙ sym c.copied.ensures in
    rw (← c.self.view_is) (place_if_some _ _ _ _ c.self.invariant.1 is)

pub returns-clause-none : goal.returns-clause-none
returns-clause-none c =
    let text_in : Vec ℕ Global → List ℕ = λ v. v.items in
    let is : lookup (bytes_eq c.args.text.now) (texts_of text_in c.self.inside.places.entries) ≡ c.copied.result = sym (look_up_same text_in c.args.text.now c.self.inside.places.entries) ∙ sym c.get.ensures.value ∙ sym c.copied.ensures in
    rw (← c.self.view_is) (lacks_if_none _ _ _ _ c.self.invariant.1 is)
