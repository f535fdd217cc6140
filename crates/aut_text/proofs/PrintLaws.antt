-- A system over an alphabet carries labels of it alone.
use Rattle.std.proofs.Common.{◌≡◌, ◌∙◌, ℕ, ◌<◌, ◌≤◌, List, ◌++◌, length, drop, get_or, sym, ap, arith, subst}
use Rattle.std.specs.List.{flat_map}
use Rattle.std.proofs.Math.ListN.{drop_of_length-le}
use Rattle.std.proofs.lemmas.List.{append-nil}
use Rattle.lts_base.specs.declared.action.Move.{Move}
use Rattle.lts_base.specs.System.{System, IsSystem, IsActOf, label_count}
use Rattle.lts_base.specs.Alphabet.{Alphabet, IsAlphabet, IsOver}

pub carried : (a : Alphabet) (s : System) (k : ℕ) (d : Move) → IsAlphabet a → IsOver a s → IsSystem s → k < length s.moves → IsActOf (length a.texts) (get_or s.moves k d).act
carried a s k d alphabet over system below =
    let count : label_count s ≡ length a.texts = omega (arith, over.inputs, over.outputs, alphabet.inputs) in
    subst (λ (n : ℕ). IsActOf n (get_or s.moves k d).act) count (system.moves k d below).act

-- where no move is left, the text is whole
pub nothing_left : (f : Move → List ℕ) (text whole : List ℕ) (ms : List Move) (k : ℕ) → length ms ≤ k → text ++ flat_map f (drop k ms) ≡ whole → text ≡ whole
nothing_left f text whole ms k past is = sym (append-nil text) ∙ ap {A = List Move} {B = List ℕ} (λ t. text ++ flat_map f t) (sym (drop_of_length-le ms past)) ∙ is
