use Rattle.std.proofs.Common.{rules, List, ℕ}
use Rattle.std.specs.Borrow.{Bor}
use Rattle.std.specs.Ordering.{nat_cmp}
use Rattle.std.specs.Prelude.{Ok, Err}
use Rattle.std.specs.Cmp.Lexicographic.{slice_cmp}
use Rattle.std.proofs.lemmas.Fn.{always_returns_same}
use Rattle.lts_base.proofs.ShownLaws.{searched_keys}
use Rattle.lts_base.proofs.sorting.place_of.Goals as goal

pub returns-in-Ok : goal.returns-in-Ok
returns-in-Ok c =
    searched_keys (λ (t : Bor (List ℕ)). t.now) c.args.texts.now c.args.text.now (Ok c.in-Ok.place) c.in-Ok.ensures.bound
    (c.in-Ok.ensures.position (λ t. slice_cmp nat_cmp t.now c.args.text.now) (always_returns_same _ _ _ (λ a r f called. search rules))) c.requires

pub returns-in-Err : goal.returns-in-Err
returns-in-Err c =
    searched_keys (λ (t : Bor (List ℕ)). t.now) c.args.texts.now c.args.text.now (Err c.in-Err.field-0) c.in-Err.ensures.bound
    (c.in-Err.ensures.position (λ t. slice_cmp nat_cmp t.now c.args.text.now) (always_returns_same _ _ _ (λ a r f called. search rules))) c.requires
