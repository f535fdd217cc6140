use Rattle.std.proofs.Common.{rules}
use Rattle.std.specs.Ordering.{nat_cmp}
use Rattle.std.specs.Prelude.{Ok, Err}
use Rattle.std.specs.Cmp.Lexicographic.{slice_cmp}
use Rattle.std.proofs.lemmas.Fn.{always_returns_same}
use Rattle.lts_base.specs.Alphabet.{text_at}
use Rattle.cert_check.proofs.OrderedLaws.{found_listed}
use Rattle.cert_check.proofs.ordered.find.Goals as goal

pub returns-in-Ok : goal.returns-in-Ok
returns-in-Ok c =
    found_listed c.args.lists.now c.args.places.now c.args.list.now (Ok c.in-Ok.place) c.in-Ok.ensures.bound
    (c.in-Ok.ensures.position (λ k. slice_cmp nat_cmp (text_at c.args.lists.now k) c.args.list.now) (always_returns_same _ _ _ (λ a r f called. search rules))) c.requires

pub returns-in-Err : goal.returns-in-Err
returns-in-Err c =
    found_listed c.args.lists.now c.args.places.now c.args.list.now (Err c.in-Err.field-0) c.in-Err.ensures.bound
    (c.in-Err.ensures.position (λ k. slice_cmp nat_cmp (text_at c.args.lists.now k) c.args.list.now) (always_returns_same _ _ _ (λ a r f called. search rules))) c.requires
