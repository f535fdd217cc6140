-- Laws on the items of an alphabet and their places.
use Rattle.std.proofs.Common.{◌≡◌, ◌≤◌, refl, ap, arith}
use Rattle.lts_base.specs.declared.item.Item.{Item}
use Rattle.lts_base.specs.declared.item.Item.TheVariants.{Input, Output, Delta}
use Rattle.lts_base.specs.System.{System, IsItemOf, label_count}
use Rattle.lts_base.specs.Order.{place}

-- items of one alphabet with the same place are the same
pub same_place : (s : System) (x y : Item) → IsItemOf s x → IsItemOf s y → place (label_count s) x ≡ place (label_count s) y → x ≡ y
same_place s (Input a) (Input b) f g e = ap Input e
same_place s (Input a) (Output b) f g e = absurd (omega (arith, f, g.0, e))
same_place s (Input a) Delta f g e = absurd (omega (arith, f, e))
same_place s (Output a) (Input b) f g e = absurd (omega (arith, f.0, g, e))
same_place s (Output a) (Output b) f g e = ap Output e
same_place s (Output a) Delta f g e = absurd (omega (arith, f.1, e))
same_place s Delta (Input b) f g e = absurd (omega (arith, g, e))
same_place s Delta (Output b) f g e = absurd (omega (arith, g.1, e))
same_place s Delta Delta f g e = refl

-- no item has a place after that of `delta`
pub place_within : (s : System) (x : Item) → IsItemOf s x → place (label_count s) x ≤ label_count s
place_within s (Input a) f = omega (arith, f)
place_within s (Output a) f = omega (arith, f.1)
place_within s Delta f = omega arith
