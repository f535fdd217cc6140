use Rattle.std.proofs.Common.{arith}
use Rattle.cert_text.proofs.ListingLaws.{AreNumbers-list, states_sound}
use Rattle.cert_text.proofs.listing.list_of.Goals as goal

pub states_in-requires : goal.states_in-requires
states_in-requires c = AreNumbers-list _ (c.is_list.ensures.0 c.if-not-is_list.false)

pub returns-in-Some : goal.returns-in-Some
returns-in-Some c =
    let of = rw c.in-Some.is at c.in_ok-found.ensures in
    record {
      list = of;
      sound = states_sound _ _ _ (omega arith) (c.is_list.ensures.0 c.if-not-is_list.false) of;
    }
