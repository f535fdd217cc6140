-- Laws of what doors tell, for the crates above and for doors in memory.
use Rattle.std.proofs.Common.{arith, ◌⊎◌, inl, inr}
use Rattle.edge_io.specs.Doors.{DoorFails, DoorIdles, DoorRefuses, KeepsDoor, ToldDoor}
use Rattle.edge_io.specs.Outside.{Rose}
use Rattle.edge_io.proofs.OutsideLaws.{Rose-before}

-- a door that isn't called is kept
pub KeepsDoor-none : (told : ToldDoor) → KeepsDoor told told
KeepsDoor-none told = record { refused = omega arith; faults = omega arith; idles = omega arith }

-- two calls in a row keep what both keep
pub KeepsDoor-then : {old mid new : ToldDoor} → KeepsDoor old mid → KeepsDoor mid new → KeepsDoor old new
KeepsDoor-then {old} {mid} {new} h k = record {
  refused = omega (arith, h.refused, k.refused);
  faults = omega (arith, h.faults, k.faults);
  idles = omega (arith, h.idles, k.idles);
}

-- a refusal of a later call is one since before the earlier
pub DoorRefuses-before : {old mid new : ToldDoor} → KeepsDoor old mid → DoorRefuses mid new → DoorRefuses old new
DoorRefuses-before {old} {mid} {new} h refuses = record {
  refused = Rose-before old.refused mid.refused new.refused h.refused refuses.refused;
  faults = Rose-before old.faults mid.faults new.faults h.faults refuses.faults;
}

pub door_fails_or : {A : Type 0} {old new : ToldDoor} → A ⊎ Rose old.faults new.faults → A ⊎ DoorFails old new
door_fails_or (inl a) = inl a
door_fails_or (inr rose) = inr (record { rose = rose })

pub door_idles_or : {A : Type 0} {old new : ToldDoor} → A ⊎ Rose old.idles new.idles → A ⊎ DoorIdles old new
door_idles_or (inl a) = inl a
door_idles_or (inr rose) = inr (record { rose = rose })
