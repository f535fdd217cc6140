pub mod OutsideLaws
pub mod LinkLaws
pub mod KeptLaws
pub mod DialerLaws
pub mod DoorLaws
