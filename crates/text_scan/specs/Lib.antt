pub mod Decimal
pub mod Blank
pub mod Cut
pub mod Lines
pub mod Listing
