pub mod AffixLaws
pub mod CutLaws
pub mod NumberLaws
pub mod BlankLaws
pub mod LineLaws
pub mod ListingLaws
pub mod ListingOnce
