pub mod WalkLaws
pub mod EdgeLaws
pub mod MarkLaws
pub mod PackedLaws
