mod PeelLaws
pub mod CycleLaws
pub mod FollowLaws
mod GroupLaws
mod InputLaws
pub mod AngelicLaws
