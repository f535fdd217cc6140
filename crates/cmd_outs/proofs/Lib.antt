pub mod StopLaws
pub mod OfferLaws
pub mod TakenLaws
pub mod OnceLaws
