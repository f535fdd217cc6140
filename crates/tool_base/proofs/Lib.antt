pub mod LoadLaws
pub mod StoppedLaws
pub mod KindLaws
pub mod ReadLaws
pub mod InputOnce
pub mod CommandLaws
pub mod StateLaws
