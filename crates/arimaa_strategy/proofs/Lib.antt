pub mod Lemmas
pub mod PlainText
pub mod ReadingBack
pub mod Ranks
