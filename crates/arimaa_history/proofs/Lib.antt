pub mod Lemmas
pub mod Counting
pub mod LastPositions
