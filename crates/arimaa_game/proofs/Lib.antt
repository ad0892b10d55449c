pub mod Lemmas
pub mod SetUp
