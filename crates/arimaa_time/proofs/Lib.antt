pub mod Lemmas
pub mod Lengths
pub mod Cutting
pub mod Numbers
pub mod Readings
pub mod Written
