pub mod Faults
pub mod Play
pub mod Setups
