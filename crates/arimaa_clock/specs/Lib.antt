pub mod Account
pub mod Reserve
pub mod ClockState
