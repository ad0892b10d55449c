pub mod Entries
pub mod Places
pub mod Text
pub mod WrittenForm
pub mod Faults
pub mod Checks
pub mod Findings
