pub mod Lemmas
pub mod Meetings
