pub mod Lemmas
pub mod Accepting
pub mod RecordReading
pub mod DueLabels
