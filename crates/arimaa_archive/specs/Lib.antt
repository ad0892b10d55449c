pub mod Archive
pub mod RecordJudgements
pub mod Shares
pub mod Report
pub mod Words
pub mod Calls
pub mod Agreement
pub mod Cover
