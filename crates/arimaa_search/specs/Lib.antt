pub mod AtEase
pub mod Workers
pub mod PaidAnswers
pub mod Questions
pub mod Traces
