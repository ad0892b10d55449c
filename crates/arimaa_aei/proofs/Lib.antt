pub mod CommandsBack
pub mod AnswersBack
