pub mod HandedOn
pub mod Firsts
pub mod RankBounds
pub mod Levels
pub mod Lemmas
pub mod NeededQuestions
pub mod VerdictLaws
pub mod JobLaws
