pub mod Lemmas
pub mod LetterLaws
