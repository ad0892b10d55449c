pub mod LabelForms
pub mod Lemmas
pub mod LineAnswers
pub mod LabelLaws
pub mod ReaderLaws
pub mod RecordReading
pub mod WrittenBack
