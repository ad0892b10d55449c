-- The lemmas that the proofs of other crates cite.
pub mod StateLaws
pub mod StateWordsLaws
pub mod TurnLaws
pub mod Forward
pub mod Outcomes
pub mod AcceptedLaws
pub mod AnswerLaws
pub mod LeavingOut
pub mod StepOrder
pub mod FourthSteps
pub mod ThirdSteps
