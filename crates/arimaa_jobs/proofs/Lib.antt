pub mod Lemmas
pub mod RuleSteps
