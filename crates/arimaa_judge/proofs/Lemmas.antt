-- The lemmas that the proofs of other crates cite.
pub mod TurnLaws
pub mod JudgedLines
