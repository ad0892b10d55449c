-- The lemmas that the proofs of other crates cite.
pub mod Content
pub mod CountLaws
pub mod ToldLaws
