-- The lemmas that the proofs of other crates cite.
pub mod Endings
pub mod Turns
