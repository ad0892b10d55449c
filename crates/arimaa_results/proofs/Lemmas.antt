-- The lemmas that the proofs of other crates cite.
pub mod Firsts
pub mod Given
pub mod Opened
pub mod Found
