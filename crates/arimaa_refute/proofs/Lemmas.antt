-- The lemmas that the proofs of other crates cite.
pub mod EscapeReading
pub mod FlawLaws
