-- The lemmas that the proofs of other crates cite.
pub mod EntryLines
pub mod TextReading
pub mod PlaceLaws
pub mod Looks
pub mod FaultLaws
pub mod CheckLaws
pub mod NotedTurns
