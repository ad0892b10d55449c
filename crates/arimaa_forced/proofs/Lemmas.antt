-- The lemmas that the proofs of other crates cite.
pub mod Deeper
pub mod Looks
pub mod Trees
pub mod Plays
pub mod OwnStrategies
pub mod NotedEntries
pub mod Midst
