-- The lemmas that the proofs of other crates cite.
pub mod WrittenLaws
pub mod ItemLaws
pub mod GrammarLaws
pub mod TurnReading
pub mod SetupReading
pub mod ReadingBack
pub mod Numbers
pub mod Reading
pub mod SetupRule
pub mod WordLaws
