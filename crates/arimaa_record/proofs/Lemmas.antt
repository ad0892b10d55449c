-- The lemmas that the proofs of other crates cite.
pub mod LineLaws
pub mod LineGathering
pub mod FormLaws
pub mod PlainLaws
pub mod LabelOrder
