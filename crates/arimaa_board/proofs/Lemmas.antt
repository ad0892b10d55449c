-- The lemmas that the proofs of other crates cite.
pub mod Finds
pub mod InOrder
pub mod SetupLaws
pub mod TextLaws
pub mod Unpacking
pub mod ReadingLaws
pub mod Masks
pub mod Beside
pub mod MaskLaws
pub mod Friends
pub mod MaskSquares
pub mod PlanesBack
