pub mod AtEase
pub mod FirstReplies
pub mod Leaves
pub mod Lemmas
pub mod Looking
pub mod Tracing
pub mod WonPositions
