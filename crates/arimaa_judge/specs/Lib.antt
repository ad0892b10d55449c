pub mod RecordState
pub mod RecordStateInvariant
pub mod Rules
pub mod Judgement
pub mod Progress
pub mod Stop
pub mod Texts
pub mod Agreement
