pub mod Fields
pub mod Grammar
pub mod Reading
pub mod TimeUnit
pub mod Writing
