pub mod Label
pub mod Lines
pub mod LineReader
pub mod Grammar
pub mod Written
pub mod Record
pub mod Laws
