pub mod Items
pub mod Written
pub mod Grammar
pub mod Laws
pub mod Readers
pub mod Number
