pub mod Order
pub mod Entry
pub mod HeldOrders
pub mod OrderBytes
pub mod OrderReading
pub mod EntryEquality
pub mod OrderEquality
