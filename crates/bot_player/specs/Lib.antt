pub mod BotOrders
pub mod KindFlags
pub mod Products
pub mod Survey
pub mod Drafts
pub mod Laws
