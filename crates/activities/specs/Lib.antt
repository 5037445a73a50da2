pub mod Activity
pub mod ActivityEquality
