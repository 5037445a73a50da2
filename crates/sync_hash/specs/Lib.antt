pub mod Fnv
pub mod HashedBytes
pub mod WorldHash
pub mod AnyOrder
pub mod Kept
pub mod FitsFields
