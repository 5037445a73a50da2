pub mod ArrivalLemmas
pub mod FollowsLemmas
pub mod NumberLemmas
pub mod SendingLemmas
