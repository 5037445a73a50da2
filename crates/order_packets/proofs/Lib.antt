pub mod FeedLemmas
pub mod FirstLemmas
pub mod PacketLemmas
pub mod StreamLemmas
