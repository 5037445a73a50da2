pub mod AlongLemmas
pub mod HistoryLemmas
pub mod PacketLemmas
