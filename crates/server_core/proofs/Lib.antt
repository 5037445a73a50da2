pub mod ServerLemmas
pub mod AlarmLemmas
pub mod BoardLemmas
pub mod ServedLemmas
