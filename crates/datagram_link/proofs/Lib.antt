pub mod SendingLemmas
pub mod ReadingLemmas
pub mod ReceiverLemmas
pub mod WindowLemmas
