pub mod StopLemmas
pub mod LeastLemmas
pub mod RouteLemmas
pub mod KindLemmas
pub mod SampleLemmas
