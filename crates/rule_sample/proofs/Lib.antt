pub mod SampleLemmas
pub mod SampleMapLemmas
