pub mod RuleText
pub mod MapText
pub mod SampleMap
