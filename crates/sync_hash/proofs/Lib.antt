pub mod HeaderLemmas
pub mod NumbersLemmas
pub mod SumLemmas
pub mod FitsFieldsLemmas
pub mod AnyOrderLemmas
pub mod KeptLemmas
