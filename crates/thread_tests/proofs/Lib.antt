pub mod TablePasses
