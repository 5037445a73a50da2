pub mod CauseNames
pub mod PlayText
pub mod PlayedLink
pub mod SoloScript
pub mod Links
pub mod Plays
