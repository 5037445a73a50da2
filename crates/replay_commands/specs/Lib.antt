pub mod Matches
pub mod Records
pub mod Refusals
pub mod Replays
pub mod SaveRefusals
