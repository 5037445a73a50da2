mod FramesLemmas
mod PlayingLemmas
mod RecordLawsLemmas
mod ResumeLemmas
mod SteppingLemmas
pub mod MigratingLemmas
pub mod RecordingLemmas
pub mod RerunLemmas
