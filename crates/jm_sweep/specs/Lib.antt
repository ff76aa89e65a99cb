pub mod Recordings
pub mod Sweeps
pub mod Replays
