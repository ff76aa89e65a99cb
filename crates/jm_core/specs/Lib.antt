pub mod Steps
pub mod Cores
pub mod Replays
pub mod Inside
pub mod Memory
