mod Numbers
pub mod Positions
pub mod Saying
pub mod Reading
pub mod Levels
pub mod Walking
pub mod Values
pub mod Entering
pub mod Lines
pub mod Runs
pub mod Found
