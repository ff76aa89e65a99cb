pub mod Lines
pub mod Low
pub mod Objects
