pub mod Marks
pub mod Objects
pub mod Layout
pub mod Watch
pub mod Singles
