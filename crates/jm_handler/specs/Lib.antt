pub mod Statements
pub mod Terms
pub mod Blocks
pub mod Renderings
pub mod Broken
