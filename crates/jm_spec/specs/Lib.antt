pub mod Brackets
pub mod Runs
pub mod Reading
pub mod Rules
pub mod Faults
pub mod Trees
pub mod Balance
pub mod Spelling
