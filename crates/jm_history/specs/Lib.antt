pub mod Chains
pub mod Nodes
pub mod Pieces
pub mod Rows
