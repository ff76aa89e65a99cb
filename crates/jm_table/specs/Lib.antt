pub mod Graphs
pub mod Explorations
pub mod Tables
pub mod Buckets
pub mod NumberSets
pub mod Minimal
pub mod Partitions
pub mod Members
