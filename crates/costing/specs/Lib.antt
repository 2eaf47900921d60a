-- The definitions that contracts of costing cite, a file each.
pub mod Costing
pub mod Samples
pub mod Words
