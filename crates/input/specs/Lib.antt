-- The definitions that contracts of input cite, a file each.
pub mod Cutting
pub mod Reading
pub mod Told
