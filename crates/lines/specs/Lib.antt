-- The definitions that contracts of lines cite, a file each.
pub mod Hex
pub mod Line
pub mod Page
pub mod PageLaws
pub mod SampleLines
