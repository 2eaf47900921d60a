-- The definitions that contracts of plans cite, a file each.
pub mod Sheet
pub mod Posting
pub mod Overflows
pub mod Solution
pub mod SampleSolutions
pub mod Promised
