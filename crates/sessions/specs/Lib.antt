-- The definitions that contracts of sessions cite, a file each.
pub mod Frames
pub mod Requests
pub mod Session
pub mod Law
pub mod Promise
pub mod Samples
pub mod Wiped
