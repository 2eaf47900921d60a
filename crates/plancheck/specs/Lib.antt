-- The definitions that contracts of plancheck cite, a file each.
pub mod Unread
