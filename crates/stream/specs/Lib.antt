-- The definitions that contracts of stream cite, a file each; and Going, by whose lemmas the laws of a sink are kept.
pub mod Promised
pub mod Replies
pub mod Going
