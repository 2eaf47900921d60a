-- The lemmas of this crate, a file each.
mod Begun
