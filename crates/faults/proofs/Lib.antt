-- The lemmas on faults that several crates share, a file each.
pub mod Refusing
