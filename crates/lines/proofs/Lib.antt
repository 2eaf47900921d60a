-- The lemmas that several proofs of lines share, a file each.
pub mod Accepting
pub mod Digits
pub mod Filling
pub mod Finding
pub mod Returning
pub mod Words
