-- The lemmas that several proofs of decimal share, a file each.
pub mod Each
