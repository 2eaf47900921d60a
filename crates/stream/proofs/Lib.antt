-- The lemmas that several proofs of stream share, a file each.
pub mod Answering
pub mod Promised
