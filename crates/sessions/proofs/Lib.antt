-- The lemmas that several proofs of sessions share, a file each.
pub mod Fitting
pub mod Lawful
pub mod Memories
pub mod Openings
pub mod OpeningsRight
pub mod Placing
pub mod Promised
pub mod Replies
pub mod Thirteen
pub mod Wiping
