-- The lemmas that several proofs of plans share, a file each.
pub mod Bests
pub mod Falling
pub mod SameLists
pub mod Vectors
pub mod Changes
pub mod Verdicts
pub mod Stored
pub mod Rightness
pub mod Overflowing
pub mod Lacking
pub mod NewSheet
pub mod Sizes
pub mod NeverOverflowing
pub mod SampleSolutions
