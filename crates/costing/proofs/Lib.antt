-- The lemmas that several proofs of costing share, a file each.
pub mod Sums
pub mod Verdicts
