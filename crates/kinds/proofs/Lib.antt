-- The lemmas of the theorems of kinds.
pub mod KindSamples
