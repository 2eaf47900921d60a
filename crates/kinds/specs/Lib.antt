-- The definitions that contracts of kinds cite, and the proofs of the laws: Ring, Sames, Weekdays and Wholes.
pub mod Kind
pub mod KindSamples
pub mod Equation
pub mod Weekday
pub mod Whole
pub mod Weekdays
pub mod Sames
pub mod Ring
pub mod Wholes
