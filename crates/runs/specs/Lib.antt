-- The definitions that contracts of runs cite, a file each.
pub mod Run
pub mod Promise
pub mod OneSolution
pub mod SampleRuns
