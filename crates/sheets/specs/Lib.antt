-- The definitions that contracts of sheets cite, a file each.
pub mod Cells
pub mod Combining
pub mod Posted
pub mod Work
pub mod Table
pub mod Sheet
pub mod Words
pub mod Showing
pub mod Answers
pub mod Calls
pub mod Law
pub mod Clearing
pub mod Picking
pub mod OneAnswer
pub mod SampleSheets
pub mod SampleCalls
