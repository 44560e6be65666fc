-- The readings, and laws of the definitions that other rooms cite.
pub mod Journal
pub mod Lease
pub mod Readings
pub mod Rules
pub mod Stored
pub mod SixTimers
pub mod Verdicts
