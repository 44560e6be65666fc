-- What is said of the exports' promises.
pub mod OneExport
