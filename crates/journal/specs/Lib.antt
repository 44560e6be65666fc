-- What this crate alone needs: what stands between a journal and its run, its last count, and bytes low one first.
pub mod Last
pub mod LowFirst
pub mod Runs
