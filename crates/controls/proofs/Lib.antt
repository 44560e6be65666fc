-- What the masks keep.
pub mod Masks
