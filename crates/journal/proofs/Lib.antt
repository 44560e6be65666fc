-- Laws that the functions' proofs share, and of `LowFirst` and `Stores`, which no proof cites today, those of bytes and stores.
pub mod LowFirst
pub mod Records
pub mod Stores
pub mod Turns
pub mod Words
