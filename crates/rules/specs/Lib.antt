-- The rulebook: the rules of docs/RULES.md, in the order and words of the customer's document 01, a file for each part. Names
-- in quotes, as 'Who may touch what', are headings of that page, where each definition stands beside its rule.
pub mod Bits
pub mod Words
pub mod Levels
pub mod Names
pub mod Rules
pub mod Cntp
pub mod Cntv
pub mod Counters
pub mod El2
pub mod Control
pub mod Verdicts
pub mod Arithmetic
pub mod Timers
pub mod States
pub mod Counts
pub mod Stored
pub mod Values
pub mod Answers
pub mod Context
pub mod Access
pub mod Lines
pub mod Packing
pub mod Journal
pub mod Syndromes
pub mod Readings
