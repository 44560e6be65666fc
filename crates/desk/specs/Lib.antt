-- What the desk's own functions promise, beside the rulebook.
pub mod Numbers
pub mod Refused
pub mod Lines
