-- What is said of the promises themselves.
pub mod Ensured
pub mod OneAnswer
pub mod OneLentAnswer
