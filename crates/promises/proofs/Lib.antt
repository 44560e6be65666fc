-- The proofs of what specs/ states.
pub mod EachModel
pub mod Learnt
pub mod OneAnswer
pub mod OneLentAnswer
