-- What the contracts cite beside the rulebook.
pub mod Checks
pub mod Redirect
