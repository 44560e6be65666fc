-- The exception level of a number.
use Rattle.std.specs.Prelude.{ℕ, if◌then◌else◌, ◌==◌, nat_lt, Result, Ok, Err}
use Rattle.rules.specs.declared.level.Level.{Level}
use Rattle.rules.specs.declared.level.Level.TheVariants.{El0, El1, El2, El3}
use Rattle.rules.specs.declared.refusal.Refusal.{Refusal}
use Rattle.rules.specs.declared.refusal.Refusal.TheVariants.{ImpossibleContext}
use Rattle.rules.specs.Words.{EL0, EL1, EL2, EL3}

-- the level that the rules go by; one above 3 is refused before any rule is asked, and is taken for EL3, as in Rules.at_level
abbrev pub level_of : ℕ → Level
level_of n = if n == EL0 then El0 else if n == EL1 then El1 else if n == EL2 then El2 else El3

-- the level of a number, and a refusal where there is none
abbrev pub level_or_refused : ℕ → Result Level Refusal
level_or_refused n = if nat_lt EL3 n then Err ImpossibleContext else Ok (level_of n)
