-- An access whose word names a register, in a context that can be, goes by the rules; any other is refused by a number, with the state
-- as before.
use Rattle.std.specs.Prelude.{if◌then◌else◌, Option, None, Some, Result, Ok, Err}
use Rattle.rules.specs.declared.access.Access.{Access}
use Rattle.rules.specs.declared.answer.Outcome.{Outcome}
use Rattle.rules.specs.declared.name.Name.{Name}
use Rattle.rules.specs.declared.refusal.Refusal.{Refusal}
use Rattle.rules.specs.declared.refusal.Refusal.TheVariants.{NotATimerAccess, ImpossibleContext}
use Rattle.rules.specs.declared.state.State.{State}
use Rattle.rules.specs.Names.{is_mrs}
use Rattle.rules.specs.Words.{facts_of}
use Rattle.rules.specs.Verdicts.{verdict_of}
use Rattle.rules.specs.Access.{ruled}
use Rattle.rules.specs.Answers.{refused, as_before}
use Rattle.rules.specs.Context.{impossible_at}
use Rattle.desk.specs.Numbers.{refusal_number}

-- the name that the rules go by, of what the word was looked up as: 4, and then 5, come before them
abbrev pub possible_name : State → Access → Option Name → Result Name Refusal
possible_name s a None = Err NotATimerAccess
possible_name s a (Some name) = if impossible_at s a.level then Err ImpossibleContext else Ok name

abbrev pub by_the_rules : State → Access → Name → Outcome
by_the_rules s a name = ruled (facts_of s a.level) s a (verdict_of (facts_of s a.level) name (is_mrs a.word))

abbrev pub named_or_refused : State → Access → Result Name Refusal → Outcome
named_or_refused s a (Ok name) = by_the_rules s a name
named_or_refused s a (Err refusal) = as_before s (refused (refusal_number refusal))
