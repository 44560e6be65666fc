-- The paper's number for each case of an enum that becomes an answer.
use Rattle.std.specs.Prelude.{ℕ}
use Rattle.rules.specs.declared.refusal.Refusal.{Refusal}
use Rattle.rules.specs.declared.refusal.Refusal.TheVariants.{NotATimerAccess, ImpossibleContext, ReservedBitSet, BadJournal, BufferTooShort}
use Rattle.rules.specs.declared.verdict.Stop.{Stop}
use Rattle.rules.specs.declared.verdict.Stop.TheVariants.{Undefined, ToEl1, ToEl2, ToEl3}
use Rattle.rules.specs.Answers.{undefined, trap_to_el1, trap_to_el2, trap_to_el3, not_a_timer_access, impossible_context, reserved_bit_set}
use Rattle.rules.specs.Journal.{bad_journal, buffer_too_short}

abbrev pub stop_number : Stop → ℕ
stop_number Undefined = undefined
stop_number ToEl1 = trap_to_el1
stop_number ToEl2 = trap_to_el2
stop_number ToEl3 = trap_to_el3

abbrev pub refusal_number : Refusal → ℕ
refusal_number NotATimerAccess = not_a_timer_access
refusal_number ImpossibleContext = impossible_context
refusal_number ReservedBitSet = reserved_bit_set
refusal_number BadJournal = bad_journal
refusal_number BufferTooShort = buffer_too_short
