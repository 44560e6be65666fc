-- 'What the desk answers': one access, in the order 4, 5, then the rules; 6 comes before, and is the journal's.
use Rattle.std.specs.Prelude.{if◌then◌else◌, Err, None, Ok, Option, Some}
use Rattle.rules.specs.declared.access.Access.{Access}
use Rattle.rules.specs.declared.answer.Outcome.{Outcome}
use Rattle.rules.specs.declared.facts.Facts.{Facts}
use Rattle.rules.specs.declared.name.Name.{Name}
use Rattle.rules.specs.declared.state.State.{State}
use Rattle.rules.specs.declared.verdict.Target.{Target}
use Rattle.rules.specs.Rules.{Verdict}
use Rattle.rules.specs.declared.verdict.Stop.TheVariants.{Undefined, ToEl1, ToEl2, ToEl3}
use Rattle.rules.specs.Words.{facts_of}
use Rattle.rules.specs.Names.{name_of, is_mrs, written_operand}
use Rattle.rules.specs.Verdicts.{verdict_of}
use Rattle.rules.specs.Values.{read_of, write_of}
use Rattle.rules.specs.Answers.{trap_to_el1, trap_to_el2, trap_to_el3, not_a_timer_access, impossible_context, done_read, done_write, undefined_at, trapped, refused, as_before}
use Rattle.rules.specs.Context.{impossible_at}

-- Below, f are the facts of the state s at the access's level.

-- a permitted access: a read, with Rt 31 like any other, leaves the state as before; a write changes one register
unfoldable pub permitted : Facts → State → Access → Target → Outcome
permitted f s a target =
    if is_mrs a.word
    then as_before s (done_read a.word (read_of f s a.count target))
    else (record { answer = done_write a.word; next = write_of f s a.count target (written_operand a) })

-- what a verdict comes to
unfoldable pub ruled : Facts → State → Access → Verdict → Outcome
ruled f s a (Err Undefined) = as_before s (undefined_at a.word)
ruled f s a (Err ToEl1) = as_before s (trapped trap_to_el1 a.word)
ruled f s a (Err ToEl2) = as_before s (trapped trap_to_el2 a.word)
ruled f s a (Err ToEl3) = as_before s (trapped trap_to_el3 a.word)
ruled f s a (Ok target) = permitted f s a target

-- what an access whose word was looked up comes to: 4, 5, then the rules
unfoldable pub served : State → Access → Option Name → Outcome
served s a None = as_before s (refused not_a_timer_access)
served s a (Some name) =
    if impossible_at s a.level
    then as_before s (refused impossible_context)
    else ruled (facts_of s a.level) s a (verdict_of (facts_of s a.level) name (is_mrs a.word))

-- one access to a state
unfoldable pub access_of : State → Access → Outcome
access_of s a = served s a (name_of a.word)
