-- The two ways that an access ends: with an answer other than 0 and the state as before, or permitted, with the register
-- that the verdict names read or written. The order of the desk, 4, 5, then the verdict, is gone through once, here.
-- What is permitted is a matter of features and controls: other timers do not change it.
-- Assumes nothing.
use Rattle.std.specs.Prelude.{Err, None, Ok, Option, Some}
use mathlib.Core.Bool.{Bool, true, false, ◌||◌}
use mathlib.Core.Logic.{◌⊎◌, inl, inr}
use mathlib.Core.Path.{◌≡◌, refl}
use native.Mathlib.Omega.{arith}
use lib.Dec.{ltb}
use Rattle.rules.specs.declared.access.Access.{Access}
use Rattle.rules.specs.declared.answer.Answer.{Answer}
use Rattle.rules.specs.declared.name.Name.{Name}
use Rattle.rules.specs.declared.state.State.{State}
use Rattle.rules.specs.declared.state.Timers.{Timers}
use Rattle.rules.specs.declared.verdict.Target.{Target}
use Rattle.rules.specs.Rules.{Verdict}
use Rattle.rules.specs.declared.verdict.Stop.TheVariants.{Undefined, ToEl1, ToEl2, ToEl3}
use Rattle.rules.specs.Words.{EL3, facts_of}
use Rattle.rules.specs.Names.{name_of, is_mrs}
use Rattle.rules.specs.Verdicts.{verdict_of}
use Rattle.rules.specs.Answers.{done, trap_to_el1, trap_to_el2, trap_to_el3, not_a_timer_access, impossible_context, undefined_at, trapped, refused, as_before}
use Rattle.rules.specs.States.{with_timers}
use Rattle.rules.specs.Context.{impossible, impossible_at}
use Rattle.rules.specs.Access.{permitted, ruled, served, access_of}
use Rattle.claims.specs.Desk.{Permitted}

module _ (s : State) (a : Access) where
  abbrev pub EndsAsBefore : Type 0
  EndsAsBefore = (n : Answer) × (n.number ≡ done → ⊥) × (access_of s a ≡ as_before s n)

  abbrev pub EndsPermitted : Type 0
  EndsPermitted =
      (target : Target) × Permitted s a target × (access_of s a ≡ permitted (facts_of s a.level) s a target)

  by_verdict : (name : Name) → name_of a.word ≡ Some name → impossible_at s a.level ≡ false → (v : Verdict) → verdict_of (facts_of s a.level) name (is_mrs a.word) ≡ v → EndsAsBefore ⊎ EndsPermitted
  unfolding access_of served ruled
  by_verdict name n i (Err Undefined) e = inl (undefined_at a.word, λ p. omega arith, rw (n, i, e))
  by_verdict name n i (Err ToEl1) e = inl (trapped trap_to_el1 a.word, λ p. omega arith, rw (n, i, e))
  by_verdict name n i (Err ToEl2) e = inl (trapped trap_to_el2 a.word, λ p. omega arith, rw (n, i, e))
  by_verdict name n i (Err ToEl3) e = inl (trapped trap_to_el3 a.word, λ p. omega arith, rw (n, i, e))
  by_verdict name n i (Ok target) e =
      inr (target, record { name = name; named = n; possible = i; verdict = e }, rw (n, i, e))

  by_context : (name : Name) → name_of a.word ≡ Some name → (b : Bool) → impossible_at s a.level ≡ b → EndsAsBefore ⊎ EndsPermitted
  unfolding access_of served
  by_context name n true i = inl (refused impossible_context, λ p. omega arith, rw (n, i))
  by_context name n false i = by_verdict name n i (verdict_of (facts_of s a.level) name (is_mrs a.word)) refl

  by_name : (l : Option Name) → name_of a.word ≡ l → EndsAsBefore ⊎ EndsPermitted
  unfolding access_of served
  by_name None n = inl (refused not_a_timer_access, λ p. omega arith, rw n)
  by_name (Some name) n = by_context name n (impossible_at s a.level) refl

  pub ways : EndsAsBefore ⊎ EndsPermitted
  ways = by_name (name_of a.word) refl

  -- a permitted access ends so whoever asks: what the verdict names is what is read or written
  pub ends : (target : Target) → Permitted s a target → access_of s a ≡ permitted (facts_of s a.level) s a target
  unfolding access_of served ruled
  ends target p = rw (p.named, p.possible, p.verdict)

-- the name, the context and the gates do not look at the timers
pub whatever_timers : {s : State} {a : Access} {target : Target} (ts : Timers) → Permitted s a target → Permitted (with_timers s ts) a target
unfolding facts_of impossible impossible_at
whatever_timers ts p = record { name = p.name; named = p.named; possible = p.possible; verdict = p.verdict }

-- what was permitted was on a machine that can be
second_of_four : (a b c d : Bool) → a || b || c || d ≡ false → b ≡ false
second_of_four true true c d e = e
second_of_four false true c d e = e
second_of_four a false c d e = refl

pub possible : {s : State} {a : Access} {target : Target} → Permitted s a target → impossible s ≡ false
unfolding impossible_at
possible {s} {a} {target} p = second_of_four (ltb EL3 a.level) (impossible s) _ _ p.possible
