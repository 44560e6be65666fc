-- Demand 2: a permitted write changes the one register that the rules name and nothing else, and a permitted read gives
-- its value.
use Rattle.std.specs.Prelude.{◌≡◌}
use Rattle.rules.specs.declared.access.Access.{Access}
use Rattle.rules.specs.declared.name.Part.{Part}
use Rattle.rules.specs.declared.name.Part.TheVariants.{Tval, Ctl, Cval}
use Rattle.rules.specs.declared.state.State.{State}
use Rattle.rules.specs.declared.state.Timer.{Timer}
use Rattle.rules.specs.declared.verdict.Target.{Target}
use Rattle.rules.specs.declared.verdict.Target.TheVariants.{Cntpct, Cntvct, Cntvoff, Cntkctl, Cnthctl, Cntpoff}
use Rattle.rules.specs.Words.{facts_of}
use Rattle.rules.specs.Names.{written_operand}
use Rattle.rules.specs.Timers.{timer_of, get, put}
use Rattle.rules.specs.States.{with_timers, with_cntvoff, with_cntpoff, with_cntkctl, with_cnthctl}
use Rattle.rules.specs.Values.{read_of, write_of}
use Rattle.rules.specs.Answers.{done, done_read, done_write}
use Rattle.rules.specs.Access.{access_of}
use Rattle.claims.specs.Desk.{Permitted, PermittedWrite, PermittedRead}

-- of one timer, at most the part that is named has changed: TVAL and CVAL are views of CVAL, CTL is ENABLE and IMASK
abbrev pub OnePart : Part → Timer → Timer → Type 0
OnePart Tval old new = new ≡ timer_of new.cval old.enable old.imask
OnePart Ctl old new = new ≡ timer_of old.cval new.enable new.imask
OnePart Cval old new = new ≡ timer_of new.cval old.enable old.imask

-- at most the one register has changed: the new state is the old one with what that register now holds put in
abbrev pub OneRegister : Target → State → State → Type 0
OneRegister Cntpct old new = ⊥
OneRegister Cntvct old new = ⊥
OneRegister Cntvoff old new = new ≡ with_cntvoff old new.cntvoff
OneRegister (Target.Timer t p) old new =
    (new ≡ with_timers old (put old.timers t (get new.timers t))) × OnePart p (get old.timers t) (get new.timers t)
OneRegister Cntkctl old new = new ≡ with_cntkctl old new.controls.cntkctl
OneRegister Cnthctl old new = new ≡ with_cnthctl old new.controls.cnthctl
OneRegister Cntpoff old new = new ≡ with_cntpoff old new.cntpoff

-- what a permitted write comes to: 0, in the register that the verdict names what the value rules say, and no other changed
pub record WritesOne (s : State) (a : Access) (target : Target) : Type 0 where
  pub answer : (access_of s a).answer ≡ done_write a.word
  pub next : (access_of s a).next ≡ write_of (facts_of s a.level) s a.count target (written_operand a)
  pub one : OneRegister target s (access_of s a).next

abbrev pub WritesChangeOne : Type 0
WritesChangeOne = (s : State) (a : Access) (target : Target) → PermittedWrite s a target → WritesOne s a target

-- a permitted read gives what the value rules say
abbrev pub ReadsGive : Type 0
ReadsGive =
    (s : State) (a : Access) (target : Target) →
    PermittedRead s a target →
    (access_of s a).answer ≡ done_read a.word (read_of (facts_of s a.level) s a.count target)

-- and only a permitted access is answered with 0
abbrev pub DoneIsPermitted : Type 0
DoneIsPermitted = (s : State) (a : Access) → (access_of s a).answer.number ≡ done → (target : Target) × Permitted s a target
