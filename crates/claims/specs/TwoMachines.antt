-- Demand 3 is of machines that there are: the readings' start, and one that differs from it wherever it may.
use Rattle.std.specs.Prelude.{ℕ, true, false, List, [], ◌∷◌, ◌≡◌}
use Rattle.rules.specs.declared.access.Access.{Access}
use Rattle.rules.specs.declared.answer.Answer.{Answer}
use Rattle.rules.specs.declared.state.State.{State}
use Rattle.rules.specs.declared.state.TimerName.{TimerName}
use Rattle.rules.specs.declared.state.TimerName.TheVariants.{Cntv}
use Rattle.rules.specs.Words.{EL0, EL1}
use Rattle.rules.specs.Timers.{same, timer_of, get, six, put}
use Rattle.rules.specs.Names.{an_access}
use Rattle.rules.specs.Values.{known}
use Rattle.rules.specs.Answers.{trap_to_el1, done_read, done_write, trapped}
use Rattle.rules.specs.Access.{access_of}
use Rattle.rules.specs.Readings.{start}
use Rattle.claims.specs.Desk.{answers_to, end_state}
use Rattle.claims.specs.Guests.{TrappedGuest, own, Alike, AllShown}

-- CNTVOFF 0 and not 400, CNTPOFF 7 and not 0, and every timer but CNTV set to 5 and enabled
abbrev pub second_machine : State
second_machine =
    record {
      features = start.features;
      controls = start.controls;
      cntvoff = 0;
      cntpoff = 7;
      timers = put (six (λ _. timer_of 5 true false)) Cntv start.timers.cntv;
    }

-- the guest sets its virtual timer by TVAL, as in reading 4, reads CNTVCT, as in reading 1, and shuts it to EL0 by CNTKCTL
abbrev pub asks : ℕ → List Access
asks count =
    an_access 0xD51BE301 EL1 0xFFFFFFFF count
    ∷ an_access 0xD53BE040 EL1 0 count
    ∷ an_access 0xD518E101 EL1 0x301 count
    ∷ an_access 0xD53BE040 EL0 0 count
    ∷ []

-- and is told: done, 600, done, and a trap to EL1
abbrev pub told : List Answer
told = done_write 0xD51BE301 ∷ done_read 0xD53BE040 (known 600) ∷ done_write 0xD518E101 ∷ trapped trap_to_el1 0xD53BE040 ∷ []

-- the two meet what demand 3 asks at the counts 1000 and 600, differ in all that may differ, and the guest is served on both
pub record TwoMachines : Type 0 where
  pub guest : TrappedGuest start
  pub alike : Alike start second_machine
  pub shown : AllShown start second_machine (asks 1000) (asks 600)
  pub cntvoff : start.cntvoff ≡ second_machine.cntvoff → ⊥
  pub cntpoff : start.cntpoff ≡ second_machine.cntpoff → ⊥
  pub others : (u : TimerName) → same Cntv u ≡ false → get start.timers u ≡ get second_machine.timers u → ⊥
  pub here : answers_to access_of start (asks 1000) ≡ told
  pub there : answers_to access_of second_machine (asks 600) ≡ told
  pub own_here : own (end_state access_of start (asks 1000)) ≡ record { cntv = timer_of 599 false false; cntkctl = 0x301 }
  pub own_there : own (end_state access_of second_machine (asks 600)) ≡ record { cntv = timer_of 599 false false; cntkctl = 0x301 }
