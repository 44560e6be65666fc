-- 'Twelve readings from the bench': one table, a row for each access that a reading names, and one claim. A row settles
-- number, Rt, value, mask and the whole next state.
use Rattle.std.specs.Prelude.{ℕ, Bool, true, false, List, [], ◌∷◌, map, ◌≡◌}
use Rattle.rules.specs.declared.access.Access.{Access}
use Rattle.rules.specs.declared.answer.Answer.{Answer}
use Rattle.rules.specs.declared.answer.Outcome.{Outcome}
use Rattle.rules.specs.declared.state.Controls.{Controls}
use Rattle.rules.specs.declared.state.State.{State}
use Rattle.rules.specs.declared.state.Timer.{Timer}
use Rattle.rules.specs.Words.{EL0, EL1, EL2}
use Rattle.rules.specs.Names.{an_access}
use Rattle.rules.specs.Timers.{timer_of}
use Rattle.rules.specs.Answers.{answer, as_before}
use Rattle.rules.specs.Access.{access_of}

-- what the readings change of the controls: E2H, TGE and CNTKCTL; NS yes, all other facts no, CNTHCTL 0
abbrev controls_of : Bool → Bool → ℕ → Controls
controls_of e2h tge cntkctl =
    record { ns = true; eel2 = false; ecven = false; e2h = e2h; tge = tge; cntkctl = cntkctl; cnthctl = 0 }

abbrev disabled : Timer
disabled = timer_of 0 false false

-- the bench: VHE and SEL2 yes, CNTVOFF 400, CNTPOFF 0; the readings change the controls, CNTV and CNTHP
abbrev bench : Controls → Timer → Timer → State
bench controls cntv cnthp =
    record {
      features = record { vhe = true; sel2 = true; ecv = false };
      controls = controls;
      cntvoff = 400;
      cntpoff = 0;
      timers = record { cntp = disabled; cntv = cntv; cnthp = cnthp; cnthv = disabled; cnthps = disabled; cnthvs = disabled };
    }

abbrev start_controls : Controls
start_controls = controls_of false false 0x303

-- where each reading begins
abbrev pub start : State
start = bench start_controls disabled disabled

abbrev with_controls : Controls → State
with_controls controls = bench controls disabled disabled

abbrev with_cntv : Timer → State
with_cntv cntv = bench start_controls cntv disabled

abbrev with_cnthp : Timer → State
with_cnthp cnthp = bench start_controls disabled cnthp

pub record Reading : Type 0 where
  pub state : State
  pub access : Access
  pub told : Outcome

-- a read, which leaves the state as it was
abbrev mrs : State → ℕ → ℕ → ℕ → Answer → Reading
mrs s word level count a =
    record { state = s; access = an_access word level 0 count; told = as_before s a }

-- a write from the start, at EL1 and count 1000, with what CNTV then holds
abbrev msr : ℕ → ℕ → Answer → Timer → Reading
msr word operand a cntv =
    record {
      state = start;
      access = an_access word EL1 operand 1000;
      told = record { answer = a; next = with_cntv cntv };
    }

-- a read: state, word, level, count; number, Rt, value, mask. A write: word, operand; number, Rt, value, mask; CNTV after
abbrev pub readings : List Reading
readings =
    mrs start 0xD53BE040 EL1 1000 (answer 0 0 600 0)  -- 1
    ∷ mrs start 0xD53BE020 EL1 1000 (answer 3 0 0 0)  -- 2
    ∷ mrs (with_controls (controls_of false false 0)) 0xD53BE040 EL0 1000 (answer 2 0 0 0)  -- 3, CNTKCTL 0
    ∷ mrs (with_controls (controls_of false true 0)) 0xD53BE040 EL0 1000 (answer 3 0 0 0)  -- 3, TGE 1 as well
    ∷ msr 0xD51BE301 0xFFFFFFFF (answer 0 1 0 0) (timer_of 599 false false)  -- 4
    ∷ msr 0xD51BE301 0x100000005 (answer 0 1 0 0) (timer_of 605 false false)  -- 5
    ∷ msr 0xD51BE31F 77 (answer 0 31 0 0) (timer_of 600 false false)  -- 6
    ∷ mrs (with_cntv (timer_of 599 true true)) 0xD53BE320 EL1 1000 (answer 0 0 7 0)  -- 7, CVAL 599
    ∷ mrs (with_cntv (timer_of 600 true true)) 0xD53BE320 EL1 1000 (answer 0 0 7 0)  -- 7, CVAL 600
    ∷ mrs (with_cntv (timer_of 601 true true)) 0xD53BE320 EL1 1000 (answer 0 0 3 0)  -- 7, CVAL 601
    ∷ mrs start 0xD53BE320 EL1 1000 (answer 0 0 0 4)  -- 8
    ∷ mrs start 0xD53CE400 EL2 1000 (answer 1 0 0 0)  -- 9
    ∷ mrs start 0xD53CE060 EL2 1000 (answer 0 0 400 0)  -- 10, EL2
    ∷ mrs start 0xD53CE060 EL1 1000 (answer 1 0 0 0)  -- 10, EL1
    ∷ mrs (with_cnthp (timer_of 900 true false)) 0xD53CE200 EL2 1000 (answer 0 0 0xFFFFFFFFFFFFFF9C 0)  -- 11, enabled
    ∷ mrs (with_cnthp (timer_of 900 false false)) 0xD53CE200 EL2 1000 (answer 0 0 0 0xFFFFFFFFFFFFFFFF)  -- 11, disabled
    ∷ mrs start 0xD53BE040 EL1 5 (answer 0 0 0xFFFFFFFFFFFFFE75 0)  -- 12, count 5
    ∷ mrs (with_controls (controls_of true false 0x303)) 0xD53BE040 EL2 1000 (answer 0 0 1000 0)  -- 12, EL2 with E2H 1
    ∷ mrs start 0xD53BE000 EL1 1000 (answer 4 0 0 0)  -- 12, no such register
    ∷ []

-- what the rules answer to a reading's access
abbrev pub asked : Reading → Outcome
asked r = access_of r.state r.access

-- the claim: the rules answer each row as the bench did
abbrev pub ReadingsHold : Type 0
ReadingsHold = map asked readings ≡ map (λ (r : Reading). r.told) readings
