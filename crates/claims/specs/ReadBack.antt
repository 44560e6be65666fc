-- Demand 2: a timer value that a write took is read back.
use Rattle.std.specs.Prelude.{ℕ, ◌<◌, ◌^◌, true, List, [], ◌∷◌, ◌≡◌, Some}
use Rattle.rules.specs.declared.access.Access.{Access}
use Rattle.rules.specs.declared.answer.Value.{Value}
use Rattle.rules.specs.declared.name.Name.{Name}
use Rattle.rules.specs.declared.name.Name.TheVariants.{Cntpct, Cntvct, Cntpctss, Cntvctss, Cntp, Cntv, Cntvoff, Cnthp, Cnthvs, Cntkctl, Cnthctl, Cntpoff}
use Rattle.rules.specs.declared.name.Part.{Part}
use Rattle.rules.specs.declared.name.Part.TheVariants.{Tval, Ctl, Cval}
use Rattle.rules.specs.declared.state.State.{State}
use Rattle.rules.specs.declared.state.Timer.{Timer}
use Rattle.rules.specs.declared.state.TimerName.{TimerName}
use Rattle.rules.specs.declared.verdict.Target.{Target}
use Rattle.rules.specs.Bits.{bits, bit}
use Rattle.rules.specs.Names.{name_of, written_operand}
use Rattle.rules.specs.Timers.{same, get}
use Rattle.rules.specs.States.{with_timers}
use Rattle.rules.specs.Values.{read_tval, write_tval}
use Rattle.rules.specs.Answers.{done_read}
use Rattle.rules.specs.Access.{access_of}
use Rattle.claims.specs.Desk.{end_state, Permitted, PermittedWrite, PermittedRead, NoneReaches}

abbrev pub low32 : ℕ → ℕ
low32 x = bits 31 0 x

-- known bits, of which the low 32 are those of x
abbrev pub ReadsLow : Value → ℕ → Type 0
ReadsLow v x = (v.mask ≡ 0) × (low32 v.value ≡ low32 x)

-- once over the timer, at one 64-bit count: whatever became of ENABLE and IMASK since, an enabled timer that holds the CVAL
-- of a TVAL write reads as the low 32 bits that the write took
abbrev pub TimerReadsBack : Type 0
TimerReadsBack =
    (old now : Timer) (used x : ℕ) →
    used < 2 ^ 64 →
    now.cval ≡ (write_tval old used x).cval →
    now.enable ≡ true →
    ReadsLow (read_tval now used) x

-- the same context: features, controls and both offsets, which is all but the timers
abbrev pub SameContext : State → State → Type 0
SameContext s t = t ≡ with_timers s t.timers

-- a TVAL write, whatever is asked after it, and a TVAL read: both permitted and of one timer, at the same count and level, in
-- the same context; the timer's CVAL is as the write left it, and it is enabled, wherever ENABLE came from
pub record WrittenThenRead (s : State) (w : Access) (between : List Access) (r : Access) (t : TimerName) : Type 0 where
  pub write : PermittedWrite s w (Target.Timer t Tval)
  pub read : PermittedRead (end_state access_of s (w ∷ between)) r (Target.Timer t Tval)
  pub level : r.level ≡ w.level
  pub count : r.count ≡ w.count
  pub fits : w.count < 2 ^ 64
  pub context : SameContext s (end_state access_of s (w ∷ between))
  pub cval : (get (end_state access_of s (w ∷ between)).timers t).cval ≡ (get (access_of s w).next.timers t).cval
  pub enabled : (get (end_state access_of s (w ∷ between)).timers t).enable ≡ true

-- then it is done, with the same low 32 bits as the write took, which is 0 for Rt 31
abbrev pub TvalReadsBack : Type 0
TvalReadsBack =
    (s : State) (w : Access) (between : List Access) (r : Access) (t : TimerName) →
    WrittenThenRead s w between r t →
    (v : Value) ×
    ((access_of (end_state access_of s (w ∷ between)) r).answer ≡ done_read r.word v) ×
    ReadsLow v (written_operand w)

-- the registers that what was written hangs on: those of the context, and of the timer itself TVAL and CVAL. CTL is not among
-- them, so the timer may be enabled after the write
abbrev pub Holds : TimerName → Target → Type 0
Holds t Target.Cntpct = ⊥
Holds t Target.Cntvct = ⊥
Holds t Target.Cntvoff = Unit {0}
Holds t (Target.Timer u Tval) = same u t ≡ true
Holds t (Target.Timer u Ctl) = ⊥
Holds t (Target.Timer u Cval) = same u t ≡ true
Holds t Target.Cntkctl = Unit {0}
Holds t Target.Cnthctl = Unit {0}
Holds t Target.Cntpoff = Unit {0}

-- accesses of which none is a permitted write that reaches one of these leave the context and that CVAL
abbrev pub LeftAsWritten : Type 0
LeftAsWritten =
    (s : State) (accesses : List Access) (t : TimerName) →
    NoneReaches (Holds t) s accesses →
    SameContext s (end_state access_of s accesses) × ((get (end_state access_of s accesses).timers t).cval ≡ (get s.timers t).cval)

-- so does a permitted write of CTL with ENABLE 1: a timer that was off when it was written reads back once it is on
abbrev pub EnabledAfterwards : Type 0
EnabledAfterwards =
    (s : State) (w control r : Access) (t : TimerName) →
    PermittedWrite s w (Target.Timer t Tval) →
    PermittedWrite (access_of s w).next control (Target.Timer t Ctl) →
    bit 0 (written_operand control) ≡ true →
    PermittedRead (end_state access_of s (w ∷ control ∷ [])) r (Target.Timer t Tval) →
    r.level ≡ w.level →
    r.count ≡ w.count →
    w.count < 2 ^ 64 →
    WrittenThenRead s w (control ∷ []) r t

-- the names of TVAL registers
abbrev pub IsTval : Part → Type 0
IsTval Tval = Unit {0}
IsTval Ctl = ⊥
IsTval Cval = ⊥

abbrev pub HasTval : Name → Type 0
HasTval Cntpct = ⊥
HasTval Cntvct = ⊥
HasTval Cntpctss = ⊥
HasTval Cntvctss = ⊥
HasTval (Cntp p) = IsTval p
HasTval (Cntv p) = IsTval p
HasTval Cntvoff = ⊥
HasTval (Cnthp p) = IsTval p
HasTval (Cnthvs p) = IsTval p
HasTval Cntkctl = ⊥
HasTval Cnthctl = ⊥
HasTval Cntpoff = ⊥

-- for every such name: where a write is permitted, so is a read at the same level in the same context, and it reaches the
-- TVAL of the same timer
abbrev pub ReadFollowsWrite : Type 0
ReadFollowsWrite =
    (s later : State) (w r : Access) (name : Name) (target : Target) →
    HasTval name →
    name_of w.word ≡ Some name →
    name_of r.word ≡ Some name →
    r.level ≡ w.level →
    SameContext s later →
    Permitted s w target →
    (t : TimerName) × (target ≡ Target.Timer t Tval) × Permitted later r (Target.Timer t Tval)
