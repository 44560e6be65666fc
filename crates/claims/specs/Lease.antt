-- The lease, in the customer's words. A clerk reserves a slot for n ticks, the guest arms its virtual timer for them, and the
-- lease ends neither early nor late: its end is the moment the timer's line is raised. Time here is the virtual count,
-- physical less CNTVOFF.
use Rattle.std.specs.Prelude.{ℕ, ◌+◌, ◌-◌, ◌%◌, ◌^◌, ◌<◌, ◌≤◌, Bool, true, false, if◌then◌else◌, List, [], ◌∷◌, ◌⊎◌, ◌≡◌, nat_le}
use Rattle.rules.specs.declared.access.Access.{Access}
use Rattle.rules.specs.declared.name.Part.TheVariants.{Tval, Ctl}
use Rattle.rules.specs.declared.state.State.{State}
use Rattle.rules.specs.declared.state.TimerName.TheVariants.{Cntv}
use Rattle.rules.specs.declared.verdict.Target.{Target}
use Rattle.rules.specs.declared.verdict.Target.TheVariants.{Cntpct, Cntvct, Cntvoff, Timer, Cntkctl, Cnthctl, Cntpoff}
use Rattle.rules.specs.Bits.{bit}
use Rattle.rules.specs.Names.{written_operand}
use Rattle.rules.specs.Arithmetic.{◌plus◌, ◌less◌, signed32}
use Rattle.rules.specs.Timers.{same, timer_of}
use Rattle.rules.specs.Values.{known}
use Rattle.rules.specs.Answers.{done_read}
use Rattle.rules.specs.Context.{impossible}
use Rattle.rules.specs.Access.{access_of}
use Rattle.rules.specs.Lines.{lines_of}
use Rattle.claims.specs.Desk.{end_state, PermittedWrite, PermittedRead, NoneReaches}
use Rattle.claims.specs.Guests.{TrappedGuest, Alike, AllShown}

-- ---- words

-- the virtual count at a physical count; not by the rulebook's word for it, so that an offset of the wrong sign would show
abbrev pub virtual_at : State → ℕ → ℕ
virtual_at s physical = physical less s.cntvoff

-- CNTV's line is raised at a physical count
abbrev pub line_at : State → ℕ → Bool
line_at s physical = (lines_of s physical).cntv

-- what a TVAL write sets: v plus n, v the virtual count and n the low 32 bits as signed
abbrev pub deadline_of : State → Access → ℕ
deadline_of s value = virtual_at s value.count plus signed32 (written_operand value)

-- a lease that ends at a deadline: CNTV is on and unmasked and its CVAL is the deadline, on a machine that can be
pub record Lease (s : State) (deadline : ℕ) : Type 0 where
  pub possible : impossible s ≡ false
  pub cntv : s.timers.cntv ≡ timer_of deadline true false

-- ---- 1. Armed

-- the two writes of a lease are permitted: TVAL, and CTL with ENABLE 1 and IMASK 0; at any levels and counts
pub record Takes (s : State) (value control : Access) : Type 0 where
  pub tval : PermittedWrite s value (Timer Cntv Tval)
  pub ctl : PermittedWrite s control (Timer Cntv Ctl)
  pub enable : bit 0 (written_operand control) ≡ true
  pub unmask : bit 1 (written_operand control) ≡ false

abbrev pub InEitherOrder : Access → Access → List Access → Type 0
InEitherOrder a b both = (both ≡ a ∷ b ∷ []) ⊎ (both ≡ b ∷ a ∷ [])

-- they leave a lease that ends at v plus n
abbrev pub Armed : Type 0
Armed =
    (s : State) (value control : Access) (both : List Access) →
    Takes s value control →
    InEitherOrder value control both →
    Lease (end_state access_of s both) (deadline_of s value)

-- on a lease that runs, a permitted write of TVAL alone takes the next one
abbrev pub Renewed : Type 0
Renewed =
    (s : State) (old : ℕ) (value : Access) →
    Lease s old →
    PermittedWrite s value (Timer Cntv Tval) →
    Lease (access_of s value).next (deadline_of s value)

-- and a permitted write of CTL with ENABLE 0 gives it back: the line is down at every count
abbrev pub GivenBack : Type 0
GivenBack =
    (s : State) (control : Access) (physical : ℕ) →
    PermittedWrite s control (Timer Cntv Ctl) →
    bit 0 (written_operand control) ≡ false →
    line_at (access_of s control).next physical ≡ false

-- masked it is silent: whatever the timer holds, its line is down at every count
abbrev pub MaskedIsSilent : Type 0
MaskedIsSilent = (s : State) (physical : ℕ) → s.timers.cntv.imask ≡ true → line_at s physical ≡ false

-- ---- 2. Not early, not late

-- the line is raised, and ISTATUS, bit 2 beside ENABLE, reads 1, exactly if the virtual count is not below the deadline,
-- compared unsigned
pub record EndsAt (s : State) (deadline : ℕ) : Type 0 where
  pub line : (physical : ℕ) → line_at s physical ≡ nat_le deadline (virtual_at s physical)
  pub status :
      (a : Access) →
      PermittedRead s a (Timer Cntv Ctl) →
      (access_of s a).answer
      ≡ done_read a.word (known (1 + (if nat_le deadline (virtual_at s a.count) then 2 ^ 2 else 0)))

abbrev pub EndsAtTheDeadline : Type 0
EndsAtTheDeadline = (s : State) (deadline : ℕ) → Lease s deadline → EndsAt s deadline

-- an operand of n ticks ahead, and of k ticks back
pub record Ahead (x n : ℕ) : Type 0 where
  pub low : x % 2 ^ 32 ≡ n
  pub small : n < 2 ^ 31

pub record Back (x k : ℕ) : Type 0 where
  pub low : x % 2 ^ 32 ≡ 2 ^ 32 - k
  pub small : k ≤ 2 ^ 31

-- the line is down at every virtual count below `from`, and up at every one from there to the counter's end
pub record UpFrom (s : State) (from : ℕ) : Type 0 where
  pub down : (physical : ℕ) → virtual_at s physical < from → line_at s physical ≡ false
  pub up : (physical : ℕ) → from ≤ virtual_at s physical → line_at s physical ≡ true

-- the line is up at v and at every later virtual count to the counter's end
abbrev pub UpAtOnce : State → ℕ → Type 0
UpAtOnce s v = (physical : ℕ) → v ≤ virtual_at s physical → line_at s physical ≡ true

-- so, in plain numbers, for a lease of the operand x that was taken at virtual count v
pub record InPlainNumbers (s : State) (v x : ℕ) : Type 0 where
  -- n ticks ahead: down until v + n, and up from there
  pub ahead : (n : ℕ) → Ahead x n → v + n < 2 ^ 64 → UpFrom s (v + n)
  -- k ticks back: up at once
  pub back : (k : ℕ) → Back x k → k ≤ v → UpFrom s (v - k) × UpAtOnce s v
  -- v + n is past the counter's end: the deadline reads as a count long past, and the lease is over at once
  pub ahead_wraps : (n : ℕ) → Ahead x n → 2 ^ 64 ≤ v + n → UpFrom s (v + n - 2 ^ 64) × UpAtOnce s v
  -- v - k is before the counter's start: the deadline reads as a count far ahead, and the lease hangs on until there
  pub back_wraps : (k : ℕ) → Back x k → v < k → UpFrom s (v + 2 ^ 64 - k)

abbrev pub NotEarlyNotLate : Type 0
NotEarlyNotLate = (s : State) (v x : ℕ) → v < 2 ^ 64 → Lease s (v plus signed32 x) → InPlainNumbers s v x

-- ---- 3. Left alone

-- the registers that a lease stands on: CNTV's, and CNTVOFF. A write of CNTKCTL, CNTHCTL or CNTPOFF moves no lease
abbrev pub OfTheLease : Target → Type 0
OfTheLease Cntpct = ⊥
OfTheLease Cntvct = ⊥
OfTheLease Cntvoff = Unit {0}
OfTheLease (Timer t p) = same t Cntv ≡ true
OfTheLease Cntkctl = ⊥
OfTheLease Cnthctl = ⊥
OfTheLease Cntpoff = ⊥

-- the same lease: the timer as it is, so a deadline stands, and at each virtual count the same line
pub record SameLease (s t : State) : Type 0 where
  pub timer : s.timers.cntv ≡ t.timers.cntv
  pub deadline : (d : ℕ) → Lease s d → Lease t d
  pub line : (p q : ℕ) → virtual_at s p ≡ virtual_at t q → line_at s p ≡ line_at t q

abbrev pub LeftAlone : Type 0
LeftAlone =
    (s : State) (accesses : List Access) →
    NoneReaches OfTheLease s accesses →
    ((end_state access_of s accesses).cntvoff ≡ s.cntvoff) × SameLease s (end_state access_of s accesses)

-- so a permitted write of CNTKCTL, CNTHCTL or CNTPOFF moves no lease
pub record ControlsMoveNone : Type 0 where
  pub cntkctl : (s : State) (a : Access) → PermittedWrite s a Cntkctl → SameLease s (access_of s a).next
  pub cnthctl : (s : State) (a : Access) → PermittedWrite s a Cnthctl → SameLease s (access_of s a).next
  pub cntpoff : (s : State) (a : Access) → PermittedWrite s a Cntpoff → SameLease s (access_of s a).next

-- ---- 4. TVAL tells the truth

-- the ticks that are left at virtual count w of a lease of the operand x that was taken at v: v plus n, less w
abbrev pub ticks_left : ℕ → ℕ → ℕ → ℕ
ticks_left v x w = (v plus signed32 x) less w

-- a number of 64 bits that, as signed, fits 32
abbrev pub Fits32 : ℕ → Type 0
Fits32 y = (y < 2 ^ 31) ⊎ ((2 ^ 64 - 2 ^ 31 ≤ y) × (y < 2 ^ 64))

pub record TvalTellsTheTruth : Type 0 where
  -- a permitted read of TVAL gives them, all bits known
  pub reads :
      (s : State) (v x : ℕ) (a : Access) →
      Lease s (v plus signed32 x) →
      PermittedRead s a (Timer Cntv Tval) →
      (access_of s a).answer ≡ done_read a.word (known (ticks_left v x (virtual_at s a.count)))
  -- taken as 32 signed bits they are the same number, if it fits
  pub signed : (v x w : ℕ) → Fits32 (ticks_left v x w) → signed32 (ticks_left v x w) ≡ ticks_left v x w
  -- in plain numbers, n ticks ahead: v + n - w until then, over the counter's end too, where the line is up all the while
  pub ahead :
      (v x n w : ℕ) → w < 2 ^ 64 → Ahead x n → w ≤ v + n → v + n < w + 2 ^ 64 → ticks_left v x w ≡ v + n - w
  -- and after it as many ticks below 0
  pub over : (v x n w : ℕ) → w < 2 ^ 64 → Ahead x n → v + n < w → ticks_left v x w ≡ v + n + 2 ^ 64 - w
  -- k ticks back: below 0 by k and what has passed since v
  pub back :
      (v x k w : ℕ) → w < 2 ^ 64 → Back x k → v ≤ w → w + k ≤ v + 2 ^ 64 → ticks_left v x w ≡ v + 2 ^ 64 - (w + k)

-- ---- 5. By the guest alone

-- under demand 3's premises two machines alike end the lease at the same virtual count, whatever their offsets and other
-- timers
abbrev pub ByTheGuestAlone : Type 0
ByTheGuestAlone =
    (s t : State) (as₁ as₂ : List Access) →
    TrappedGuest s →
    Alike s t →
    AllShown s t as₁ as₂ →
    SameLease (end_state access_of s as₁) (end_state access_of t as₂)

-- ---- the claim

-- the whole of it: a lease is taken at v, what is asked of the desk after that leaves it alone, and it ends as the plain
-- numbers say
abbrev pub LeaseKept : Type 0
LeaseKept =
    (s : State) (value control : Access) (both accesses : List Access) →
    Takes s value control →
    InEitherOrder value control both →
    NoneReaches OfTheLease (end_state access_of s both) accesses →
    InPlainNumbers (end_state access_of (end_state access_of s both) accesses) (virtual_at s value.count) (written_operand value)

pub record LeaseClaim : Type 0 where
  pub kept : LeaseKept
  pub armed : Armed
  pub renewed : Renewed
  pub given_back : GivenBack
  pub masked_is_silent : MaskedIsSilent
  pub ends_at_the_deadline : EndsAtTheDeadline
  pub not_early_not_late : NotEarlyNotLate
  pub left_alone : LeftAlone
  pub controls_move_none : ControlsMoveNone
  pub tval_tells_the_truth : TvalTellsTheTruth
  pub by_the_guest_alone : ByTheGuestAlone
