-- A lease, once over the timer: n ticks written at a count and the timer on, in either order, leave CVAL at the count plus n;
-- from then on the timer is met exactly if its count is not below that, and TVAL reads the ticks that are left. By
-- computation, but for the sums that wrap, which are arithmetic below 2^64.
-- Assumes nothing.
use Prim.Native.Nat.{ℕ, ◌+◌, ◌-◌, ◌/◌, ◌%◌, ◌^◌, ◌<◌, ◌≤◌}
use mathlib.Core.Bool.{Bool, true, false, cond, not, ◌&&◌}
use mathlib.Core.Path.{◌≡◌, refl, ap, ◌∙◌}
use lib.Dec.{eqb, leb}
use native.Mathlib.Omega.{arith}
use Rattle.rules.specs.declared.state.State.{State}
use Rattle.rules.specs.declared.state.Timer.{Timer}
use Rattle.rules.specs.declared.state.TimerName.TheVariants.{Cntv}
use Rattle.rules.specs.Arithmetic.{◌plus◌, ◌less◌, signed32}
use Rattle.rules.specs.Bits.{bit}
use Rattle.rules.specs.Counts.{count_of}
use Rattle.rules.specs.Timers.{timer_of}
use Rattle.rules.specs.Values.{known, read_tval, write_tval, met, raised, read_ctl, write_ctl}

-- on, unmasked, CVAL the deadline
abbrev leased : ℕ → Timer
leased deadline = timer_of deadline true false

-- ---- armed

module _ (t : Timer) (count x control : ℕ) (enabled : bit 0 control ≡ true) (unmasked : bit 1 control ≡ false) where
  pub value_then_control : write_ctl (write_tval t count x) control ≡ leased (count plus signed32 x)
  value_then_control = rw (enabled, unmasked)

  pub control_then_value : write_tval (write_ctl t control) count x ≡ leased (count plus signed32 x)
  control_then_value = rw (enabled, unmasked)

-- ---- not early, not late

unmasked_line : (met : Bool) → met && not false ≡ met
unmasked_line true = refl
unmasked_line false = refl

masked : (met : Bool) → met && not true ≡ false
masked true = refl
masked false = refl

module _ (deadline count : ℕ) where
  pub raised_at : raised (leased deadline) count ≡ leb deadline count
  raised_at = unmasked_line (leb deadline count)

  -- a masked timer raises no line, on or off
  pub masked_line : (enable : Bool) → raised (timer_of deadline enable true) count ≡ false
  masked_line enable = masked (met (timer_of deadline enable true) count)

  pub status_at : read_ctl (leased deadline) count ≡ known (1 + cond (leb deadline count) 4 0)
  status_at = refl

-- CNTV's count is physical less CNTVOFF, whatever else holds
pub cntv_count : (applies : Bool) (s : State) (physical : ℕ) → count_of applies s physical Cntv ≡ physical less s.cntvoff
unfolding count_of
cntv_count applies s physical = refl

-- ---- the deadline in plain numbers: n ticks ahead, or k ticks back, with and without a wrap

module _ (x n : ℕ) (low : x % 2 ^ 32 ≡ n) (small : n < 2 ^ 31) where
  positive : bit 31 x ≡ false
  positive = ap (λ (b : ℕ). eqb b 1) (let zero : x / 2 ^ 31 % 2 ^ 1 ≡ 0 = omega arith in zero)

  pub ahead : signed32 x ≡ n
  ahead = rw positive (omega arith)

  module _ (v : ℕ) where
    pub ahead_from : v + n < 2 ^ 64 → v plus signed32 x ≡ v + n
    ahead_from h = rw ahead (omega arith)

    pub ahead_wraps : v < 2 ^ 64 → 2 ^ 64 ≤ v + n → v plus signed32 x ≡ v + n - 2 ^ 64
    ahead_wraps h k = rw ahead (omega arith)

module _ (x k : ℕ) (low : x % 2 ^ 32 ≡ 2 ^ 32 - k) (small : k ≤ 2 ^ 31) where
  negative : bit 31 x ≡ true
  negative = ap (λ (b : ℕ). eqb b 1) (let one : x / 2 ^ 31 % 2 ^ 1 ≡ 1 = omega arith in one)

  pub back : signed32 x ≡ 2 ^ 64 - k
  back = rw negative (omega arith)

  module _ (v : ℕ) where
    pub back_from : v < 2 ^ 64 → k ≤ v → v plus signed32 x ≡ v - k
    back_from h i = rw back (omega arith)

    pub back_wraps : v < k → v plus signed32 x ≡ v + 2 ^ 64 - k
    back_wraps h = rw back (omega arith)

-- ---- the ticks that are left

pub left_at : (deadline count : ℕ) → read_tval (leased deadline) count ≡ known (deadline less count)
left_at deadline count = refl

-- in plain numbers
module _ (x n : ℕ) (low : x % 2 ^ 32 ≡ n) (small : n < 2 ^ 31) (v w : ℕ) where
  pub left_ahead : w < 2 ^ 64 → w ≤ v + n → v + n < w + 2 ^ 64 → (v plus signed32 x) less w ≡ v + n - w
  left_ahead f h k = rw (ahead x n low small) (omega arith)

  pub left_over : w < 2 ^ 64 → v + n < w → (v plus signed32 x) less w ≡ v + n + 2 ^ 64 - w
  left_over f h = rw (ahead x n low small) (omega arith)

pub left_back : (x k : ℕ) → x % 2 ^ 32 ≡ 2 ^ 32 - k → k ≤ 2 ^ 31 → (v w : ℕ) → w < 2 ^ 64 → v ≤ w → w + k ≤ v + 2 ^ 64 → (v plus signed32 x) less w ≡ v + 2 ^ 64 - (w + k)
left_back x k low small v w f h i = rw (back x k low small) (omega arith)

-- taken as 32 signed bits, a difference that fits them is what it is
pub small_signed : (y : ℕ) → y < 2 ^ 31 → signed32 y ≡ y
small_signed y h = ahead y y (omega arith) h

pub large_signed : (y : ℕ) → 2 ^ 64 - 2 ^ 31 ≤ y → y < 2 ^ 64 → signed32 y ≡ y
large_signed y h k = back y (2 ^ 64 - y) (omega arith) (omega arith) ∙ omega arith
