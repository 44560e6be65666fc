-- 'Values', 'Stored bits' and 'Timer met': what a register that was reached reads as, and what a write leaves in it. Nothing here knows
-- of gates.
use Rattle.std.specs.Prelude.{ℕ, ◌+◌, ◌-◌, ◌^◌, Bool, if◌then◌else◌, not, ◌&&◌, nat_le}
use Rattle.rules.specs.declared.answer.Value.{Value}
use Rattle.rules.specs.declared.facts.Facts.{Facts}
use Rattle.rules.specs.declared.name.Part.{Part}
use Rattle.rules.specs.declared.name.Part.TheVariants.{Tval, Ctl, Cval}
use Rattle.rules.specs.declared.state.State.{State}
use Rattle.rules.specs.declared.state.Timer.{Timer}
use Rattle.rules.specs.declared.verdict.Target.{Target}
use Rattle.rules.specs.declared.verdict.Target.TheVariants.{Cntpct, Cntvct, Cntvoff, Cntkctl, Cnthctl, Cntpoff}
use Rattle.rules.specs.Bits.{bit}
use Rattle.rules.specs.Arithmetic.{◌plus◌, ◌less◌, signed32}
use Rattle.rules.specs.Timers.{get, put}
use Rattle.rules.specs.States.{with_timers, with_cntvoff, with_cntpoff, with_cntkctl, with_cnthctl}
use Rattle.rules.specs.Counts.{physical_seen, virtual_seen, used_count, condition_count}
use Rattle.rules.specs.Stored.{stored_cntkctl, stored_cnthctl}

-- a value whose bits are all known
abbrev pub known : ℕ → Value
known x = record { value = x; mask = 0 }

-- TVAL read: ENABLE 0, all 64 bits unknown; else CVAL less the count, as document 001's steps have it
abbrev pub read_tval : Timer → ℕ → Value
read_tval t used = if t.enable then known (t.cval less used) else (record { value = 0; mask = 2 ^ 64 - 1 })

-- TVAL write: CVAL becomes the count plus the operand's low 32 bits taken as signed
abbrev pub write_tval : Timer → ℕ → ℕ → Timer
write_tval t used x = record t { cval = used plus signed32 x }

-- timer met: ENABLE 1 and the count not below CVAL, both unsigned (002: zero-extended)
abbrev pub met : Timer → ℕ → Bool
met t condition = t.enable && nat_le t.cval condition

-- a line is raised if met and IMASK is 0
abbrev pub raised : Timer → ℕ → Bool
raised t condition = met t condition && not t.imask

abbrev flag : ℕ → Bool → ℕ
flag k b = if b then 2 ^ k else 0

-- CTL: bit 0 ENABLE, bit 1 IMASK, bit 2 ISTATUS, the rest 0; with ENABLE 0, bit 2 is unknown
abbrev pub read_ctl : Timer → ℕ → Value
read_ctl t condition =
    record {
      value = flag 0 t.enable + flag 1 t.imask + flag 2 (met t condition);
      mask = flag 2 (not t.enable);
    }

-- a write keeps bits 0 and 1
abbrev pub write_ctl : Timer → ℕ → Timer
write_ctl t x = record t { enable = bit 0 x; imask = bit 1 x }

-- CVAL is written whole
abbrev pub write_cval : Timer → ℕ → Timer
write_cval t x = record t { cval = x }

-- one timer read, CVAL whole, over the count used and the count of the condition
unfoldable pub read_timer : Timer → Part → ℕ → ℕ → Value
read_timer t Tval used condition = read_tval t used
read_timer t Ctl used condition = read_ctl t condition
read_timer t Cval used condition = known t.cval

-- and written
unfoldable pub write_timer : Timer → Part → ℕ → ℕ → Timer
write_timer t Tval used x = write_tval t used x
write_timer t Ctl used x = write_ctl t x
write_timer t Cval used x = write_cval t x

-- what a register that was reached reads as, by the facts of the state at the access's level; CNTVOFF and CNTPOFF whole, of
-- CNTKCTL and CNTHCTL the 32 bits that the state holds
unfoldable pub read_of : Facts → State → ℕ → Target → Value
read_of f s physical Cntpct = known (physical_seen f s physical)
read_of f s physical Cntvct = known (virtual_seen f s physical)
read_of f s physical Cntvoff = known s.cntvoff
read_of f s physical (Target.Timer t p) =
    read_timer (get s.timers t) p (used_count f s physical t) (condition_count f.offset s physical t)
read_of f s physical Cntkctl = known s.controls.cntkctl
read_of f s physical Cnthctl = known s.controls.cnthctl
read_of f s physical Cntpoff = known s.cntpoff

-- the state after a write of a register that was reached, CNTVOFF and CNTPOFF whole, of CNTKCTL and CNTHCTL the stored bits;
-- no write reaches a counter, since MSR of one is Undefined
unfoldable pub write_of : Facts → State → ℕ → Target → ℕ → State
write_of f s physical Cntpct x = s
write_of f s physical Cntvct x = s
write_of f s physical Cntvoff x = with_cntvoff s x
write_of f s physical (Target.Timer t p) x =
    with_timers s (put s.timers t (write_timer (get s.timers t) p (used_count f s physical t) x))
write_of f s physical Cntkctl x = with_cntkctl s (stored_cntkctl f.ecv x)
write_of f s physical Cnthctl x = with_cnthctl s (stored_cnthctl f.e2h f.ecv x)
write_of f s physical Cntpoff x = with_cntpoff s x
