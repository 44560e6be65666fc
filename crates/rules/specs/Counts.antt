-- The counts, each from the physical count of the access: what an access at a level sees of it, the count used, and the
-- count of the condition, which has no level.
use Rattle.std.specs.Prelude.{ℕ, Bool, if◌then◌else◌, ◌&&◌, ◌||◌, ◌==◌}
use Rattle.rules.specs.declared.facts.Facts.{Facts}
use Rattle.rules.specs.declared.state.State.{State}
use Rattle.rules.specs.declared.state.TimerName.{TimerName}
use Rattle.rules.specs.declared.state.TimerName.TheVariants.{Cntp, Cntv, Cnthp, Cnthv, Cnthps, Cnthvs}
use Rattle.rules.specs.Words.{EL0, EL1, EL2}
use Rattle.rules.specs.Arithmetic.{◌less◌}

-- physical less CNTVOFF
abbrev pub virtual : State → ℕ → ℕ
virtual s physical = physical less s.cntvoff

-- physical, less CNTPOFF where that applies
abbrev pub offset_physical : Bool → State → ℕ → ℕ
offset_physical applies s physical = if applies then physical less s.cntpoff else physical

-- at EL0 and EL1 with offset on
abbrev pub offset_seen : Facts → Bool
offset_seen f = (f.level == EL0 || f.level == EL1) && f.offset

-- CNTPCT's value: physical, less CNTPOFF at EL0 and EL1 with offset on
abbrev pub physical_seen : Facts → State → ℕ → ℕ
physical_seen f s physical = offset_physical (offset_seen f) s physical

-- CNTVCT's value: physical less CNTVOFF, but physical alone for host at EL0 and for E2H 1 at EL2
abbrev pub virtual_seen : Facts → State → ℕ → ℕ
virtual_seen f s physical =
    if (f.host && f.level == EL0) || (f.e2h && f.level == EL2) then physical else virtual s physical

-- a timer's count: CNTV, physical less CNTVOFF, also where EL2 exists but is not on; CNTP, physical, less CNTPOFF where that
-- applies; the others, physical
unfoldable pub count_of : Bool → State → ℕ → TimerName → ℕ
count_of applies s physical Cntp = offset_physical applies s physical
count_of applies s physical Cntv = virtual s physical
count_of applies s physical Cnthp = physical
count_of applies s physical Cnthv = physical
count_of applies s physical Cnthps = physical
count_of applies s physical Cnthvs = physical

-- the count used, by TVAL: CNTPOFF applies at EL0 and EL1 with offset on
abbrev pub used_count : Facts → State → ℕ → TimerName → ℕ
used_count f s physical t = count_of (offset_seen f) s physical t

-- the count of the condition, for 'Timer met' and ISTATUS: CNTPOFF applies with offset on (our house rule)
abbrev pub condition_count : Bool → State → ℕ → TimerName → ℕ
condition_count applies s physical t = count_of applies s physical t
