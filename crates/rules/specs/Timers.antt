-- One of the six timers, by its name: taken out of the six, and put in its place.
use Rattle.std.specs.Prelude.{ℕ, Bool, if◌then◌else◌, ◌==◌}
use Rattle.rules.specs.declared.state.Timers.{Timers}
use Rattle.rules.specs.declared.state.Timer.{Timer}
use Rattle.rules.specs.declared.state.TimerName.{TimerName}
use Rattle.rules.specs.declared.state.TimerName.TheVariants.{Cntp, Cntv, Cnthp, Cnthv, Cnthps, Cnthvs}

-- a timer's place in the order of RULES, 'The state', by which two names are told apart
abbrev pub place_of : TimerName → ℕ
place_of Cntp = 0
place_of Cntv = 1
place_of Cnthp = 2
place_of Cnthv = 3
place_of Cnthps = 4
place_of Cnthvs = 5

abbrev pub same : TimerName → TimerName → Bool
same t u = place_of t == place_of u

abbrev pub timer_of : ℕ → Bool → Bool → Timer
timer_of cval enable imask = record { cval = cval; enable = enable; imask = imask }

abbrev pub get : Timers → TimerName → Timer
get ts Cntp = ts.cntp
get ts Cntv = ts.cntv
get ts Cnthp = ts.cnthp
get ts Cnthv = ts.cnthv
get ts Cnthps = ts.cnthps
get ts Cnthvs = ts.cnthvs

-- the six timers, each given by its name
abbrev pub six : (TimerName → Timer) → Timers
six x = record { cntp = x Cntp; cntv = x Cntv; cnthp = x Cnthp; cnthv = x Cnthv; cnthps = x Cnthps; cnthvs = x Cnthvs }

-- the six with x in the place of t, the others as they are
abbrev pub put : Timers → TimerName → Timer → Timers
put ts t x = six (λ u. if same t u then x else get ts u)
