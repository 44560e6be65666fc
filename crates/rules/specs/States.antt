-- A state with one part of it put in, the others as they are.
use Rattle.std.specs.Prelude.{ℕ}
use Rattle.rules.specs.declared.state.State.{State}
use Rattle.rules.specs.declared.state.Timers.{Timers}

abbrev pub with_timers : State → Timers → State
with_timers s ts = record s { timers = ts }

abbrev pub with_cntvoff : State → ℕ → State
with_cntvoff s x = record s { cntvoff = x }

abbrev pub with_cntpoff : State → ℕ → State
with_cntpoff s x = record s { cntpoff = x }

-- CNTKCTL and CNTHCTL; the facts of SCR and HCR as they are
abbrev pub with_cntkctl : State → ℕ → State
with_cntkctl s x = record s { controls = record s.controls { cntkctl = x } }

abbrev pub with_cnthctl : State → ℕ → State
with_cnthctl s x = record s { controls = record s.controls { cnthctl = x } }
