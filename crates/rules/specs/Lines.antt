-- The lines question: which timer lines are raised at a physical count; 5 on the grounds that have no level.
use Rattle.std.specs.Prelude.{ℕ, Bool, false, if◌then◌else◌}
use Rattle.rules.specs.declared.answer.Lines.{Lines}
use Rattle.rules.specs.declared.state.State.{State}
use Rattle.rules.specs.declared.state.TimerName.{TimerName}
use Rattle.rules.specs.declared.state.TimerName.TheVariants.{Cntp, Cntv, Cnthp, Cnthv, Cnthps, Cnthvs}
use Rattle.rules.specs.Words.{offset_on}
use Rattle.rules.specs.Timers.{get}
use Rattle.rules.specs.Counts.{condition_count}
use Rattle.rules.specs.Values.{raised}
use Rattle.rules.specs.Answers.{done, impossible_context}
use Rattle.rules.specs.Context.{impossible}

-- the number, and each line by its timer
abbrev lines_by : ℕ → (TimerName → Bool) → Lines
lines_by number line =
    record {
      number = number;
      cntp = line Cntp;
      cntv = line Cntv;
      cnthp = line Cnthp;
      cnthv = line Cnthv;
      cnthps = line Cnthps;
      cnthvs = line Cnthvs;
    }

-- a timer's line at a physical count
unfoldable pub line_of : State → ℕ → TimerName → Bool
line_of s physical t = raised (get s.timers t) (condition_count (offset_on s) s physical t)

-- 5 with no line raised; else 0 with each line
unfoldable pub lines_of : State → ℕ → Lines
lines_of s physical =
    if impossible s then lines_by impossible_context (λ _. false) else lines_by done (line_of s physical)
