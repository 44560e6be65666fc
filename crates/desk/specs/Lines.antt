-- Six lines, each of which its own timer may give.
use Rattle.std.specs.Prelude.{Bool}
use Rattle.rules.specs.declared.answer.Lines.{Lines}
use Rattle.rules.specs.declared.state.TimerName.{TimerName}
use Rattle.rules.specs.declared.state.TimerName.TheVariants.{Cntp, Cntv, Cnthp, Cnthv, Cnthps, Cnthvs}

pub record EachLine (gives : TimerName → Bool → Type 0) (lines : Lines) : Type 0 where
  pub cntp : gives Cntp lines.cntp
  pub cntv : gives Cntv lines.cntv
  pub cnthp : gives Cnthp lines.cnthp
  pub cnthv : gives Cnthv lines.cnthv
  pub cnthps : gives Cnthps lines.cnthps
  pub cnthvs : gives Cnthvs lines.cnthvs
