-- The twelve readings hold of the rulebook: the checker computes every row of the table.
-- Assumes nothing.
use mathlib.Core.Path.{refl}
use Rattle.rules.specs.Words.{facts_of}
use Rattle.rules.specs.Names.{name_of, name_table}
use Rattle.rules.specs.Cntp.{cntp}
use Rattle.rules.specs.Cntv.{cntv}
use Rattle.rules.specs.Counters.{cntpct, cntvct}
use Rattle.rules.specs.El2.{cntvoff, cnthp, cnthvs}
use Rattle.rules.specs.Verdicts.{verdict_of}
use Rattle.rules.specs.Counts.{count_of}
use Rattle.rules.specs.Values.{read_timer, write_timer, read_of, write_of}
use Rattle.rules.specs.Context.{impossible, impossible_at}
use Rattle.rules.specs.Access.{permitted, ruled, served, access_of}
use Rattle.rules.specs.Readings.{ReadingsHold}

pub readings_hold : ReadingsHold
unfolding facts_of name_of name_table cntp cntv cntpct cntvct cntvoff cnthp cnthvs verdict_of count_of read_timer write_timer read_of write_of impossible impossible_at permitted ruled served access_of
readings_hold = refl
