-- 'Who may touch what', for every register: the gate that its name goes through.
use Rattle.std.specs.Prelude.{Bool}
use Rattle.rules.specs.declared.facts.Facts.{Facts}
use Rattle.rules.specs.declared.name.Name.{Name}
use Rattle.rules.specs.declared.name.Name.TheVariants.{Cntpct, Cntvct, Cntpctss, Cntvctss, Cntp, Cntv, Cntvoff, Cnthp, Cnthvs, Cntkctl, Cnthctl, Cntpoff}
use Rattle.rules.specs.Rules.{Verdict}
use Rattle.rules.specs.Cntp.{cntp}
use Rattle.rules.specs.Cntv.{cntv}
use Rattle.rules.specs.Counters.{cntpct, cntvct, self_synchronized, read_only}
use Rattle.rules.specs.El2.{cntvoff, cnthp, cnthvs}
use Rattle.rules.specs.Control.{cntkctl, cnthctl, cntpoff}

-- what the gates say of an access to a register, which is an MRS or an MSR
unfoldable pub verdict_of : Facts → Name → Bool → Verdict
verdict_of f Cntpct mrs = read_only mrs (cntpct f)
verdict_of f Cntvct mrs = read_only mrs (cntvct f)
verdict_of f Cntpctss mrs = read_only mrs (self_synchronized f (cntpct f))
verdict_of f Cntvctss mrs = read_only mrs (self_synchronized f (cntvct f))
verdict_of f (Cntp p) mrs = cntp f p
verdict_of f (Cntv p) mrs = cntv f p
verdict_of f Cntvoff mrs = cntvoff f
verdict_of f (Cnthp p) mrs = cnthp f p
verdict_of f (Cnthvs p) mrs = cnthvs f p
verdict_of f Cntkctl mrs = cntkctl f
verdict_of f Cnthctl mrs = cnthctl f
verdict_of f Cntpoff mrs = cntpoff f
