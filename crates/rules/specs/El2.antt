-- 'Who may touch what', CNTVOFF (003), CNTHP (001) and CNTHVS (000). The count used is in Counts.
use Rattle.std.specs.Prelude.{not, ◌&&◌, [], ◌∷◌, Err, Ok}
use Rattle.rules.specs.declared.facts.Facts.{Facts}
use Rattle.rules.specs.declared.state.TimerName.TheVariants.{Cnthp, Cnthvs}
use Rattle.rules.specs.declared.name.Part.{Part}
use Rattle.rules.specs.declared.verdict.Target.TheVariants.{Cntvoff}
use Rattle.rules.specs.declared.verdict.Stop.TheVariants.{Undefined}
use Rattle.rules.specs.Rules.{Verdict, ◌⇒◌, first, at_level, timer}

module _ (f : Facts) where
  open f use {level, secure, vhe, sel2, eel2}

  -- CNTVOFF and CNTHP: Undefined at EL0 and EL1, allowed at EL2 and EL3
  unfoldable pub cntvoff : Verdict
  cntvoff = at_level level (Err Undefined) (Err Undefined) (Ok Cntvoff) (Ok Cntvoff)

  unfoldable pub cnthp : Part → Verdict
  cnthp p = at_level level (Err Undefined) (Err Undefined) (timer Cnthp p) (timer Cnthp p)

  -- CNTHVS: Undefined unless VHE and SEL2 are both there, at EL0 and EL1, at EL2 when not secure, at EL3 when EEL2 is 0;
  -- else allowed
  unfoldable pub cnthvs : Part → Verdict
  cnthvs p =
      first (not (vhe && sel2) ⇒ Err Undefined ∷ [])
      (at_level level
      (Err Undefined)
      (Err Undefined)
      (first (not secure ⇒ Err Undefined ∷ []) (timer Cnthvs p))
      (first (not eel2 ⇒ Err Undefined ∷ []) (timer Cnthvs p)))
