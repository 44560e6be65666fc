-- 'Who may touch what', CNTKCTL, CNTHCTL and CNTPOFF (Arm's pages; document 02, request 1). What a write stores is in Stored.
use Rattle.std.specs.Prelude.{not, [], ◌∷◌, Err, Ok}
use Rattle.rules.specs.declared.facts.Facts.{Facts}
use Rattle.rules.specs.declared.verdict.Target.TheVariants.{Cntkctl, Cnthctl, Cntpoff}
use Rattle.rules.specs.declared.verdict.Stop.TheVariants.{Undefined, ToEl3}
use Rattle.rules.specs.Rules.{Verdict, ◌⇒◌, first, at_level}

module _ (f : Facts) where
  open f use {level, ecv, ecven, e2h}

  -- CNTKCTL: Undefined at EL0; itself at EL1, never trapped; at EL2 with E2H 1 CNTHCTL, else itself; itself at EL3
  unfoldable pub cntkctl : Verdict
  cntkctl =
      at_level level
      (Err Undefined)
      (Ok Cntkctl)
      (first (e2h ⇒ Ok Cnthctl ∷ []) (Ok Cntkctl))
      (Ok Cntkctl)

  -- CNTHCTL: Undefined at EL0 and EL1; itself at EL2 and EL3
  unfoldable pub cnthctl : Verdict
  cnthctl = at_level level (Err Undefined) (Err Undefined) (Ok Cnthctl) (Ok Cnthctl)

  -- CNTPOFF: Undefined without ECV, and at EL0 and EL1; at EL2 with ECVEn 0 a trap to EL3, else itself; itself at EL3
  unfoldable pub cntpoff : Verdict
  cntpoff =
      first (not ecv ⇒ Err Undefined ∷ [])
      (at_level level
      (Err Undefined)
      (Err Undefined)
      (first (not ecven ⇒ Err ToEl3 ∷ []) (Ok Cntpoff))
      (Ok Cntpoff))
