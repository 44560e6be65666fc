-- 'Who may touch what', CNTPCT, CNTVCT (documents 003, 004) and the SS forms. Their values are in Counts.
use Rattle.std.specs.Prelude.{Bool, not, ◌&&◌, [], ◌∷◌, Err, Ok}
use Rattle.rules.specs.declared.facts.Facts.{Facts}
use Rattle.rules.specs.declared.verdict.Target.TheVariants.{Cntpct, Cntvct}
use Rattle.rules.specs.declared.verdict.Stop.TheVariants.{Undefined, ToEl2}
use Rattle.rules.specs.Rules.{Verdict, ◌⇒◌, first, at_level}
use Rattle.rules.specs.Cntp.{a_to_d, el1_rule}
use Rattle.rules.specs.Cntv.{a_to_c}

module _ (f : Facts) where
  open f use {level, on, ecv, cntkctl, cnthctl}

  -- CNTPCT at EL0: as CNTP (a) to (d) with EL0PCTEN and EL1PCTEN in place of the timer bits; EL1PCTEN stands for both EL1
  -- bits, since E2H has already picked its place (Bits.cnthctl_of)
  abbrev pub cntpct_el0 : Verdict
  cntpct_el0 = first (a_to_d f cntkctl.el0pcten cnthctl.el1pcten cnthctl.el1pcten cnthctl.el0pcten) (Ok Cntpct)

  -- EL1: likewise with EL1PCTEN
  abbrev pub cntpct_el1 : Verdict
  cntpct_el1 = first (el1_rule f cnthctl.el1pcten cnthctl.el1pcten) (Ok Cntpct)

  -- EL2, EL3: reached
  unfoldable pub cntpct : Verdict
  cntpct = at_level level cntpct_el0 cntpct_el1 (Ok Cntpct) (Ok Cntpct)

  -- CNTVCT at EL0: as CNTV (a) to (c) with EL0VCTEN and EL1TVCT
  abbrev pub cntvct_el0 : Verdict
  cntvct_el0 = first (a_to_c f cntkctl.el0vcten cnthctl.el0vcten cnthctl.el1tvct) (Ok Cntvct)

  -- EL1: EL2 on and EL1TVCT 1: EL2
  abbrev pub cntvct_el1 : Verdict
  cntvct_el1 = first ((on && cnthctl.el1tvct) ⇒ Err ToEl2 ∷ []) (Ok Cntvct)

  -- EL2, EL3: reached
  unfoldable pub cntvct : Verdict
  cntvct = at_level level cntvct_el0 cntvct_el1 (Ok Cntvct) (Ok Cntvct)

  -- the SS forms give the same and are Undefined without ECV
  abbrev pub self_synchronized : Verdict → Verdict
  self_synchronized same = first (not ecv ⇒ Err Undefined ∷ []) same

-- all four are Undefined for MSR
abbrev pub read_only : Bool → Verdict → Verdict
read_only mrs same = first (not mrs ⇒ Err Undefined ∷ []) same
