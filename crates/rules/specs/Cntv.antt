-- 'Who may touch what', CNTV family (source documents 000 and, for EL1, 002). The count used is in Counts.
use Rattle.std.specs.Prelude.{Bool, not, ◌&&◌, List, [], ◌∷◌, ◌++◌, Err}
use Rattle.rules.specs.declared.facts.Facts.{Facts}
use Rattle.rules.specs.declared.state.TimerName.TheVariants.{Cntv, Cnthv, Cnthvs}
use Rattle.rules.specs.declared.name.Part.{Part}
use Rattle.rules.specs.declared.verdict.Stop.TheVariants.{ToEl2}
use Rattle.rules.specs.Rules.{Verdict, Rule, ◌⇒◌, first, at_level, timer}
use Rattle.rules.specs.Cntp.{denied}

module _ (f : Facts) where
  open f use {level, on, host, secure, e2h, sel2, ecv, cntkctl, cnthctl}

  -- EL0, (a) to (c), over the bits that they read: CNTKCTL.EL0VTEN, CNTHCTL.EL0VTEN, EL1TVT
  abbrev pub a_to_c : Bool → Bool → Bool → List Rule
  a_to_c k_el0vten h_el0vten el1tvt =
      (not host && not k_el0vten) ⇒ denied f  -- (a)
      ∷ (host && not h_el0vten) ⇒ Err ToEl2  -- (b)
      ∷ (on && not host && ecv && el1tvt) ⇒ Err ToEl2  -- (c)
      ∷ []

  -- EL0: (a) to (c) with the timer bits, then (d), (e), (f)
  abbrev pub cntv_el0 : Part → Verdict
  cntv_el0 p =
      first
      (a_to_c cntkctl.el0vten cnthctl.el0vten cnthctl.el1tvt
      ++ (host && secure && sel2) ⇒ timer Cnthvs p  -- (d)
      ∷ (host && not secure) ⇒ timer Cnthv p  -- (e)
      ∷ [])
      (timer Cntv p)  -- (f)

  -- EL1: EL2 on, ECV, EL1TVT 1: EL2; else CNTV
  abbrev pub cntv_el1 : Part → Verdict
  cntv_el1 p = first ((on && ecv && cnthctl.el1tvt) ⇒ Err ToEl2 ∷ []) (timer Cntv p)

  -- EL2: E2H 1, secure, SEL2: CNTHVS; E2H 1, not secure: CNTHV; else CNTV
  abbrev pub cntv_el2 : Part → Verdict
  cntv_el2 p =
      first
      ((e2h && secure && sel2) ⇒ timer Cnthvs p
      ∷ (e2h && not secure) ⇒ timer Cnthv p
      ∷ [])
      (timer Cntv p)

  -- EL3: CNTV
  abbrev pub cntv_el3 : Part → Verdict
  cntv_el3 p = timer Cntv p

  unfoldable pub cntv : Part → Verdict
  cntv p = at_level level (cntv_el0 p) (cntv_el1 p) (cntv_el2 p) (cntv_el3 p)
