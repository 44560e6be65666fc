-- 'Who may touch what', CNTP family (source document 001); CTL and CVAL share the gates of TVAL. The count used is in Counts.
use Rattle.std.specs.Prelude.{Bool, not, if◌then◌else◌, ◌&&◌, List, [], ◌∷◌, ◌++◌, Err}
use Rattle.rules.specs.declared.facts.Facts.{Facts}
use Rattle.rules.specs.declared.state.TimerName.TheVariants.{Cntp, Cnthp, Cnthps}
use Rattle.rules.specs.declared.name.Part.{Part}
use Rattle.rules.specs.declared.verdict.Stop.TheVariants.{ToEl1, ToEl2}
use Rattle.rules.specs.Rules.{Verdict, Rule, ◌⇒◌, first, at_level, timer}

module _ (f : Facts) where
  open f use {level, on, host, secure, e2h, tge, sel2, cntkctl, cnthctl}

  -- the trap of (a): to EL2 if EL2 on and TGE 1, else to EL1
  abbrev pub denied : Verdict
  denied = if on && tge then Err ToEl2 else Err ToEl1

  -- EL0, (a) to (d), over the bits that they read: CNTKCTL.EL0PTEN, EL1PCEN, EL1PTEN, CNTHCTL.EL0PTEN
  abbrev pub a_to_d : Bool → Bool → Bool → Bool → List Rule
  a_to_d k_el0pten el1pcen el1pten h_el0pten =
      (not host && not k_el0pten) ⇒ denied  -- (a)
      ∷ (on && not e2h && not el1pcen) ⇒ Err ToEl2  -- (b)
      ∷ (on && e2h && not tge && not el1pten) ⇒ Err ToEl2  -- (c)
      ∷ (host && not h_el0pten) ⇒ Err ToEl2  -- (d)
      ∷ []

  -- EL1, the rule over the bits that it reads: EL2 on and the EL1 bit (PCEN for E2H 0, PTEN for E2H 1) 0: EL2
  abbrev pub el1_rule : Bool → Bool → List Rule
  el1_rule el1pcen el1pten = (on && not (if e2h then el1pten else el1pcen)) ⇒ Err ToEl2 ∷ []

  -- EL0: (a) to (d) with the timer bits, then (e), (f), (g)
  abbrev pub cntp_el0 : Part → Verdict
  cntp_el0 p =
      first
      (a_to_d cntkctl.el0pten cnthctl.el1pcen cnthctl.el1pten cnthctl.el0pten
      ++ (host && secure && sel2) ⇒ timer Cnthps p  -- (e)
      ∷ (host && not secure) ⇒ timer Cnthp p  -- (f)
      ∷ [])
      (timer Cntp p)  -- (g)

  -- EL1: that rule; else CNTP
  abbrev pub cntp_el1 : Part → Verdict
  cntp_el1 p = first (el1_rule cnthctl.el1pcen cnthctl.el1pten) (timer Cntp p)

  -- EL2: E2H 1, secure, SEL2: CNTHPS; E2H 1, not secure: CNTHP; else CNTP
  abbrev pub cntp_el2 : Part → Verdict
  cntp_el2 p =
      first
      ((e2h && secure && sel2) ⇒ timer Cnthps p
      ∷ (e2h && not secure) ⇒ timer Cnthp p
      ∷ [])
      (timer Cntp p)

  -- EL3: CNTP
  abbrev pub cntp_el3 : Part → Verdict
  cntp_el3 p = timer Cntp p

  unfoldable pub cntp : Part → Verdict
  cntp p = at_level level (cntp_el0 p) (cntp_el1 p) (cntp_el2 p) (cntp_el3 p)
