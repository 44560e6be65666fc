-- 'Words used below': EL2 on, host, secure, offset on, physical trapped; and the facts of a state at a level, which
-- collect for the rules what they ask. The word 'controls' is the struct `Controls`.
use Rattle.std.specs.Prelude.{ℕ, Bool, not, if◌then◌else◌, ◌&&◌, ◌||◌, ◌==◌}
use Rattle.rules.specs.declared.state.State.{State}
use Rattle.rules.specs.declared.facts.Facts.{Facts}
use Rattle.rules.specs.declared.facts.Cntkctl.{Cntkctl}
use Rattle.rules.specs.declared.facts.Cnthctl.{Cnthctl}
use Rattle.rules.specs.Bits.{cntkctl_of, cnthctl_of}

-- the exception levels
abbrev pub EL0 : ℕ
EL0 = 0

abbrev pub EL1 : ℕ
EL1 = 1

abbrev pub EL2 : ℕ
EL2 = 2

abbrev pub EL3 : ℕ
EL3 = 3

module _ (s : State) where
  open s use {features, controls}
  open features use {vhe, sel2, ecv}
  open controls use {ns, eel2, ecven, e2h, tge}

  -- CNTKCTL and CNTHCTL by their bits
  abbrev pub cntkctl : Cntkctl
  cntkctl = cntkctl_of controls.cntkctl

  abbrev pub cnthctl : Cnthctl
  cnthctl = cnthctl_of e2h controls.cnthctl

  -- EL2 on: NS is 1, or SEL2 and EEL2 are 1
  abbrev pub on : Bool
  on = ns || (sel2 && eel2)

  -- host: EL2 on, E2H 1 and TGE 1
  abbrev pub host : Bool
  host = on && e2h && tge

  -- secure: NS is 0, or the level is EL3
  abbrev pub secure : ℕ → Bool
  secure level = not ns || level == EL3

  -- offset on: ECV, EL2 on, ECVEn 1, CNTHCTL.ECV 1, not host
  abbrev pub offset_on : Bool
  offset_on = ecv && on && ecven && cnthctl.ecv && not host

  -- physical trapped: EL1PCTEN 0 and EL1PCEN (E2H 0) or EL1PTEN (E2H 1) 0
  abbrev pub physical_trapped : Bool
  physical_trapped = not cnthctl.el1pcten && not (if e2h then cnthctl.el1pten else cnthctl.el1pcen)

  -- what the rules ask of the state at a level
  unfoldable pub facts_of : ℕ → Facts
  facts_of level =
      record {
        level = level;
        vhe = vhe;
        sel2 = sel2;
        ecv = ecv;
        eel2 = eel2;
        ecven = ecven;
        e2h = e2h;
        tge = tge;
        on = on;
        host = host;
        secure = secure level;
        offset = offset_on;
        cntkctl = cntkctl;
        cnthctl = cnthctl;
      }
