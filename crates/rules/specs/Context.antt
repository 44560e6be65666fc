-- 'What the desk answers': when 5 holds.
use Rattle.std.specs.Prelude.{ℕ, Bool, not, ◌&&◌, ◌||◌, ◌==◌, nat_lt}
use Rattle.rules.specs.declared.state.State.{State}
use Rattle.rules.specs.Words.{EL1, EL2, EL3, on, cnthctl}

module _ (s : State) where
  open s use {features, controls}
  open features use {vhe, sel2, ecv}
  open controls use {eel2, ecven, e2h, tge}

  -- the grounds that have no level, as the lines question asks them: E2H 1 without VHE; EEL2 1 without SEL2; ECVEn or
  -- CNTHCTL bits 12 to 14 set without ECV
  unfoldable pub impossible : Bool
  impossible =
      (e2h && not vhe)
      || (eel2 && not sel2)
      || ((ecven || (cnthctl s).ecv || (cnthctl s).el1tvt || (cnthctl s).el1tvct) && not ecv)

  -- and those of an access: level above 3; level EL2 with EL2 not on; level EL1 with EL2 on and TGE 1
  unfoldable pub impossible_at : ℕ → Bool
  impossible_at level = nat_lt EL3 level || impossible || (level == EL2 && not (on s)) || (level == EL1 && on s && tge)
