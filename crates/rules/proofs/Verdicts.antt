-- What a timer's gate can say, once over the families: Undefined, a trap, or a register of some timer at the part that is
-- asked. So what holds of those holds of every such verdict. And what the gates of the control registers can say.
-- Assumes nothing.
use Rattle.std.specs.Prelude.{Err, Ok}
use mathlib.Core.Bool.{Bool, cond, not, ◌&&◌}
use mathlib.Core.List.{[], ◌∷◌}
use Rattle.rules.specs.declared.facts.Facts.{Facts}
use Rattle.rules.specs.declared.name.Part.{Part}
use Rattle.rules.specs.declared.state.TimerName.{TimerName}
use Rattle.rules.specs.declared.state.TimerName.TheVariants.{Cntp, Cntv, Cnthp, Cnthv, Cnthps, Cnthvs}
use Rattle.rules.specs.declared.verdict.Target.TheVariants.{Cntkctl, Cnthctl, Cntpoff}
use Rattle.rules.specs.declared.verdict.Stop.TheVariants.{Undefined, ToEl1, ToEl2, ToEl3}
use Rattle.rules.specs.Rules.{Verdict, ◌⇒◌, first, timer}
use Rattle.rules.specs.Cntp.{denied, a_to_d, cntp_el0, cntp_el1, cntp_el2, cntp_el3, cntp}
use Rattle.rules.specs.Cntv.{a_to_c, cntv_el0, cntv_el1, cntv_el2, cntv_el3, cntv}
use Rattle.rules.specs.El2.{cnthp, cnthvs}
use Rattle.rules.specs.Control.{cntkctl, cnthctl, cntpoff}
use Rattle.rules.proofs.Rules.{cond_holds, first_holds, at_level_holds}

module _ (P : Verdict → Type 0) (p : Part) (undefined : P (Err Undefined)) (one : P (Err ToEl1)) (two : P (Err ToEl2)) (reached : (t : TimerName) → P (timer t p)) where
  denied_holds : (f : Facts) → P (denied f)
  denied_holds f = cond_holds P (f.on && f.tge) (Err ToEl2) (Err ToEl1) two one

  redirected : (a b : Bool) (t u v : TimerName) → P (first (a ⇒ timer t p ∷ b ⇒ timer u p ∷ []) (timer v p))
  redirected a b t u v =
      first_holds P (a ⇒ timer t p ∷ b ⇒ timer u p ∷ []) (timer v p) (reached t, (reached u, tt)) (reached v)

  trapped_or : (b : Bool) (t : TimerName) → P (first (b ⇒ Err ToEl2 ∷ []) (timer t p))
  trapped_or b t = first_holds P (b ⇒ Err ToEl2 ∷ []) (timer t p) (two, tt) (reached t)

  undefined_or : (b : Bool) (w : Verdict) → P w → P (first (b ⇒ Err Undefined ∷ []) w)
  undefined_or b w = first_holds P (b ⇒ Err Undefined ∷ []) w (undefined, tt)

  module _ (f : Facts) where
    open f use {level, on, host, secure, e2h, sel2, ecv, vhe, eel2, cntkctl, cnthctl}

    pub cntp_holds : P (cntp f p)
    unfolding cntp
    cntp_holds =
        at_level_holds P level (cntp_el0 f p) (cntp_el1 f p) (cntp_el2 f p) (cntp_el3 f p)
        (first_holds P (a_to_d f cntkctl.el0pten cnthctl.el1pcen cnthctl.el1pten cnthctl.el0pten) _ (denied_holds f, (two, (two, (two, tt)))) (redirected (host && secure && sel2) (host && not secure) Cnthps Cnthp Cntp))
        (trapped_or (on && not (cond e2h cnthctl.el1pten cnthctl.el1pcen)) Cntp)
        (redirected (e2h && secure && sel2) (e2h && not secure) Cnthps Cnthp Cntp)
        (reached Cntp)

    pub cntv_holds : P (cntv f p)
    unfolding cntv
    cntv_holds =
        at_level_holds P level (cntv_el0 f p) (cntv_el1 f p) (cntv_el2 f p) (cntv_el3 f p)
        (first_holds P (a_to_c f cntkctl.el0vten cnthctl.el0vten cnthctl.el1tvt) _ (denied_holds f, (two, (two, tt))) (redirected (host && secure && sel2) (host && not secure) Cnthvs Cnthv Cntv))
        (trapped_or (on && ecv && cnthctl.el1tvt) Cntv)
        (redirected (e2h && secure && sel2) (e2h && not secure) Cnthvs Cnthv Cntv)
        (reached Cntv)

    pub cnthp_holds : P (cnthp f p)
    unfolding cnthp
    cnthp_holds =
        at_level_holds P level (Err Undefined) (Err Undefined) (timer Cnthp p) (timer Cnthp p) undefined undefined (reached Cnthp) (reached Cnthp)

    pub cnthvs_holds : P (cnthvs f p)
    unfolding cnthvs
    cnthvs_holds =
        let own : Verdict = timer Cnthvs p in
        undefined_or (not (vhe && sel2)) _
        (at_level_holds P level (Err Undefined) (Err Undefined) (first (not secure ⇒ Err Undefined ∷ []) own) (first (not eel2 ⇒ Err Undefined ∷ []) own)
        undefined
        undefined
        (undefined_or (not secure) own (reached Cnthvs))
        (undefined_or (not eel2) own (reached Cnthvs)))

-- of a control register: itself, or for CNTKCTL also CNTHCTL; Undefined; for CNTPOFF a trap to EL3
module _ (P : Verdict → Type 0) (undefined : P (Err Undefined)) where
  module _ (itself : P (Ok Cntkctl)) (redirected : P (Ok Cnthctl)) (f : Facts) where
    open f use {level, e2h}

    pub cntkctl_holds : P (cntkctl f)
    unfolding cntkctl
    cntkctl_holds =
        at_level_holds P level (Err Undefined) (Ok Cntkctl) (first (e2h ⇒ Ok Cnthctl ∷ []) (Ok Cntkctl)) (Ok Cntkctl) undefined itself
        (first_holds P (e2h ⇒ Ok Cnthctl ∷ []) (Ok Cntkctl) (redirected, tt) itself)
        itself

  pub cnthctl_holds : P (Ok Cnthctl) → (f : Facts) → P (cnthctl f)
  unfolding cnthctl
  cnthctl_holds itself f =
      at_level_holds P f.level (Err Undefined) (Err Undefined) (Ok Cnthctl) (Ok Cnthctl) undefined undefined itself itself

  module _ (three : P (Err ToEl3)) (itself : P (Ok Cntpoff)) (f : Facts) where
    open f use {level, ecv, ecven}

    pub cntpoff_holds : P (cntpoff f)
    unfolding cntpoff
    cntpoff_holds =
        first_holds P (not ecv ⇒ Err Undefined ∷ []) _ (undefined, tt)
        (at_level_holds P level (Err Undefined) (Err Undefined) (first (not ecven ⇒ Err ToEl3 ∷ []) (Ok Cntpoff)) (Ok Cntpoff) undefined undefined
        (first_holds P (not ecven ⇒ Err ToEl3 ∷ []) (Ok Cntpoff) (three, tt) itself)
        itself)
