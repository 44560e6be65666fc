-- What the gates tell the guest of demand 3: they stop it, answer Undefined, or let it reach CNTVCT, its own virtual timer
-- or CNTKCTL. Of CNTP and CNTPCT it meets (b) or (c) at EL0 and the EL1 rule at EL1; EL2's own timers need host.
-- Assumes nothing.
use Rattle.std.specs.Prelude.{Err, Ok}
use Prim.Native.Nat.{ℕ}
use mathlib.Core.Bool.{Bool, true, false, cond, not, ◌&&◌, and-eq-true_iff}
use mathlib.Core.List.{[], ◌∷◌}
use mathlib.Core.Logic.{◌⊎◌, ⊎_elim}
use mathlib.Core.Path.{◌≡◌, refl, ◌∙◌}
use borrow.Author.Tests.{not-true}
use Rattle.rules.specs.declared.facts.Facts.{Facts}
use Rattle.rules.specs.declared.name.Name.{Name}
use Rattle.rules.specs.declared.name.Name.TheVariants.{Cntpct, Cntvct, Cntpctss, Cntvctss, Cntp, Cntv, Cntvoff, Cnthp, Cnthvs, Cntkctl, Cnthctl, Cntpoff}
use Rattle.rules.specs.declared.name.Part.{Part}
use Rattle.rules.specs.declared.state.State.{State}
use Rattle.rules.specs.declared.state.TimerName.{TimerName}
use Rattle.rules.specs.declared.verdict.Target.{Target}
use Rattle.rules.specs.declared.verdict.Stop.TheVariants.{Undefined, ToEl1, ToEl2, ToEl3}
use Rattle.rules.specs.Words.{EL0, EL1, on, cnthctl, facts_of}
use Rattle.rules.specs.Rules.{Verdict, ◌⇒◌, first, timer}
use Rattle.rules.specs.Cntp.{denied, a_to_d, el1_rule, cntp}
use Rattle.rules.specs.Cntv.{a_to_c, cntv}
use Rattle.rules.specs.Counters.{cntpct, cntvct, self_synchronized}
use Rattle.rules.specs.El2.{cntvoff, cnthp, cnthvs}
use Rattle.rules.specs.Control as control
use Rattle.rules.specs.Verdicts.{verdict_of}
use Rattle.rules.proofs.Rules.{cond_holds, first_holds}
use Rattle.claims.specs.Guests.{TrappedGuest}

abbrev Own : TimerName → Type 0
Own TimerName.Cntp = ⊥
Own TimerName.Cntv = Unit {0}
Own TimerName.Cnthp = ⊥
Own TimerName.Cnthv = ⊥
Own TimerName.Cnthps = ⊥
Own TimerName.Cnthvs = ⊥

-- a verdict that lets it reach CNTVCT, CNTV or CNTKCTL, or nothing
abbrev pub OwnOnly : Verdict → Type 0
OwnOnly (Err Undefined) = Unit {0}
OwnOnly (Err ToEl1) = Unit {0}
OwnOnly (Err ToEl2) = Unit {0}
OwnOnly (Err ToEl3) = Unit {0}
OwnOnly (Ok Target.Cntpct) = ⊥
OwnOnly (Ok Target.Cntvct) = Unit {0}
OwnOnly (Ok Target.Cntvoff) = ⊥
OwnOnly (Ok (Target.Timer t p)) = Own t
OwnOnly (Ok Target.Cntkctl) = Unit {0}
OwnOnly (Ok Target.Cnthctl) = ⊥
OwnOnly (Ok Target.Cntpoff) = ⊥

-- the facts of such a guest
pub record GuestFacts (f : Facts) : Type 0 where
  pub low : (f.level ≡ EL0) ⊎ (f.level ≡ EL1)
  pub on : f.on ≡ true
  pub tge0 : f.tge ≡ false
  pub not_host : f.host ≡ false
  pub count_trapped : f.cnthctl.el1pcten ≡ false
  pub timer_trapped : cond f.e2h f.cnthctl.el1pten f.cnthctl.el1pcen ≡ false

pub and_false : (b : Bool) → b && false ≡ false
and_false true = refl
and_false false = refl

either_same : (b c : Bool) → cond b c c ≡ c
either_same true c = refl
either_same false c = refl

pub guest_facts : (s : State) (level : ℕ) → (level ≡ EL0) ⊎ (level ≡ EL1) → TrappedGuest s → GuestFacts (facts_of s level)
unfolding facts_of
guest_facts s level low g =
    let e2h : Bool = s.controls.e2h in
    let el1pcten : Bool = (cnthctl s).el1pcten in
    let el1bit : Bool = cond e2h (cnthctl s).el1pten (cnthctl s).el1pcen in
    let both : (not el1pcten ≡ true) × (not el1bit ≡ true) = (and-eq-true_iff (not el1pcten) (not el1bit)).0 g.trapped in
    record {
      low = low;
      on = rw g.guest.nonsecure;
      tge0 = g.guest.tge0;
      not_host = rw g.guest.tge0 (and_false (on s && e2h));
      count_trapped = not-true el1pcten both.0;
      timer_trapped = not-true el1bit both.1;
    }

denied_own : (f : Facts) → OwnOnly (denied f)
denied_own f = cond_holds OwnOnly (f.on && f.tge) (Err ToEl2) (Err ToEl1) tt tt

undefined_or : (b : Bool) (w : Verdict) → OwnOnly w → OwnOnly (first (b ⇒ Err Undefined ∷ []) w)
undefined_or b w = first_holds OwnOnly (b ⇒ Err Undefined ∷ []) w (tt, tt)

module _ (f : Facts) (g : GuestFacts f) where
  -- CNTP's (b) or (c) stops it at EL0, whatever the other bits, and the EL1 rule at EL1
  stopped_at_el0 : (k pcen pten h : Bool) (w : Verdict) (b : Bool) → f.e2h ≡ b → cond b pten pcen ≡ false → OwnOnly (first (a_to_d f k pcen pten h) w)
  stopped_at_el0 k pcen pten h w false e t = cond_holds OwnOnly (not f.host && not k) (denied f) _ (denied_own f) (rw (g.on, e, t) tt)
  stopped_at_el0 k pcen pten h w true e t =
      cond_holds OwnOnly (not f.host && not k) (denied f) _ (denied_own f) (rw (g.on, e, g.tge0, t) tt)

  stopped_at_el1 : (pcen pten : Bool) (w : Verdict) → cond f.e2h pten pcen ≡ false → OwnOnly (first (el1_rule f pcen pten) w)
  stopped_at_el1 pcen pten w t = rw (g.on, t) tt

  cntp_own : (p : Part) → OwnOnly (cntp f p)
  unfolding cntp
  cntp_own p =
      ⊎_elim
      (λ l. rw l (stopped_at_el0 f.cntkctl.el0pten f.cnthctl.el1pcen f.cnthctl.el1pten f.cnthctl.el0pten _ f.e2h refl g.timer_trapped))
      (λ l. rw l (stopped_at_el1 f.cnthctl.el1pcen f.cnthctl.el1pten _ g.timer_trapped))
      g.low

  cntpct_own : OwnOnly (cntpct f)
  unfolding cntpct
  cntpct_own =
      let bit : Bool = f.cnthctl.el1pcten in
      let trapped : cond f.e2h bit bit ≡ false = either_same f.e2h bit ∙ g.count_trapped in
      ⊎_elim (λ l. rw l (stopped_at_el0 f.cntkctl.el0pcten bit bit f.cnthctl.el0pcten _ f.e2h refl trapped))
      (λ l. rw l (stopped_at_el1 bit bit _ trapped)) g.low

  cntv_own : (p : Part) → OwnOnly (cntv f p)
  unfolding cntv
  cntv_own p =
      ⊎_elim
      (λ l. rw l (first_holds OwnOnly (a_to_c f f.cntkctl.el0vten f.cnthctl.el0vten f.cnthctl.el1tvt) _ (denied_own f, (tt, (tt, tt))) (rw g.not_host tt)))
      (λ l. rw l (first_holds OwnOnly ((f.on && f.ecv && f.cnthctl.el1tvt) ⇒ Err ToEl2 ∷ []) (timer TimerName.Cntv p) (tt, tt) tt))
      g.low

  cntvct_own : OwnOnly (cntvct f)
  unfolding cntvct
  cntvct_own =
      ⊎_elim
      (λ l. rw l (first_holds OwnOnly (a_to_c f f.cntkctl.el0vcten f.cnthctl.el0vcten f.cnthctl.el1tvct) (Ok Target.Cntvct) (denied_own f, (tt, (tt, tt))) tt))
      (λ l. rw l (first_holds OwnOnly ((f.on && f.cnthctl.el1tvct) ⇒ Err ToEl2 ∷ []) (Ok Target.Cntvct) (tt, tt) tt))
      g.low

  cntvoff_own : OwnOnly (cntvoff f)
  unfolding cntvoff
  cntvoff_own = ⊎_elim (λ l. rw l tt) (λ l. rw l tt) g.low

  cnthp_own : (p : Part) → OwnOnly (cnthp f p)
  unfolding cnthp
  cnthp_own p = ⊎_elim (λ l. rw l tt) (λ l. rw l tt) g.low

  cnthvs_own : (p : Part) → OwnOnly (cnthvs f p)
  unfolding cnthvs
  cnthvs_own p = undefined_or (not (f.vhe && f.sel2)) _ (⊎_elim (λ l. rw l tt) (λ l. rw l tt) g.low)

  cntkctl_own : OwnOnly (control.cntkctl f)
  unfolding control.cntkctl
  cntkctl_own = ⊎_elim (λ l. rw l tt) (λ l. rw l tt) g.low

  cnthctl_own : OwnOnly (control.cnthctl f)
  unfolding control.cnthctl
  cnthctl_own = ⊎_elim (λ l. rw l tt) (λ l. rw l tt) g.low

  cntpoff_own : OwnOnly (control.cntpoff f)
  unfolding control.cntpoff
  cntpoff_own = undefined_or (not f.ecv) _ (⊎_elim (λ l. rw l tt) (λ l. rw l tt) g.low)

  pub own_only : (name : Name) (mrs : Bool) → OwnOnly (verdict_of f name mrs)
  unfolding verdict_of
  own_only Cntpct mrs = undefined_or (not mrs) (cntpct f) cntpct_own
  own_only Cntvct mrs = undefined_or (not mrs) (cntvct f) cntvct_own
  own_only Cntpctss mrs =
      undefined_or (not mrs) (self_synchronized f (cntpct f)) (undefined_or (not f.ecv) (cntpct f) cntpct_own)
  own_only Cntvctss mrs =
      undefined_or (not mrs) (self_synchronized f (cntvct f)) (undefined_or (not f.ecv) (cntvct f) cntvct_own)
  own_only (Cntp p) mrs = cntp_own p
  own_only (Cntv p) mrs = cntv_own p
  own_only Cntvoff mrs = cntvoff_own
  own_only (Cnthp p) mrs = cnthp_own p
  own_only (Cnthvs p) mrs = cnthvs_own p
  own_only Cntkctl mrs = cntkctl_own
  own_only Cnthctl mrs = cnthctl_own
  own_only Cntpoff mrs = cntpoff_own
