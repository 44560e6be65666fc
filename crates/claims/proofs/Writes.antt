-- A permitted write leaves what `write_of` says. That changes one register: for a timer, the others are as they were by the
-- laws of put, and in it one part by computation.
-- Assumes nothing.
use Rattle.std.specs.Prelude.{Err, Ok}
use Prim.Native.Nat.{ℕ}
use mathlib.Core.Bool.{false}
use mathlib.Core.Logic.{⊎_elim}
use mathlib.Core.Path.{◌≡◌, refl, ap, sym, subst, ◌∙◌}
use Rattle.rules.specs.declared.access.Access.{Access}
use Rattle.rules.specs.declared.answer.Outcome.{Outcome}
use Rattle.rules.specs.declared.facts.Facts.{Facts}
use Rattle.rules.specs.declared.name.Name.{Name}
use Rattle.rules.specs.declared.name.Name.TheVariants.{Cntpct, Cntvct, Cntpctss, Cntvctss, Cntp, Cntv, Cntvoff, Cnthp, Cnthvs, Cntkctl, Cnthctl, Cntpoff}
use Rattle.rules.specs.declared.name.Part.{Part}
use Rattle.rules.specs.declared.name.Part.TheVariants.{Tval, Ctl, Cval}
use Rattle.rules.specs.declared.state.State.{State}
use Rattle.rules.specs.declared.state.Timer.{Timer}
use Rattle.rules.specs.declared.state.TimerName.{TimerName}
use Rattle.rules.specs.declared.verdict.Target.{Target}
use Rattle.rules.specs.Rules.{Verdict}
use Rattle.rules.specs.declared.verdict.Stop.TheVariants.{Undefined, ToEl1, ToEl2, ToEl3}
use Rattle.rules.specs.Words.{facts_of}
use Rattle.rules.specs.Names.{written_operand}
use Rattle.rules.specs.El2.{cntvoff}
use Rattle.rules.specs.Timers.{get, put}
use Rattle.rules.specs.States.{with_timers}
use Rattle.rules.specs.Counts.{used_count}
use Rattle.rules.specs.Values.{write_timer, write_of}
use Rattle.rules.specs.Verdicts.{verdict_of}
use Rattle.rules.specs.Access.{permitted, access_of}
use Rattle.rules.proofs.Rules.{at_level_holds}
use Rattle.rules.proofs.Verdicts.{cntp_holds, cntv_holds, cnthp_holds, cnthvs_holds, cntkctl_holds, cnthctl_holds, cntpoff_holds}
use Rattle.rules.proofs.SixTimers.{get_put_same}
use Rattle.claims.specs.Desk.{PermittedWrite}
use Rattle.claims.specs.Writes.{OnePart, OneRegister, WritesChangeOne, ReadsGive, DoneIsPermitted}
use Rattle.claims.proofs.Ways.{ways, ends}

-- ---- no write reaches a counter

abbrev Writable : Verdict → Type 0
Writable (Err Undefined) = Unit {0}
Writable (Err ToEl1) = Unit {0}
Writable (Err ToEl2) = Unit {0}
Writable (Err ToEl3) = Unit {0}
Writable (Ok Target.Cntpct) = ⊥
Writable (Ok Target.Cntvct) = ⊥
Writable (Ok Target.Cntvoff) = Unit {0}
Writable (Ok (Target.Timer t p)) = Unit {0}
Writable (Ok Target.Cntkctl) = Unit {0}
Writable (Ok Target.Cnthctl) = Unit {0}
Writable (Ok Target.Cntpoff) = Unit {0}

cntvoff_writable : (f : Facts) → Writable (cntvoff f)
unfolding cntvoff
cntvoff_writable f =
    at_level_holds Writable f.level (Err Undefined) (Err Undefined) (Ok Target.Cntvoff) (Ok Target.Cntvoff) tt tt tt tt

msr_writable : (f : Facts) (name : Name) → Writable (verdict_of f name false)
unfolding verdict_of
msr_writable f Cntpct = tt
msr_writable f Cntvct = tt
msr_writable f Cntpctss = tt
msr_writable f Cntvctss = tt
msr_writable f (Cntp p) = cntp_holds Writable p tt tt tt (λ _. tt) f
msr_writable f (Cntv p) = cntv_holds Writable p tt tt tt (λ _. tt) f
msr_writable f Cntvoff = cntvoff_writable f
msr_writable f (Cnthp p) = cnthp_holds Writable p tt tt tt (λ _. tt) f
msr_writable f (Cnthvs p) = cnthvs_holds Writable p tt tt tt (λ _. tt) f
msr_writable f Cntkctl = cntkctl_holds Writable tt tt tt f
msr_writable f Cnthctl = cnthctl_holds Writable tt tt f
msr_writable f Cntpoff = cntpoff_holds Writable tt tt tt f

permitted_writable : {s : State} {a : Access} {target : Target} → PermittedWrite s a target → Writable (Ok target)
permitted_writable {s} {a} {target} w =
    subst Writable (rw w.write at w.permitted.verdict) (msr_writable (facts_of s a.level) w.permitted.name)

-- ---- and what a write reaches, it changes alone

one_part : (t : Timer) (p : Part) (used x : ℕ) → OnePart p t (write_timer t p used x)
unfolding write_timer
one_part t Tval used x = refl
one_part t Ctl used x = refl
one_part t Cval used x = refl

one_register : (f : Facts) (s : State) (count : ℕ) (target : Target) (x : ℕ) → Writable (Ok target) → OneRegister target s (write_of f s count target x)
unfolding write_of
one_register f s count Target.Cntpct x w = w
one_register f s count Target.Cntvct x w = w
one_register f s count Target.Cntvoff x w = refl
one_register f s count Target.Cntkctl x w = refl
one_register f s count Target.Cnthctl x w = refl
one_register f s count Target.Cntpoff x w = refl
one_register f s count (Target.Timer t p) x w =
    let old : Timer = get s.timers t in
    let new : Timer = write_timer old p (used_count f s count t) x in
    let there : get (put s.timers t new) t ≡ new = get_put_same s.timers t new in
    (ap (λ (y : Timer). with_timers s (put s.timers t y)) (sym there), subst (λ (y : Timer). OnePart p old y) (sym there) (one_part old p (used_count f s count t) x))

pub writes_change_one : WritesChangeOne
unfolding permitted
writes_change_one s a target w =
    let f : Facts = facts_of s a.level in
    let end : access_of s a ≡ permitted f s a target = ends s a target w.permitted in
    let left : (access_of s a).next ≡ write_of f s a.count target (written_operand a) = ap (λ (o : Outcome). o.next) end ∙ rw w.write in
    record {
      answer = ap (λ (o : Outcome). o.answer) end ∙ rw w.write;
      next = left;
      one = subst (λ (n : State). OneRegister target s n) (sym left) (one_register f s a.count target (written_operand a) (permitted_writable w));
    }

-- a permitted write to a timer: the timer is written at the count used, and the rest stands
pub timer_written : (s : State) (a : Access) (t : TimerName) (p : Part) → PermittedWrite s a (Target.Timer t p) → (access_of s a).next ≡ with_timers s (put s.timers t (write_timer (get s.timers t) p (used_count (facts_of s a.level) s a.count t) (written_operand a)))
unfolding write_of
timer_written s a t p w = (writes_change_one s a (Target.Timer t p) w).next

pub reads_give : ReadsGive
unfolding permitted
reads_give s a target r = ap (λ (o : Outcome). o.answer) (ends s a target r.permitted) ∙ rw r.read

pub done_is_permitted : DoneIsPermitted
done_is_permitted s a is-done =
    ⊎_elim (λ w. absurd (w.1 (sym (ap (λ (o : Outcome). o.answer.number) w.2) ∙ is-done))) (λ w. (w.0, w.1))
    (ways s a)
