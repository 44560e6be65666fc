-- The lease. A permitted write to CNTV leaves the state with CNTV written at the virtual count, so the two writes of a lease
-- leave CNTV as the laws of one timer say; and the CNTV line is a matter of CNTV, the virtual count and whether 5 holds, which
-- no other access moves.
-- Assumes nothing.
use Prim.Native.Nat.{ℕ, ◌+◌, ◌-◌, ◌^◌}
use mathlib.Core.Bool.{Bool, true, false, cond}
use mathlib.Core.List.{List, [], ◌∷◌}
use mathlib.Core.Logic.{⊎_elim}
use mathlib.Core.Path.{◌≡◌, refl, sym, ap, ap₂, subst, ◌∙◌}
use lib.Dec.{leb}
use native.Mathlib.Omega.{arith}
use borrow.Author.Tests.{le-leb, lt-leb}
use Rattle.rules.specs.declared.access.Access.{Access}
use Rattle.rules.specs.declared.answer.Lines.{Lines}
use Rattle.rules.specs.declared.facts.Facts.{Facts}
use Rattle.rules.specs.declared.name.Part.{Part}
use Rattle.rules.specs.declared.name.Part.TheVariants.{Tval, Ctl}
use Rattle.rules.specs.declared.state.Controls.{Controls}
use Rattle.rules.specs.declared.state.Features.{Features}
use Rattle.rules.specs.declared.state.State.{State}
use Rattle.rules.specs.declared.state.Timer.{Timer}
use Rattle.rules.specs.declared.state.TimerName.{TimerName}
use Rattle.rules.specs.declared.state.TimerName.TheVariants.{Cntv}
use Rattle.rules.specs.declared.verdict.Target.{Target}
use Rattle.rules.specs.Words.{offset_on, facts_of}
use Rattle.rules.specs.Names.{written_operand}
use Rattle.rules.specs.Arithmetic.{◌plus◌, signed32}
use Rattle.rules.specs.Timers.{same, timer_of, put}
use Rattle.rules.specs.States.{with_timers}
use Rattle.rules.specs.Counts.{offset_seen}
use Rattle.rules.specs.Values.{raised, read_timer, write_timer, read_of, write_of}
use Rattle.rules.specs.Answers.{done_read}
use Rattle.rules.specs.Context.{impossible}
use Rattle.rules.specs.Access.{access_of}
use Rattle.rules.specs.Lines.{line_of, lines_of}
use Rattle.rules.proofs.SixTimers.{get_put_other}
use Rattle.rules.proofs.Lease.{value_then_control, control_then_value, raised_at, masked_line, status_at, cntv_count, ahead_from, ahead_wraps, back_from, back_wraps, left_at, left_ahead, left_over, left_back, small_signed, large_signed}
use Rattle.claims.specs.Desk.{end_state, Permitted, PermittedWrite, PermittedRead}
use Rattle.claims.specs.Guests.{Own, Alike, SequencesAlike}
use Rattle.claims.specs.Lease.{virtual_at, line_at, deadline_of, Lease, Takes, Armed, Renewed, GivenBack, MaskedIsSilent, EndsAtTheDeadline, UpFrom, NotEarlyNotLate, OfTheLease, SameLease, LeftAlone, ControlsMoveNone, ticks_left, TvalTellsTheTruth, ByTheGuestAlone, LeaseKept, LeaseClaim}
use Rattle.claims.proofs.Contexts.{context_stands, contexts_stand}
use Rattle.claims.proofs.Guests.{machine, alike_still, any_sequence, one_access}
use Rattle.claims.proofs.Kept.{all_keep}
use Rattle.claims.proofs.Ways.{whatever_timers, possible}
use Rattle.claims.proofs.Writes.{writes_change_one, timer_written, reads_give}

-- ---- 1. Armed

-- a permitted write to CNTV: CNTV is written at the virtual count, and the rest stands
cntv_written : (s : State) (a : Access) (p : Part) → PermittedWrite s a (Target.Timer Cntv p) → (access_of s a).next ≡ with_timers s (put s.timers Cntv (write_timer s.timers.cntv p (virtual_at s a.count) (written_operand a)))
cntv_written s a p w =
    timer_written s a Cntv p w
    ∙ ap (λ (v : ℕ). with_timers s (put s.timers Cntv (write_timer s.timers.cntv p v (written_operand a)))) (cntv_count (offset_seen (facts_of s a.level)) s a.count)

module _ (s : State) (a : Access) where
  abbrev next : State
  next = (access_of s a).next

  -- a write of CNTV leaves the machine one that can be, its offset, and what else was permitted
  module _ (p : Part) (w : PermittedWrite s a (Target.Timer Cntv p)) where
    still_possible : impossible next ≡ false
    unfolding impossible
    still_possible = ap (λ (n : State). impossible n) (cntv_written s a p w) ∙ possible w.permitted

    cntv_after : next.timers.cntv ≡ write_timer s.timers.cntv p (virtual_at s a.count) (written_operand a)
    cntv_after = ap (λ (n : State). n.timers.cntv) (cntv_written s a p w)

    cntvoff_after : next.cntvoff ≡ s.cntvoff
    cntvoff_after = ap (λ (n : State). n.cntvoff) (cntv_written s a p w)

    still_permitted : (b : Access) (target : Target) → PermittedWrite s b target → PermittedWrite next b target
    still_permitted b target v =
        record {
          write = v.write;
          permitted = subst (λ (n : State). Permitted n b target) (sym (cntv_written s a p w)) (whatever_timers _ v.permitted);
        }

module _ (s : State) (value control : Access) (t : Takes s value control) where
  value_first : Lease (end_state access_of s (value ∷ control ∷ [])) (deadline_of s value)
  unfolding write_timer
  value_first =
      let then : PermittedWrite (next s value) control (Target.Timer Cntv Ctl) = still_permitted s value Tval t.tval control _ t.ctl in
      record {
        possible = still_possible (next s value) control Ctl then;
        cntv = cntv_after (next s value) control Ctl then ∙ rw (cntv_after s value Tval t.tval) (value_then_control s.timers.cntv (virtual_at s value.count) (written_operand value) (written_operand control) t.enable t.unmask);
      }

  control_first : Lease (end_state access_of s (control ∷ value ∷ [])) (deadline_of s value)
  unfolding write_timer
  control_first =
      let then : PermittedWrite (next s control) value (Target.Timer Cntv Tval) = still_permitted s control Ctl t.ctl value _ t.tval in
      record {
        possible = still_possible (next s control) value Tval then;
        cntv = cntv_after (next s control) value Tval then ∙ rw (cntv_after s control Ctl t.ctl, cntvoff_after s control Ctl t.ctl) (control_then_value s.timers.cntv (virtual_at s value.count) (written_operand value) (written_operand control) t.enable t.unmask);
      }

armed : Armed
armed s value control both t order =
    ⊎_elim (λ e. subst (λ (l : List Access). Lease (end_state access_of s l) (deadline_of s value)) (sym e) (value_first s value control t))
    (λ e. subst (λ (l : List Access). Lease (end_state access_of s l) (deadline_of s value)) (sym e) (control_first s value control t)) order

renewed : Renewed
unfolding write_timer
renewed s old value lease w =
    record { possible = still_possible s value Tval w; cntv = cntv_after s value Tval w ∙ rw lease.cntv }

-- ---- 2. Not early, not late

cntv_of_either : (b : Bool) (x y : Lines) → (cond b x y).cntv ≡ cond b x.cntv y.cntv
cntv_of_either true x y = refl
cntv_of_either false x y = refl

-- the line is down on a machine that cannot be, and else CNTV's, at the virtual count
line_is : (s : State) (physical : ℕ) → line_at s physical ≡ cond (impossible s) false (raised s.timers.cntv (virtual_at s physical))
unfolding lines_of line_of
line_is s physical = cntv_of_either (impossible s) _ _ ∙ rw (cntv_count (offset_on s) s physical)

given_back : GivenBack
unfolding write_timer
given_back s control physical w off =
    line_is (next s control) physical ∙ rw (still_possible s control Ctl w, cntv_after s control Ctl w, off)

either_down : (b : Bool) → cond b false false ≡ false
either_down true = refl
either_down false = refl

masked_is_silent : MaskedIsSilent
masked_is_silent s physical masked =
    let cntv : Timer = s.timers.cntv in
    let down : raised cntv (virtual_at s physical) ≡ false = ap (λ (m : Bool). raised (timer_of cntv.cval cntv.enable m) (virtual_at s physical)) masked ∙ masked_line cntv.cval (virtual_at s physical) cntv.enable in
    line_is s physical ∙ rw down (either_down (impossible s))

line_of_lease : (s : State) (deadline : ℕ) → Lease s deadline → (physical : ℕ) → line_at s physical ≡ leb deadline (virtual_at s physical)
line_of_lease s deadline lease physical =
    line_is s physical ∙ rw (lease.possible, lease.cntv) (raised_at deadline (virtual_at s physical))

-- what a permitted read of CNTV gives
cntv_read : (s : State) (a : Access) (p : Part) → PermittedRead s a (Target.Timer Cntv p) → (access_of s a).answer ≡ done_read a.word (read_timer s.timers.cntv p (virtual_at s a.count) (virtual_at s a.count))
unfolding read_of
cntv_read s a p r =
    let f : Facts = facts_of s a.level in
    reads_give s a (Target.Timer Cntv p) r
    ∙ rw (cntv_count (offset_seen f) s a.count, cntv_count f.offset s a.count)

ends_at_the_deadline : EndsAtTheDeadline
unfolding read_timer
ends_at_the_deadline s deadline lease =
    record {
      line = line_of_lease s deadline lease;
      status = λ a r. cntv_read s a Ctl r ∙ rw lease.cntv (ap (done_read a.word) (status_at deadline (virtual_at s a.count)));
    }

up_from : (s : State) (deadline : ℕ) → Lease s deadline → UpFrom s deadline
up_from s deadline lease =
    record {
      down = λ physical h. line_of_lease s deadline lease physical ∙ lt-leb deadline (virtual_at s physical) h;
      up = λ physical h. line_of_lease s deadline lease physical ∙ le-leb deadline (virtual_at s physical) h;
    }

not_early_not_late : NotEarlyNotLate
not_early_not_late s v x fits lease =
    let from : UpFrom s (v plus signed32 x) = up_from s (v plus signed32 x) lease in
    record {
      ahead = λ n a h. subst (UpFrom s) (ahead_from x n a.low a.small v h ∙ omega arith) from;
      back = λ k b h.
          let is : UpFrom s (v - k) = subst (UpFrom s) (back_from x k b.low b.small v fits h) from in
          (is, λ physical later. is.up physical (omega arith));
      ahead_wraps = λ n a h.
          let is : UpFrom s (v + n - 2 ^ 64) = subst (UpFrom s) (ahead_wraps x n a.low a.small v fits h) from in
          (is, λ physical later. is.up physical (omega (arith, a.small)));
      back_wraps = λ k b h. subst (UpFrom s) (back_wraps x k b.low b.small v h) from;
    }

-- ---- 3. Left alone

-- 5 on both or on neither, and the same CNTV: the same lease
module _ (s t : State) (contexts : impossible s ≡ impossible t) (cntv : s.timers.cntv ≡ t.timers.cntv) where
  same_lease : SameLease s t
  same_lease =
      record {
        timer = cntv;
        deadline = λ d lease. record { possible = sym contexts ∙ lease.possible; cntv = sym cntv ∙ lease.cntv };
        line = λ p q same. line_is s p ∙ rw (contexts, cntv, same) (sym (line_is t q));
      }

-- what a lease stands on is as it was
record Kept (old new : State) : Type 0 where
  cntv : new.timers.cntv ≡ old.timers.cntv
  cntvoff : new.cntvoff ≡ old.cntvoff

kept_here : (s : State) → Kept s s
kept_here s = record { cntv = refl; cntvoff = refl }

kept_on : (s m n : State) → Kept s m → Kept m n → Kept s n
kept_on s m n p q = record { cntv = q.cntv ∙ p.cntv; cntvoff = q.cntvoff ∙ p.cntvoff }

-- a write to another timer, once over that timer
by_timer : (f : Facts) (s : State) (count : ℕ) (t : TimerName) (p : Part) (x : ℕ) → (b : Bool) → same t Cntv ≡ b → (same t Cntv ≡ true → ⊥) → Kept s (write_of f s count (Target.Timer t p) x)
unfolding write_of
by_timer f s count t p x true e not-it = absurd (not-it e)
by_timer f s count t p x false e not-it = record { cntv = get_put_other s.timers t Cntv _ e; cntvoff = refl }

elsewhere : (f : Facts) (s : State) (count : ℕ) (target : Target) (x : ℕ) → (OfTheLease target → ⊥) → Kept s (write_of f s count target x)
unfolding write_of
elsewhere f s count Target.Cntpct x not-it = kept_here s
elsewhere f s count Target.Cntvct x not-it = kept_here s
elsewhere f s count Target.Cntvoff x not-it = absurd (not-it tt)
elsewhere f s count (Target.Timer t p) x not-it = by_timer f s count t p x (same t Cntv) refl not-it
elsewhere f s count Target.Cntkctl x not-it = record { cntv = refl; cntvoff = refl }
elsewhere f s count Target.Cnthctl x not-it = record { cntv = refl; cntvoff = refl }
elsewhere f s count Target.Cntpoff x not-it = record { cntv = refl; cntvoff = refl }

left_alone : LeftAlone
left_alone s accesses none =
    let end : State = end_state access_of s accesses in
    let kept : Kept s end = all_keep OfTheLease Kept kept_here kept_on elsewhere s accesses none in
    (kept.cntvoff, same_lease s end (sym (contexts_stand s accesses).lines) (sym kept.cntv))

one_moves_none : (register : Target) → (OfTheLease register → ⊥) → (s : State) (a : Access) → PermittedWrite s a register → SameLease s (access_of s a).next
one_moves_none register other s a w =
    let kept : Kept s (access_of s a).next = subst (Kept s) (sym (writes_change_one s a register w).next) (elsewhere _ s _ register _ other) in
    same_lease s (access_of s a).next (sym (context_stands s a).lines) (sym kept.cntv)

controls_move_none : ControlsMoveNone
controls_move_none =
    record {
      cntkctl = one_moves_none _ (λ no. no);
      cnthctl = one_moves_none _ (λ no. no);
      cntpoff = one_moves_none _ (λ no. no);
    }

-- ---- 4. TVAL tells the truth

tval_tells_the_truth : TvalTellsTheTruth
unfolding read_timer
tval_tells_the_truth =
    record {
      reads = λ s v x a lease r. cntv_read s a Tval r ∙ rw lease.cntv (ap (done_read a.word) (left_at (v plus signed32 x) (virtual_at s a.count)));
      signed = λ v x w fits. ⊎_elim (λ h. small_signed (ticks_left v x w) h) (λ h. large_signed (ticks_left v x w) h.0 h.1) fits;
      ahead = λ v x n w f a h k. left_ahead x n a.low a.small v w f h k ∙ omega arith;
      over = λ v x n w f a h. left_over x n a.low a.small v w f h;
      back = λ v x k w f b h i. left_back x k b.low b.small v w f h i;
    }

-- ---- 5. By the guest alone

impossible_alike : (s t : State) → Alike s t → impossible s ≡ impossible t
unfolding impossible
impossible_alike s t alike =
    ap₂ (λ (f : Features) (c : Controls). impossible (machine f c s)) alike.features alike.controls

by_the_guest_alone : ByTheGuestAlone
by_the_guest_alone s t as₁ as₂ guest alike shown =
    let end : SequencesAlike access_of s t as₁ as₂ = any_sequence access_of one_access s t as₁ as₂ guest alike shown in
    let m : State = end_state access_of s as₁ in
    let n : State = end_state access_of t as₂ in
    let again : Alike m n = alike_still s t m n end.states alike in
    same_lease m n (impossible_alike m n again) (ap (λ (x : Own). x.cntv) again.own)

-- ---- the claim

lease_kept : LeaseKept
lease_kept s value control both accesses takes order none =
    let begun : State = end_state access_of s both in
    not_early_not_late (end_state access_of begun accesses) (virtual_at s value.count) (written_operand value) (omega arith)
    ((left_alone begun accesses none).1.deadline (deadline_of s value) (armed s value control both takes order))

pub lease_claim : LeaseClaim
lease_claim =
    record {
      kept = lease_kept;
      armed = armed;
      renewed = renewed;
      given_back = given_back;
      masked_is_silent = masked_is_silent;
      ends_at_the_deadline = ends_at_the_deadline;
      not_early_not_late = not_early_not_late;
      left_alone = left_alone;
      controls_move_none = controls_move_none;
      tval_tells_the_truth = tval_tells_the_truth;
      by_the_guest_alone = by_the_guest_alone;
    }
