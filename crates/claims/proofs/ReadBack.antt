-- What a TVAL write took is read back. The count that the write added is the count that the read takes off, both wrapped at
-- 64 bits; and taking 32 bits as signed does not touch the low 32.
-- Assumes nothing.
use Rattle.std.specs.Prelude.{Err, Ok}
use Prim.Native.Nat.{ℕ, ◌^◌, ◌<◌}
use mathlib.Core.Bool.{Bool, true, false, cond}
use mathlib.Core.List.{◌∷◌}
use mathlib.Core.Path.{◌≡◌, refl, sym, ap, subst, ◌∙◌}
use native.Mathlib.Omega.{arith}
use Rattle.rules.specs.declared.access.Access.{Access}
use Rattle.rules.specs.declared.answer.Value.{Value}
use Rattle.rules.specs.declared.name.Name.{Name}
use Rattle.rules.specs.declared.name.Name.TheVariants.{Cntpct, Cntvct, Cntpctss, Cntvctss, Cntp, Cntv, Cntvoff, Cnthp, Cnthvs, Cntkctl, Cnthctl, Cntpoff}
use Rattle.rules.specs.declared.name.Part.{Part}
use Rattle.rules.specs.declared.name.Part.TheVariants.{Tval, Ctl, Cval}
use Rattle.rules.specs.declared.state.Timer.{Timer}
use Rattle.rules.specs.declared.state.Timers.{Timers}
use Rattle.rules.specs.declared.verdict.Target.{Target}
use Rattle.rules.specs.Rules.{Verdict}
use Rattle.rules.specs.declared.verdict.Stop.TheVariants.{Undefined, ToEl1, ToEl2, ToEl3}
use Rattle.rules.specs.Verdicts.{verdict_of}
use Rattle.rules.specs.Words.{facts_of}
use Rattle.rules.specs.Names.{is_mrs, written_operand}
use Rattle.rules.specs.Timers.{same, get, put}
use Rattle.rules.specs.States.{with_timers}
use Rattle.rules.specs.Values.{read_tval, write_ctl, read_timer, write_timer, read_of, write_of}
use Rattle.rules.specs.Answers.{done_read}
use Rattle.rules.specs.Access.{access_of}
use Rattle.rules.proofs.SixTimers.{get_put_same, get_put_other, part_kept}
use Rattle.rules.proofs.Verdicts.{cntp_holds, cntv_holds, cnthp_holds, cnthvs_holds}
use Rattle.claims.specs.Desk.{end_state, Permitted, PermittedWrite, PermittedRead}
use Rattle.claims.proofs.Kept.{all_keep}
use Rattle.claims.proofs.Ways.{whatever_timers}
use Rattle.claims.proofs.Writes.{timer_written, reads_give}
use Rattle.rules.specs.Bits.{bit}
use Rattle.rules.specs.Arithmetic.{◌plus◌, ◌less◌, signed32}
use Rattle.rules.specs.declared.facts.Facts.{Facts}
use Rattle.rules.specs.declared.state.State.{State}
use Rattle.rules.specs.declared.state.TimerName.{TimerName}
use Rattle.rules.specs.Counts.{offset_seen, count_of, used_count}
use Rattle.claims.specs.ReadBack.{low32, ReadsLow, TimerReadsBack, SameContext, TvalReadsBack, Holds, LeftAsWritten, EnabledAfterwards, HasTval, ReadFollowsWrite}

takes_off : (used x : ℕ) → used < 2 ^ 64 → x < 2 ^ 64 → (used plus x) less used ≡ x
takes_off used x h k = omega arith

-- bit 31 set or not, the low 32 bits are the operand's, and the whole fits 64
signed32_low : (b : Bool) (x : ℕ) → (low32 (cond b (low32 x less 2 ^ 32) (low32 x)) ≡ low32 x) × (cond b (low32 x less 2 ^ 32) (low32 x) < 2 ^ 64)
signed32_low true x = (omega arith, omega arith)
signed32_low false x = (omega arith, omega arith)

pub timer_reads_back : TimerReadsBack
timer_reads_back old now used x fits cval enabled =
    let low : (low32 (signed32 x) ≡ low32 x) × (signed32 x < 2 ^ 64) = signed32_low (bit 31 x) x in
    (rw enabled, rw (enabled, cval) (ap low32 (takes_off used (signed32 x) fits low.1) ∙ low.0))

-- ---- the count used

less_fits : (a b : ℕ) → a less b < 2 ^ 64
less_fits a b = omega arith

either_fits : (b : Bool) (x y : ℕ) → x < 2 ^ 64 → y < 2 ^ 64 → cond b x y < 2 ^ 64
either_fits true x y h k = h
either_fits false x y h k = k

count_fits : (applies : Bool) (s : State) (count : ℕ) (t : TimerName) → count < 2 ^ 64 → count_of applies s count t < 2 ^ 64
unfolding count_of
count_fits applies s count TimerName.Cntp h = either_fits applies (count less s.cntpoff) count (less_fits count s.cntpoff) h
count_fits applies s count TimerName.Cntv h = less_fits count s.cntvoff
count_fits applies s count TimerName.Cnthp h = h
count_fits applies s count TimerName.Cnthv h = h
count_fits applies s count TimerName.Cnthps h = h
count_fits applies s count TimerName.Cnthvs h = h

-- it does not look at the timers
count_of_other_timers : (applies : Bool) (s : State) (ts : Timers) (count : ℕ) (t : TimerName) → count_of applies (with_timers s ts) count t ≡ count_of applies s count t
unfolding count_of
count_of_other_timers applies s ts count TimerName.Cntp = refl
count_of_other_timers applies s ts count TimerName.Cntv = refl
count_of_other_timers applies s ts count TimerName.Cnthp = refl
count_of_other_timers applies s ts count TimerName.Cnthv = refl
count_of_other_timers applies s ts count TimerName.Cnthps = refl
count_of_other_timers applies s ts count TimerName.Cnthvs = refl

-- ---- the two accesses

module _ (t : TimerName) where
  -- what an access at a level and a count makes of t: the count used, what a write of a part leaves, what a TVAL read gives
  abbrev used_at : State → ℕ → ℕ → ℕ
  used_at s level count = used_count (facts_of s level) s count t

  abbrev left : State → Access → Part → Timer
  left s a p = write_timer (get s.timers t) p (used_at s a.level a.count) (written_operand a)

  abbrev tval : State → ℕ → ℕ → Value
  tval s level count = read_tval (get s.timers t) (used_at s level count)

  write_leaves : (s : State) (a : Access) (p : Part) → PermittedWrite s a (Target.Timer t p) → get (access_of s a).next.timers t ≡ left s a p
  write_leaves s a p w =
      ap (λ (n : State). get n.timers t) (timer_written s a t p w) ∙ get_put_same s.timers t (left s a p)

  read_gives : (s : State) (a : Access) → PermittedRead s a (Target.Timer t Tval) → (access_of s a).answer ≡ done_read a.word (tval s a.level a.count)
  unfolding read_of read_timer
  read_gives s a r = reads_give s a (Target.Timer t Tval) r

  -- in the same context the count used is the same
  used_again : (s later : State) (level count : ℕ) → SameContext s later → used_at later level count ≡ used_at s level count
  unfolding facts_of
  used_again s later level count same =
      ap (λ (n : State). used_at n level count) same
      ∙ count_of_other_timers (offset_seen (facts_of s level)) s later.timers count t

  tval_again : (s later : State) (w : Access) → w.count < 2 ^ 64 → SameContext s later → (get later.timers t).cval ≡ (left s w Tval).cval → (get later.timers t).enable ≡ true → ReadsLow (tval later w.level w.count) (written_operand w)
  unfolding write_timer
  tval_again s later w fits same cval enabled =
      subst (λ (u : ℕ). ReadsLow (read_tval (get later.timers t) u) (written_operand w)) (sym (used_again s later w.level w.count same))
      (timer_reads_back (get s.timers t) (get later.timers t) (used_at s w.level w.count) (written_operand w) (count_fits (offset_seen (facts_of s w.level)) s w.count t fits) cval enabled)

pub tval_reads_back : TvalReadsBack
tval_reads_back s w between r t h =
    let later : State = end_state access_of s (w ∷ between) in
    let cval : (get later.timers t).cval ≡ (left t s w Tval).cval = h.cval ∙ ap (λ (x : Timer). x.cval) (write_leaves t s w Tval h.write) in (
      tval t later r.level r.count,
      read_gives t later r h.read,
      rw (h.level, h.count) (tval_again t s later w h.fits h.context cval h.enabled),
    )

-- ---- what leaves a value as it was written

context_on : (s m n : State) → SameContext s m → SameContext m n → SameContext s n
context_on s m n p q = q ∙ ap (λ (x : State). with_timers x n.timers) p

-- a state that has other timers, and the rest
other_timers : (s n : State) (ts : Timers) → n ≡ with_timers s ts → SameContext s n
other_timers s n ts e = e ∙ ap (λ (x : State). with_timers s x.timers) (sym e)

abbrev AsWritten : TimerName → State → State → Type 0
AsWritten t s later = SameContext s later × ((get later.timers t).cval ≡ (get s.timers t).cval)

module _ (t : TimerName) where
  as_written_on : (s m n : State) → AsWritten t s m → AsWritten t m n → AsWritten t s n
  as_written_on s m n p q = (context_on s m n p.0 q.0, q.1 ∙ p.1)

  -- a write of another timer
  other_timer : (s : State) (u : TimerName) (x : Timer) → (b : Bool) → same u t ≡ b → (same u t ≡ true → ⊥) → AsWritten t s (with_timers s (put s.timers u x))
  other_timer s u x true e not-it = absurd (not-it e)
  other_timer s u x false e not-it = (refl, ap (λ (y : Timer). y.cval) (get_put_other s.timers u t x e))

  -- a write of CTL, its own too, leaves CVAL
  elsewhere : (f : Facts) (s : State) (count : ℕ) (target : Target) (x : ℕ) → (Holds t target → ⊥) → AsWritten t s (write_of f s count target x)
  unfolding write_of write_timer
  elsewhere f s count Target.Cntpct x not-it = (refl, refl)
  elsewhere f s count Target.Cntvct x not-it = (refl, refl)
  elsewhere f s count Target.Cntvoff x not-it = absurd (not-it tt)
  elsewhere f s count (Target.Timer u Tval) x not-it = other_timer s u _ (same u t) refl not-it
  elsewhere f s count (Target.Timer u Ctl) x not-it =
      (refl, part_kept s.timers (λ (y : Timer). y.cval) u t (write_ctl (get s.timers u) x) refl)
  elsewhere f s count (Target.Timer u Cval) x not-it = other_timer s u _ (same u t) refl not-it
  elsewhere f s count Target.Cntkctl x not-it = absurd (not-it tt)
  elsewhere f s count Target.Cnthctl x not-it = absurd (not-it tt)
  elsewhere f s count Target.Cntpoff x not-it = absurd (not-it tt)

pub left_as_written : LeftAsWritten
left_as_written s accesses t none =
    all_keep (Holds t) (AsWritten t) (λ m. (refl, refl)) (as_written_on t) (elsewhere t) s accesses none

pub enabled_afterwards : EnabledAfterwards
unfolding write_timer
enabled_afterwards s w control r t write-w write-control on read-r level count fits =
    let m : State = (access_of s w).next in
    let n : State = (access_of m control).next in
    let now : get n.timers t ≡ left t m control Ctl = write_leaves t m control Ctl write-control in
    record {
      write = write-w;
      read = read-r;
      level = level;
      count = count;
      fits = fits;
      context = context_on s m n (other_timers s m _ (timer_written s w t Tval write-w)) (other_timers m n _ (timer_written m control t Ctl write-control));
      cval = ap (λ (x : Timer). x.cval) now;
      enabled = ap (λ (x : Timer). x.enable) now ∙ on;
    }

-- ---- for every name with a TVAL

-- a verdict reaches no register but the TVAL of some timer
abbrev TvalAlone : Verdict → Type 0
TvalAlone (Err Undefined) = Unit {0}
TvalAlone (Err ToEl1) = Unit {0}
TvalAlone (Err ToEl2) = Unit {0}
TvalAlone (Err ToEl3) = Unit {0}
TvalAlone (Ok target) = (t : TimerName) × (target ≡ Target.Timer t Tval)

-- a law of TVAL registers is one for each family of timers that has a name
tval_names : (P : Name → Type 0) → P (Name.Cntp Tval) → P (Name.Cntv Tval) → P (Name.Cnthp Tval) → P (Name.Cnthvs Tval) → (name : Name) → HasTval name → P name
tval_names P p v hp hvs Cntpct h = absurd h
tval_names P p v hp hvs Cntvct h = absurd h
tval_names P p v hp hvs Cntpctss h = absurd h
tval_names P p v hp hvs Cntvctss h = absurd h
tval_names P p v hp hvs (Cntp Tval) h = p
tval_names P p v hp hvs (Cntp Ctl) h = absurd h
tval_names P p v hp hvs (Cntp Cval) h = absurd h
tval_names P p v hp hvs (Cntv Tval) h = v
tval_names P p v hp hvs (Cntv Ctl) h = absurd h
tval_names P p v hp hvs (Cntv Cval) h = absurd h
tval_names P p v hp hvs Cntvoff h = absurd h
tval_names P p v hp hvs (Cnthp Tval) h = hp
tval_names P p v hp hvs (Cnthp Ctl) h = absurd h
tval_names P p v hp hvs (Cnthp Cval) h = absurd h
tval_names P p v hp hvs (Cnthvs Tval) h = hvs
tval_names P p v hp hvs (Cnthvs Ctl) h = absurd h
tval_names P p v hp hvs (Cnthvs Cval) h = absurd h
tval_names P p v hp hvs Cntkctl h = absurd h
tval_names P p v hp hvs Cnthctl h = absurd h
tval_names P p v hp hvs Cntpoff h = absurd h

module _ (f : Facts) (name : Name) (has : HasTval name) where
  tval_alone : (mrs : Bool) → TvalAlone (verdict_of f name mrs)
  unfolding verdict_of
  tval_alone mrs =
      tval_names (λ n. TvalAlone (verdict_of f n mrs)) (cntp_holds TvalAlone Tval tt tt tt (λ t. (t, refl)) f) (cntv_holds TvalAlone Tval tt tt tt (λ t. (t, refl)) f) (cnthp_holds TvalAlone Tval tt tt tt (λ t. (t, refl)) f) (cnthvs_holds TvalAlone Tval tt tt tt (λ t. (t, refl)) f) name has

  -- its gate asks the same of a read and of a write
  either_direction : (b c : Bool) → verdict_of f name b ≡ verdict_of f name c
  unfolding verdict_of
  either_direction b c = tval_names (λ n. verdict_of f n b ≡ verdict_of f n c) refl refl refl refl name has

pub read_follows_write : ReadFollowsWrite
read_follows_write s later w r name target has n m level same p =
    let f : Facts = facts_of s w.level in
    let named : p.name ≡ name = cc in
    let verdict : verdict_of f name (is_mrs w.word) ≡ Ok target = rw named at p.verdict in
    let alone : TvalAlone (Ok target) = subst TvalAlone verdict (tval_alone f name has (is_mrs w.word)) in
    let t : TimerName = alone.0 in
    let verdict-of-read : verdict_of f name (is_mrs r.word) ≡ Ok (Target.Timer t Tval) = either_direction f name has (is_mrs r.word) (is_mrs w.word) ∙ verdict ∙ ap Ok alone.1 in
    let then : Permitted s r (Target.Timer t Tval) = record { name = name; named = m; possible = rw level p.possible; verdict = rw level verdict-of-read } in
    (t, alone.1, subst (λ (x : State). Permitted x r (Target.Timer t Tval)) (sym same) (whatever_timers later.timers then))
