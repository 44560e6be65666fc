-- Demand 3. One access of the guest factors through what it may know: the facts, whether the context is impossible, its own
-- part and the virtual count. Two machines that are alike in these answer alike, and only that part moves; so they are alike
-- again after it, and the same holds of any sequence.
-- Assumes nothing.
use Rattle.std.specs.Prelude.{Err, None, Ok, Option, Some}
use Prim.Native.Nat.{ℕ}
use mathlib.Core.Bool.{Bool, true, false, cond, ◌&&◌, ◌||◌}
use lib.Dec.{eqb}
use mathlib.Core.List.{List, [], ◌∷◌}
use mathlib.Core.Logic.{◌⊎◌, ⊎_elim}
use mathlib.Core.Path.{◌≡◌, refl, sym, ap, ap₂, subst, subst₂, ◌∙◌}
use Rattle.rules.specs.declared.access.Access.{Access}
use Rattle.rules.specs.declared.answer.Answer.{Answer}
use Rattle.rules.specs.declared.answer.Outcome.{Outcome}
use Rattle.rules.specs.declared.facts.Facts.{Facts}
use Rattle.rules.specs.declared.name.Name.{Name}
use Rattle.rules.specs.declared.name.Part.{Part}
use Rattle.rules.specs.declared.state.Controls.{Controls}
use Rattle.rules.specs.declared.state.Features.{Features}
use Rattle.rules.specs.declared.state.State.{State}
use Rattle.rules.specs.declared.state.Timer.{Timer}
use Rattle.rules.specs.declared.state.TimerName.{TimerName}
use Rattle.rules.specs.declared.state.TimerName.TheVariants.{Cntv}
use Rattle.rules.specs.declared.verdict.Target.{Target}
use Rattle.rules.specs.Rules.{Verdict}
use Rattle.rules.specs.declared.verdict.Stop.TheVariants.{Undefined, ToEl1, ToEl2, ToEl3}
use Rattle.rules.specs.Words.{EL0, EL1, EL2, physical_trapped, facts_of}
use Rattle.rules.specs.Names.{name_of, is_mrs, written_operand}
use Rattle.rules.specs.Verdicts.{verdict_of}
use Rattle.rules.specs.Counts.{virtual, virtual_seen, count_of}
use Rattle.rules.specs.Stored.{stored_cntkctl}
use Rattle.rules.specs.Values.{known, read_timer, write_timer, read_of, write_of}
use Rattle.rules.specs.Answers.{trap_to_el1, trap_to_el2, trap_to_el3, not_a_timer_access, impossible_context, done_read, done_write, undefined_at, trapped, refused}
use Rattle.rules.specs.Context.{impossible, impossible_at}
use Rattle.rules.specs.Access.{permitted, ruled, served, access_of}
use Rattle.rules.proofs.SixTimers.{get_put_other}
use Rattle.claims.specs.Desk.{Desk, Permitted}
use Rattle.claims.specs.Guests.{TrappedGuest, Own, own, with_own, Alike, as_seen, SameShown, AllShown, NothingElseMoved, OthersStand, AlikeAgain, OneAlike, OneAccess, SequencesAlike, Demand3, OutOfReach, GuestClaim}
use Rattle.claims.proofs.GuestGates.{OwnOnly, GuestFacts, guest_facts, own_only, and_false}

-- ---- what the guest may know, and what it gets by it

-- an answer, and what its own part then holds
record Seen : Type 0 where
  answer : Answer
  left : Own

abbrev seen : Answer → Own → Seen
seen answer left = record { answer = answer; left = left }

-- a read that is done, or a write
abbrev done_either : ℕ → Answer → Answer
done_either word read = cond (is_mrs word) read (done_write word)

-- its own part after a write of one of the two
abbrev with_cntv : Own → Timer → Own
with_cntv mine x = record { cntv = x; cntkctl = mine.cntkctl }

abbrev with_its_cntkctl : Own → ℕ → Own
with_its_cntkctl mine x = record { cntv = mine.cntv; cntkctl = x }

-- by a verdict that lets it reach its own alone, of an access as the guest sees it; the other cases are no such verdict's
abbrev seen_by : Facts → Access → Own → Verdict → Seen
seen_by f x mine (Err Undefined) = seen (undefined_at x.word) mine
seen_by f x mine (Err ToEl1) = seen (trapped trap_to_el1 x.word) mine
seen_by f x mine (Err ToEl2) = seen (trapped trap_to_el2 x.word) mine
seen_by f x mine (Err ToEl3) = seen (trapped trap_to_el3 x.word) mine
seen_by f x mine (Ok Target.Cntpct) = seen (refused not_a_timer_access) mine
seen_by f x mine (Ok Target.Cntvct) = seen (done_either x.word (done_read x.word (known x.count))) mine
seen_by f x mine (Ok Target.Cntvoff) = seen (refused not_a_timer_access) mine
seen_by f x mine (Ok (Target.Timer t p)) =
    seen (done_either x.word (done_read x.word (read_timer mine.cntv p x.count x.count)))
    (cond (is_mrs x.word) mine (with_cntv mine (write_timer mine.cntv p x.count (written_operand x))))
seen_by f x mine (Ok Target.Cntkctl) =
    seen (done_either x.word (done_read x.word (known mine.cntkctl)))
    (cond (is_mrs x.word) mine (with_its_cntkctl mine (stored_cntkctl f.ecv (written_operand x))))
seen_by f x mine (Ok Target.Cnthctl) = seen (refused not_a_timer_access) mine
seen_by f x mine (Ok Target.Cntpoff) = seen (refused not_a_timer_access) mine

abbrev seen_of : Facts → Bool → Access → Own → Option Name → Seen
seen_of f is_impossible x mine None = seen (refused not_a_timer_access) mine
seen_of f is_impossible x mine (Some name) =
    cond is_impossible (seen (refused impossible_context) mine) (seen_by f x mine (verdict_of f name (is_mrs x.word)))

-- on a state, that answer and the state with that part put in
abbrev on : State → Seen → Outcome
on s x = record { answer = x.answer; next = with_own s x.left }

-- ---- one access factors

no_host_no_el2 : (f : Facts) → GuestFacts f → (f.host && eqb f.level EL0) || (f.e2h && eqb f.level EL2) ≡ false
no_host_no_el2 f g =
    ⊎_elim (λ (l : f.level ≡ EL0). rw (g.not_host, l) (and_false f.e2h))
    (λ (l : f.level ≡ EL1). rw (g.not_host, l) (and_false f.e2h)) g.low

virtual_alone : (f : Facts) (s : State) (count : ℕ) → GuestFacts f → virtual_seen f s count ≡ virtual s count
virtual_alone f s count g = rw (no_host_no_el2 f g)

module _ (f : Facts) (g : GuestFacts f) (s : State) (a : Access) where
  reached_cntvct : (b : Bool) → is_mrs a.word ≡ b → permitted f s a Target.Cntvct ≡ on s (seen_by f (as_seen s a) (own s) (Ok Target.Cntvct))
  unfolding permitted read_of write_of
  reached_cntvct true e = rw (e, virtual_alone f s a.count g)
  reached_cntvct false e = rw e

  reached_cntv : (p : Part) (b : Bool) → is_mrs a.word ≡ b → permitted f s a (Target.Timer Cntv p) ≡ on s (seen_by f (as_seen s a) (own s) (Ok (Target.Timer Cntv p)))
  unfolding permitted read_of write_of count_of
  reached_cntv p true e = rw e
  reached_cntv p false e = rw e

  reached_cntkctl : (b : Bool) → is_mrs a.word ≡ b → permitted f s a Target.Cntkctl ≡ on s (seen_by f (as_seen s a) (own s) (Ok Target.Cntkctl))
  unfolding permitted read_of write_of
  reached_cntkctl true e = rw e
  reached_cntkctl false e = rw e

  ruled_factors : (v : Verdict) → OwnOnly v → ruled f s a v ≡ on s (seen_by f (as_seen s a) (own s) v)
  unfolding ruled
  ruled_factors (Err Undefined) mine = refl
  ruled_factors (Err ToEl1) mine = refl
  ruled_factors (Err ToEl2) mine = refl
  ruled_factors (Err ToEl3) mine = refl
  ruled_factors (Ok Target.Cntpct) mine = absurd mine
  ruled_factors (Ok Target.Cntvct) mine = reached_cntvct (is_mrs a.word) refl
  ruled_factors (Ok Target.Cntvoff) mine = absurd mine
  ruled_factors (Ok (Target.Timer TimerName.Cntp p)) mine = absurd mine
  ruled_factors (Ok (Target.Timer TimerName.Cntv p)) mine = reached_cntv p (is_mrs a.word) refl
  ruled_factors (Ok (Target.Timer TimerName.Cnthp p)) mine = absurd mine
  ruled_factors (Ok (Target.Timer TimerName.Cnthv p)) mine = absurd mine
  ruled_factors (Ok (Target.Timer TimerName.Cnthps p)) mine = absurd mine
  ruled_factors (Ok (Target.Timer TimerName.Cnthvs p)) mine = absurd mine
  ruled_factors (Ok Target.Cntkctl) mine = reached_cntkctl (is_mrs a.word) refl
  ruled_factors (Ok Target.Cnthctl) mine = absurd mine
  ruled_factors (Ok Target.Cntpoff) mine = absurd mine

-- what the guest gets for an access as it sees it
abbrev seen_for : State → Access → Seen
seen_for s x = seen_of (facts_of s x.level) (impossible_at s x.level) x (own s) (name_of x.word)

module _ (s : State) (g : TrappedGuest s) (a : Access) (low : (a.level ≡ EL0) ⊎ (a.level ≡ EL1)) where
  by_context : (name : Name) (b : Bool) → impossible_at s a.level ≡ b → served s a (Some name) ≡ on s (seen_of (facts_of s a.level) b (as_seen s a) (own s) (Some name))
  unfolding served
  by_context name true e = rw e
  by_context name false e =
      let f : Facts = facts_of s a.level in
      let facts : GuestFacts f = guest_facts s a.level low g in
      rw e (ruled_factors f facts s a (verdict_of f name (is_mrs a.word)) (own_only f facts name (is_mrs a.word)))

  by_name : (l : Option Name) → served s a l ≡ on s (seen_of (facts_of s a.level) (impossible_at s a.level) (as_seen s a) (own s) l)
  unfolding served
  by_name None = refl
  by_name (Some name) = by_context name (impossible_at s a.level) refl

  factors : access_of s a ≡ on s (seen_for s (as_seen s a))
  unfolding access_of
  factors = by_name (name_of a.word)

-- ---- two machines

-- a state of which only features and controls matter
abbrev pub machine : Features → Controls → State → State
machine features controls s =
    record { features = features; controls = controls; cntvoff = s.cntvoff; cntpoff = s.cntpoff; timers = s.timers }

facts_alike : (s t : State) → Alike s t → (level : ℕ) → facts_of s level ≡ facts_of t level
unfolding facts_of
facts_alike s t e level =
    ap₂ (λ (f : Features) (c : Controls). facts_of (machine f c s) level) e.features e.controls

impossible_alike : (s t : State) → Alike s t → (level : ℕ) → impossible_at s level ≡ impossible_at t level
unfolding impossible impossible_at
impossible_alike s t e level =
    ap₂ (λ (f : Features) (c : Controls). impossible_at (machine f c s) level) e.features e.controls

-- whether a guest is trapped is a matter of the controls
trapped_too : (s t : State) → Alike s t → TrappedGuest s → TrappedGuest t
trapped_too s t e g =
    record {
      guest = record {
        nonsecure = ap (λ (c : Controls). c.ns) (sym e.controls) ∙ g.guest.nonsecure;
        tge0 = ap (λ (c : Controls). c.tge) (sym e.controls) ∙ g.guest.tge0;
      };
      trapped = ap (λ (c : Controls). physical_trapped (machine s.features c s)) (sym e.controls) ∙ g.trapped;
    }

seen_alike : (s t : State) (x : Access) → Alike s t → seen_for s x ≡ seen_for t x
seen_alike s t x e = rw (facts_alike s t e x.level, impossible_alike s t e x.level, e.own)

pub one_access : OneAccess TrappedGuest access_of
one_access s t a b g e h =
    let low : (b.level ≡ EL0) ⊎ (b.level ≡ EL1) = subst (λ (x : Access). (x.level ≡ EL0) ⊎ (x.level ≡ EL1)) h.same h.el0_or_el1 in
    let here : access_of s a ≡ on s (seen_for s (as_seen s a)) = factors s g a h.el0_or_el1 in
    let there : access_of t b ≡ on t (seen_for t (as_seen t b)) = factors t (trapped_too s t e g) b low in
    let alike : seen_for s (as_seen s a) ≡ seen_for t (as_seen t b) = seen_alike s t (as_seen s a) e ∙ ap (seen_for t) h.same in
    record {
      answer = ap (λ (o : Outcome). o.answer) here ∙ ap (λ (x : Seen). x.answer) alike ∙ ap (λ (o : Outcome). o.answer) (sym there);
      states = record {
        own = ap (λ (o : Outcome). own o.next) here ∙ ap (λ (x : Seen). x.left) alike ∙ ap (λ (o : Outcome). own o.next) (sym there);
        here = subst (λ (o : Outcome). NothingElseMoved s o.next) (sym here) refl;
        there = subst (λ (o : Outcome). NothingElseMoved t o.next) (sym there) refl;
      };
    }

-- ---- machines that are alike again

pub alike_here : (s t : State) → Alike s t → AlikeAgain s t s t
alike_here s t e = record { own = e.own; here = refl; there = refl }

moved_on : (s m n : State) → NothingElseMoved s m → NothingElseMoved m n → NothingElseMoved s n
moved_on s m n p q = q ∙ ap (λ (x : State). with_own x (own n)) p

pub alike_on : (s t m n s' t' : State) → AlikeAgain s t m n → AlikeAgain m n s' t' → AlikeAgain s t s' t'
alike_on s t m n s' t' p q =
    record { own = q.own; here = moved_on s m s' p.here q.here; there = moved_on t n t' p.there q.there }

-- what is asked of two machines stands whatever their guest's own part holds, if it is the same
module _ (s t m n : State) (again : AlikeAgain s t m n) where
  still : (P : State → State → Type 0) → P (with_own s (own m)) (with_own t (own n)) → P m n
  still P = subst₂ P (sym again.here) (sym again.there)

  pub alike_still : Alike s t → Alike m n
  alike_still e =
      still Alike (record {
        features = e.features;
        controls = ap₂ (λ (c : Controls) (x : Own). (with_own (machine s.features c s) x).controls) e.controls again.own;
        own = again.own;
      })

  pub trapped_still : TrappedGuest s → TrappedGuest m
  trapped_still g =
      still (λ x y. TrappedGuest x) (record { guest = record { nonsecure = g.guest.nonsecure; tge0 = g.guest.tge0 }; trapped = g.trapped })

  pub shown_still : (a b : Access) → SameShown s t a b → SameShown m n a b
  shown_still a b h =
      still (λ x y. SameShown x y a b) (record { el0_or_el1 = h.el0_or_el1; same = h.same })

  all_shown_still : (here there : List Access) → AllShown s t here there → AllShown m n here there
  all_shown_still [] [] h = tt
  all_shown_still [] (b ∷ bs) h = h
  all_shown_still (a ∷ rest) [] h = h
  all_shown_still (a ∷ rest) (b ∷ bs) h = (shown_still a b h.0, all_shown_still rest bs h.1)

-- ---- any sequence, of any desk of which one access holds

pub any_sequence : (desk : Desk) → OneAccess TrappedGuest desk → Demand3 desk
any_sequence desk one s t [] [] g e h = record { answers = refl; states = alike_here s t e }
any_sequence desk one s t [] (b ∷ bs) g e h = absurd h
any_sequence desk one s t (a ∷ rest) [] g e h = absurd h
any_sequence desk one s t (a ∷ rest) (b ∷ bs) g e h =
    let step : OneAlike desk s t a b = one s t a b g e h.0 in
    let m : State = (desk s a).next in
    let n : State = (desk t b).next in
    let again : AlikeAgain s t m n = step.states in
    let after : SequencesAlike desk m n rest bs = any_sequence desk one m n rest bs (trapped_still s t m n again g) (alike_still s t m n again e) (all_shown_still s t m n again rest bs h.1) in
    record {
      answers = ap₂ (λ (x : Answer) (xs : List Answer). x ∷ xs) step.answer after.answers;
      states = alike_on s t m n _ _ again after.states;
    }

-- ---- what did not move, and what is out of reach

others_stand : (old new : State) → NothingElseMoved old new → OthersStand old new
others_stand old new e =
    subst (OthersStand old) (sym e) (record {
      features = refl;
      ns = refl;
      eel2 = refl;
      ecven = refl;
      e2h = refl;
      tge = refl;
      cnthctl = refl;
      cntvoff = refl;
      cntpoff = refl;
      timers = λ u. get_put_other old.timers Cntv u new.timers.cntv;
    })

module _ (s : State) (a : Access) (g : TrappedGuest s) (low : (a.level ≡ EL0) ⊎ (a.level ≡ EL1)) where
  reaches_its_own : (target : Target) → Permitted s a target → OwnOnly (Ok target)
  reaches_its_own target p =
      subst OwnOnly p.verdict (own_only (facts_of s a.level) (guest_facts s a.level low g) p.name (is_mrs a.word))

  out_of_reach : OutOfReach s a
  out_of_reach = record { cnthctl = reaches_its_own _; cntpoff = reaches_its_own _ }

pub guest_claim : GuestClaim
guest_claim =
    record {
      one_access = one_access;
      any_sequence = any_sequence access_of one_access;
      others = others_stand;
      out_of_reach = out_of_reach;
    }
