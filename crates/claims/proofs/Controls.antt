-- What was written to a control register reads back: the write leaves in it what it stores, no other access moves it but a
-- write of the register itself, and a read gives what the state holds. Its gate asks what no write moves, so a read is permitted
-- where a write was.
-- Assumes nothing.
use Rattle.std.specs.Prelude.{Ok}
use Prim.Native.Nat.{ℕ}
use mathlib.Core.Bool.{Bool}
use mathlib.Core.Logic.{⊎_elim}
use mathlib.Core.Path.{◌≡◌, refl, sym, ap, subst, ◌∙◌}
use Rattle.rules.specs.declared.facts.Facts.{Facts}
use Rattle.rules.specs.declared.name.Name.{Name}
use Rattle.rules.specs.declared.state.State.{State}
use Rattle.rules.specs.declared.verdict.Target.{Target}
use Rattle.rules.specs.declared.verdict.Target.TheVariants.{Cntpct, Cntvct, Cntvoff, Timer, Cntkctl, Cnthctl, Cntpoff}
use Rattle.rules.specs.Words.{facts_of}
use Rattle.rules.specs.Names.{is_mrs, written_operand}
use Rattle.rules.specs.Control.{cntkctl, cnthctl, cntpoff}
use Rattle.rules.specs.Verdicts.{verdict_of}
use Rattle.rules.specs.States.{with_cntkctl, with_cnthctl}
use Rattle.rules.specs.Values.{known, read_of, write_of}
use Rattle.rules.specs.Answers.{done_read}
use Rattle.rules.specs.Access.{access_of}
use Rattle.rules.proofs.Stored.{cntkctl_stays, cnthctl_stays}
use Rattle.claims.specs.Desk.{end_state}
use Rattle.claims.specs.Controls.{ReadsBack, Stays, IsControl, ReadableAfterwards, ControlsReadBack}
use Rattle.claims.proofs.Contexts.{context_stands}
use Rattle.claims.proofs.Kept.{all_keep}
use Rattle.claims.proofs.Writes.{writes_change_one, reads_give}

-- once over the register: by what the state holds of it, what a read of it gives, and what a write of another leaves
module _ (register : Target)
    (held : State → ℕ)
    (stored : State → ℕ → ℕ)
    (read : (f : Facts) (s : State) (count : ℕ) → read_of f s count register ≡ known (held s))
    (written : (s : State) (level count x : ℕ) → held (write_of (facts_of s level) s count register x) ≡ stored s x)
    (elsewhere : (f : Facts) (s : State) (count : ℕ) (target : Target) (x : ℕ) → (target ≡ register → ⊥) → held (write_of f s count target x) ≡ held s) where
  reads_back : ReadsBack register stored
  reads_back s w between r write none read-r =
      let next : State = (access_of s w).next in
      let later : State = end_state access_of next between in
      let taken : held next ≡ stored s (written_operand w) = ap held (writes_change_one s w register write).next ∙ written s w.level w.count (written_operand w) in
      let kept : held later ≡ held next = all_keep (λ target. target ≡ register) (λ old new. held new ≡ held old) (λ m. refl) (λ a b c p q. q ∙ p) elsewhere next between none in
      reads_give later r register read-r
      ∙ ap (done_read r.word) (read (facts_of later r.level) later r.count ∙ ap known (kept ∙ taken))

cntkctl_elsewhere : (f : Facts) (s : State) (count : ℕ) (target : Target) (x : ℕ) → (target ≡ Cntkctl → ⊥) → (write_of f s count target x).controls.cntkctl ≡ s.controls.cntkctl
unfolding write_of
cntkctl_elsewhere f s count Cntpct x other = refl
cntkctl_elsewhere f s count Cntvct x other = refl
cntkctl_elsewhere f s count Cntvoff x other = refl
cntkctl_elsewhere f s count (Timer t p) x other = refl
cntkctl_elsewhere f s count Cntkctl x other = absurd (other refl)
cntkctl_elsewhere f s count Cnthctl x other = refl
cntkctl_elsewhere f s count Cntpoff x other = refl

cnthctl_elsewhere : (f : Facts) (s : State) (count : ℕ) (target : Target) (x : ℕ) → (target ≡ Cnthctl → ⊥) → (write_of f s count target x).controls.cnthctl ≡ s.controls.cnthctl
unfolding write_of
cnthctl_elsewhere f s count Cntpct x other = refl
cnthctl_elsewhere f s count Cntvct x other = refl
cnthctl_elsewhere f s count Cntvoff x other = refl
cnthctl_elsewhere f s count (Timer t p) x other = refl
cnthctl_elsewhere f s count Cntkctl x other = refl
cnthctl_elsewhere f s count Cnthctl x other = absurd (other refl)
cnthctl_elsewhere f s count Cntpoff x other = refl

cntpoff_elsewhere : (f : Facts) (s : State) (count : ℕ) (target : Target) (x : ℕ) → (target ≡ Cntpoff → ⊥) → (write_of f s count target x).cntpoff ≡ s.cntpoff
unfolding write_of
cntpoff_elsewhere f s count Cntpct x other = refl
cntpoff_elsewhere f s count Cntvct x other = refl
cntpoff_elsewhere f s count Cntvoff x other = refl
cntpoff_elsewhere f s count (Timer t p) x other = refl
cntpoff_elsewhere f s count Cntkctl x other = refl
cntpoff_elsewhere f s count Cnthctl x other = refl
cntpoff_elsewhere f s count Cntpoff x other = absurd (other refl)

-- ---- written back, it stays

-- on a state a write of what the register holds leaves it
abbrev Settled : Target → (State → ℕ) → State → ℕ → ℕ → Type 0
Settled register held n level count = write_of (facts_of n level) n count register (held n) ≡ n

module _ (register : Target)
    (held : State → ℕ)
    (settled : (s : State) (level count x later then : ℕ) → Settled register held (write_of (facts_of s level) s count register x) later then) where
  stays : Stays register held
  stays s w again write write_again same =
      let next : State = (access_of s w).next in
      let left : next ≡ write_of (facts_of s w.level) s w.count register (written_operand w) = (writes_change_one s w register write).next in
      (writes_change_one next again register write_again).next
      ∙ ap (write_of (facts_of next again.level) next again.count register) same
      ∙ subst (λ (n : State). Settled register held n again.level again.count) (sym left) (settled s w.level w.count (written_operand w) again.level again.count)

cntkctl_settled : (s : State) (level count x later then : ℕ) → Settled Cntkctl (λ n. n.controls.cntkctl) (write_of (facts_of s level) s count Cntkctl x) later then
unfolding facts_of write_of
cntkctl_settled s level count x later then = ap (with_cntkctl s) (cntkctl_stays s.features.ecv x)

cnthctl_settled : (s : State) (level count x later then : ℕ) → Settled Cnthctl (λ n. n.controls.cnthctl) (write_of (facts_of s level) s count Cnthctl x) later then
unfolding facts_of write_of
cnthctl_settled s level count x later then =
    ap (with_cnthctl s) (cnthctl_stays s.controls.e2h s.features.ecv x)

cntpoff_settled : (s : State) (level count x later then : ℕ) → Settled Cntpoff (λ n. n.cntpoff) (write_of (facts_of s level) s count Cntpoff x) later then
unfolding facts_of write_of
cntpoff_settled s level count x later then = refl

-- ---- the read is permitted

-- what the gates of the three ask: the level, ECV, ECVEn and E2H
record SameGates (f g : Facts) : Type 0 where
  level : f.level ≡ g.level
  ecv : f.ecv ≡ g.ecv
  ecven : f.ecven ≡ g.ecven
  e2h : f.e2h ≡ g.e2h

module _ (f g : Facts) (same : SameGates f g) (b c : Bool) where
  abbrev Same : Name → Type 0
  Same name = verdict_of f name b ≡ verdict_of g name c

  by_cntkctl : Same Name.Cntkctl
  unfolding verdict_of cntkctl
  by_cntkctl = rw (same.level, same.e2h)

  by_cnthctl : Same Name.Cnthctl
  unfolding verdict_of cnthctl
  by_cnthctl = rw same.level

  by_cntpoff : Same Name.Cntpoff
  unfolding verdict_of cntpoff
  by_cntpoff = rw (same.level, same.ecv, same.ecven)

  same_verdict : (name : Name) → IsControl name → Same name
  same_verdict name is =
      ⊎_elim (λ e. subst Same (sym e) by_cntkctl)
      (λ or. ⊎_elim (λ e. subst Same (sym e) by_cnthctl) (λ e. subst Same (sym e) by_cntpoff) or)
      is

-- no write moves these
gates_stand : (f : Facts) (s : State) (count : ℕ) (target : Target) (x level : ℕ) → SameGates (facts_of (write_of f s count target x) level) (facts_of s level)
unfolding facts_of write_of
gates_stand f s count Cntpct x level = record { level = refl; ecv = refl; ecven = refl; e2h = refl }
gates_stand f s count Cntvct x level = record { level = refl; ecv = refl; ecven = refl; e2h = refl }
gates_stand f s count Cntvoff x level = record { level = refl; ecv = refl; ecven = refl; e2h = refl }
gates_stand f s count (Timer t p) x level = record { level = refl; ecv = refl; ecven = refl; e2h = refl }
gates_stand f s count Cntkctl x level = record { level = refl; ecv = refl; ecven = refl; e2h = refl }
gates_stand f s count Cnthctl x level = record { level = refl; ecv = refl; ecven = refl; e2h = refl }
gates_stand f s count Cntpoff x level = record { level = refl; ecv = refl; ecven = refl; e2h = refl }

readable : ReadableAfterwards
readable s w r name register is n m level write =
    let next : State = (access_of s w).next in
    let named : write.permitted.name ≡ name = cc in
    let verdict : verdict_of (facts_of s w.level) name (is_mrs w.word) ≡ Ok register = rw named at write.permitted.verdict in
    let same : SameGates (facts_of next w.level) (facts_of s w.level) = subst (λ (x : State). SameGates (facts_of x w.level) (facts_of s w.level)) (sym (writes_change_one s w register write).next) (gates_stand _ s _ register _ w.level) in
    record {
      name = name;
      named = m;
      possible = rw level ((context_stands s w).at_every_level w.level ∙ write.permitted.possible);
      verdict = rw level (same_verdict (facts_of next w.level) (facts_of s w.level) same (is_mrs r.word) (is_mrs w.word) name is ∙ verdict);
    }

pub controls_read_back : ControlsReadBack
unfolding facts_of read_of write_of
controls_read_back =
    record {
      readable = readable;
      cntkctl = reads_back Cntkctl (λ s. s.controls.cntkctl) _ (λ f s count. refl) (λ s level count x. refl) cntkctl_elsewhere;
      cnthctl = reads_back Cnthctl (λ s. s.controls.cnthctl) _ (λ f s count. refl) (λ s level count x. refl) cnthctl_elsewhere;
      cntpoff = reads_back Cntpoff (λ s. s.cntpoff) _ (λ f s count. refl) (λ s level count x. refl) cntpoff_elsewhere;
      cntkctl_stays = stays Cntkctl (λ s. s.controls.cntkctl) cntkctl_settled;
      cnthctl_stays = stays Cnthctl (λ s. s.controls.cnthctl) cnthctl_settled;
      cntpoff_stays = stays Cntpoff (λ s. s.cntpoff) cntpoff_settled;
    }
