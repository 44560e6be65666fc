-- Who sees CNTPOFF: the rulebook's test is a chain of 'and', so it is true exactly if each of its parts is; and a permitted read
-- of CNTPCT gives the count that the test picks.
-- Assumes nothing.
use Prim.Native.Nat.{ℕ, zero, suc, ◌≤◌}
use mathlib.Core.Bool.{Bool, true, false, cond, not, ◌&&◌, ◌||◌, and-eq-true_iff, and-false}
use mathlib.Core.Logic.{◌⊎◌, ⊎_elim}
use mathlib.Core.Path.{◌≡◌, refl, sym, subst, ◌∙◌}
use native.Mathlib.Omega.{arith}
use lib.Dec.{T, eqb}
use borrow.Author.Tests.{ne_eqb, not-true}
use Rattle.rules.specs.declared.access.Access.{Access}
use Rattle.rules.specs.declared.state.State.{State}
use Rattle.rules.specs.declared.verdict.Target.TheVariants.{Cntpct}
use Rattle.rules.specs.Bits.{bit}
use Rattle.rules.specs.Words.{EL0, EL1, on, host, offset_on, facts_of}
use Rattle.rules.specs.Arithmetic.{◌less◌}
use Rattle.rules.specs.Counts.{offset_seen}
use Rattle.rules.specs.Values.{known, read_of}
use Rattle.rules.specs.Answers.{done_read}
use Rattle.rules.specs.Access.{access_of}
use Rattle.claims.specs.Offset.{OffsetOn, WhoSeesCntpoff}
use Rattle.claims.proofs.Grounds.{is_false, on_of, of_on}
use Rattle.claims.proofs.Writes.{reads_give}

-- ---- offset on

module _ (s : State) where
  abbrev ecven : Bool
  ecven = s.controls.ecven

  not_host : (s.controls.e2h ≡ true → s.controls.tge ≡ true → ⊥) → host s ≡ false
  not_host h = is_false (host s) (λ e. let both : (on s && s.controls.e2h ≡ true) × (s.controls.tge ≡ true) = (and-eq-true_iff _ _).0 e in h ((and-eq-true_iff (on s) s.controls.e2h).0 both.0).1 both.1)

  offset_of : OffsetOn s → offset_on s ≡ true
  offset_of o = rw (not_host o.not_host, o.ecv, on_of s o.el2, o.ecven, o.cnthctl)

  of_offset : offset_on s ≡ true → OffsetOn s
  of_offset e =
      let ecv : Bool = s.features.ecv in
      let bit12 : Bool = bit 12 s.controls.cnthctl in
      let four : (ecv && on s && ecven && bit12 ≡ true) × (not (host s) ≡ true) = (and-eq-true_iff _ _).0 e in
      let three : (ecv && on s && ecven ≡ true) × (bit12 ≡ true) = (and-eq-true_iff _ _).0 four.0 in
      let two : (ecv && on s ≡ true) × (ecven ≡ true) = (and-eq-true_iff _ _).0 three.0 in
      let one : (ecv ≡ true) × (on s ≡ true) = (and-eq-true_iff _ _).0 two.0 in
      record {
        ecv = one.0;
        el2 = of_on s one.1;
        ecven = two.1;
        cnthctl = three.1;
        not_host = λ h t. let no : ◌≡◌ {A = Bool} true false = sym (rw (one.1, h, t)) ∙ not-true (host s) four.1 in subst T no tt;
      }

  -- ---- at a level

  low : (level : ℕ) → level ≤ 1 → eqb level EL0 || eqb level EL1 ≡ true
  low zero h = refl
  low (suc zero) h = refl
  low (suc (suc level)) h = absurd (omega arith)

  high : (level : ℕ) → 2 ≤ level → eqb level EL0 || eqb level EL1 ≡ false
  high level h = rw (ne_eqb level 0 (λ e. omega arith), ne_eqb level 1 (λ e. omega arith))

  seen : (level : ℕ) → level ≤ 1 → OffsetOn s → offset_seen (facts_of s level) ≡ true
  unfolding facts_of
  seen level h o = (and-eq-true_iff _ _).1 (low level h, offset_of o)

  unseen : (level : ℕ) → (2 ≤ level) ⊎ (OffsetOn s → ⊥) → offset_seen (facts_of s level) ≡ false
  unfolding facts_of
  unseen level h =
      ⊎_elim (λ (up : 2 ≤ level). rw (high level up)) (λ (off : OffsetOn s → ⊥). rw (is_false (offset_on s) (λ e. off (of_offset e))) (and-false (eqb level EL0 || eqb level EL1))) h

-- what CNTPCT reads as, by that test
by_test : (s : State) (a : Access) (b : Bool) → offset_seen (facts_of s a.level) ≡ b → done_read a.word (read_of (facts_of s a.level) s a.count Cntpct) ≡ done_read a.word (known (cond b (a.count less s.cntpoff) a.count))
unfolding read_of
by_test s a b e = rw e

pub who_sees_cntpoff : WhoSeesCntpoff
who_sees_cntpoff s a r =
    let given : (access_of s a).answer ≡ done_read a.word (read_of (facts_of s a.level) s a.count Cntpct) = reads_give s a Cntpct r in
    record {
      offset = λ h o. given ∙ by_test s a true (seen s a.level (omega arith) o);
      physical = λ h. given ∙ by_test s a false (unseen s a.level h);
    }
