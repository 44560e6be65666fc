-- No write makes a context that 5 refuses. 5 looks at features, the SCR and HCR facts and CNTHCTL; of these a write moves
-- CNTHCTL alone. With ECV its bits are no ground; without, a write stores 0 in bits 12 to 14, which were 0 before, since an
-- access in an impossible context is no permitted one.
-- Assumes nothing.
use Prim.Native.Nat.{ℕ, ◌^◌, ◌<◌}
use mathlib.Core.Bool.{Bool, true, false, not, ◌&&◌, ◌||◌, true≢false}
use mathlib.Core.List.{List, [], ◌∷◌}
use mathlib.Core.Logic.{⊎_elim}
use mathlib.Core.Path.{◌≡◌, refl, sym, ap, subst, ◌∙◌}
use native.Mathlib.Omega.{arith}
use Rattle.rules.specs.declared.access.Access.{Access}
use Rattle.rules.specs.declared.answer.Outcome.{Outcome}
use Rattle.rules.specs.declared.state.State.{State}
use Rattle.rules.specs.declared.verdict.Target.{Target}
use Rattle.rules.specs.Bits.{bits}
use Rattle.rules.specs.Words.{cnthctl, facts_of}
use Rattle.rules.specs.Names.{is_mrs, written_operand}
use Rattle.rules.specs.States.{with_cnthctl}
use Rattle.rules.specs.Stored.{stored_cnthctl}
use Rattle.rules.specs.Values.{write_of}
use Rattle.rules.specs.Context.{impossible, impossible_at}
use Rattle.rules.specs.Access.{access_of}
use Rattle.rules.proofs.Stored.{below_12}
use Rattle.claims.specs.Desk.{end_state, Permitted, PermittedWrite}
use Rattle.claims.specs.Contexts.{SameContexts, NoWriteMakesFive}
use Rattle.claims.proofs.GuestGates.{and_false}
use Rattle.claims.proofs.Refusals.{reads_move_nothing}
use Rattle.claims.proofs.Ways.{ways, possible}
use Rattle.claims.proofs.Writes.{writes_change_one}

-- ---- CNTHCTL

bits_12_to_14 : (y : ℕ) → y < 2 ^ 12 → (bits 12 12 y ≡ 0) × (bits 13 13 y ≡ 0) × (bits 14 14 y ≡ 0)
bits_12_to_14 y h = (omega arith, omega arith, omega arith)

-- the grounds without a level: two that CNTHCTL is no part of, and a third, of ECVEn and the three bits, that is none with ECV
abbrev test : Bool → Bool → Bool → Bool → Bool → Bool → Bool → Bool
test a b ecven x y z ecv = a || b || ((ecven || x || y || z) && not ecv)

clear_bits : (a b ecven x y z : Bool) → test a b ecven x y z false ≡ false → test a b ecven false false false false ≡ test a b ecven x y z false
clear_bits true b ecven x y z e = absurd (true≢false e)
clear_bits false true ecven x y z e = absurd (true≢false e)
clear_bits false false true x y z e = absurd (true≢false e)
clear_bits false false false x y z e = sym e

module _ (s : State) (x : ℕ) (can-be : impossible s ≡ false) where
  open s use {features, controls}

  abbrev written : ℕ
  written = stored_cnthctl controls.e2h features.ecv x

  by_ecv : (ecv : Bool) → features.ecv ≡ ecv → impossible (with_cnthctl s written) ≡ impossible s
  unfolding impossible
  by_ecv true e = rw (e, and_false _, and_false _)
  by_ecv false e =
      let low : ℕ = stored_cnthctl controls.e2h false x in
      let clear : (bits 12 12 low ≡ 0) × (bits 13 13 low ≡ 0) × (bits 14 14 low ≡ 0) = bits_12_to_14 low (below_12 controls.e2h x) in
      rw (e, clear.0, clear.1, clear.2) (clear_bits (controls.e2h && not features.vhe) (controls.eel2 && not features.sel2) controls.ecven (cnthctl s).ecv (cnthctl s).el1tvt (cnthctl s).el1tvct (rw e at can-be))

  cnthctl_stands : impossible (with_cnthctl s written) ≡ impossible s
  cnthctl_stands = by_ecv features.ecv refl

-- ---- every register

stands_still : (s : State) → SameContexts s s
stands_still s = record { at_every_level = λ level. refl; lines = refl }

by_target : (s : State) (level count : ℕ) (target : Target) (x : ℕ) → impossible s ≡ false → SameContexts s (write_of (facts_of s level) s count target x)
unfolding facts_of write_of impossible impossible_at
by_target s level count Target.Cntpct x can-be = stands_still s
by_target s level count Target.Cntvct x can-be = stands_still s
by_target s level count Target.Cntvoff x can-be = record { at_every_level = λ at. refl; lines = refl }
by_target s level count (Target.Timer t p) x can-be = record { at_every_level = λ at. refl; lines = refl }
by_target s level count Target.Cntkctl x can-be = record { at_every_level = λ at. refl; lines = refl }
by_target s level count Target.Cnthctl x can-be =
    record { at_every_level = λ at. rw (cnthctl_stands s x can-be); lines = cnthctl_stands s x can-be }
by_target s level count Target.Cntpoff x can-be = record { at_every_level = λ at. refl; lines = refl }

-- ---- one access, and any sequence

module _ (s : State) (a : Access) where
  by_direction : (target : Target) → Permitted s a target → (b : Bool) → is_mrs a.word ≡ b → SameContexts s (access_of s a).next
  by_direction target p true e = subst (SameContexts s) (sym (reads_move_nothing s a e)) (stands_still s)
  by_direction target p false e =
      let w : PermittedWrite s a target = record { write = e; permitted = p } in
      subst (SameContexts s) (sym (writes_change_one s a target w).next) (by_target s a.level a.count target (written_operand a) (possible p))

  pub context_stands : SameContexts s (access_of s a).next
  context_stands =
      ⊎_elim (λ w. subst (SameContexts s) (sym (ap (λ (o : Outcome). o.next) w.2)) (stands_still s))
      (λ w. by_direction w.0 w.1 (is_mrs a.word) refl)
      (ways s a)

pub contexts_stand : (s : State) (accesses : List Access) → SameContexts s (end_state access_of s accesses)
contexts_stand s [] = stands_still s
contexts_stand s (a ∷ rest) =
    let one : SameContexts s (access_of s a).next = context_stands s a in
    let after : SameContexts (access_of s a).next (end_state access_of (access_of s a).next rest) = contexts_stand (access_of s a).next rest in
    record {
      at_every_level = λ level. after.at_every_level level ∙ one.at_every_level level;
      lines = after.lines ∙ one.lines;
    }

pub no_write_makes_five : NoWriteMakesFive
no_write_makes_five = record { one_access = context_stands; any_sequence = contexts_stand }
