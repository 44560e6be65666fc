-- What is left of `at_level` past the arms of a match on the level: above EL1, where EL2 and EL3 have one verdict, and above
-- EL2. Each arm that was passed over says that its test is false. No proof cites them today.
-- Assumes nothing.
use Prim.Native.Nat.{ℕ}
use mathlib.Core.Bool.{Bool, true, false, cond}
use mathlib.Core.Path.{◌≡◌, refl}
use lib.Dec.{eqb}
use borrow.Author.Tests.{ne_eqb}
use Rattle.rules.specs.Rules.{Verdict, at_level}

either : (b : Bool) (v : Verdict) → cond b v v ≡ v
either true v = refl
either false v = refl

pub above_el1 : (l : ℕ) (el0 el1 above : Verdict) → (Unit {0} × (l ≡ 0 → ⊥)) × (l ≡ 1 → ⊥) → at_level l el0 el1 above above ≡ above
above_el1 l el0 el1 above h = rw (ne_eqb l 0 h.0.1, ne_eqb l 1 h.1) (either (eqb l 2) above)

pub above_el2 : (l : ℕ) (el0 el1 el2 el3 : Verdict) → ((Unit {0} × (l ≡ 0 → ⊥)) × (l ≡ 1 → ⊥)) × (l ≡ 2 → ⊥) → at_level l el0 el1 el2 el3 ≡ el3
above_el2 l el0 el1 el2 el3 h = rw (ne_eqb l 0 h.0.0.1, ne_eqb l 1 h.0.1, ne_eqb l 2 h.1)
