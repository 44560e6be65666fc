-- Laws of `first`: a rule that fits decides, one that does not is passed over, and two lists are tried one after the other.
-- And what holds of every verdict that the rules can give holds of the one that they give.
-- Assumes nothing.
use Prim.Native.Nat.{ℕ}
use mathlib.Core.Bool.{Bool, true, false, cond}
use lib.Dec.{eqb}
use mathlib.Core.List.{List, [], ◌∷◌, ◌++◌}
use mathlib.Core.Path.{◌≡◌, refl}
use Rattle.rules.specs.Words.{EL0, EL1, EL2}
use Rattle.rules.specs.Rules.{Verdict, Rule, ◌⇒◌, first, at_level}

pub first_fits : (b : Bool) (v : Verdict) (rs : List Rule) (w : Verdict) → b ≡ true → first (b ⇒ v ∷ rs) w ≡ v
first_fits b v rs w e = simp e

pub first_passes : (b : Bool) (v : Verdict) (rs : List Rule) (w : Verdict) → b ≡ false → first (b ⇒ v ∷ rs) w ≡ first rs w
first_passes b v rs w e = simp e

pub first_append : (rs qs : List Rule) (w : Verdict) → first (rs ++ qs) w ≡ first rs (first qs w)
first_append [] qs w = refl
first_append (r ∷ rs) qs w = simp (first_append rs qs w)

module _ (P : Verdict → Type 0) where
  pub cond_holds : (b : Bool) (v w : Verdict) → P v → P w → P (cond b v w)
  cond_holds true v w p q = p
  cond_holds false v w p q = q

  abbrev pub EachGives : List Rule → Type 0
  EachGives [] = Unit {0}
  EachGives (r ∷ rs) = P r.gives × EachGives rs

  pub first_holds : (rs : List Rule) (w : Verdict) → EachGives rs → P w → P (first rs w)
  first_holds [] w each p = p
  first_holds (r ∷ rs) w each p = cond_holds r.fits r.gives (first rs w) each.0 (first_holds rs w each.1 p)

  pub at_level_holds : (l : ℕ) (a b c d : Verdict) → P a → P b → P c → P d → P (at_level l a b c d)
  at_level_holds l a b c d pa pb pc pd =
      cond_holds (eqb l EL0) a (cond (eqb l EL1) b (cond (eqb l EL2) c d)) pa
      (cond_holds (eqb l EL1) b (cond (eqb l EL2) c d) pb (cond_holds (eqb l EL2) c d pc pd))
