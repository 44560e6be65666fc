-- Laws of get and put, once over the timer: by cases on its name each side computes to the same timer.
-- Assumes nothing.
use mathlib.Core.Bool.{Bool, true, false, cond}
use mathlib.Core.Path.{◌≡◌, refl, sym, ap, ◌∙◌}
use Rattle.rules.specs.declared.state.Timer.{Timer}
use Rattle.rules.specs.declared.state.Timers.{Timers}
use Rattle.rules.specs.declared.state.TimerName.{TimerName}
use Rattle.rules.specs.declared.state.TimerName.TheVariants.{Cntp, Cntv, Cnthp, Cnthv, Cnthps, Cnthvs}
use Rattle.rules.specs.Timers.{same, get, six, put}

pub same_refl : (t : TimerName) → same t t ≡ true
same_refl Cntp = refl
same_refl Cntv = refl
same_refl Cnthp = refl
same_refl Cnthv = refl
same_refl Cnthps = refl
same_refl Cnthvs = refl

pub get_six : (x : TimerName → Timer) (t : TimerName) → get (six x) t ≡ x t
get_six x Cntp = refl
get_six x Cntv = refl
get_six x Cnthp = refl
get_six x Cnthv = refl
get_six x Cnthps = refl
get_six x Cnthvs = refl

module _ (ts : Timers) where
  -- get after put, at any timer
  pub get_put : (t u : TimerName) (x : Timer) → get (put ts t x) u ≡ cond (same t u) x (get ts u)
  get_put t u x = get_six (λ v. cond (same t v) x (get ts v)) u

  pub get_put_same : (t : TimerName) (x : Timer) → get (put ts t x) t ≡ x
  get_put_same t x = get_put t t x ∙ simp (same_refl t)

  -- put elsewhere
  pub get_put_other : (t u : TimerName) (x : Timer) → same t u ≡ false → get (put ts t x) u ≡ get ts u
  get_put_other t u x e = get_put t u x ∙ simp e

  -- what was there, put back
  pub put_get : (t : TimerName) → put ts t (get ts t) ≡ ts
  put_get Cntp = refl
  put_get Cntv = refl
  put_get Cnthp = refl
  put_get Cnthv = refl
  put_get Cnthps = refl
  put_get Cnthvs = refl

  -- what a put leaves of one timer it leaves of all: read by g, the six are as they were
  module _ {A : Type 0} (g : Timer → A) (t u : TimerName) (x : Timer) (left : g x ≡ g (get ts t)) where
    by_place : (b : Bool) → same t u ≡ b → g (get (put ts t x) u) ≡ g (get ts u)
    by_place true e =
        let there : get ts t ≡ get ts u = sym (get_put t u (get ts t) ∙ rw e) ∙ ap (λ (all : Timers). get all u) (put_get t) in
        ap g (get_put t u x ∙ rw e) ∙ left ∙ ap g there
    by_place false e = ap g (get_put_other t u x e)

    pub part_kept : g (get (put ts t x) u) ≡ g (get ts u)
    part_kept = by_place (same t u) refl

  -- of two puts at one place the last stands
  pub put_put : (t : TimerName) (x y : Timer) → put (put ts t x) t y ≡ put ts t y
  put_put Cntp x y = refl
  put_put Cntv x y = refl
  put_put Cnthp x y = refl
  put_put Cnthv x y = refl
  put_put Cnthps x y = refl
  put_put Cnthvs x y = refl
