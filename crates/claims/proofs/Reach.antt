-- Who reaches the control registers: at a level that is known the gates compute, cell by cell.
-- Assumes nothing.
use Rattle.std.specs.Prelude.{Err, Ok}
use Prim.Native.Nat.{ℕ}
use mathlib.Core.Bool.{Bool, true, false, cond, not}
use mathlib.Core.Path.{◌≡◌, refl}
use Rattle.rules.specs.declared.access.Access.{Access}
use Rattle.rules.specs.declared.name.Name.{Name}
use Rattle.rules.specs.declared.state.State.{State}
use Rattle.rules.specs.declared.verdict.Target.{Target}
use Rattle.rules.specs.Rules.{Verdict}
use Rattle.rules.specs.declared.verdict.Stop.TheVariants.{Undefined}
use Rattle.rules.specs.Words.{facts_of}
use Rattle.rules.specs.Names.{is_mrs}
use Rattle.rules.specs.Control.{cntkctl, cnthctl, cntpoff}
use Rattle.rules.specs.Verdicts.{verdict_of}
use Rattle.rules.specs.Access.{ruled, served, access_of}
use Rattle.claims.specs.Desk.{Permitted}
use Rattle.claims.specs.Reach.{Asked, WhoReachesControls}

module _ {s : State} {a : Access} {register : Name} {at : ℕ} (asked : Asked s a register at) where
  abbrev Says : Verdict → Type 0
  Says v = verdict_of (facts_of s a.level) register (is_mrs a.word) ≡ v

  undefined : Says (Err Undefined) → (access_of s a).answer.number ≡ 1
  unfolding access_of served ruled
  undefined e = rw (asked.name, asked.possible, e)

  reached : {target : Target} → Says (Ok target) → Permitted s a target
  reached e = record { name = register; named = asked.name; possible = asked.possible; verdict = e }

-- with ECV or without
either_way : (b : Bool) (v : Verdict) → cond (not b) v v ≡ v
either_way true v = refl
either_way false v = refl

pub who_reaches_controls : WhoReachesControls
unfolding facts_of verdict_of cntkctl cnthctl cntpoff
who_reaches_controls s a =
    record {
      cntkctl_el0 = λ k. undefined k (rw k.level);
      cntkctl_el1 = λ k. reached k (rw k.level);
      cntkctl_el2 = λ k e. reached k (rw (k.level, e));
      cntkctl_el2_e2h = λ k e. reached k (rw (k.level, e));
      cntkctl_el3 = λ k. reached k (rw k.level);
      cnthctl_el0 = λ k. undefined k (rw k.level);
      cnthctl_el1 = λ k. undefined k (rw k.level);
      cnthctl_el2 = λ k. reached k (rw k.level);
      cnthctl_el3 = λ k. reached k (rw k.level);
      cntpoff_without_ecv = λ level k e. undefined k (rw e);
      cntpoff_el0 = λ k. undefined k (rw k.level (either_way s.features.ecv (Err Undefined)));
      cntpoff_el1 = λ k. undefined k (rw k.level (either_way s.features.ecv (Err Undefined)));
      cntpoff_el2 = λ k e v. reached k (rw (k.level, e, v));
      cntpoff_el3 = λ k e. reached k (rw (k.level, e));
    }
