-- Two machines that demand 3 is of: the checker computes what each is and what it answers.
-- Assumes nothing.
use Prim.Native.Nat.{ℕ}
use mathlib.Core.Bool.{true, false}
use mathlib.Core.Logic.{inl, inr}
use mathlib.Core.Path.{◌≡◌, refl, ap}
use native.Mathlib.Omega.{arith}
use Rattle.rules.specs.declared.state.Timer.{Timer}
use Rattle.rules.specs.declared.state.TimerName.{TimerName}
use Rattle.rules.specs.declared.state.TimerName.TheVariants.{Cntp, Cntv, Cnthp, Cnthv, Cnthps, Cnthvs}
use Rattle.rules.specs.Words.{facts_of}
use Rattle.rules.specs.Names.{name_of, name_table}
use Rattle.rules.specs.Cntv.{cntv}
use Rattle.rules.specs.Counters.{cntvct}
use Rattle.rules.specs.Control.{cntkctl}
use Rattle.rules.specs.Verdicts.{verdict_of}
use Rattle.rules.specs.Timers.{same, timer_of, get}
use Rattle.rules.specs.Counts.{count_of}
use Rattle.rules.specs.Stored.{cntkctl_fields, stored_cntkctl}
use Rattle.rules.specs.Values.{read_timer, write_timer, read_of, write_of}
use Rattle.rules.specs.Context.{impossible, impossible_at}
use Rattle.rules.specs.Access.{permitted, ruled, served, access_of}
use Rattle.rules.specs.Readings.{start}
use Rattle.claims.specs.TwoMachines.{second_machine, TwoMachines}

differ : timer_of 0 false false ≡ timer_of 5 true false → ⊥
differ h = let no : ◌≡◌ {A = ℕ} 0 5 = ap (λ (t : Timer). t.cval) h in omega arith

each_differs : (u : TimerName) → same Cntv u ≡ false → get start.timers u ≡ get second_machine.timers u → ⊥
each_differs Cntp e h = differ h
each_differs Cntv e h = let no : ◌≡◌ {A = ℕ} 0 1 = cc in omega arith
each_differs Cnthp e h = differ h
each_differs Cnthv e h = differ h
each_differs Cnthps e h = differ h
each_differs Cnthvs e h = differ h

pub two_machines : TwoMachines
unfolding facts_of name_of name_table cntv cntvct cntkctl verdict_of count_of cntkctl_fields stored_cntkctl read_timer write_timer read_of write_of impossible impossible_at permitted ruled served access_of
two_machines =
    record {
      guest = record { guest = record { nonsecure = refl; tge0 = refl }; trapped = refl };
      alike = record { features = refl; controls = refl; own = refl };
      shown = (
        record { el0_or_el1 = inr refl; same = refl },
        (
          record { el0_or_el1 = inr refl; same = refl },
          (record { el0_or_el1 = inr refl; same = refl }, (record { el0_or_el1 = inl refl; same = refl }, tt)),
        ),
      );
      cntvoff = λ (e : ◌≡◌ {A = ℕ} 400 0). omega arith;
      cntpoff = λ (e : ◌≡◌ {A = ℕ} 0 7). omega arith;
      others = each_differs;
      here = refl;
      there = refl;
      own_here = refl;
      own_there = refl;
    }
