-- The example of a lease: the checker computes that each write is permitted and what it reaches, and the claim says the rest.
-- Assumes nothing.
use Rattle.std.specs.Prelude.{Ok, Some}
use mathlib.Core.Bool.{true}
use mathlib.Core.List.{[], ◌∷◌}
use mathlib.Core.Logic.{inl}
use mathlib.Core.Path.{◌≡◌, refl, sym, subst, ◌∙◌}
use lib.Dec.{T}
use native.Mathlib.Omega.{arith}
use Rattle.rules.specs.declared.access.Access.{Access}
use Rattle.rules.specs.declared.name.Name.{Name}
use Rattle.rules.specs.declared.name.Part.TheVariants.{Tval, Ctl, Cval}
use Rattle.rules.specs.declared.state.State.{State}
use Rattle.rules.specs.declared.state.TimerName.TheVariants.{Cnthp}
use Rattle.rules.specs.declared.verdict.Target.{Target}
use Rattle.rules.specs.Words.{facts_of}
use Rattle.rules.specs.Names.{name_of, name_table, is_mrs, written_operand}
use Rattle.rules.specs.Cntv.{cntv}
use Rattle.rules.specs.El2.{cntvoff, cnthp}
use Rattle.rules.specs.Verdicts.{verdict_of}
use Rattle.rules.specs.Counts.{count_of}
use Rattle.rules.specs.Values.{write_timer, write_of}
use Rattle.rules.specs.Context.{impossible, impossible_at}
use Rattle.rules.specs.Access.{permitted, ruled, served, access_of}
use Rattle.rules.specs.Lines.{line_of, lines_of}
use Rattle.rules.specs.Readings.{start}
use Rattle.claims.specs.Desk.{PermittedWrite, NoneReaches}
use Rattle.claims.specs.Lease.{Takes, OfTheLease, Ahead}
use Rattle.claims.specs.LeaseExample.{value, control, on_the_way, begun, LeaseExample}
use Rattle.claims.proofs.Lease.{lease_claim}

-- a read is no write
reads_reach_nothing : (s : State) (a : Access) → is_mrs a.word ≡ true → (target : Target) → OfTheLease target → PermittedWrite s a target → ⊥
reads_reach_nothing s a mrs target of w = subst T (sym mrs ∙ w.write) tt

-- a write that the rules send elsewhere does not reach the lease: a word has one name, and a name one verdict
others_reach_nothing : (s : State) (a : Access) (name : Name) (elsewhere : Target) → name_of a.word ≡ Some name → verdict_of (facts_of s a.level) name (is_mrs a.word) ≡ Ok elsewhere → (OfTheLease elsewhere → ⊥) → (target : Target) → OfTheLease target → PermittedWrite s a target → ⊥
others_reach_nothing s a name elsewhere n v not-it target of w =
    let named : w.permitted.name ≡ name = cc in
    let there : target ≡ elsewhere = cc in
    not-it (subst OfTheLease there of)

-- each access on the way, at whatever state those before it left
on_the_way_lem : NoneReaches OfTheLease begun on_the_way
unfolding facts_of name_of name_table verdict_of cnthp
on_the_way_lem = (
  reads_reach_nothing _ _ refl,
  (
    reads_reach_nothing _ _ refl,
    (
      others_reach_nothing _ _ (Name.Cnthp Cval) (Target.Timer Cnthp Cval) refl refl (λ no. subst T (sym no) tt),
      (reads_reach_nothing _ _ refl, tt),
    ),
  ),
)

takes_it : Takes start value control
unfolding facts_of name_of name_table cntv verdict_of impossible impossible_at
takes_it =
    record {
      tval = record { write = refl; permitted = record { name = Name.Cntv Tval; named = refl; possible = refl; verdict = refl } };
      ctl = record { write = refl; permitted = record { name = Name.Cntv Ctl; named = refl; possible = refl; verdict = refl } };
      enable = refl;
      unmask = refl;
    }

pub lease_example : LeaseExample
unfolding facts_of name_of name_table cntv cntvoff verdict_of count_of write_timer write_of impossible impossible_at permitted ruled served access_of line_of lines_of
lease_example =
    let ahead : Ahead (written_operand value) 500 = record { low = refl; small = omega arith } in
    record {
      takes = takes_it;
      alone = on_the_way_lem;
      ahead = ahead;
      ends = (lease_claim.kept start value control (value ∷ control ∷ []) on_the_way takes_it (inl refl) on_the_way_lem).ahead 500 ahead (omega arith);
      before = refl;
      after = refl;
    }
