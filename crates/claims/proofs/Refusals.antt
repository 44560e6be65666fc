-- A refusal and a read leave the state as it was: of the two ways that an access ends, only a permitted one is answered
-- with 0, and only a permitted write moves anything. A record is refused with 6, which leaves the state, or is an access. A
-- refused run is one of no turns.
-- Assumes nothing.
use Prim.Native.Nat.{ℕ}
use mathlib.Core.Bool.{Bool, true, false}
use mathlib.Core.List.{List}
use mathlib.Core.Logic.{⊎_elim}
use mathlib.Core.Path.{◌≡◌, refl, ap, ◌∙◌}
use lib.Dec.{eqb}
use Rattle.rules.specs.declared.access.Access.{Access}
use Rattle.rules.specs.declared.answer.Outcome.{Outcome}
use Rattle.rules.specs.declared.facts.Facts.{Facts}
use Rattle.rules.specs.declared.record.Record.{Record}
use Rattle.rules.specs.declared.state.State.{State}
use Rattle.rules.specs.declared.verdict.Target.{Target}
use Rattle.rules.specs.Names.{is_mrs}
use Rattle.rules.specs.Answers.{done}
use Rattle.rules.specs.Access.{permitted}
use Rattle.rules.specs.Journal.{record_served, state_after, answers_of, is_bad_journal, is_buffer_too_short, run_of, buffer_after}
use Rattle.claims.specs.Refusals.{RefusalsMoveNothing, RecordRefusalsMoveNothing, RunRefusalsMoveNothing, ReadsMoveNothing}
use Rattle.claims.proofs.Ways.{ways}

module _ (f : Facts) (s : State) (a : Access) (target : Target) where
  done_either_way : (b : Bool) → is_mrs a.word ≡ b → (permitted f s a target).answer.number ≡ done
  unfolding permitted
  done_either_way true e = rw e
  done_either_way false e = rw e

  pub permitted_is_done : (permitted f s a target).answer.number ≡ done
  permitted_is_done = done_either_way (is_mrs a.word) refl

pub refusals_move_nothing : RefusalsMoveNothing
refusals_move_nothing s a refused =
    ⊎_elim (λ w. ap (λ (o : Outcome). o.next) w.2)
    (λ w. absurd (refused (ap (λ (o : Outcome). o.answer.number) w.2 ∙ permitted_is_done _ _ _ _)))
    (ways s a)

by_reserved : (s : State) (r : Record) (b : Bool) → eqb r.reserved 0 ≡ b → ((record_served s r).answer.number ≡ done → ⊥) → (record_served s r).next ≡ s
unfolding record_served
by_reserved s r true e refused = rw e (refusals_move_nothing s r.access (rw e at refused))
by_reserved s r false e refused = rw e

pub record_refusals_move_nothing : RecordRefusalsMoveNothing
record_refusals_move_nothing s r = by_reserved s r (eqb r.reserved 0) refl

module _ (s : State) (journal answers : List ℕ) (refused : (run_of s journal answers).number ≡ done → ⊥) where
  by_tests : (bad short : Bool) → is_bad_journal journal ≡ bad → is_buffer_too_short journal answers ≡ short → ((run_of s journal answers).next ≡ s) × (buffer_after s journal answers ≡ answers)
  unfolding run_of buffer_after state_after answers_of
  by_tests true short e f = (rw e, rw e)
  by_tests false true e f = (rw (e, f), rw (e, f))
  by_tests false false e f = absurd (refused (rw (e, f)))

pub run_refusals_move_nothing : RunRefusalsMoveNothing
run_refusals_move_nothing s journal answers refused =
    by_tests s journal answers refused (is_bad_journal journal) (is_buffer_too_short journal answers) refl refl

pub reads_move_nothing : ReadsMoveNothing
unfolding permitted
reads_move_nothing s a mrs =
    ⊎_elim (λ w. ap (λ (o : Outcome). o.next) w.2) (λ w. ap (λ (o : Outcome). o.next) w.2 ∙ rw mrs)
    (ways s a)
