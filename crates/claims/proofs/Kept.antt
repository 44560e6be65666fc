-- What accesses leave alone, once over what is asked to stay. If every write of a register that is not one of These keeps it,
-- and so does standing still, then accesses of which none is a permitted write that reaches one of These keep it: an access
-- is refused, reads, or writes the register that its verdict names.
-- Assumes nothing.
use Prim.Native.Nat.{ℕ}
use mathlib.Core.Bool.{Bool, true, false}
use mathlib.Core.List.{List, [], ◌∷◌}
use mathlib.Core.Logic.{⊎_elim}
use mathlib.Core.Path.{◌≡◌, refl, sym, ap, subst}
use Rattle.rules.specs.declared.access.Access.{Access}
use Rattle.rules.specs.declared.answer.Outcome.{Outcome}
use Rattle.rules.specs.declared.facts.Facts.{Facts}
use Rattle.rules.specs.declared.state.State.{State}
use Rattle.rules.specs.declared.verdict.Target.{Target}
use Rattle.rules.specs.Words.{facts_of}
use Rattle.rules.specs.Names.{is_mrs, written_operand}
use Rattle.rules.specs.Values.{write_of}
use Rattle.rules.specs.Access.{access_of}
use Rattle.claims.specs.Desk.{end_state, Permitted, PermittedWrite, NoneReaches}
use Rattle.claims.proofs.Refusals.{reads_move_nothing}
use Rattle.claims.proofs.Ways.{ways}
use Rattle.claims.proofs.Writes.{writes_change_one}

module _ (These : Target → Type 0)
    (Kept : State → State → Type 0)
    (here : (s : State) → Kept s s)
    (on : (s m n : State) → Kept s m → Kept m n → Kept s n)
    (elsewhere : (f : Facts) (s : State) (count : ℕ) (target : Target) (x : ℕ) → (These target → ⊥) → Kept s (write_of f s count target x)) where
  module _ (s : State) (a : Access) (none : (target : Target) → These target → PermittedWrite s a target → ⊥) where
    by_direction : (target : Target) → Permitted s a target → (b : Bool) → is_mrs a.word ≡ b → Kept s (access_of s a).next
    by_direction target p true e = subst (Kept s) (sym (reads_move_nothing s a e)) (here s)
    by_direction target p false e =
        let w : PermittedWrite s a target = record { write = e; permitted = p } in
        subst (Kept s) (sym (writes_change_one s a target w).next)
        (elsewhere (facts_of s a.level) s a.count target (written_operand a) (λ these. none target these w))

    one_keeps : Kept s (access_of s a).next
    one_keeps =
        ⊎_elim (λ w. subst (Kept s) (sym (ap (λ (o : Outcome). o.next) w.2)) (here s))
        (λ w. by_direction w.0 w.1 (is_mrs a.word) refl)
        (ways s a)

  pub all_keep : (s : State) (accesses : List Access) → NoneReaches These s accesses → Kept s (end_state access_of s accesses)
  all_keep s [] none = here s
  all_keep s (a ∷ rest) none =
      on s (access_of s a).next (end_state access_of (access_of s a).next rest) (one_keeps s a none.0) (all_keep (access_of s a).next rest none.1)
