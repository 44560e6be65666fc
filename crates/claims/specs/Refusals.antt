-- Demand 1: a refusal changes no timer, and leaves a lent buffer as it was. Demand 2: nor does a read change a timer.
use Rattle.std.specs.Prelude.{ℕ, true, List, ◌≡◌}
use Rattle.rules.specs.declared.access.Access.{Access}
use Rattle.rules.specs.declared.record.Record.{Record}
use Rattle.rules.specs.declared.state.State.{State}
use Rattle.rules.specs.Names.{is_mrs}
use Rattle.rules.specs.Answers.{done}
use Rattle.rules.specs.Access.{access_of}
use Rattle.rules.specs.Journal.{record_served, run_of, buffer_after}

-- an answer other than 0 leaves the state as it was
abbrev pub RefusalsMoveNothing : Type 0
RefusalsMoveNothing = (s : State) (a : Access) → ((access_of s a).answer.number ≡ done → ⊥) → (access_of s a).next ≡ s

-- so does a record of a journal that is answered other than with 0, as one with a reserved bit set is with 6
abbrev pub RecordRefusalsMoveNothing : Type 0
RecordRefusalsMoveNothing =
    (s : State) (r : Record) → ((record_served s r).answer.number ≡ done → ⊥) → (record_served s r).next ≡ s

-- and a run whose number is not 0 leaves the whole state and every byte of the lent buffer as they were
abbrev pub RunRefusalsMoveNothing : Type 0
RunRefusalsMoveNothing =
    (s : State) (journal answers : List ℕ) →
    ((run_of s journal answers).number ≡ done → ⊥) →
    ((run_of s journal answers).next ≡ s) × (buffer_after s journal answers ≡ answers)

-- a read leaves the state as it was
abbrev pub ReadsMoveNothing : Type 0
ReadsMoveNothing = (s : State) (a : Access) → is_mrs a.word ≡ true → (access_of s a).next ≡ s
