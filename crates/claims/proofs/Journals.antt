-- Demand 3 for a run: record by record, each alike by the claim for one access, or refused alike with 6; the machines are
-- alike again after it. Journals and buffers of one length make runs of one number and as many turns, and what a run leaves
-- is what its turns leave.
-- Assumes nothing.
use Prim.Native.Nat.{ℕ, zero, suc, ◌*◌}
use mathlib.Core.Bool.{Bool, true, false}
use mathlib.Core.List.{List, ◌++◌}
use mathlib.Core.Path.{◌≡◌, refl, sym, ap, ap₂, subst, ◌∙◌}
use native.Mathlib.Omega.{arith}
use lib.Dec.{eqb}
use lib.ListN.{length, take, drop}
use lib.Seq.{take_at}
use Rattle.rules.specs.declared.answer.Outcome.{Outcome}
use Rattle.rules.specs.declared.record.Record.{Record}
use Rattle.rules.specs.declared.state.State.{State}
use Rattle.rules.specs.Access.{access_of}
use Rattle.rules.specs.Journal.{record_bytes, record_at, record_served, answer_bytes, state_after, answers_of, run_number, turns, run_of, buffer_after}
use Rattle.rules.proofs.Journal.{answers_length}
use Rattle.claims.specs.Guests.{TrappedGuest, Alike, AlikeAgain, OneAlike}
use Rattle.claims.specs.Journals.{SameRecord, JournalsShown, by_the_rules, RecordsAlike, JournalDemand3, RunsAlike, JournalClaim}
use Rattle.claims.proofs.Guests.{alike_here, alike_on, alike_still, trapped_still, shown_still, one_access}

-- what one record leaves on two machines
pub record ServedAlike (s t : State) (x y : Outcome) : Type 0 where
  pub answer : x.answer ≡ y.answer
  pub states : AlikeAgain s t x.next y.next

module _ (s t : State) (g : TrappedGuest s) (e : Alike s t) where
  by_reserved : (r q : Record) → SameRecord s t r q → (b : Bool) → eqb r.reserved 0 ≡ b → eqb q.reserved 0 ≡ b → ServedAlike s t (record_served s r) (record_served t q)
  unfolding record_served
  by_reserved r q h true p o =
      let one : OneAlike access_of s t r.access q.access = one_access s t r.access q.access g e h.shown in
      rw (p, o) (record { answer = one.answer; states = one.states })
  by_reserved r q h false p o = rw (p, o) (record { answer = refl; states = alike_here s t e })

  pub served_alike : (r q : Record) → SameRecord s t r q → ServedAlike s t (record_served s r) (record_served t q)
  served_alike r q h =
      by_reserved r q h (eqb q.reserved 0) (ap (λ (x : ℕ). eqb x 0) h.reserved) refl

records_alike : JournalDemand3 by_the_rules
unfolding state_after answers_of
records_alike s t journal other zero g e h = record { answers = refl; states = alike_here s t e }
records_alike s t journal other (suc n) g e h =
    let before : RecordsAlike by_the_rules s t journal other n = records_alike s t journal other n g e (λ i l. h i (omega arith)) in
    let m : State = state_after s journal n in
    let k : State = state_after t other n in
    let again : AlikeAgain s t m k = before.states in
    let r : Record = record_at journal (n * record_bytes) in
    let q : Record = record_at other (n * record_bytes) in
    let shown : SameRecord s t r q = h n (omega arith) in
    let step : ServedAlike m k (record_served m r) (record_served k q) = served_alike m k (trapped_still s t m k again g) (alike_still s t m k again e) r q (record { reserved = shown.reserved; shown = shown_still s t m k again r.access q.access shown.shown }) in
    record {
      answers = ap₂ (λ (front more : List ℕ). front ++ more) before.answers (ap answer_bytes step.answer);
      states = alike_on s t m k _ _ again step.states;
    }

same_number : (journal other answers buffer : List ℕ) → length journal ≡ length other → length answers ≡ length buffer → run_number journal answers ≡ run_number other buffer
same_number journal other answers buffer j a = rw (j, a)

same_turns : (journal other answers buffer : List ℕ) → length journal ≡ length other → length answers ≡ length buffer → turns journal answers ≡ turns other buffer
same_turns journal other answers buffer j a = rw (j, a)

-- of a buffer after n turns the first 24 times n bytes are the answers
answers_in_front : (s : State) (journal rest : List ℕ) (n : ℕ) → take (n * record_bytes) (answers_of s journal n ++ rest) ≡ answers_of s journal n
answers_in_front s journal rest n = take_at (answers_of s journal n) rest (n * record_bytes) (answers_length s journal n)

runs_alike : (s t : State) (journal other answers buffer : List ℕ) → TrappedGuest s → Alike s t → length journal ≡ length other → length answers ≡ length buffer → JournalsShown s t journal other (turns journal answers) → RunsAlike s t journal other answers buffer
unfolding run_of buffer_after
runs_alike s t journal other answers buffer g e j a h =
    let n : ℕ = turns journal answers in
    let as_many : turns other buffer ≡ n = sym (same_turns journal other answers buffer j a) in
    let all : RecordsAlike by_the_rules s t journal other n = records_alike s t journal other n g e h in
    record {
      number = same_number journal other answers buffer j a;
      answered = rw as_many (answers_in_front s journal _ n ∙ all.answers ∙ sym (answers_in_front t other _ n));
      whole = λ same. rw as_many (ap₂ (λ (front rest : List ℕ). front ++ drop (n * record_bytes) rest) all.answers same);
      states = subst (λ (m : ℕ). AlikeAgain s t (state_after s journal n) (state_after t other m)) (sym as_many) all.states;
    }

pub journal_claim : JournalClaim
journal_claim = record { records = records_alike; number = same_number; served = same_turns; runs = runs_alike }
