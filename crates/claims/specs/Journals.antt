-- Demand 3 for the run of a journal: two journals alike but for counts, on two such machines, give the same answer bytes.
use Rattle.std.specs.Prelude.{ℕ, ◌*◌, ◌<◌, List, ◌≡◌, length, take}
use Rattle.rules.specs.declared.record.Record.{Record}
use Rattle.rules.specs.declared.state.State.{State}
use Rattle.rules.specs.Journal.{record_bytes, record_at, state_after, answers_of, run_number, turns, run_of, buffer_after}
use Rattle.claims.specs.Guests.{TrappedGuest, Alike, SameShown, AlikeAgain}

-- two records alike but for counts, which are the same virtual count
pub record SameRecord (s t : State) (r q : Record) : Type 0 where
  pub reserved : r.reserved ≡ q.reserved
  pub shown : SameShown s t r.access q.access

-- and so the first n of two journals
abbrev pub JournalsShown : State → State → List ℕ → List ℕ → ℕ → Type 0
JournalsShown s t journal other n =
    (i : ℕ) → i < n → SameRecord s t (record_at journal (i * record_bytes)) (record_at other (i * record_bytes))

-- what serves the first n records of a journal: their answer bytes, and the state after them
pub record Server : Type 0 where
  pub answers : State → List ℕ → ℕ → List ℕ
  pub state : State → List ℕ → ℕ → State

abbrev pub by_the_rules : Server
by_the_rules = record { answers = answers_of; state = state_after }

-- after n records: the same answer bytes, and machines that are alike again
pub record RecordsAlike (server : Server) (s t : State) (journal other : List ℕ) (n : ℕ) : Type 0 where
  pub answers : server.answers s journal n ≡ server.answers t other n
  pub states : AlikeAgain s t (server.state s journal n) (server.state t other n)

-- demand 3 for any number of records
abbrev pub JournalDemand3 : Server → Type 0
JournalDemand3 server =
    (s t : State) (journal other : List ℕ) (n : ℕ) →
    TrappedGuest s →
    Alike s t →
    JournalsShown s t journal other n →
    RecordsAlike server s t journal other n

-- two runs: the same number; the same bytes in their buffers as far as the answers go, and to the end where they lent the
-- same; and machines that are alike again
pub record RunsAlike (s t : State) (journal other answers buffer : List ℕ) : Type 0 where
  pub number : (run_of s journal answers).number ≡ (run_of t other buffer).number
  pub answered :
      take (turns journal answers * record_bytes) (buffer_after s journal answers)
      ≡ take (turns journal answers * record_bytes) (buffer_after t other buffer)
  pub whole : answers ≡ buffer → buffer_after s journal answers ≡ buffer_after t other buffer
  pub states : AlikeAgain s t (run_of s journal answers).next (run_of t other buffer).next

-- the claim
pub record JournalClaim : Type 0 where
  pub records : JournalDemand3 by_the_rules
  -- journals of one length into buffers of one length: one number, and as many records served
  pub number :
      (journal other answers buffer : List ℕ) →
      length journal ≡ length other →
      length answers ≡ length buffer →
      run_number journal answers ≡ run_number other buffer
  pub served :
      (journal other answers buffer : List ℕ) →
      length journal ≡ length other →
      length answers ≡ length buffer →
      turns journal answers ≡ turns other buffer
  -- and so two such runs, whole, where the records that are served are alike
  pub runs :
      (s t : State) (journal other answers buffer : List ℕ) →
      TrappedGuest s →
      Alike s t →
      length journal ≡ length other →
      length answers ≡ length buffer →
      JournalsShown s t journal other (turns journal answers) →
      RunsAlike s t journal other answers buffer
