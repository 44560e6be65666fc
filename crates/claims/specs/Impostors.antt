-- What each demand is worth: four impostors that nobody wants meet demand 3, and the rule tables of demand 2 shut out each.
use Rattle.std.specs.Prelude.{ℕ, zero, suc, if◌then◌else◌, false, List, [], ◌++◌, ◌≡◌}
use Rattle.rules.specs.declared.access.Access.{Access}
use Rattle.rules.specs.declared.answer.Outcome.{Outcome}
use Rattle.rules.specs.declared.state.State.{State}
use Rattle.rules.specs.Words.{cnthctl}
use Rattle.rules.specs.Values.{known}
use Rattle.rules.specs.Answers.{done_read, undefined_at, as_before}
use Rattle.rules.specs.Access.{access_of}
use Rattle.rules.specs.Journal.{record_at, record_served, answer_bytes, answers_of}
use Rattle.claims.specs.Desk.{Desk}
use Rattle.claims.specs.Guests.{Guest, OneAccess, Demand3}
use Rattle.claims.specs.Journals.{Server, JournalDemand3}

-- one that says Undefined to all
abbrev pub undefined_to_all : Desk
undefined_to_all s a = as_before s (undefined_at a.word)

-- one that answers 600 to all
abbrev pub six_hundred_to_all : Desk
six_hundred_to_all s a = as_before s (done_read a.word (known 600))

-- one that never stores a write
abbrev pub never_stores : Desk
never_stores s a = as_before s (access_of s a).answer

-- demand 2's tables: every access is answered, and leaves the state, as the rules say
abbrev pub FollowsTheRules : Desk → Type 0
FollowsTheRules desk =
    (s : State) (a : Access) → desk s a ≡ access_of s a

-- demand 3 admits it, and demand 2 does not
pub record ShutOutByDemand2 (desk : Desk) : Type 0 where
  pub admitted : Demand3 desk
  pub shut_out : FollowsTheRules desk → ⊥

-- one that serves the first record and copies its answer onward: no desk, but what serves a journal
abbrev pub first_served : State → List ℕ → Outcome
first_served s journal = record_served s (record_at journal 0)

abbrev pub copies : State → List ℕ → ℕ → List ℕ
copies s journal zero = []
copies s journal (suc n) = copies s journal n ++ answer_bytes (first_served s journal).answer

abbrev pub after_first : State → List ℕ → ℕ → State
after_first s journal zero = s
after_first s journal (suc n) = (first_served s journal).next

abbrev pub copies_onward : Server
copies_onward = record { answers = copies; state = after_first }

-- demand 2's tables for a journal: the answers are the rules'
abbrev pub AnswersByTheRules : Server → Type 0
AnswersByTheRules server = (s : State) (journal : List ℕ) (n : ℕ) → server.answers s journal n ≡ answers_of s journal n

pub record RunShutOutByDemand2 (server : Server) : Type 0 where
  pub admitted : JournalDemand3 server
  pub shut_out : AnswersByTheRules server → ⊥

-- the four of RULES, 'How tightly it is nailed'
pub record ImpostorsClaim : Type 0 where
  pub undefined_to_all : ShutOutByDemand2 undefined_to_all
  pub six_hundred_to_all : ShutOutByDemand2 six_hundred_to_all
  pub never_stores : ShutOutByDemand2 never_stores
  pub copies_onward : RunShutOutByDemand2 copies_onward

-- a guest of which only the physical timer, or only the physical counter, is trapped
pub record TimerTrapped (s : State) : Type 0 where
  pub guest : Guest s
  pub timer : (if s.controls.e2h then (cnthctl s).el1pten else (cnthctl s).el1pcen) ≡ false

pub record CounterTrapped (s : State) : Type 0 where
  pub guest : Guest s
  pub counter : (cnthctl s).el1pcten ≡ false

-- with either half of 'physical trapped' taken away, demand 3 would be false of the rules: the guest reads the physical
-- count, or moves CNTP; a field is named for the half that is taken away, and asks the other alone
pub record TrappedIsNeeded : Type 0 where
  pub counter : OneAccess TimerTrapped access_of → ⊥
  pub timer : OneAccess CounterTrapped access_of → ⊥
