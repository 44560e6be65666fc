-- Three impostors stand still and answer alike, and the fourth copies what is alike, so demand 3 admits them; a reading from
-- the bench tells each from the rules.
-- And a guest that is trapped by halves reads the physical count, or moves CNTP.
-- Assumes nothing.
use Prim.Native.Nat.{ℕ, zero, suc}
use mathlib.Core.Bool.{true, false}
use mathlib.Core.List.{List, [], ◌∷◌, ◌++◌, map}
use mathlib.Core.Logic.{inr}
use mathlib.Core.Path.{◌≡◌, refl, ap, ap₂, ◌∙◌}
use native.Mathlib.Omega.{arith}
use lib.ListN.{get_or}
use Rattle.rules.specs.declared.access.Access.{Access}
use Rattle.rules.specs.declared.answer.Answer.{Answer}
use Rattle.rules.specs.declared.answer.Outcome.{Outcome}
use Rattle.rules.specs.declared.state.State.{State}
use Rattle.rules.specs.Words.{EL1, facts_of}
use Rattle.rules.specs.Names.{name_of, name_table, an_access}
use Rattle.rules.specs.Cntp.{cntp}
use Rattle.rules.specs.Counters.{cntpct, cntvct}
use Rattle.rules.specs.Verdicts.{verdict_of}
use Rattle.rules.specs.Counts.{count_of}
use Rattle.rules.specs.Values.{known, read_of, write_timer, write_of}
use Rattle.rules.specs.Answers.{done_read, undefined_at, as_before}
use Rattle.rules.specs.Context.{impossible, impossible_at}
use Rattle.rules.specs.Access.{permitted, ruled, served, access_of}
use Rattle.rules.specs.Journal.{record_at, record_served, answer_bytes, state_after, answers_of}
use Rattle.rules.specs.Readings.{start, Reading, readings, asked}
use Rattle.rules.proofs.Readings.{readings_hold}
use Rattle.claims.specs.Guests.{Guest, TrappedGuest, Alike, SameShown, OneAlike, OneAccess, Demand3}
use Rattle.claims.specs.Journals.{RecordsAlike, JournalDemand3}
use Rattle.claims.specs.Impostors.{undefined_to_all, six_hundred_to_all, never_stores, ShutOutByDemand2, first_served, copies_onward, RunShutOutByDemand2, ImpostorsClaim, TimerTrapped, CounterTrapped, TrappedIsNeeded}
use Rattle.claims.proofs.Guests.{alike_here, one_access, any_sequence}
use Rattle.claims.proofs.Journals.{ServedAlike, served_alike}

-- a desk that never moves the state, and answers alike where it should
stands_still : (answer_of : State → Access → Answer) → ((s t : State) (a b : Access) → TrappedGuest s → Alike s t → SameShown s t a b → answer_of s a ≡ answer_of t b) → Demand3 (λ s a. as_before s (answer_of s a))
stands_still answer_of alike =
    any_sequence _ (λ s t a b g e h. record { answer = alike s t a b g e h; states = alike_here s t e })

-- what is the same of two accesses is the same of what is made from their words
same_word : {A : Type 0} (f : ℕ → A) (s t : State) (a b : Access) → SameShown s t a b → f a.word ≡ f b.word
same_word f s t a b h = ap (λ (x : Access). f x.word) h.same

abbrev at : ℕ → List Outcome → Outcome
at row l = get_or l row (as_before start (undefined_at 0))

-- what the bench read, by its row in the table
bench : (row : ℕ) → at row (map asked readings) ≡ at row (map (λ (r : Reading). r.told) readings)
bench row = ap (at row) readings_hold

undefined_to_all_lem : ShutOutByDemand2 undefined_to_all
undefined_to_all_lem =
    record {
      admitted = stands_still (λ s a. undefined_at a.word) (λ s t a b g e h. same_word undefined_at s t a b h);
      shut_out = λ follows. let no : ◌≡◌ {A = ℕ} 1 0 = ap (λ (o : Outcome). o.answer.number) (follows start (an_access 0xD53BE040 EL1 0 1000) ∙ bench 0) in omega arith;
    }

six_hundred_to_all_lem : ShutOutByDemand2 six_hundred_to_all
six_hundred_to_all_lem =
    record {
      admitted = stands_still (λ s a. done_read a.word (known 600)) (λ s t a b g e h. same_word (λ w. done_read w (known 600)) s t a b h);
      shut_out = λ follows. let no : ◌≡◌ {A = ℕ} 0 3 = ap (λ (o : Outcome). o.answer.number) (follows start (an_access 0xD53BE020 EL1 0 1000) ∙ bench 1) in omega arith;
    }

never_stores_lem : ShutOutByDemand2 never_stores
never_stores_lem =
    record {
      admitted = stands_still (λ s a. (access_of s a).answer) (λ s t a b g e h. (one_access s t a b g e h).answer);
      shut_out = λ follows. let no : ◌≡◌ {A = ℕ} 0 599 = ap (λ (o : Outcome). o.next.timers.cntv.cval) (follows start (an_access 0xD51BE301 EL1 0xFFFFFFFF 1000) ∙ bench 4) in omega arith;
    }

-- ---- the fourth

-- alike on the first record, and so on what is copied from it
copied_alike : JournalDemand3 copies_onward
copied_alike s t journal other zero g e h = record { answers = refl; states = alike_here s t e }
copied_alike s t journal other (suc n) g e h =
    let before : RecordsAlike copies_onward s t journal other n = copied_alike s t journal other n g e (λ i l. h i (omega arith)) in
    let first : ServedAlike s t (first_served s journal) (first_served t other) = served_alike s t g e (record_at journal 0) (record_at other 0) (h 0 (omega arith)) in
    record {
      answers = ap₂ (λ (front more : List ℕ). front ++ more) before.answers (ap answer_bytes first.answer);
      states = first.states;
    }

-- readings 1 and 2, as RULES has them in bytes: a record is a word and what follows it
abbrev at_el1_count_1000 : List ℕ
at_el1_count_1000 =
    0x40 ∷ 0 ∷ 0 ∷ 0 ∷ 0 ∷ 0 ∷ 0 ∷ 0 ∷ 0 ∷ 0 ∷ 0 ∷ 0 ∷ 0 ∷ 0 ∷ 0 ∷ 0 ∷ 0 ∷ 0 ∷ 0x03 ∷ 0xE8 ∷ []

abbrev two_readings : List ℕ
two_readings =
    (0xD5 ∷ 0x3B ∷ 0xE0 ∷ 0x40 ∷ at_el1_count_1000) ++ (0xD5 ∷ 0x3B ∷ 0xE0 ∷ 0x20 ∷ at_el1_count_1000)

-- the second is trapped to EL2, and its answer begins with 0x30, which no copy of 600 does
copies_onward_lem : RunShutOutByDemand2 copies_onward
unfolding facts_of name_of name_table cntvct cntpct verdict_of read_of impossible impossible_at permitted ruled served access_of record_at record_served answer_bytes state_after answers_of
copies_onward_lem =
    record {
      admitted = copied_alike;
      shut_out = λ follows. let no : ◌≡◌ {A = ℕ} 0 0x30 = ap (λ (l : List ℕ). get_or l 24 0) (follows start two_readings 2) in omega arith;
    }

pub impostors_claim : ImpostorsClaim
impostors_claim =
    record {
      undefined_to_all = undefined_to_all_lem;
      six_hundred_to_all = six_hundred_to_all_lem;
      never_stores = never_stores_lem;
      copies_onward = copies_onward_lem;
    }

-- ---- a guest that is trapped by halves

-- two machines that differ in CNTVOFF, with a CNTHCTL that opens one half
abbrev open_to : ℕ → ℕ → State
open_to cnthctl cntvoff =
    record {
      features = start.features;
      controls = record { ns = true; eel2 = false; ecven = false; e2h = false; tge = false; cntkctl = 0; cnthctl = cnthctl };
      cntvoff = cntvoff;
      cntpoff = 0;
      timers = start.timers;
    }

abbrev shown_at : ℕ → ℕ → Access
shown_at word count = an_access word EL1 77 count

same_virtual : (cnthctl word : ℕ) → SameShown (open_to cnthctl 0) (open_to cnthctl 1) (shown_at word 5) (shown_at word 6)
same_virtual cnthctl word = record { el0_or_el1 = inr refl; same = refl }

guest : (cnthctl : ℕ) → Guest (open_to cnthctl 0)
guest cnthctl = record { nonsecure = refl; tge0 = refl }

alike : (cnthctl : ℕ) → Alike (open_to cnthctl 0) (open_to cnthctl 1)
alike cnthctl = record { features = refl; controls = refl; own = refl }

-- EL1PCTEN 1: MRS of CNTPCT gives 5 on the one and 6 on the other
counter_needed : OneAccess TimerTrapped access_of → ⊥
unfolding facts_of name_of name_table cntpct verdict_of read_of impossible impossible_at permitted ruled served access_of
counter_needed holds =
    let told : OneAlike access_of (open_to 1 0) (open_to 1 1) (shown_at 0xD53BE020 5) (shown_at 0xD53BE020 6) = holds (open_to 1 0) (open_to 1 1) (shown_at 0xD53BE020 5) (shown_at 0xD53BE020 6) (record { guest = guest 1; timer = refl }) (alike 1) (same_virtual 1 0xD53BE020) in
    let no : ◌≡◌ {A = ℕ} 5 6 = ap (λ (a : Answer). a.value) told.answer in
    omega arith

-- EL1PCEN 1: MSR of CNTP CVAL moves CNTP from 0 to 77
timer_needed : OneAccess CounterTrapped access_of → ⊥
unfolding facts_of name_of name_table cntp verdict_of write_of write_timer count_of impossible impossible_at permitted ruled served access_of
timer_needed holds =
    let told : OneAlike access_of (open_to 2 0) (open_to 2 1) (shown_at 0xD51BE240 5) (shown_at 0xD51BE240 6) = holds (open_to 2 0) (open_to 2 1) (shown_at 0xD51BE240 5) (shown_at 0xD51BE240 6) (record { guest = guest 2; counter = refl }) (alike 2) (same_virtual 2 0xD51BE240) in
    let no : ◌≡◌ {A = ℕ} 77 0 = ap (λ (x : State). x.timers.cntp.cval) told.states.here in
    omega arith

pub trapped_is_needed : TrappedIsNeeded
trapped_is_needed = record { counter = counter_needed; timer = timer_needed }
