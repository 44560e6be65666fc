-- Demand 3: what a Non-secure guest whose physical counter and physical timer are trapped can tell, and what it can move.
-- No nested virtualization: the model has no NV bits.
use Rattle.std.specs.Prelude.{ℕ, true, false, List, [], ◌∷◌, ◌⊎◌, ◌≡◌}
use Rattle.rules.specs.declared.access.Access.{Access}
use Rattle.rules.specs.declared.state.State.{State}
use Rattle.rules.specs.declared.state.Timer.{Timer}
use Rattle.rules.specs.declared.state.TimerName.{TimerName}
use Rattle.rules.specs.declared.state.TimerName.TheVariants.{Cntv}
use Rattle.rules.specs.declared.verdict.Target.TheVariants.{Cnthctl, Cntpoff}
use Rattle.rules.specs.Words.{EL0, EL1, physical_trapped}
use Rattle.rules.specs.Names.{an_access}
use Rattle.rules.specs.Timers.{same, get, put}
use Rattle.rules.specs.States.{with_timers, with_cntkctl}
use Rattle.rules.specs.Counts.{virtual}
use Rattle.rules.specs.Access.{access_of}
use Rattle.claims.specs.Desk.{Desk, answers_to, end_state, Permitted}

-- Non-secure, TGE 0
pub record Guest (s : State) : Type 0 where
  pub nonsecure : s.controls.ns ≡ true
  pub tge0 : s.controls.tge ≡ false

-- and physical counter and physical timer trapped to EL2: demand 3's guest; a machine that is alike has such a guest too
pub record TrappedGuest (s : State) : Type 0 where
  pub guest : Guest s
  pub trapped : physical_trapped s ≡ true

-- the guest's own part of a state, which it reads and moves: its virtual timer, and CNTKCTL
pub record Own : Type 0 where
  pub cntv : Timer
  pub cntkctl : ℕ

abbrev pub own : State → Own
own s = record { cntv = s.timers.cntv; cntkctl = s.controls.cntkctl }

-- a state with that part put in
abbrev pub with_own : State → Own → State
with_own s x = with_cntkctl (with_timers s (put s.timers Cntv x.cntv)) x.cntkctl

-- two machines alike in features, controls (CNTKCTL is one of them) and the guest's own part; physical count, offsets and every
-- other timer may differ
pub record Alike (s t : State) : Type 0 where
  pub features : s.features ≡ t.features
  pub controls : s.controls ≡ t.controls
  pub own : own s ≡ own t

-- an access as the guest sees it: at the virtual count
abbrev pub as_seen : State → Access → Access
as_seen s a = an_access a.word a.level a.operand (virtual s a.count)

-- the same access, at EL0 or EL1, shown to each at the same virtual count
pub record SameShown (s t : State) (a b : Access) : Type 0 where
  pub el0_or_el1 : (a.level ≡ EL0) ⊎ (a.level ≡ EL1)
  pub same : as_seen s a ≡ as_seen t b

-- and so each access of two sequences; the offsets are those of the start, since they do not move
abbrev pub AllShown : State → State → List Access → List Access → Type 0
AllShown s t [] [] = Unit {0}
AllShown s t [] (b ∷ bs) = ⊥
AllShown s t (a ∷ rest) [] = ⊥
AllShown s t (a ∷ rest) (b ∷ bs) = SameShown s t a b × AllShown s t rest bs

-- nothing else moved: the new state is the old one with the guest's own part of the new one put in
abbrev pub NothingElseMoved : State → State → Type 0
NothingElseMoved old new = new ≡ with_own old (own new)

-- that is: features, the SCR and HCR facts, CNTHCTL, both offsets and the five other timers are as they were
pub record OthersStand (old new : State) : Type 0 where
  pub features : new.features ≡ old.features
  pub ns : new.controls.ns ≡ old.controls.ns
  pub eel2 : new.controls.eel2 ≡ old.controls.eel2
  pub ecven : new.controls.ecven ≡ old.controls.ecven
  pub e2h : new.controls.e2h ≡ old.controls.e2h
  pub tge : new.controls.tge ≡ old.controls.tge
  pub cnthctl : new.controls.cnthctl ≡ old.controls.cnthctl
  pub cntvoff : new.cntvoff ≡ old.cntvoff
  pub cntpoff : new.cntpoff ≡ old.cntpoff
  pub timers : (u : TimerName) → same Cntv u ≡ false → get new.timers u ≡ get old.timers u

-- what two machines come to: the same own part, and nothing else moved on either
pub record AlikeAgain (s t s' t' : State) : Type 0 where
  pub own : own s' ≡ own t'
  pub here : NothingElseMoved s s'
  pub there : NothingElseMoved t t'

-- one access: the same answer, and machines that are alike again
pub record OneAlike (desk : Desk) (s t : State) (a b : Access) : Type 0 where
  pub answer : (desk s a).answer ≡ (desk t b).answer
  pub states : AlikeAgain s t (desk s a).next (desk t b).next

-- demand 3 for one access, over what is asked of a guest
abbrev pub OneAccess : (State → Type 0) → Desk → Type 0
OneAccess Asked desk =
    (s t : State) (a b : Access) → Asked s → Alike s t → SameShown s t a b → OneAlike desk s t a b

-- any sequence: the same answers, and machines that are alike again
pub record SequencesAlike (desk : Desk) (s t : State) (as₁ as₂ : List Access) : Type 0 where
  pub answers : answers_to desk s as₁ ≡ answers_to desk t as₂
  pub states : AlikeAgain s t (end_state desk s as₁) (end_state desk t as₂)

-- demand 3
abbrev pub Demand3 : Desk → Type 0
Demand3 desk =
    (s t : State) (as₁ as₂ : List Access) →
    TrappedGuest s →
    Alike s t →
    AllShown s t as₁ as₂ →
    SequencesAlike desk s t as₁ as₂

-- by no word does such a guest reach CNTHCTL or CNTPOFF
pub record OutOfReach (s : State) (a : Access) : Type 0 where
  pub cnthctl : Permitted s a Cnthctl → ⊥
  pub cntpoff : Permitted s a Cntpoff → ⊥

-- the claim, over the rule tables: one access and any sequence; what it is that did not move; and what it cannot reach
pub record GuestClaim : Type 0 where
  pub one_access : OneAccess TrappedGuest access_of
  pub any_sequence : Demand3 access_of
  pub others : (old new : State) → NothingElseMoved old new → OthersStand old new
  pub out_of_reach : (s : State) (a : Access) → TrappedGuest s → (a.level ≡ EL0) ⊎ (a.level ≡ EL1) → OutOfReach s a
