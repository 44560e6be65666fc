-- What answers accesses, one or one after the other, and which of them are permitted. The claims are of `access_of`; the
-- impostors are desks too.
use Rattle.std.specs.Prelude.{true, false, List, [], ◌∷◌, ◌≡◌, Ok, Some}
use Rattle.rules.specs.declared.access.Access.{Access}
use Rattle.rules.specs.declared.answer.Answer.{Answer}
use Rattle.rules.specs.declared.answer.Outcome.{Outcome}
use Rattle.rules.specs.declared.name.Name.{Name}
use Rattle.rules.specs.declared.state.State.{State}
use Rattle.rules.specs.declared.verdict.Target.{Target}
use Rattle.rules.specs.Words.{facts_of}
use Rattle.rules.specs.Names.{name_of, is_mrs}
use Rattle.rules.specs.Verdicts.{verdict_of}
use Rattle.rules.specs.Context.{impossible_at}
use Rattle.rules.specs.Access.{access_of}

-- a state and an access come to an answer and the next state
abbrev pub Desk : Type 0
Desk = State → Access → Outcome

-- the answers to accesses one after the other, and the state after the last
abbrev pub answers_to : Desk → State → List Access → List Answer
answers_to desk s [] = []
answers_to desk s (a ∷ rest) = (desk s a).answer ∷ answers_to desk (desk s a).next rest

abbrev pub end_state : Desk → State → List Access → State
end_state desk s [] = s
end_state desk s (a ∷ rest) = end_state desk (desk s a).next rest

-- an access is permitted: its word has a name, its context is possible, and the verdict names the register that it reaches
pub record Permitted (s : State) (a : Access) (target : Target) : Type 0 where
  pub name : Name
  pub named : name_of a.word ≡ Some name
  pub possible : impossible_at s a.level ≡ false
  pub verdict : verdict_of (facts_of s a.level) name (is_mrs a.word) ≡ Ok target

-- a permitted write, and a permitted read, of the register that is reached
pub record PermittedWrite (s : State) (a : Access) (target : Target) : Type 0 where
  pub write : is_mrs a.word ≡ false
  pub permitted : Permitted s a target

pub record PermittedRead (s : State) (a : Access) (target : Target) : Type 0 where
  pub read : is_mrs a.word ≡ true
  pub permitted : Permitted s a target

-- of accesses one after the other, by any level and any guest, none is a permitted write that reaches one of these registers
abbrev pub NoneReaches : (Target → Type 0) → State → List Access → Type 0
NoneReaches These s [] = Unit {0}
NoneReaches These s (a ∷ rest) =
    ((target : Target) → These target → PermittedWrite s a target → ⊥) × NoneReaches These (access_of s a).next rest
