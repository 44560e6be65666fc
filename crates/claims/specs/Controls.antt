-- Demand 2 of the control registers: what a write of CNTKCTL, CNTHCTL or CNTPOFF took reads back, cut to the stored bits, and
-- written back stays.
use Rattle.std.specs.Prelude.{ℕ, List, ◌∷◌, ◌⊎◌, ◌≡◌, Some}
use Rattle.rules.specs.declared.access.Access.{Access}
use Rattle.rules.specs.declared.name.Name.{Name}
use Rattle.rules.specs.declared.state.State.{State}
use Rattle.rules.specs.declared.verdict.Target.{Target}
use Rattle.rules.specs.declared.verdict.Target.TheVariants.{Cntkctl, Cnthctl, Cntpoff}
use Rattle.rules.specs.Names.{name_of, written_operand}
use Rattle.rules.specs.Stored.{stored_cntkctl, stored_cnthctl}
use Rattle.rules.specs.Values.{known}
use Rattle.rules.specs.Answers.{done_read}
use Rattle.rules.specs.Access.{access_of}
use Rattle.claims.specs.Desk.{end_state, Permitted, PermittedWrite, PermittedRead, NoneReaches}

-- a permitted write of a register, then accesses of which none is a permitted write of it, then a permitted read of it: each by
-- whatever name and at whatever level reaches it, so CNTHCTL by CNTKCTL's too. The read gives what the write stored of its
-- operand, which is 0 for Rt 31
abbrev pub ReadsBack : Target → (State → ℕ → ℕ) → Type 0
ReadsBack register stored =
    (s : State) (w : Access) (between : List Access) (r : Access) →
    PermittedWrite s w register →
    NoneReaches (λ target. target ≡ register) (access_of s w).next between →
    PermittedRead (end_state access_of s (w ∷ between)) r register →
    (access_of (end_state access_of s (w ∷ between)) r).answer ≡ done_read r.word (known (stored s (written_operand w)))

-- and what it holds after a write, written back, changes nothing
abbrev pub Stays : Target → (State → ℕ) → Type 0
Stays register held =
    (s : State) (w again : Access) →
    PermittedWrite s w register →
    PermittedWrite (access_of s w).next again register →
    written_operand again ≡ held (access_of s w).next →
    (access_of (access_of s w).next again).next ≡ (access_of s w).next

-- the names of the three
abbrev pub IsControl : Name → Type 0
IsControl name = (name ≡ Name.Cntkctl) ⊎ (name ≡ Name.Cnthctl) ⊎ (name ≡ Name.Cntpoff)

-- where a write by one of them is permitted, so is a read by it at the same level afterwards, and it reaches the same register
abbrev pub ReadableAfterwards : Type 0
ReadableAfterwards =
    (s : State) (w r : Access) (name : Name) (register : Target) →
    IsControl name →
    name_of w.word ≡ Some name →
    name_of r.word ≡ Some name →
    r.level ≡ w.level →
    PermittedWrite s w register →
    Permitted (access_of s w).next r register

-- the bits by the features and E2H of the state that was written; CNTPOFF whole
pub record ControlsReadBack : Type 0 where
  pub readable : ReadableAfterwards
  pub cntkctl : ReadsBack Cntkctl (λ s x. stored_cntkctl s.features.ecv x)
  pub cnthctl : ReadsBack Cnthctl (λ s x. stored_cnthctl s.controls.e2h s.features.ecv x)
  pub cntpoff : ReadsBack Cntpoff (λ s x. x)
  pub cntkctl_stays : Stays Cntkctl (λ s. s.controls.cntkctl)
  pub cnthctl_stays : Stays Cnthctl (λ s. s.controls.cnthctl)
  pub cntpoff_stays : Stays Cntpoff (λ s. s.cntpoff)
