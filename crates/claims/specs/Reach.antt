-- Who reaches CNTKCTL, CNTHCTL and CNTPOFF, cell by cell in plain words and numbers: the table of RULES, 'CNTKCTL, CNTHCTL and
-- CNTPOFF', said a second time, so that a cell that the rulebook has otherwise would show. The cell of 10 is in Ten.
use Rattle.std.specs.Prelude.{ℕ, true, false, ◌≡◌, Some}
use Rattle.rules.specs.declared.access.Access.{Access}
use Rattle.rules.specs.declared.name.Name.{Name}
use Rattle.rules.specs.declared.state.State.{State}
use Rattle.rules.specs.declared.verdict.Target.{Target}
use Rattle.rules.specs.Names.{name_of}
use Rattle.rules.specs.Context.{impossible_at}
use Rattle.rules.specs.Access.{access_of}
use Rattle.claims.specs.Desk.{Permitted}

-- an MRS or MSR of a register at a level, in a context that can be
pub record Asked (s : State) (a : Access) (register : Name) (at : ℕ) : Type 0 where
  pub name : name_of a.word ≡ Some register
  pub possible : impossible_at s a.level ≡ false
  pub level : a.level ≡ at

abbrev Undefined : State → Access → Type 0
Undefined s a = (access_of s a).answer.number ≡ 1

pub record EachCell (s : State) (a : Access) : Type 0 where
  pub cntkctl_el0 : Asked s a Name.Cntkctl 0 → Undefined s a
  pub cntkctl_el1 : Asked s a Name.Cntkctl 1 → Permitted s a Target.Cntkctl
  pub cntkctl_el2 : Asked s a Name.Cntkctl 2 → s.controls.e2h ≡ false → Permitted s a Target.Cntkctl
  pub cntkctl_el2_e2h : Asked s a Name.Cntkctl 2 → s.controls.e2h ≡ true → Permitted s a Target.Cnthctl
  pub cntkctl_el3 : Asked s a Name.Cntkctl 3 → Permitted s a Target.Cntkctl
  pub cnthctl_el0 : Asked s a Name.Cnthctl 0 → Undefined s a
  pub cnthctl_el1 : Asked s a Name.Cnthctl 1 → Undefined s a
  pub cnthctl_el2 : Asked s a Name.Cnthctl 2 → Permitted s a Target.Cnthctl
  pub cnthctl_el3 : Asked s a Name.Cnthctl 3 → Permitted s a Target.Cnthctl
  pub cntpoff_without_ecv : (level : ℕ) → Asked s a Name.Cntpoff level → s.features.ecv ≡ false → Undefined s a
  pub cntpoff_el0 : Asked s a Name.Cntpoff 0 → Undefined s a
  pub cntpoff_el1 : Asked s a Name.Cntpoff 1 → Undefined s a
  pub cntpoff_el2 : Asked s a Name.Cntpoff 2 → s.features.ecv ≡ true → s.controls.ecven ≡ true → Permitted s a Target.Cntpoff
  pub cntpoff_el3 : Asked s a Name.Cntpoff 3 → s.features.ecv ≡ true → Permitted s a Target.Cntpoff

abbrev pub WhoReachesControls : Type 0
WhoReachesControls = (s : State) (a : Access) → EachCell s a
