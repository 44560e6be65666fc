-- 10, a trap to EL3, in plain words: when it is given, and never else.
use Rattle.std.specs.Prelude.{true, false, ◌≡◌, Some}
use Rattle.rules.specs.declared.access.Access.{Access}
use Rattle.rules.specs.declared.name.Name.{Name}
use Rattle.rules.specs.declared.state.State.{State}
use Rattle.rules.specs.Names.{name_of}
use Rattle.rules.specs.Context.{impossible_at}
use Rattle.rules.specs.Access.{access_of}

-- an MRS or MSR of CNTPOFF at EL2, with ECV and ECVEn 0, in a context that can be
pub record CntpoffToEl3 (s : State) (a : Access) : Type 0 where
  pub name : name_of a.word ≡ Some Name.Cntpoff
  pub possible : impossible_at s a.level ≡ false
  pub level : a.level ≡ 2
  pub ecv : s.features.ecv ≡ true
  pub ecven : s.controls.ecven ≡ false

pub record TenExactlyWhen : Type 0 where
  pub trapped : (s : State) (a : Access) → CntpoffToEl3 s a → (access_of s a).answer.number ≡ 10
  pub reason : (s : State) (a : Access) → (access_of s a).answer.number ≡ 10 → CntpoffToEl3 s a
