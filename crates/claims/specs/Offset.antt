-- CNTPOFF in plain words: who sees it in the physical count, and who does not.
use Rattle.std.specs.Prelude.{◌≤◌, true, ◌⊎◌, ◌≡◌}
use Rattle.rules.specs.declared.access.Access.{Access}
use Rattle.rules.specs.declared.state.State.{State}
use Rattle.rules.specs.declared.verdict.Target.TheVariants.{Cntpct}
use Rattle.rules.specs.Bits.{bit}
use Rattle.rules.specs.Arithmetic.{◌less◌}
use Rattle.rules.specs.Values.{known}
use Rattle.rules.specs.Answers.{done_read}
use Rattle.rules.specs.Access.{access_of}
use Rattle.claims.specs.Desk.{PermittedRead}
use Rattle.claims.specs.Grounds.{El2On}

-- offset on: ECV, EL2 on, ECVEn 1, CNTHCTL.ECV 1, not host
pub record OffsetOn (s : State) : Type 0 where
  pub ecv : s.features.ecv ≡ true
  pub el2 : El2On s
  pub ecven : s.controls.ecven ≡ true
  pub cnthctl : bit 12 s.controls.cnthctl ≡ true
  pub not_host : s.controls.e2h ≡ true → s.controls.tge ≡ true → ⊥

-- a permitted read of CNTPCT gives the physical count, less CNTPOFF exactly at EL0 and EL1 with offset on. The count that a
-- TVAL of CNTP uses stands on the same word of the rulebook
pub record CntpctReads (s : State) (a : Access) : Type 0 where
  pub offset :
      a.level ≤ 1 →
      OffsetOn s →
      (access_of s a).answer ≡ done_read a.word (known (a.count less s.cntpoff))
  pub physical :
      (2 ≤ a.level) ⊎ (OffsetOn s → ⊥) →
      (access_of s a).answer ≡ done_read a.word (known a.count)

abbrev pub WhoSeesCntpoff : Type 0
WhoSeesCntpoff = (s : State) (a : Access) → PermittedRead s a Cntpct → CntpctReads s a
