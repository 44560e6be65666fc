-- RULES, 'When 5 holds', in plain words: each ground as a case, and nothing else.
use Rattle.std.specs.Prelude.{ℕ, ◌<◌, true, false, ◌⊎◌, ◌≡◌, Some}
use Rattle.rules.specs.declared.access.Access.{Access}
use Rattle.rules.specs.declared.name.Name.{Name}
use Rattle.rules.specs.declared.state.State.{State}
use Rattle.rules.specs.Bits.{bits}
use Rattle.rules.specs.Names.{name_of}
use Rattle.rules.specs.Access.{access_of}
use Rattle.rules.specs.Lines.{lines_of}

-- EL2 is on: NS is 1, or SEL2 and EEL2 are 1
abbrev pub El2On : State → Type 0
El2On s = (s.controls.ns ≡ true) ⊎ ((s.features.sel2 ≡ true) × (s.controls.eel2 ≡ true))

-- the grounds that have no level
pub data Ground (s : State) : Type 0 where
  e2h_without_vhe : s.controls.e2h ≡ true → s.features.vhe ≡ false → Ground s
  eel2_without_sel2 : s.controls.eel2 ≡ true → s.features.sel2 ≡ false → Ground s
  ecven_without_ecv : s.controls.ecven ≡ true → s.features.ecv ≡ false → Ground s
  bits12_to14_without_ecv : (bits 14 12 s.controls.cnthctl ≡ 0 → ⊥) → s.features.ecv ≡ false → Ground s

-- and those of an access
pub data GroundAt (s : State) (level : ℕ) : Type 0 where
  level_above3 : 3 < level → GroundAt s level
  whatever_level : Ground s → GroundAt s level
  el2_not_on : level ≡ 2 → (El2On s → ⊥) → GroundAt s level
  el1_under_tge : level ≡ 1 → El2On s → s.controls.tge ≡ true → GroundAt s level

-- an access whose word has a name gets 5 exactly on one of these; the lines question gets 5 exactly on one that has no level
pub record FiveExactlyWhen : Type 0 where
  pub refused :
      (s : State) (a : Access) (name : Name) →
      name_of a.word ≡ Some name →
      GroundAt s a.level →
      (access_of s a).answer.number ≡ 5
  pub reason :
      (s : State) (a : Access) → (access_of s a).answer.number ≡ 5 → GroundAt s a.level
  pub lines_refused : (s : State) (physical : ℕ) → Ground s → (lines_of s physical).number ≡ 5
  pub lines_reason : (s : State) (physical : ℕ) → (lines_of s physical).number ≡ 5 → Ground s
