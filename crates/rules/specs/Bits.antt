-- Bits of a word, and the bits of the two control registers by the names of the Arm manual ('The machine we model').
-- Other bits are ignored.
use Rattle.std.specs.Prelude.{ℕ, ◌+◌, ◌-◌, ◌/◌, ◌%◌, ◌^◌, Bool, if◌then◌else◌, ◌==◌}
use Rattle.rules.specs.declared.facts.Cntkctl.{Cntkctl}
use Rattle.rules.specs.declared.facts.Cnthctl.{Cnthctl}

-- bits hi..lo of a word, as a number
abbrev pub bits : ℕ → ℕ → ℕ → ℕ
bits hi lo x = x / 2 ^ lo % 2 ^ (hi - lo + 1)

-- bit k of a word is 1
abbrev pub bit : ℕ → ℕ → Bool
bit k x = bits k k x == 1

-- CNTKCTL: EL0PCTEN 0, EL0VCTEN 1, EL0VTEN 8, EL0PTEN 9
abbrev pub cntkctl_of : ℕ → Cntkctl
cntkctl_of x = record { el0pcten = bit 0 x; el0vcten = bit 1 x; el0vten = bit 8 x; el0pten = bit 9 x }

-- CNTHCTL. With E2H 0: EL1PCTEN 0, EL1PCEN 1. With E2H 1: EL0PCTEN 0, EL0VCTEN 1, EL0VTEN 8, EL0PTEN 9, EL1PCTEN 10,
-- EL1PTEN 11. Either way: ECV 12, EL1TVT 13, EL1TVCT 14. A name that only one layout has is asked only with that E2H.
abbrev pub cnthctl_of : Bool → ℕ → Cnthctl
cnthctl_of e2h x =
    record {
      el0pcten = bit 0 x;
      el0vcten = bit 1 x;
      el0vten = bit 8 x;
      el0pten = bit 9 x;
      el1pcten = if e2h then bit 10 x else bit 0 x;
      el1pcen = bit 1 x;
      el1pten = bit 11 x;
      ecv = bit 12 x;
      el1tvt = bit 13 x;
      el1tvct = bit 14 x;
    }
