-- A check of some of a gate's rules: where one of them fits it stops the access as that rule says, and else what comes after
-- them decides.
use Rattle.std.specs.Prelude.{◌≡◌, ℕ, List, Result, Ok, Err}
use Rattle.rules.specs.declared.verdict.Stop.{Stop}
use Rattle.rules.specs.Rules.{Verdict, Rule, first, at_level}

infix 60 ◌then◌
abbrev pub ◌then◌ : Result Unit Stop → Verdict → Verdict
Ok _ then otherwise = otherwise
Err stop then otherwise = Err stop

abbrev pub Checks : List Rule → Result Unit Stop → Type 0
Checks rules check = (otherwise : Verdict) → first rules otherwise ≡ (check then otherwise)

-- the same where EL0 and EL1 have rules of their own, and EL2 and EL3 none
abbrev pub ChecksByLevel : ℕ → List Rule → List Rule → Result Unit Stop → Type 0
ChecksByLevel level at_el0 at_el1 check =
    (el0 el1 el2 el3 : Verdict)
    → at_level level (first at_el0 el0) (first at_el1 el1) el2 el3 ≡ (check then at_level level el0 el1 el2 el3)
