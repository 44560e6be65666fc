-- 'Who may touch what': rules are tried in order; the first that fits decides.
use Rattle.std.specs.Prelude.{ℕ, Bool, if◌then◌else◌, List, [], ◌∷◌, ◌==◌, Ok, Result}
use Rattle.rules.specs.declared.state.TimerName.{TimerName}
use Rattle.rules.specs.declared.name.Part.{Part}
use Rattle.rules.specs.declared.verdict.Target.TheVariants.{Timer}
use Rattle.rules.specs.declared.verdict.Target.{Target}
use Rattle.rules.specs.declared.verdict.Stop.{Stop}
use Rattle.rules.specs.Words.{EL0, EL1, EL2}

-- the one register that is reached, or what stops the access
abbrev pub Verdict : Type 0
Verdict = Result Target Stop

infix 70 ◌⇒◌
pub record Rule : Type 0 where
  pub fits : Bool
  pub gives : Verdict

abbrev pub ◌⇒◌ : Bool → Verdict → Rule
fits ⇒ gives = record { fits = fits; gives = gives }

-- what the first rule that fits gives, or what holds where none does
abbrev pub first : List Rule → Verdict → Verdict
first [] otherwise = otherwise
first (r ∷ rs) otherwise = if r.fits then r.gives else first rs otherwise

-- a family's verdicts at EL0, EL1, EL2 and EL3; a level above 3 is refused with 5 before any rule is asked
abbrev pub at_level : ℕ → Verdict → Verdict → Verdict → Verdict → Verdict
at_level level el0 el1 el2 el3 =
    if level == EL0 then el0 else if level == EL1 then el1 else if level == EL2 then el2 else el3

-- a register of a timer is reached: its part is passed on, and no rule looks at it
abbrev pub timer : TimerName → Part → Verdict
timer t p = Ok (Timer t p)
