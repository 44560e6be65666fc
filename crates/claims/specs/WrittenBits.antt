-- A control bit that was written rules: what the gates read of CNTKCTL and CNTHCTL after a write is what the operand has.
use Rattle.std.specs.Prelude.{Bool, ◌&&◌, ◌≡◌}
use Rattle.rules.specs.declared.access.Access.{Access}
use Rattle.rules.specs.declared.facts.Cnthctl.{Cnthctl}
use Rattle.rules.specs.declared.state.State.{State}
use Rattle.rules.specs.declared.verdict.Target.{Target}
use Rattle.rules.specs.Bits.{cntkctl_of, cnthctl_of}
use Rattle.rules.specs.Words.{cntkctl, cnthctl}
use Rattle.rules.specs.Names.{written_operand}
use Rattle.rules.specs.Access.{access_of}
use Rattle.claims.specs.Desk.{PermittedWrite}

-- of CNTHCTL's bits those of its layout, and with ECV its three; the others are 0
abbrev pub of_the_layout : Bool → Bool → Cnthctl → Cnthctl
of_the_layout e2h ecv h =
    record {
      el0pcten = h.el0pcten;
      el0vcten = h.el0vcten;
      el0vten = e2h && h.el0vten;
      el0pten = e2h && h.el0pten;
      el1pcten = h.el1pcten;
      el1pcen = h.el1pcen;
      el1pten = e2h && h.el1pten;
      ecv = ecv && h.ecv;
      el1tvt = ecv && h.el1tvt;
      el1tvct = ecv && h.el1tvct;
    }

-- after a permitted write, at whatever level and by whatever name it reached the register
pub record WrittenBitsRule : Type 0 where
  pub cntkctl :
      (s : State) (a : Access) → PermittedWrite s a Target.Cntkctl → cntkctl (access_of s a).next ≡ cntkctl_of (written_operand a)
  pub cnthctl :
      (s : State) (a : Access) →
      PermittedWrite s a Target.Cnthctl →
      cnthctl (access_of s a).next
      ≡ of_the_layout s.controls.e2h s.features.ecv (cnthctl_of s.controls.e2h (written_operand a))
