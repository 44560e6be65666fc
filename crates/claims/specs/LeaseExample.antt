-- There is such a lease: that of examples/lease.txt, 500 ticks taken at virtual count 600 of the readings' start. Of what is
-- asked on the way there, some reads, a trap and a write to a timer of EL2.
use Rattle.std.specs.Prelude.{true, false, List, [], ◌∷◌, ◌≡◌}
use Rattle.rules.specs.declared.access.Access.{Access}
use Rattle.rules.specs.declared.state.State.{State}
use Rattle.rules.specs.Words.{EL1, EL2}
use Rattle.rules.specs.Names.{an_access, written_operand}
use Rattle.rules.specs.Access.{access_of}
use Rattle.rules.specs.Readings.{start}
use Rattle.claims.specs.Desk.{end_state, NoneReaches}
use Rattle.claims.specs.Lease.{line_at, Takes, OfTheLease, Ahead, UpFrom}

-- MSR CNTV_TVAL_EL0, X1 and MSR CNTV_CTL_EL0, X2
abbrev pub value : Access
value = an_access 0xD51BE301 EL1 500 1000

abbrev pub control : Access
control = an_access 0xD51BE322 EL1 1 1000

-- MRS CNTV_TVAL_EL0; MRS CNTPCT_EL0, which is trapped; MSR CNTHP_CVAL_EL2, X1 by EL2; MRS CNTV_CTL_EL0
abbrev pub on_the_way : List Access
on_the_way =
    an_access 0xD53BE300 EL1 0 1000 ∷ an_access 0xD53BE020 EL1 0 1200 ∷ an_access 0xD51CE241 EL2 77 1300 ∷ an_access 0xD53BE320 EL1 0 1499 ∷ []

abbrev pub begun : State
begun = end_state access_of start (value ∷ control ∷ [])

-- MSR CNTVOFF_EL2, XZR by EL2
abbrev pub offset_moved : Access
offset_moved = an_access 0xD51CE07F EL2 0 1050

pub record LeaseExample : Type 0 where
  -- it meets what the claim asks, and ends at 600 + 500
  pub takes : Takes start value control
  pub alone : NoneReaches OfTheLease begun on_the_way
  pub ahead : Ahead (written_operand value) 500
  pub ends : UpFrom (end_state access_of begun on_the_way) 1100
  -- CNTVOFF has to be left alone too: a write of it moves the end, here to physical 1100 from 1500
  pub before : line_at begun 1100 ≡ false
  pub after : line_at (access_of begun offset_moved).next 1100 ≡ true
