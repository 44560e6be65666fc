-- There is such a kernel: records of examples/kernel.txt. From the readings' start it shuts CNTVCT to EL0, opens it and shuts it
-- again, each time by CNTKCTL; and of 64 ones CNTKCTL keeps ten.
use Rattle.std.specs.Prelude.{List, [], ◌∷◌, ◌≡◌}
use Rattle.rules.specs.declared.access.Access.{Access}
use Rattle.rules.specs.declared.answer.Answer.{Answer}
use Rattle.rules.specs.Words.{EL0, EL1}
use Rattle.rules.specs.Names.{an_access}
use Rattle.rules.specs.Values.{known}
use Rattle.rules.specs.Answers.{trap_to_el1, done_read, done_write, trapped}
use Rattle.rules.specs.Access.{access_of}
use Rattle.rules.specs.Readings.{start}
use Rattle.claims.specs.Desk.{answers_to}

-- MSR CNTKCTL_EL1, XZR and MSR CNTKCTL_EL1, X1; MRS X0, CNTKCTL_EL1; MRS X0, CNTVCT_EL0
abbrev asks : List Access
asks =
    an_access 0xD518E11F EL1 0 1000
    ∷ an_access 0xD53BE040 EL0 0 1000
    ∷ an_access 0xD518E101 EL1 0x2 1100
    ∷ an_access 0xD53BE040 EL0 0 1100
    ∷ an_access 0xD518E101 EL1 0xFFFFFFFFFFFFFFFF 1200
    ∷ an_access 0xD538E100 EL1 0 1200
    ∷ an_access 0xD518E101 EL1 0x3FD 1300
    ∷ an_access 0xD53BE040 EL0 0 1300
    ∷ []

abbrev told : List Answer
told =
    done_write 0xD518E11F
    ∷ trapped trap_to_el1 0xD53BE040
    ∷ done_write 0xD518E101
    ∷ done_read 0xD53BE040 (known 700)
    ∷ done_write 0xD518E101
    ∷ done_read 0xD538E100 (known 0x3FF)
    ∷ done_write 0xD518E101
    ∷ trapped trap_to_el1 0xD53BE040
    ∷ []

abbrev pub KernelExample : Type 0
KernelExample = answers_to access_of start asks ≡ told
