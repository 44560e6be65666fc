-- The checker computes what the kernel and EL0 are told.
-- Assumes nothing.
use mathlib.Core.Path.{refl}
use Rattle.rules.specs.Words.{facts_of}
use Rattle.rules.specs.Names.{name_of, name_table}
use Rattle.rules.specs.Counters.{cntvct}
use Rattle.rules.specs.Control.{cntkctl}
use Rattle.rules.specs.Verdicts.{verdict_of}
use Rattle.rules.specs.Stored.{cntkctl_fields, stored_cntkctl}
use Rattle.rules.specs.Values.{read_of, write_of}
use Rattle.rules.specs.Context.{impossible, impossible_at}
use Rattle.rules.specs.Access.{permitted, ruled, served, access_of}
use Rattle.claims.specs.Kernel.{KernelExample}

pub kernel_example : KernelExample
unfolding facts_of name_of name_table cntvct cntkctl verdict_of cntkctl_fields stored_cntkctl read_of write_of impossible impossible_at permitted ruled served access_of
kernel_example = refl
