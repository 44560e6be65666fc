-- A register of the code as a row of the rulebook's name table.
use Rattle.std.specs.Prelude.{Bool, ◌&&◌, ◌==◌}
use Rattle.registers.specs.declared.encoding.Encoding.{Encoding}
use Rattle.registers.specs.declared.register.Register.{Register}
use Rattle.rules.specs.Names.{Row}

abbrev pub row_of : Register → Row
row_of r = record { name = r.name; op0 = r.encoding.op0; op1 = r.encoding.op1; crn = r.encoding.crn; crm = r.encoding.crm; op2 = r.encoding.op2 }

-- a register has these five numbers
abbrev pub has_encoding : Encoding → Register → Bool
has_encoding e r =
    r.encoding.op0 == e.op0
    && r.encoding.op1 == e.op1
    && r.encoding.crn == e.crn
    && r.encoding.crm == e.crm
    && r.encoding.op2 == e.op2
