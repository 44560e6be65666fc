-- 'Instruction words and register names': what the bits of a word say, and the table of the twenty registers.
use Rattle.std.specs.Prelude.{ℕ, ◌+◌, Bool, if◌then◌else◌, ◌&&◌, List, [], ◌∷◌, ◌==◌, None, Option, Some}
use Rattle.rules.specs.declared.access.Access.{Access}
use Rattle.rules.specs.declared.name.Name.{Name}
use Rattle.rules.specs.declared.name.Name.TheVariants.{Cntpct, Cntvct, Cntpctss, Cntvctss, Cntp, Cntv, Cntvoff, Cnthp, Cnthvs, Cntkctl, Cnthctl, Cntpoff}
use Rattle.rules.specs.declared.name.Part.TheVariants.{Tval, Ctl, Cval}
use Rattle.rules.specs.Bits.{bits, bit}

-- MRS and MSR (register): bits 31..22 are 1101010100, and bit 20 is 1
abbrev pub is_mrs_or_msr : ℕ → Bool
is_mrs_or_msr word = bits 31 22 word == 0b1101010100 && bit 20 word

-- bit 21 is 1 for MRS
abbrev pub is_mrs : ℕ → Bool
is_mrs word = bit 21 word

-- bit 19 is op0 less 2, then op1 (18..16), CRn (15..12), CRm (11..8), op2 (7..5), Rt (4..0)
abbrev pub op0_of : ℕ → ℕ
op0_of word = bits 19 19 word + 2

abbrev pub op1_of : ℕ → ℕ
op1_of word = bits 18 16 word

abbrev pub crn_of : ℕ → ℕ
crn_of word = bits 15 12 word

abbrev pub crm_of : ℕ → ℕ
crm_of word = bits 11 8 word

abbrev pub op2_of : ℕ → ℕ
op2_of word = bits 7 5 word

abbrev pub rt_of : ℕ → ℕ
rt_of word = bits 4 0 word

-- an access by its word, level, operand and count
abbrev pub an_access : ℕ → ℕ → ℕ → ℕ → Access
an_access word level operand count = record { word = word; level = level; operand = operand; count = count }

-- MSR with Rt 31 writes 0, whatever operand is lent
abbrev pub written_operand : Access → ℕ
written_operand a = if rt_of a.word == 31 then 0 else a.operand

-- a register: one name with its five encoding numbers
pub record Row : Type 0 where
  pub name : Name
  pub op0 : ℕ
  pub op1 : ℕ
  pub crn : ℕ
  pub crm : ℕ
  pub op2 : ℕ

abbrev row : Name → ℕ → ℕ → ℕ → ℕ → ℕ → Row
row name op0 op1 crn crm op2 = record { name = name; op0 = op0; op1 = op1; crn = crn; crm = crm; op2 = op2 }

-- a line each: the name, then op0, op1, CRn, CRm, op2
unfoldable pub name_table : List Row
name_table =
    row Cntpct 3 3 14 0 1
    ∷ row Cntvct 3 3 14 0 2
    ∷ row Cntpctss 3 3 14 0 5
    ∷ row Cntvctss 3 3 14 0 6
    ∷ row (Cntp Tval) 3 3 14 2 0
    ∷ row (Cntp Ctl) 3 3 14 2 1
    ∷ row (Cntp Cval) 3 3 14 2 2
    ∷ row (Cntv Tval) 3 3 14 3 0
    ∷ row (Cntv Ctl) 3 3 14 3 1
    ∷ row (Cntv Cval) 3 3 14 3 2
    ∷ row Cntvoff 3 4 14 0 3
    ∷ row (Cnthp Tval) 3 4 14 2 0
    ∷ row (Cnthp Ctl) 3 4 14 2 1
    ∷ row (Cnthp Cval) 3 4 14 2 2
    ∷ row (Cnthvs Tval) 3 4 14 4 0
    ∷ row (Cnthvs Ctl) 3 4 14 4 1
    ∷ row (Cnthvs Cval) 3 4 14 4 2
    ∷ row Cntkctl 3 0 14 1 0  -- document 02, request 1, from here
    ∷ row Cnthctl 3 4 14 1 0
    ∷ row Cntpoff 3 4 14 0 6
    ∷ []

-- a word has a register's five numbers
abbrev pub is_named_by : Row → ℕ → Bool
is_named_by r word =
    r.op0 == op0_of word
    && r.op1 == op1_of word
    && r.crn == crn_of word
    && r.crm == crm_of word
    && r.op2 == op2_of word

-- the first register of a table whose numbers a word has
abbrev pub look_up : List Row → ℕ → Option Name
look_up [] word = None
look_up (r ∷ rs) word = if is_named_by r word then Some r.name else look_up rs word

-- the name that a word is taken to: none for a word that is not MRS or MSR, or not in the table
unfoldable pub name_of : ℕ → Option Name
name_of word = if is_mrs_or_msr word then look_up name_table word else None
