-- A register's five numbers as a word and as a syndrome has them, and the word that they make.
use Rattle.std.specs.Prelude.{ℕ, ◌<◌, ◌+◌, ◌*◌, ◌^◌, Bool, if◌then◌else◌}
use Rattle.registers.specs.declared.encoding.Encoding.{Encoding}
use Rattle.rules.specs.Bits.{bits}
use Rattle.rules.specs.Names.{op0_of, op1_of, crn_of, crm_of, op2_of}

abbrev pub encoding_of : ℕ → Encoding
encoding_of word = record { op0 = op0_of word; op1 = op1_of word; crn = crn_of word; crm = crm_of word; op2 = op2_of word }

abbrev pub encoding_of_syndrome : ℕ → Encoding
encoding_of_syndrome iss = record { op0 = bits 21 20 iss; op1 = bits 16 14 iss; crn = bits 13 10 iss; crm = bits 4 1 iss; op2 = bits 19 17 iss }

-- each number fits the bits that an MRS or MSR has for it
pub record FitsWord (e : Encoding) (rt : ℕ) : Type 0 where
  pub op0_fits : e.op0 < 4
  pub op1_fits : e.op1 < 8
  pub crn_fits : e.crn < 16
  pub crm_fits : e.crm < 16
  pub op2_fits : e.op2 < 8
  pub rt_fits : rt < 32

-- bits 31..22 of an MRS or MSR, the direction, op0, op1, CRn, CRm, op2, Rt
abbrev pub word_with : Encoding → Bool → ℕ → ℕ
word_with e mrs rt =
    0b1101010100 * 2 ^ 22
    + (if mrs then 2 ^ 21 else 0)
    + e.op0 * 2 ^ 19
    + e.op1 * 2 ^ 16
    + e.crn * 2 ^ 12
    + e.crm * 2 ^ 8
    + e.op2 * 2 ^ 5
    + rt
