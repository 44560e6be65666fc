-- 'Syndromes': what an exception of class 0x18 tells a handler of the trapped word, and the word that it tells of.
use Rattle.std.specs.Prelude.{ℕ, ◌+◌, ◌*◌, ◌^◌}
use Rattle.rules.specs.Bits.{bits}
use Rattle.rules.specs.Names.{op0_of, op1_of, crn_of, crm_of, op2_of, rt_of}

-- op0 21..20, op2 19..17, op1 16..14, CRn 13..10, Rt 9..5, CRm 4..1, and in bit 0 the direction, 1 for MRS
abbrev pub syndrome_of : ℕ → ℕ
syndrome_of word =
    op0_of word * 2 ^ 20
    + op2_of word * 2 ^ 17
    + op1_of word * 2 ^ 14
    + crn_of word * 2 ^ 10
    + rt_of word * 2 ^ 5
    + crm_of word * 2 ^ 1
    + bits 21 21 word

-- bits 31..22 of an MRS or MSR, the direction, op0, op1, CRn, CRm, op2, Rt. op0 has both of its bits, and the higher is 1 in an
-- MRS or MSR alone
abbrev pub word_of : ℕ → ℕ
word_of iss =
    0b1101010100 * 2 ^ 22
    + bits 0 0 iss * 2 ^ 21
    + bits 21 20 iss * 2 ^ 19
    + bits 16 14 iss * 2 ^ 16
    + bits 13 10 iss * 2 ^ 12
    + bits 4 1 iss * 2 ^ 8
    + bits 19 17 iss * 2 ^ 5
    + bits 9 5 iss
