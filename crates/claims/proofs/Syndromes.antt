-- A syndrome and a word are two sums of the same seven parts. A part is found again in its place, since all that stands below it is
-- less than its unit; and a number is the sum of its parts, each cut off in turn from what is left.
-- Assumes nothing.
use Prim.Native.Nat.{ℕ, ◌+◌, ◌*◌, ◌/◌, ◌%◌, ◌^◌, ◌<◌, ◌≤◌}
use mathlib.Core.Bool.{true, and-eq-true_iff}
use mathlib.Core.Path.{◌≡◌, ap, ◌∙◌}
use native.Mathlib.Omega.{arith}
use lib.Dec.{eqb}
use borrow.Author.Tests.{eqb-true}
use Rattle.rules.specs.Bits.{bits, bit}
use Rattle.rules.specs.Names.{is_mrs_or_msr, op0_of, op1_of, crn_of, crm_of, op2_of, rt_of}
use Rattle.rules.specs.Syndromes.{syndrome_of, word_of}
use Rattle.claims.specs.Syndromes.{SyndromesAndWords}

record Parts : Type 0 where
  op0 : ℕ
  op1 : ℕ
  crn : ℕ
  crm : ℕ
  op2 : ℕ
  rt : ℕ
  mrs : ℕ

abbrev parts : ℕ → ℕ → ℕ → ℕ → ℕ → ℕ → ℕ → Parts
parts op0 op1 crn crm op2 rt mrs = record { op0 = op0; op1 = op1; crn = crn; crm = crm; op2 = op2; rt = rt; mrs = mrs }

-- `word_of` is the word of a syndrome's parts, and `syndrome_of` the syndrome of a word's
abbrev of_syndrome : ℕ → Parts
of_syndrome iss = parts (bits 21 20 iss) (bits 16 14 iss) (bits 13 10 iss) (bits 4 1 iss) (bits 19 17 iss) (bits 9 5 iss) (bits 0 0 iss)

abbrev of_word : ℕ → Parts
of_word word = parts (op0_of word) (op1_of word) (crn_of word) (crm_of word) (op2_of word) (rt_of word) (bits 21 21 word)

abbrev syndrome : Parts → ℕ
syndrome p = p.op0 * 2 ^ 20 + p.op2 * 2 ^ 17 + p.op1 * 2 ^ 14 + p.crn * 2 ^ 10 + p.rt * 2 ^ 5 + p.crm * 2 ^ 1 + p.mrs

abbrev word : Parts → ℕ
word p =
    0b1101010100 * 2 ^ 22
    + p.mrs * 2 ^ 21
    + p.op0 * 2 ^ 19
    + p.op1 * 2 ^ 16
    + p.crn * 2 ^ 12
    + p.crm * 2 ^ 8
    + p.op2 * 2 ^ 5
    + p.rt

-- ---- a part is found again in its place

record Fit (p : Parts) : Type 0 where
  op0 : p.op0 < 4
  op1 : p.op1 < 8
  crn : p.crn < 16
  crm : p.crm < 16
  op2 : p.op2 < 8
  rt : p.rt < 32
  mrs : p.mrs < 2

same :
    {a0 b0 a1 b1 a2 b2 a3 b3 a4 b4 a5 b5 a6 b6 : ℕ} →
    (a0 ≡ b0) × (a1 ≡ b1) × (a2 ≡ b2) × (a3 ≡ b3) × (a4 ≡ b4) × (a5 ≡ b5) × (a6 ≡ b6) →
    parts a0 a1 a2 a3 a4 a5 a6 ≡ parts b0 b1 b2 b3 b4 b5 b6
same (h0, h1, h2, h3, h4, h5, h6) = cc

module _ (p : Parts) (fit : Fit p) where
  found_in_syndrome : of_syndrome (syndrome p) ≡ p
  found_in_syndrome = same (omega arith, omega arith, omega arith, omega arith, omega arith, omega arith, omega arith)

  found_in_word : 2 ≤ p.op0 → of_word (word p) ≡ p
  found_in_word h = same (omega arith, omega arith, omega arith, omega arith, omega arith, omega arith, omega arith)

  bits_31_to_22 : bits 31 22 (word p) ≡ 0b1101010100
  bits_31_to_22 = omega arith

  bit_20 : bits 20 20 (word p) ≡ p.op0 / 2
  bit_20 = omega arith

fits : (op0 op1 crn crm op2 rt mrs : ℕ) → op0 < 4 → Fit (parts op0 (op1 % 8) (crn % 16) (crm % 16) (op2 % 8) (rt % 32) (mrs % 2))
fits op0 op1 crn crm op2 rt mrs below =
    record {
      op0 = below;
      op1 = omega arith;
      crn = omega arith;
      crm = omega arith;
      op2 = omega arith;
      rt = omega arith;
      mrs = omega arith;
    }

syndrome's_fit : (iss : ℕ) → Fit (of_syndrome iss)
syndrome's_fit iss = fits (bits 21 20 iss) _ _ _ _ _ _ (omega arith)

word's_fit : (w : ℕ) → Fit (of_word w)
word's_fit w = fits (op0_of w) _ _ _ _ _ _ (omega arith)

-- ---- a number is the sum of its parts

-- what is left of a syndrome from place 1, 5, 10, 14, 17 and 20 on
syndrome_adds_up :
    (p : Parts) (i i1 i5 i10 i14 i17 i20 : ℕ) →
    (i ≡ i1 * 2 ^ 1 + p.mrs)
    × (i1 ≡ i5 * 2 ^ 4 + p.crm)
    × (i5 ≡ i10 * 2 ^ 5 + p.rt)
    × (i10 ≡ i14 * 2 ^ 4 + p.crn)
    × (i14 ≡ i17 * 2 ^ 3 + p.op1)
    × (i17 ≡ i20 * 2 ^ 3 + p.op2)
    × (i20 ≡ p.op0) →
    syndrome p ≡ i
syndrome_adds_up p i i1 i5 i10 i14 i17 i20 (a, b, c, d, e, f, g) = omega arith

is_syndrome : (iss : ℕ) → iss < 2 ^ 22 → syndrome (of_syndrome iss) ≡ iss
is_syndrome iss below =
    syndrome_adds_up
    (of_syndrome iss)
    iss
    (iss / 2 ^ 1)
    (iss / 2 ^ 5)
    (iss / 2 ^ 10)
    (iss / 2 ^ 14)
    (iss / 2 ^ 17)
    (iss / 2 ^ 20)
    (omega arith, omega arith, omega arith, omega arith, omega arith, omega arith, omega arith)

-- what is left of a word from place 5, 8, 12, 16, 19, 21 and 22 on
word_adds_up :
    (p : Parts) (w w5 w8 w12 w16 w19 w21 w22 : ℕ) →
    (w ≡ w5 * 2 ^ 5 + p.rt)
    × (w5 ≡ w8 * 2 ^ 3 + p.op2)
    × (w8 ≡ w12 * 2 ^ 4 + p.crm)
    × (w12 ≡ w16 * 2 ^ 4 + p.crn)
    × (w16 ≡ w19 * 2 ^ 3 + p.op1)
    × (w19 ≡ w21 * 2 ^ 2 + p.op0)
    × (w21 ≡ w22 * 2 ^ 1 + p.mrs)
    × (w22 ≡ 0b1101010100) →
    word p ≡ w
word_adds_up p w w5 w8 w12 w16 w19 w21 w22 (a, b, c, d, e, f, g, h) = omega arith

is_word : (w : ℕ) → w < 2 ^ 32 → bits 31 22 w ≡ 0b1101010100 → bits 20 20 w ≡ 1 → word (of_word w) ≡ w
is_word w below fixed one =
    word_adds_up
    (of_word w)
    w
    (w / 2 ^ 5)
    (w / 2 ^ 8)
    (w / 2 ^ 12)
    (w / 2 ^ 16)
    (w / 2 ^ 19)
    (w / 2 ^ 21)
    (w / 2 ^ 22)
    (omega arith, omega arith, omega arith, omega arith, omega arith, omega arith, omega arith, omega arith)

-- ---- the claim

word_back : (w : ℕ) → w < 2 ^ 32 → is_mrs_or_msr w ≡ true → word_of (syndrome_of w) ≡ w
word_back w below h =
    let both : (eqb (bits 31 22 w) 0b1101010100 ≡ true) × (bit 20 w ≡ true) = (and-eq-true_iff _ _).0 h in
    ap word (found_in_syndrome (of_word w) (word's_fit w)) ∙ is_word w below (eqb-true _ _ both.0) (eqb-true _ _ both.1)

syndrome_back : (iss : ℕ) → iss < 2 ^ 22 → bit 21 iss ≡ true → syndrome_of (word_of iss) ≡ iss
syndrome_back iss below h =
    let one : bits 21 21 iss ≡ 1 = eqb-true _ _ h in
    ap syndrome (found_in_word (of_syndrome iss) (syndrome's_fit iss) (omega arith)) ∙ is_syndrome iss below

mrs_or_msr : (iss : ℕ) → is_mrs_or_msr (word_of iss) ≡ bit 21 iss
mrs_or_msr iss =
    let higher : bits 21 20 iss / 2 ≡ bits 21 21 iss = omega arith in
    let fixed : bits 31 22 (word_of iss) ≡ 0b1101010100 = bits_31_to_22 (of_syndrome iss) (syndrome's_fit iss) in
    let one : bits 20 20 (word_of iss) ≡ bits 21 21 iss = bit_20 (of_syndrome iss) (syndrome's_fit iss) ∙ higher in
    rw (fixed, one)

pub syndromes_and_words : SyndromesAndWords
syndromes_and_words = record { word_back = word_back; syndrome_back = syndrome_back; mrs_or_msr = mrs_or_msr }
