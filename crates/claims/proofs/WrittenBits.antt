-- A control bit that was written rules. In plain numbers what is stored has three parts, bits 7 to 0, 11 to 8 and 17 to 12, each
-- the operand's or 0; and a bit of such a number is a bit of one part.
-- Assumes nothing.
use Prim.Native.Nat.{ℕ, ◌+◌, ◌*◌, ◌/◌, ◌%◌, ◌^◌, ◌<◌}
use mathlib.Core.Bool.{Bool, true, false, cond}
use mathlib.Core.Path.{◌≡◌, ap, ◌∙◌}
use native.Mathlib.Omega.{arith}
use Rattle.rules.specs.declared.facts.Cnthctl.{Cnthctl}
use Rattle.rules.specs.declared.verdict.Target.{Target}
use Rattle.rules.specs.Bits.{bits, bit, cntkctl_of, cnthctl_of}
use Rattle.rules.specs.Words.{cntkctl, cnthctl, facts_of}
use Rattle.rules.specs.Names.{written_operand}
use Rattle.rules.specs.Stored.{stored_cntkctl, stored_cnthctl}
use Rattle.rules.specs.Values.{write_of}
use Rattle.rules.proofs.Stored.{cntkctl_plain, cnthctl_plain}
use Rattle.claims.specs.WrittenBits.{of_the_layout, WrittenBitsRule}
use Rattle.claims.proofs.Writes.{writes_change_one}

-- ---- CNTKCTL

low_ten : (x above : ℕ) → (bits 0 0 (x % 2 ^ 10 + above * 2 ^ 17) ≡ bits 0 0 x) × (bits 1 1 (x % 2 ^ 10 + above * 2 ^ 17) ≡ bits 1 1 x) × (bits 8 8 (x % 2 ^ 10 + above * 2 ^ 17) ≡ bits 8 8 x) × (bits 9 9 (x % 2 ^ 10 + above * 2 ^ 17) ≡ bits 9 9 x)
low_ten x above = (omega arith, omega arith, omega arith, omega arith)

cntkctl_bits : (x above : ℕ) → cntkctl_of (x % 2 ^ 10 + above * 2 ^ 17) ≡ cntkctl_of x
cntkctl_bits x above =
    let l : (bits 0 0 (x % 2 ^ 10 + above * 2 ^ 17) ≡ bits 0 0 x) × (bits 1 1 (x % 2 ^ 10 + above * 2 ^ 17) ≡ bits 1 1 x) × (bits 8 8 (x % 2 ^ 10 + above * 2 ^ 17) ≡ bits 8 8 x) × (bits 9 9 (x % 2 ^ 10 + above * 2 ^ 17) ≡ bits 9 9 x) = low_ten x above in
    rw (l.0, l.1, l.2, l.3)

cntkctl_rules : (ecv : Bool) (x : ℕ) → cntkctl_of (stored_cntkctl ecv x) ≡ cntkctl_of x
cntkctl_rules true x = ap cntkctl_of (cntkctl_plain true x) ∙ cntkctl_bits x (x / 2 ^ 17 % 2)
cntkctl_rules false x = ap cntkctl_of (cntkctl_plain false x) ∙ cntkctl_bits x 0

-- ---- CNTHCTL

-- the bits of a number of three parts: the operand's below 8, b from there, c from 12
abbrev from_parts : Bool → ℕ → ℕ → ℕ → Cnthctl
from_parts e2h x b c =
    record {
      el0pcten = bit 0 x;
      el0vcten = bit 1 x;
      el0vten = bit 0 b;
      el0pten = bit 1 b;
      el1pcten = cond e2h (bit 2 b) (bit 0 x);
      el1pcen = bit 1 x;
      el1pten = bit 3 b;
      ecv = bit 0 c;
      el1tvt = bit 1 c;
      el1tvct = bit 2 c;
    }

module _ (x b c : ℕ) (b-fits : b < 2 ^ 4) where
  abbrev parts : ℕ
  parts = x % 2 ^ 8 + b * 2 ^ 8 + c * 2 ^ 12

  to_7 : (bits 0 0 parts ≡ bits 0 0 x) × (bits 1 1 parts ≡ bits 1 1 x)
  to_7 = (omega arith, omega arith)

  from_8 : (bits 8 8 parts ≡ bits 0 0 b) × (bits 9 9 parts ≡ bits 1 1 b) × (bits 10 10 parts ≡ bits 2 2 b) × (bits 11 11 parts ≡ bits 3 3 b)
  from_8 = (omega arith, omega arith, omega arith, omega arith)

  from_12 : (bits 12 12 parts ≡ bits 0 0 c) × (bits 13 13 parts ≡ bits 1 1 c) × (bits 14 14 parts ≡ bits 2 2 c)
  from_12 = (omega arith, omega arith, omega arith)

  by_part : (e2h : Bool) → cnthctl_of e2h parts ≡ from_parts e2h x b c
  by_part e2h =
      rw (to_7.0, to_7.1, from_8.0, from_8.1, from_8.2, from_8.3, from_12.0, from_12.1, from_12.2)

-- a part that is the operand's has its bits
of_8 : (x : ℕ) → (bits 0 0 (bits 11 8 x) ≡ bits 8 8 x) × (bits 1 1 (bits 11 8 x) ≡ bits 9 9 x) × (bits 2 2 (bits 11 8 x) ≡ bits 10 10 x) × (bits 3 3 (bits 11 8 x) ≡ bits 11 11 x)
of_8 x = (omega arith, omega arith, omega arith, omega arith)

of_12 : (x : ℕ) → (bits 0 0 (bits 17 12 x) ≡ bits 12 12 x) × (bits 1 1 (bits 17 12 x) ≡ bits 13 13 x) × (bits 2 2 (bits 17 12 x) ≡ bits 14 14 x)
of_12 x = (omega arith, omega arith, omega arith)

four_bits : (x : ℕ) → bits 11 8 x < 2 ^ 4
four_bits x = omega arith

cnthctl_rules : (e2h ecv : Bool) (x : ℕ) → cnthctl_of e2h (stored_cnthctl e2h ecv x) ≡ of_the_layout e2h ecv (cnthctl_of e2h x)
cnthctl_rules true true x =
    ap (cnthctl_of true) (cnthctl_plain true true x)
    ∙ by_part x (bits 11 8 x) (bits 17 12 x) (four_bits x) true
    ∙ rw ((of_8 x).0, (of_8 x).1, (of_8 x).2, (of_8 x).3, (of_12 x).0, (of_12 x).1, (of_12 x).2)
cnthctl_rules true false x =
    ap (cnthctl_of true) (cnthctl_plain true false x)
    ∙ by_part x (bits 11 8 x) 0 (four_bits x) true
    ∙ rw ((of_8 x).0, (of_8 x).1, (of_8 x).2, (of_8 x).3)
cnthctl_rules false true x =
    ap (cnthctl_of false) (cnthctl_plain false true x)
    ∙ by_part x 0 (bits 17 12 x) (omega arith) false
    ∙ rw ((of_12 x).0, (of_12 x).1, (of_12 x).2)
cnthctl_rules false false x =
    ap (cnthctl_of false) (cnthctl_plain false false x) ∙ by_part x 0 0 (omega arith) false

pub written_bits_rule : WrittenBitsRule
unfolding facts_of write_of
written_bits_rule =
    record {
      cntkctl = λ s a w. ap cntkctl (writes_change_one s a Target.Cntkctl w).next ∙ cntkctl_rules _ (written_operand a);
      cnthctl = λ s a w. ap cnthctl (writes_change_one s a Target.Cnthctl w).next ∙ cnthctl_rules _ _ (written_operand a);
    }
