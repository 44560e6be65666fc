-- Each mask keeps the fields that are there, and nothing else.
-- Assumes nothing.
use Rattle.std.proofs.Common.{ℕ, ◌+◌, ◌*◌, ◌/◌, ◌%◌, ◌^◌, ◌-◌, ◌<◌, ◌≡◌, ap, ◌∙◌, true, false, bit_and, arith}
use Rattle.std.proofs.Math.Nat.{mod-mod}
use Rattle.std.proofs.lemmas.Nat.{pow_pos, and_mask, and_block}
use Rattle.std.proofs.lemmas.Nat.Bits.{and_high, and_pow}
use Rattle.rules.specs.Stored.{stored_cntkctl, stored_cnthctl}
use Rattle.rules.proofs.Stored.{cntkctl_plain, cnthctl_plain}

-- a mask of two parts, the lower of k ones
two_parts : (x k high : ℕ) → bit_and x (high * 2 ^ k + (2 ^ k - 1)) ≡ bit_and (x / 2 ^ k) high * 2 ^ k + x % 2 ^ k
two_parts x k high =
    let some : 0 < 2 ^ k = pow_pos k in
    let low : x % 2 ^ k < 2 ^ k = omega arith in
    let ones : 2 ^ k - 1 < 2 ^ k = omega arith in
    let whole : x ≡ x / 2 ^ k * 2 ^ k + x % 2 ^ k = omega arith in
    ap (λ y. bit_and y (high * 2 ^ k + (2 ^ k - 1))) whole
    ∙ and_block k (x / 2 ^ k) high _ _ low ones
    ∙ ap (λ y. bit_and (x / 2 ^ k) high * 2 ^ k + y) (and_mask _ k ∙ mod-mod x (2 ^ k))

pub cntkctl : (x : ℕ) → bit_and x 0x3FF ≡ stored_cntkctl false x
cntkctl x = and_mask x 10 ∙ rw (cntkctl_plain false x) (omega arith)

pub cntkctl_with_ecv : (x : ℕ) → bit_and x 0x203FF ≡ stored_cntkctl true x
cntkctl_with_ecv x = two_parts x 10 0x80 ∙ rw (and_pow (x / 2 ^ 10) 7, cntkctl_plain true x) (omega arith)

pub cnthctl : (x : ℕ) → bit_and x 0xFF ≡ stored_cnthctl false false x
cnthctl x = and_mask x 8 ∙ rw (cnthctl_plain false false x) (omega arith)

pub cnthctl_with_ecv : (x : ℕ) → bit_and x 0x3F0FF ≡ stored_cnthctl false true x
cnthctl_with_ecv x = two_parts x 8 0x3F0 ∙ rw (and_high (x / 2 ^ 8) 6 4, cnthctl_plain false true x) (omega arith)

pub cnthctl_with_e2h : (x : ℕ) → bit_and x 0xFFF ≡ stored_cnthctl true false x
cnthctl_with_e2h x = and_mask x 12 ∙ rw (cnthctl_plain true false x) (omega arith)

pub cnthctl_with_both : (x : ℕ) → bit_and x 0x3FFFF ≡ stored_cnthctl true true x
cnthctl_with_both x = and_mask x 18 ∙ rw (cnthctl_plain true true x) (omega arith)

-- the six, for the code
pub ruleset masks = (cntkctl, cntkctl_with_ecv, cnthctl, cnthctl_with_ecv, cnthctl_with_e2h, cnthctl_with_both)
