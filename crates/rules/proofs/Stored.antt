-- What a write of a control register stores. The masks are computed. In plain numbers: a field that lies above others makes one
-- number with them, so that what is stored is all that is below some bit, and with ECV a part that is above.
-- Assumes nothing.
use Prim.Native.Nat.{ℕ, ◌+◌, ◌*◌, ◌/◌, ◌%◌, ◌^◌, ◌<◌}
use mathlib.Core.Bool.{Bool, true, false, cond}
use mathlib.Core.Path.{◌≡◌, refl, sym, ap, ◌∙◌}
use native.Mathlib.Omega.{arith}
use lib.Pow.{mod-pow-add}
use Rattle.rules.specs.Bits.{bits}
use Rattle.rules.specs.Stored.{cntkctl_fields, cnthctl_fields, stored_cntkctl, stored_cnthctl, MasksHold}

pub masks_hold : MasksHold
unfolding cntkctl_fields cnthctl_fields stored_cntkctl stored_cnthctl
masks_hold = refl

-- ---- fields side by side, before what else is stored

grouped : (a b rest : ℕ) → a + (b + rest) ≡ b + a + rest
grouped a b rest = omega arith

-- two fields that are not there
nothing : (rest : ℕ) → 0 + (0 + rest) ≡ rest
nothing rest = omega arith

cancel : (a b c : ℕ) → a + b ≡ a + c → b ≡ c
cancel a b c e = omega arith

module _ (x : ℕ) where
  -- all below bit k, and the j bits from there
  joined : (j k rest : ℕ) → x % 2 ^ k + (x / 2 ^ k % 2 ^ j * 2 ^ k + rest) ≡ x % 2 ^ (j + k) + rest
  joined j k rest = grouped _ _ rest ∙ ap (λ (y : ℕ). y + rest) (sym (mod-pow-add x j k))

  abbrev at : ℕ → ℕ → ℕ
  at high low = bits high low x * 2 ^ low

  lowest : (rest : ℕ) → at 0 0 + rest ≡ x % 2 ^ 1 + rest
  lowest rest = omega arith

  to_7 : (rest : ℕ) → at 0 0 + (at 1 1 + (at 2 2 + (at 3 3 + (at 7 4 + rest)))) ≡ x % 2 ^ 8 + rest
  to_7 rest = lowest _ ∙ joined 1 1 _ ∙ joined 1 2 _ ∙ joined 1 3 _ ∙ joined 4 4 rest

  to_9 : (rest : ℕ) → x % 2 ^ 8 + (at 8 8 + (at 9 9 + rest)) ≡ x % 2 ^ 10 + rest
  to_9 rest = joined 1 8 _ ∙ joined 1 9 rest

  -- and those above bit 7, and above bit 11, as the fields below them do not count
  from_8 : (rest : ℕ) → at 8 8 + (at 9 9 + (at 10 10 + (at 11 11 + rest))) ≡ at 11 8 + rest
  from_8 rest = cancel _ _ _ (to_9 _ ∙ joined 1 10 _ ∙ joined 1 11 rest ∙ sym (joined 4 8 rest))

  from_12 : at 12 12 + (at 13 13 + (at 14 14 + (at 15 15 + (at 16 16 + (at 17 17 + 0))))) ≡ at 17 12 + 0
  from_12 =
      cancel _ _ _
      (joined 1 12 _ ∙ joined 1 13 _ ∙ joined 1 14 _ ∙ joined 1 15 _ ∙ joined 1 16 _ ∙ joined 1 17 0 ∙ sym (joined 6 12 0))

-- ---- in plain numbers

pub cntkctl_plain : (ecv : Bool) (x : ℕ) → stored_cntkctl ecv x ≡ x % 2 ^ 10 + cond ecv (bits 17 17 x * 2 ^ 17) 0
unfolding cntkctl_fields stored_cntkctl
cntkctl_plain true x = to_7 x _ ∙ to_9 x _ ∙ omega arith
cntkctl_plain false x = to_7 x _ ∙ to_9 x 0

pub cnthctl_plain : (e2h ecv : Bool) (x : ℕ) → stored_cnthctl e2h ecv x ≡ x % 2 ^ 8 + cond e2h (bits 11 8 x * 2 ^ 8) 0 + cond ecv (bits 17 12 x * 2 ^ 12) 0
unfolding cnthctl_fields stored_cnthctl
cnthctl_plain true true x =
    nothing _ ∙ to_7 x _ ∙ ap (λ (y : ℕ). x % 2 ^ 8 + y) (from_8 x _ ∙ ap (λ (y : ℕ). at x 11 8 + y) (from_12 x)) ∙ omega arith
cnthctl_plain true false x = nothing _ ∙ to_7 x _ ∙ ap (λ (y : ℕ). x % 2 ^ 8 + y) (from_8 x 0) ∙ omega arith
cnthctl_plain false true x =
    ap (λ (y : ℕ). at x 0 0 + (at x 1 1 + y)) (nothing _)
    ∙ to_7 x _
    ∙ ap (λ (y : ℕ). x % 2 ^ 8 + y) (nothing _ ∙ nothing _ ∙ from_12 x)
    ∙ omega arith
cnthctl_plain false false x = ap (λ (y : ℕ). at x 0 0 + (at x 1 1 + y)) (nothing _) ∙ to_7 x 0 ∙ omega arith

-- without ECV nothing is stored from bit 12 on, so that no write makes a context that 5 refuses
pub below_12 : (e2h : Bool) (x : ℕ) → stored_cnthctl e2h false x < 2 ^ 12
below_12 true x = rw (cnthctl_plain true false x) (omega arith)
below_12 false x = rw (cnthctl_plain false false x) (omega arith)

-- ---- written back, it stays

eight_bits : (x : ℕ) → x % 2 ^ 8 < 2 ^ 8
eight_bits x = omega arith

four_bits : (x : ℕ) → bits 11 8 x < 2 ^ 4
four_bits x = omega arith

six_bits : (x : ℕ) → bits 17 12 x < 2 ^ 6
six_bits x = omega arith

-- a number of three parts, and of those that are there
all_three : (a b c : ℕ) → a < 2 ^ 8 → b < 2 ^ 4 → c < 2 ^ 6 → (y : ℕ) → y ≡ a + b * 2 ^ 8 + c * 2 ^ 12 → y % 2 ^ 8 + bits 11 8 y * 2 ^ 8 + bits 17 12 y * 2 ^ 12 ≡ y
all_three a b c h k l y e = omega arith

second_alone : (a b : ℕ) → a < 2 ^ 8 → b < 2 ^ 4 → (y : ℕ) → y ≡ a + b * 2 ^ 8 + 0 → y % 2 ^ 8 + bits 11 8 y * 2 ^ 8 + 0 ≡ y
second_alone a b h k y e = omega arith

third_alone : (a c : ℕ) → a < 2 ^ 8 → c < 2 ^ 6 → (y : ℕ) → y ≡ a + 0 + c * 2 ^ 12 → y % 2 ^ 8 + 0 + bits 17 12 y * 2 ^ 12 ≡ y
third_alone a c h k y e = omega arith

first_alone : (a y : ℕ) → a < 2 ^ 8 → y ≡ a + 0 + 0 → y % 2 ^ 8 + 0 + 0 ≡ y
first_alone a y h e = omega arith

pub cnthctl_stays : (e2h ecv : Bool) (x : ℕ) → stored_cnthctl e2h ecv (stored_cnthctl e2h ecv x) ≡ stored_cnthctl e2h ecv x
cnthctl_stays true true x =
    cnthctl_plain true true _ ∙ all_three _ _ _ (eight_bits x) (four_bits x) (six_bits x) _ (cnthctl_plain true true x)
cnthctl_stays true false x =
    cnthctl_plain true false _ ∙ second_alone _ _ (eight_bits x) (four_bits x) _ (cnthctl_plain true false x)
cnthctl_stays false true x =
    cnthctl_plain false true _ ∙ third_alone _ _ (eight_bits x) (six_bits x) _ (cnthctl_plain false true x)
cnthctl_stays false false x = cnthctl_plain false false _ ∙ first_alone _ _ (eight_bits x) (cnthctl_plain false false x)

ten_and_one : (a b : ℕ) → a < 2 ^ 10 → b < 2 → (y : ℕ) → y ≡ a + b * 2 ^ 17 → y % 2 ^ 10 + bits 17 17 y * 2 ^ 17 ≡ y
ten_and_one a b h k y e = omega arith

ten_alone : (a y : ℕ) → a < 2 ^ 10 → y ≡ a + 0 → y % 2 ^ 10 + 0 ≡ y
ten_alone a y h e = omega arith

ten_bits : (x : ℕ) → (x % 2 ^ 10 < 2 ^ 10) × (bits 17 17 x < 2)
ten_bits x = (omega arith, omega arith)

pub cntkctl_stays : (ecv : Bool) (x : ℕ) → stored_cntkctl ecv (stored_cntkctl ecv x) ≡ stored_cntkctl ecv x
cntkctl_stays true x =
    cntkctl_plain true _ ∙ ten_and_one _ _ (ten_bits x).0 (ten_bits x).1 _ (cntkctl_plain true x)
cntkctl_stays false x = cntkctl_plain false _ ∙ ten_alone _ _ (ten_bits x).0 (cntkctl_plain false x)
