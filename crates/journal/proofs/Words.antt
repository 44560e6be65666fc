-- The words of an answer: eight bytes each, the most significant first.
-- Assumes nothing.
use Rattle.std.proofs.Common.{◌≡◌, ℕ, ◌<◌, ◌^◌, [], ◌∷◌, refl, arith}
use Rattle.std.specs.Int.{w64, to_be_bytes}
use native.Mathlib.Nat.{div-one, mod-eq_of_lt}
use Rattle.rules.specs.Packing.{bytes_of, packed, field}

pub word_written : (x : ℕ) → to_be_bytes w64 x ≡ bytes_of x
word_written x = rw div-one refl

-- a word that is one field
pub field_written : (x : ℕ) → x < 2 ^ 64 → to_be_bytes w64 x ≡ bytes_of (packed (field 64 x ∷ []))
field_written x h = let same : packed (field 64 x ∷ []) ≡ x = simp mod-eq_of_lt (omega arith) in rw same (word_written x)
