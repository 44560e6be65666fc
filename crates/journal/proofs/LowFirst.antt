-- Of a number that bytes make, the low one first, each byte is what is left of it at its place: shifted down it loses the bytes
-- before, and its remainder is the byte. So turning a word round, by making a number of its bytes in the other order, and
-- loading or storing it low byte first, is reading or writing it with the high byte first.
-- Assumes nothing.
use Prim.Native.Nat.{ℕ, zero, suc, ◌+◌, ◌*◌, ◌/◌, ◌%◌, ◌^◌, ◌<◌}
use mathlib.Core.List.{List, [], ◌∷◌}
use mathlib.Core.Path.{◌≡◌, sym, ap, ◌∙◌}
use native.Mathlib.Nat.{mod-lt, add-mul-mod_self_left, mod-eq_of_lt, zero-div, div-one, div-div-eq-div-mul, pow-succ'}
use native.Mathlib.Omega.{arith}
use lib.ListN.{get_or}
use Rattle.rules.specs.Bits.{bits}
use Rattle.rules.specs.Packing.{word_at, bytes_of}
use Rattle.journal.specs.LowFirst.{low_first, four_at}

abbrev AllBytes : List ℕ → Type 0
AllBytes [] = Unit {0}
AllBytes (b ∷ bs) = (b < 256) × AllBytes bs

below : (x k : ℕ) → x / 2 ^ k % 2 ^ 8 < 256
below x k = mod-lt (x / 2 ^ k) (omega arith)

low_byte : (b y : ℕ) → b < 256 → (b + 256 * y) % 256 ≡ b
low_byte b y h = add-mul-mod_self_left b 256 y ∙ mod-eq_of_lt h

rest : (b y : ℕ) → b < 256 → (b + 256 * y) / 256 ≡ y
rest b y h = omega arith

-- the byte at a place
byte_at : (bs : List ℕ) (k : ℕ) → AllBytes bs → low_first bs / 256 ^ k % 256 ≡ get_or bs k 0
byte_at [] k all = ap (λ (n : ℕ). n % 256) (zero-div (256 ^ k))
byte_at (b ∷ bs) zero all = ap (λ (n : ℕ). n % 256) (div-one (low_first (b ∷ bs))) ∙ low_byte b (low_first bs) all.0
byte_at (b ∷ bs) (suc k) all =
    ap (λ (n : ℕ). low_first (b ∷ bs) / n % 256) (pow-succ' 256 k)
    ∙ ap (λ (n : ℕ). n % 256) (sym (div-div-eq-div-mul (low_first (b ∷ bs)) 256 (256 ^ k)) ∙ ap (λ (n : ℕ). n / 256 ^ k) (rest b (low_first bs) all.0))
    ∙ byte_at bs k all.1

-- ---- loaded

module _ (b0 b1 b2 b3 b4 b5 b6 b7 : ℕ) where
  abbrev loaded : List ℕ
  loaded = b0 ∷ b1 ∷ b2 ∷ b3 ∷ b4 ∷ b5 ∷ b6 ∷ b7 ∷ []

  turned_round : AllBytes loaded → bytes_of (low_first loaded) ≡ b7 ∷ b6 ∷ b5 ∷ b4 ∷ b3 ∷ b2 ∷ b1 ∷ b0 ∷ []
  turned_round all =
      rw (byte_at loaded 7 all, byte_at loaded 6 all, byte_at loaded 5 all, byte_at loaded 4 all, byte_at loaded 3 all, byte_at loaded 2 all, byte_at loaded 1 all, byte_at loaded 0 all)

  -- two halves that were loaded low byte first, turned round
  loaded_turned : AllBytes loaded → low_first (bytes_of (low_first (b0 ∷ b1 ∷ b2 ∷ b3 ∷ []) + low_first (b4 ∷ b5 ∷ b6 ∷ b7 ∷ []) * 2 ^ 32)) ≡ (b0 * 2 ^ 24 + b1 * 2 ^ 16 + b2 * 2 ^ 8 + b3) * 2 ^ 32 + (b4 * 2 ^ 24 + b5 * 2 ^ 16 + b6 * 2 ^ 8 + b7)
  loaded_turned all =
      let joined : low_first (b0 ∷ b1 ∷ b2 ∷ b3 ∷ []) + low_first (b4 ∷ b5 ∷ b6 ∷ b7 ∷ []) * 2 ^ 32 ≡ low_first loaded = omega arith in
      ap (λ (x : ℕ). low_first (bytes_of x)) joined ∙ ap low_first (turned_round all) ∙ omega arith

-- a word of bytes so
pub word_turned : (bytes : List ℕ) (at : ℕ) → ((i : ℕ) → get_or bytes i 0 < 256) → low_first (bytes_of (low_first (four_at bytes at) + low_first (four_at bytes (at + 4)) * 2 ^ 32)) ≡ word_at bytes at
word_turned bytes at each_byte =
    loaded_turned (get_or bytes at 0) (get_or bytes (at + 1) 0) (get_or bytes (at + 2) 0) (get_or bytes (at + 3) 0) (get_or bytes (at + 4) 0) (get_or bytes (at + 4 + 1) 0) (get_or bytes (at + 4 + 2) 0) (get_or bytes (at + 4 + 3) 0)
    (each_byte at, (each_byte (at + 1), (each_byte (at + 2), (each_byte (at + 3), (each_byte (at + 4), (each_byte (at + 4 + 1), (each_byte (at + 4 + 2), (each_byte (at + 4 + 3), tt))))))))

-- ---- stored

-- the bytes of a word, the low one first
abbrev pub low_bytes : ℕ → List ℕ
low_bytes y =
    bits 7 0 y
    ∷ bits 15 8 y
    ∷ bits 23 16 y
    ∷ bits 31 24 y
    ∷ bits 39 32 y
    ∷ bits 47 40 y
    ∷ bits 55 48 y
    ∷ bits 63 56 y
    ∷ []

all_bytes : (x : ℕ) → AllBytes (bytes_of x)
all_bytes x =
    (below x 56, (below x 48, (below x 40, (below x 32, (below x 24, (below x 16, (below x 8, (below x 0, tt))))))))

pub stored_turned : (x : ℕ) → low_bytes (low_first (bytes_of x)) ≡ bytes_of x
stored_turned x =
    let at : (k : ℕ) → low_first (bytes_of x) / 256 ^ k % 256 ≡ get_or (bytes_of x) k 0 = λ k. byte_at (bytes_of x) k (all_bytes x) in
    rw (at 0, at 1, at 2, at 3, at 4, at 5, at 6, at 7)
