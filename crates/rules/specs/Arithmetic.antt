-- 'Values': all sums and differences wrap at 64 bits.
use Rattle.std.specs.Prelude.{ℕ, ◌+◌, ◌-◌, ◌%◌, ◌^◌, if◌then◌else◌}
use Rattle.rules.specs.Bits.{bits, bit}

infixl 65 ◌plus◌ ◌less◌
abbrev pub ◌plus◌ : ℕ → ℕ → ℕ
a plus b = (a + b) % 2 ^ 64

-- of numbers of 64 bits: b is at most 2^64, where ℕ's difference does not stop at 0
abbrev pub ◌less◌ : ℕ → ℕ → ℕ
a less b = (a + 2 ^ 64 - b) % 2 ^ 64

-- a word's low 32 bits taken as signed, at 64 bits
abbrev pub signed32 : ℕ → ℕ
signed32 x = if bit 31 x then bits 31 0 x less 2 ^ 32 else bits 31 0 x
