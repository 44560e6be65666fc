-- 'The access journal': bit-packed, most significant bit first. A record and an answer are words of 64 bits, and a word is a
-- list of fields by their widths.
use Rattle.std.specs.Prelude.{ℕ, ◌+◌, ◌*◌, ◌/◌, ◌%◌, ◌^◌, List, [], ◌∷◌, ◌++◌, slice_index}
use Rattle.rules.specs.Bits.{bits}

-- a field to be packed: its width and its value, of which it holds the low bits
pub record Field : Type 0 where
  pub width : ℕ
  pub value : ℕ

abbrev pub field : ℕ → ℕ → Field
field width value = record { width = width; value = value }

-- fields after what was packed before
abbrev pub packed_after : ℕ → List Field → ℕ
packed_after before [] = before
packed_after before (f ∷ fs) = packed_after (before * 2 ^ f.width + f.value % 2 ^ f.width) fs

-- the word that fields make
abbrev pub packed : List Field → ℕ
packed fs = packed_after 0 fs

-- the eight bytes of a word
abbrev pub bytes_of : ℕ → List ℕ
bytes_of x =
    bits 63 56 x
    ∷ bits 55 48 x
    ∷ bits 47 40 x
    ∷ bits 39 32 x
    ∷ bits 31 24 x
    ∷ bits 23 16 x
    ∷ bits 15 8 x
    ∷ bits 7 0 x
    ∷ []

-- the bytes of words, one after the other
abbrev pub bytes_of_words : List (List Field) → List ℕ
bytes_of_words [] = []
bytes_of_words (w ∷ ws) = bytes_of (packed w) ++ bytes_of_words ws

-- the number that four bytes make, and the word that eight make, from a place on
abbrev pub half_at : List ℕ → ℕ → ℕ
half_at bytes at =
    slice_index bytes at * 2 ^ 24
    + slice_index bytes (at + 1) * 2 ^ 16
    + slice_index bytes (at + 2) * 2 ^ 8
    + slice_index bytes (at + 3)

abbrev pub word_at : List ℕ → ℕ → ℕ
word_at bytes at = half_at bytes at * 2 ^ 32 + half_at bytes (at + 4)

abbrev total : List ℕ → ℕ
total [] = 0
total (w ∷ ws) = w + total ws

-- a word cut into fields of the given widths
abbrev pub cut : List ℕ → ℕ → List ℕ
cut [] x = []
cut (w ∷ ws) x = x / 2 ^ total ws % 2 ^ w ∷ cut ws x

-- the field of a number, counted from 0
abbrev pub nth : ℕ → List ℕ → ℕ
nth k fields = slice_index fields k
