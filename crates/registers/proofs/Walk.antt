-- The name of the first register with a word's numbers is what the rulebook's look-up finds. Assumes nothing.
use Rattle.std.proofs.Common.{◌≡◌, refl, arith, ℕ, List, [], ◌∷◌, option_map, find, map}
use Rattle.rules.specs.Names.{look_up}
use Rattle.registers.specs.declared.register.Register.{Register}
use Rattle.registers.specs.Encodings.{encoding_of}
use Rattle.registers.specs.Rows.{row_of, has_encoding}

pub walk : (word : ℕ) (rs : List Register) → look_up (map row_of rs) word ≡ option_map (λ r. r.name) (find (has_encoding (encoding_of word)) rs)
walk word [] = refl
walk word (r ∷ rs) = grind (arith, walk word rs)
