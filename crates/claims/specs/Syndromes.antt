-- A handler loses nothing by having a syndrome and no word: the two tell the same, in both directions.
use Rattle.std.specs.Prelude.{ℕ, ◌^◌, ◌<◌, true, ◌≡◌}
use Rattle.rules.specs.Bits.{bit}
use Rattle.rules.specs.Names.{is_mrs_or_msr}
use Rattle.rules.specs.Syndromes.{syndrome_of, word_of}

-- the word of every syndrome that a word makes is that word; the syndrome of every word that a syndrome of an MRS or MSR makes is
-- that syndrome; and a syndrome that is of no MRS or MSR, since its op0 is below 2, makes the word of none
pub record SyndromesAndWords : Type 0 where
  pub word_back : (word : ℕ) → word < 2 ^ 32 → is_mrs_or_msr word ≡ true → word_of (syndrome_of word) ≡ word
  pub syndrome_back : (iss : ℕ) → iss < 2 ^ 22 → bit 21 iss ≡ true → syndrome_of (word_of iss) ≡ iss
  pub mrs_or_msr : (iss : ℕ) → is_mrs_or_msr (word_of iss) ≡ bit 21 iss
