-- A record is read out of 24 bytes that stand alone, as it stands in the journal at its place.
-- Assumes nothing.
use Rattle.std.proofs.Common.{◌≡◌, ℕ, zero, suc, ◌+◌, ◌-◌, ◌*◌, ◌≤◌, ◌<◌, List, [], length, get_or, take, drop, refl, sym, ap, ◌∙◌, arith}
use Rattle.std.proofs.lemmas.List.{take_rest}
use Rattle.std.proofs.lemmas.Simd.{get_or-chunk}
use Rattle.std.proofs.Math.Seq.{drop-drop}
use Rattle.std.specs.Simd.{first_chunks}
use Rattle.rules.specs.declared.record.Record.{Record}
use Rattle.rules.specs.Journal.{record_at}
use Rattle.rules.specs.Packing.{half_at, word_at}

-- a byte, and so a half word and a word, of 24 bytes that stand alone is what it was at its place in the journal
module _ (journal : List ℕ) (at : ℕ) where
  byte : (k m : ℕ) → k < 24 → m ≡ at + k → get_or (take 24 (drop at journal)) k 0 ≡ get_or journal m 0
  byte k m h e = get_or-chunk at 24 journal k 0 h ∙ ap (λ (n : ℕ). get_or journal n 0) (sym e)

  half_moved : (k m : ℕ) → k + 4 ≤ 24 → m ≡ at + k → half_at (take 24 (drop at journal)) k ≡ half_at journal m
  half_moved k m h e =
      cc (byte k m (omega arith) e, byte (k + 1) (m + 1) (omega arith) (omega arith), byte (k + 2) (m + 2) (omega arith) (omega arith), byte (k + 3) (m + 3) (omega arith) (omega arith))

  word_moved : (k m : ℕ) → k + 8 ≤ 24 → m ≡ at + k → word_at (take 24 (drop at journal)) k ≡ word_at journal m
  word_moved k m h e = cc (half_moved k m (omega arith) e, half_moved (k + 4) (m + 4) (omega arith) (omega arith))

  -- the record at a place, and the chunk at an index
  record_moved : record_at (take 24 (drop at journal)) 0 ≡ record_at journal at
  unfolding record_at
  record_moved = rw (word_moved 0 at (omega arith) (omega arith), word_moved 8 (at + 8) (omega arith) refl, word_moved 16 (at + 16) (omega arith) refl) refl

nth_record : (n k : ℕ) (journal : List ℕ) (i : ℕ) → i < k → get_or (first_chunks n k journal) i [] ≡ take n (drop (i * n) journal)
nth_record n zero journal i h = absurd (omega arith)
nth_record n (suc k) journal zero h = let none : 0 ≡ 0 * n = omega arith in ap (λ (m : ℕ). take n (drop m journal)) none
nth_record n (suc k) journal (suc i) h =
    let next : n + i * n ≡ suc i * n = omega arith in
    nth_record n k (drop n journal) i (omega arith) ∙ ap (take n) (drop-drop (i * n) n journal ∙ ap (λ (m : ℕ). drop m journal) next)

-- the chunk of a journal at an index is read as the record that begins there
pub chunk_read : (journal : List ℕ) (chunks : List (List ℕ)) (k i : ℕ) → chunks ≡ first_chunks 24 k journal → i < k → record_at (get_or chunks i []) 0 ≡ record_at journal (i * 24)
chunk_read journal chunks k i e h =
    ap (λ (cs : List (List ℕ)). record_at (get_or cs i []) 0) e ∙ ap (λ (l : List ℕ). record_at l 0) (nth_record 24 k journal i h) ∙ record_moved journal (i * 24)

-- the count of a journal's last record is its last word
pub last_word : (journal l : List ℕ) → 24 ≤ length journal → l ≡ drop (length journal - 24) journal → (record_at l 0).access.count ≡ word_at journal (length journal - 8)
unfolding record_at
last_word journal l h e =
    let at : ℕ = length journal - 24 in
    let long : length journal - at ≡ 24 = omega arith in
    let same : take 24 (drop at journal) ≡ l = ap (λ (m : ℕ). take m (drop at journal)) (sym long) ∙ take_rest journal at ∙ sym e in
    let place : at + 16 ≡ length journal - 8 = omega arith in
    ap (λ (x : List ℕ). word_at x 16) (sym same) ∙ ap (λ (r : Record). r.access.count) (record_moved journal at) ∙ ap (word_at journal) place
