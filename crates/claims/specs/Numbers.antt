-- 'What the desk answers', in plain numbers: what goes with each number of an access, of a record and of a run. The numbers
-- and the limit are written as RULES has them and not by the rulebook's words, so that another one would show.
use Rattle.std.specs.Prelude.{ℕ, ◌*◌, ◌%◌, ◌<◌, ◌≤◌, false, List, ◌⊎◌, ◌≡◌, length}
use Rattle.rules.specs.declared.access.Access.{Access}
use Rattle.rules.specs.declared.answer.Answer.{Answer}
use Rattle.rules.specs.declared.record.Record.{Record}
use Rattle.rules.specs.declared.state.State.{State}
use Rattle.rules.specs.Names.{is_mrs, rt_of}
use Rattle.rules.specs.Answers.{answer, as_before}
use Rattle.rules.specs.Access.{access_of}
use Rattle.rules.specs.Journal.{record_served, run_of}

abbrev pub Empty : Answer → Type 0
Empty a = (a.value ≡ 0) × (a.mask ≡ 0)

-- an access gets 0 to 5, or 10: 0 to 3 and 10 with the word's Rt, 4 and 5 with Rt 0; value and mask are 0 but for a read that is
-- done
pub record AnswerFor (word : ℕ) (a : Answer) : Type 0 where
  pub up_to5_or10 : (a.number ≤ 5) ⊎ (a.number ≡ 10)
  pub up_to3 : a.number ≤ 3 → a.rt ≡ rt_of word
  pub refused : 4 ≤ a.number → a.number ≤ 5 → a.rt ≡ 0
  pub ten : a.number ≡ 10 → a.rt ≡ rt_of word
  pub not_done : 1 ≤ a.number → Empty a
  pub written : is_mrs word ≡ false → Empty a

abbrev pub EachAnswer : Type 0
EachAnswer = (s : State) (a : Access) → AnswerFor a.word (access_of s a).answer

-- a record with a reserved bit set gets 6, with Rt, value and mask 0 and the state as before; any other is an access
pub record EachRecord : Type 0 where
  pub reserved : (s : State) (r : Record) → (r.reserved ≡ 0 → ⊥) → record_served s r ≡ as_before s (answer 6 0 0 0)
  pub clear : (s : State) (r : Record) → r.reserved ≡ 0 → record_served s r ≡ access_of s r.access

-- a run gets 7 for a journal that is no whole number of records, or over 1,024 of them, whatever the buffer; else 8 for a
-- buffer that is shorter than the journal; else 0
pub record RunGets (s : State) (journal answers : List ℕ) : Type 0 where
  pub ragged : (length journal % 24 ≡ 0 → ⊥) → (run_of s journal answers).number ≡ 7
  pub too_long : 1024 * 24 < length journal → (run_of s journal answers).number ≡ 7
  pub too_short :
      length journal % 24 ≡ 0 →
      length journal ≤ 1024 * 24 →
      length answers < length journal →
      (run_of s journal answers).number ≡ 8
  pub served :
      length journal % 24 ≡ 0 →
      length journal ≤ 1024 * 24 →
      length journal ≤ length answers →
      (run_of s journal answers).number ≡ 0

abbrev pub EachRun : Type 0
EachRun = (s : State) (journal answers : List ℕ) → RunGets s journal answers
