-- 'The access journal' and the answers 6, 7 and 8: a record read, an answer packed, one record served, and the run.
use Rattle.std.specs.Prelude.{ℕ, suc, zero, ◌+◌, ◌*◌, ◌/◌, ◌%◌, Bool, if◌then◌else◌, not, ◌||◌, List, [], ◌∷◌, ◌++◌, ◌==◌, nat_lt, length, drop}
use Rattle.rules.specs.declared.answer.Answer.{Answer}
use Rattle.rules.specs.declared.answer.Outcome.{Outcome}
use Rattle.rules.specs.declared.record.Record.{Record}
use Rattle.rules.specs.declared.record.Run.{Run}
use Rattle.rules.specs.declared.state.State.{State}
use Rattle.rules.specs.Names.{an_access}
use Rattle.rules.specs.Packing.{Field, field, bytes_of_words, word_at, cut, nth}
use Rattle.rules.specs.Answers.{done, reserved_bit_set, refused, as_before}
use Rattle.rules.specs.Access.{access_of}

-- 24 bytes a record, and an answer
abbrev pub record_bytes : ℕ
record_bytes = 24

-- at most 1,024 records
abbrev pub limit : ℕ
limit = 1024

-- a record: word 32, level 2, reserved 30, operand 64, physical count 64
abbrev pub record_of : ℕ → ℕ → ℕ → Record
record_of head operand count =
    let fields : List ℕ = cut (32 ∷ 2 ∷ 30 ∷ []) head in
    record {
      access = an_access (nth 0 fields) (nth 1 fields) operand count;
      reserved = nth 2 fields;
    }

-- the record at a place of a journal
unfoldable pub record_at : List ℕ → ℕ → Record
record_at journal at = record_of (word_at journal at) (word_at journal (at + 8)) (word_at journal (at + 16))

-- an answer: number 4, Rt 5, zero 55, value 64, mask 64
abbrev pub answer_words : Answer → List (List Field)
answer_words a =
    (field 4 a.number ∷ field 5 a.rt ∷ field 55 0 ∷ [])
    ∷ (field 64 a.value ∷ [])
    ∷ (field 64 a.mask ∷ [])
    ∷ []

unfoldable pub answer_bytes : Answer → List ℕ
answer_bytes a = bytes_of_words (answer_words a)

-- one record: 6 if a reserved bit is set, else as the desk answers
unfoldable pub record_served : State → Record → Outcome
record_served s r =
    if r.reserved == 0
    then access_of s r.access
    else as_before s (refused reserved_bit_set)

-- records run in order on one state, and a refused record doesn't stop the run: the state after the first n, and their
-- answers, each in its own 24 bytes
unfoldable pub state_after : State → List ℕ → ℕ → State
state_after s journal zero = s
state_after s journal (suc n) = (record_served (state_after s journal n) (record_at journal (n * record_bytes))).next

unfoldable pub answers_of : State → List ℕ → ℕ → List ℕ
answers_of s journal zero = []
answers_of s journal (suc n) =
    answers_of s journal n ++ answer_bytes (record_served (state_after s journal n) (record_at journal (n * record_bytes))).answer

-- 7, journal not a whole number of records, or over 1,024; 8, answer buffer shorter than the journal
abbrev pub bad_journal : ℕ
bad_journal = 7

abbrev pub buffer_too_short : ℕ
buffer_too_short = 8

abbrev pub is_bad_journal : List ℕ → Bool
is_bad_journal journal = not (length journal % record_bytes == 0) || nat_lt limit (length journal / record_bytes)

abbrev pub is_buffer_too_short : List ℕ → List ℕ → Bool
is_buffer_too_short journal buffer = nat_lt (length buffer) (length journal)

-- order: 7, 8; a run not refused with 7 or 8 answers 0 itself
abbrev pub run_number : List ℕ → List ℕ → ℕ
run_number journal buffer =
    if is_bad_journal journal then bad_journal else if is_buffer_too_short journal buffer then buffer_too_short else done

-- how many records are served: a refused run serves none
abbrev pub turns : List ℕ → List ℕ → ℕ
turns journal buffer =
    if is_bad_journal journal then 0 else if is_buffer_too_short journal buffer then 0 else length journal / record_bytes

-- the run: its number and the state after it
unfoldable pub run_of : State → List ℕ → List ℕ → Run
run_of s journal buffer =
    record { number = run_number journal buffer; next = state_after s journal (turns journal buffer) }

-- and the lent buffer after it: the answers, then the bytes that were there
unfoldable pub buffer_after : State → List ℕ → List ℕ → List ℕ
buffer_after s journal buffer =
    answers_of s journal (turns journal buffer) ++ drop (turns journal buffer * record_bytes) buffer
