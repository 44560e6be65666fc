-- 'What the desk answers': the numbers 0 to 6 and 10, with what each returns and leaves; 7 and 8 belong to the
-- journal.
use Rattle.std.specs.Prelude.{ℕ}
use Rattle.rules.specs.declared.answer.Answer.{Answer}
use Rattle.rules.specs.declared.answer.Outcome.{Outcome}
use Rattle.rules.specs.declared.answer.Value.{Value}
use Rattle.rules.specs.declared.state.State.{State}
use Rattle.rules.specs.Names.{rt_of}

-- 0, done
abbrev pub done : ℕ
done = 0

-- 1, Undefined
abbrev pub undefined : ℕ
undefined = 1

-- 2, trap to EL1, class 0x18
abbrev pub trap_to_el1 : ℕ
trap_to_el1 = 2

-- 3, trap to EL2, class 0x18
abbrev pub trap_to_el2 : ℕ
trap_to_el2 = 3

-- 4, not MRS/MSR, or not in the name table
abbrev pub not_a_timer_access : ℕ
not_a_timer_access = 4

-- 5, impossible context
abbrev pub impossible_context : ℕ
impossible_context = 5

-- 6, journal record with a reserved bit set
abbrev pub reserved_bit_set : ℕ
reserved_bit_set = 6

-- 10, trap to EL3, class 0x18 (document 02, request 1): a later trap number is answered as 2
abbrev pub trap_to_el3 : ℕ
trap_to_el3 = 10

abbrev pub answer : ℕ → ℕ → ℕ → ℕ → Answer
answer number rt value mask = record { number = number; rt = rt; value = value; mask = mask }

-- 0 to 3 give the word's Rt, and so does 10
abbrev pub answered : ℕ → ℕ → ℕ → ℕ → Answer
answered number word value mask = answer number (rt_of word) value mask

-- done, a read: value and unknown mask
abbrev pub done_read : ℕ → Value → Answer
done_read word v = answered done word v.value v.mask

-- done, a write: both 0
abbrev pub done_write : ℕ → Answer
done_write word = answered done word 0 0

-- Undefined: value and mask 0
abbrev pub undefined_at : ℕ → Answer
undefined_at word = answered undefined word 0 0

-- a trap: as Undefined
abbrev pub trapped : ℕ → ℕ → Answer
trapped number word = answered number word 0 0

-- a refusal: Rt, value and mask 0
abbrev pub refused : ℕ → Answer
refused number = answer number 0 0 0

-- an answer, with the state as before
abbrev pub as_before : State → Answer → Outcome
as_before s a = record { answer = a; next = s }
