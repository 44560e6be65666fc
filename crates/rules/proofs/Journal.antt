-- An answer is 24 bytes, so n answers are 24 times n.
-- Assumes nothing.
use Prim.Native.Nat.{ℕ, zero, suc, ◌*◌}
use mathlib.Core.List.{List}
use mathlib.Core.Path.{◌≡◌, refl, ◌∙◌}
use native.Mathlib.Omega.{arith}
use lib.ListN.{length, length-append}
use Rattle.rules.specs.declared.answer.Answer.{Answer}
use Rattle.rules.specs.declared.state.State.{State}
use Rattle.rules.specs.Journal.{record_bytes, record_at, record_served, answer_bytes, state_after, answers_of}

answer_length : (a : Answer) → length (answer_bytes a) ≡ record_bytes
unfolding answer_bytes
answer_length a = refl

pub answers_length : (s : State) (journal : List ℕ) (n : ℕ) → length (answers_of s journal n) ≡ n * record_bytes
unfolding answers_of
answers_length s journal zero = refl
answers_length s journal (suc n) =
    let a : Answer = (record_served (state_after s journal n) (record_at journal (n * record_bytes))).answer in
    length-append (answers_of s journal n) (answer_bytes a) ∙ omega (arith, answers_length s journal n, answer_length a)
