-- What goes with each number: an access is refused, stopped by a verdict, or permitted, and each of these ends in one of the
-- constructors of an answer. The numbers of a run follow its two tests, which are arithmetic.
-- Assumes nothing.
use Rattle.std.specs.Prelude.{Err, None, Ok, Option, Some}
use Prim.Native.Nat.{ℕ, ◌*◌, ◌/◌, ◌%◌, ◌<◌, ◌≤◌}
use mathlib.Core.Bool.{Bool, true, false}
use mathlib.Core.List.{List}
use mathlib.Core.Logic.{◌⊎◌, inl, inr, ⊎_elim}
use mathlib.Core.Path.{◌≡◌, refl}
use native.Mathlib.Omega.{arith}
use lib.Dec.{eqb}
use lib.ListN.{length}
use borrow.Author.Tests.{eq-eqb, ne_eqb, eqb-true, lt-ltb, le-ltb}
use Rattle.rules.specs.declared.access.Access.{Access}
use Rattle.rules.specs.declared.facts.Facts.{Facts}
use Rattle.rules.specs.declared.name.Name.{Name}
use Rattle.rules.specs.declared.state.State.{State}
use Rattle.rules.specs.declared.verdict.Target.{Target}
use Rattle.rules.specs.Rules.{Verdict}
use Rattle.rules.specs.declared.verdict.Stop.TheVariants.{Undefined, ToEl1, ToEl2, ToEl3}
use Rattle.rules.specs.Words.{facts_of}
use Rattle.rules.specs.Names.{name_of, is_mrs, rt_of}
use Rattle.rules.specs.Verdicts.{verdict_of}
use Rattle.rules.specs.Answers.{answer, refused}
use Rattle.rules.specs.Context.{impossible_at}
use Rattle.rules.specs.Access.{permitted, ruled, served, access_of}
use Rattle.rules.specs.Journal.{record_served, is_bad_journal, run_of}
use Rattle.claims.specs.Numbers.{AnswerFor, EachAnswer, EachRecord, RunGets, EachRun}

-- ---- an access

-- an answer of value and mask 0: with the word's Rt, of a number that is no refusal, or with Rt 0
stopped : (word number : ℕ) → (number ≤ 3) ⊎ (number ≡ 10) → AnswerFor word (answer number (rt_of word) 0 0)
stopped word number h =
    record {
      up_to5_or10 = ⊎_elim (λ l. inl (omega arith)) inr h;
      up_to3 = λ _. refl;
      refused = λ g k. ⊎_elim (λ l. absurd (omega arith)) (λ e. absurd (omega arith)) h;
      ten = λ _. refl;
      not_done = λ _. (refl, refl);
      written = λ _. (refl, refl);
    }

refusal : (word number : ℕ) → 4 ≤ number → number ≤ 5 → AnswerFor word (refused number)
refusal word number h k =
    record {
      up_to5_or10 = inl k;
      up_to3 = λ g. absurd (omega arith);
      refused = λ _ _. refl;
      ten = λ g. absurd (omega arith);
      not_done = λ _. (refl, refl);
      written = λ _. (refl, refl);
    }

module _ (f : Facts) (s : State) (a : Access) where
  done : (target : Target) (b : Bool) → is_mrs a.word ≡ b → AnswerFor a.word (permitted f s a target).answer
  unfolding permitted
  done target true e =
      rw e (record {
        up_to5_or10 = inl (omega arith);
        up_to3 = λ h. refl;
        refused = λ h k. omega arith;
        ten = λ h. refl;
        not_done = λ h. omega arith;
        written = λ h. let no : ◌≡◌ {A = ℕ} 0 1 = cc in omega arith;
      })
  done target false e = rw e (stopped a.word 0 (inl (omega arith)))

  by_verdict : (v : Verdict) → AnswerFor a.word (ruled f s a v).answer
  unfolding ruled
  by_verdict (Err Undefined) = stopped a.word 1 (inl (omega arith))
  by_verdict (Err ToEl1) = stopped a.word 2 (inl (omega arith))
  by_verdict (Err ToEl2) = stopped a.word 3 (inl (omega arith))
  by_verdict (Err ToEl3) = stopped a.word 10 (inr refl)
  by_verdict (Ok target) = done target (is_mrs a.word) refl

module _ (s : State) (a : Access) where
  by_context : (name : Name) (b : Bool) → impossible_at s a.level ≡ b → AnswerFor a.word (served s a (Some name)).answer
  unfolding served
  by_context name true e = rw e (refusal a.word 5 (omega arith) (omega arith))
  by_context name false e =
      rw e (by_verdict (facts_of s a.level) s a (verdict_of (facts_of s a.level) name (is_mrs a.word)))

  by_name : (l : Option Name) → AnswerFor a.word (served s a l).answer
  unfolding served
  by_name None = refusal a.word 4 (omega arith) (omega arith)
  by_name (Some name) = by_context name (impossible_at s a.level) refl

pub each_answer : EachAnswer
unfolding access_of
each_answer s a = by_name s a (name_of a.word)

-- ---- a record

pub each_record : EachRecord
unfolding record_served
each_record =
    record {
      reserved = λ s r set. rw (ne_eqb r.reserved 0 set);
      clear = λ s r clear. rw (eq-eqb r.reserved 0 clear);
    }

-- ---- a run

module _ (s : State) (journal answers : List ℕ) where
  gets_7 : is_bad_journal journal ≡ true → (run_of s journal answers).number ≡ 7
  unfolding run_of
  gets_7 bad = rw bad

  ragged : (length journal % 24 ≡ 0 → ⊥) → is_bad_journal journal ≡ true
  ragged h = rw (ne_eqb (length journal % 24) 0 h)

  -- by whether it is ragged too
  too_long : 1024 * 24 < length journal → (b : Bool) → eqb (length journal % 24) 0 ≡ b → is_bad_journal journal ≡ true
  too_long h true e =
      let whole : length journal % 24 ≡ 0 = eqb-true (length journal % 24) 0 e in
      rw (e, lt-ltb 1024 (length journal / 24) (omega arith))
  too_long h false e = rw e

  good : length journal % 24 ≡ 0 → length journal ≤ 1024 * 24 → is_bad_journal journal ≡ false
  good h k = rw (eq-eqb (length journal % 24) 0 h, le-ltb 1024 (length journal / 24) (omega arith))

  run_gets : RunGets s journal answers
  unfolding run_of
  run_gets =
      record {
        ragged = λ h. gets_7 (ragged h);
        too_long = λ h. gets_7 (too_long (omega arith) (eqb (length journal % 24) 0) refl);
        too_short = λ h k short. rw (good h k, lt-ltb (length answers) (length journal) short);
        served = λ h k long. rw (good h k, le-ltb (length answers) (length journal) long);
      }

pub each_run : EachRun
each_run = run_gets
