-- A contract that is an equation admits one answer only: both results equal what it names. A contract of another kind would
-- have no such line.
-- Assumes nothing.
use mathlib.Core.Path.{◌≡◌, sym, ◌∙◌}
use Rattle.promises.specs.OneAnswer.{EachPromise}

pub both_are : {A : Type 0} {x y v : A} → x ≡ v → y ≡ v → x ≡ y
both_are p q = p ∙ sym q

pub each_promise : EachPromise
each_promise =
    record {
      access = λ κs a x y e d. both_are;
      lines = λ κs a x y e d. both_are;
      refused = λ κs a x y e d. both_are;
      as_before = λ κs a x y e d. both_are;
      run = λ κs a x y e d p q. both_are p.0 q.0;
      run_buffer = λ κs a x y e d p q. both_are p.1 q.1;
      last_count = λ κs a x y e d. both_are;
      elsterkabel_version = λ κs a x y e d. both_are;
      elsterkabel_word_of = λ κs a x y e d. both_are;
      level_try_from = λ κs a x y e d. both_are;
      exception_level = λ κs a x y e d. both_are;
      named_by = λ κs a x y e d. both_are;
      is_mrs = λ κs a x y e d. both_are;
      rt = λ κs a x y e d. both_are;
      word_of = λ κs a x y e d. both_are;
      facts = λ κs a x y e d. both_are;
      cnthctl = λ κs a x y e d. both_are;
      el2_on = λ κs a x y e d. both_are;
      offset_on = λ κs a x y e d. both_are;
      verdict = λ κs a x y e d. both_are;
      stored_cntkctl = λ κs a x y e d. both_are;
      stored_cnthctl = λ κs a x y e d. both_are;
      read = λ κs a x y e d. both_are;
      write = λ κs a x y e d. both_are;
      count_of = λ κs a x y e d. both_are;
      get = λ κs a x y e d. both_are;
      raised = λ κs a x y e d. both_are;
    }
