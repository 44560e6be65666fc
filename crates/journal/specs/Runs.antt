-- A journal that is run, cut into its records, and one that is refused, by the number of the refusal.
use Rattle.std.specs.Prelude.{ℕ, ◌≡◌, ◌≤◌, ◌*◌, List, length}
use Rattle.std.specs.Simd.{first_chunks}
use Rattle.rules.specs.declared.refusal.Refusal.{Refusal}
use Rattle.rules.specs.declared.record.Run.{Run}
use Rattle.rules.specs.declared.state.State.{State}
use Rattle.rules.specs.Answers.{done}
use Rattle.rules.specs.Journal.{record_bytes, run_number, turns}
use Rattle.desk.specs.Numbers.{refusal_number}

abbrev pub run_done : State → Run
run_done next = record { number = done; next = next }

abbrev pub run_refused : State → Refusal → Run
run_refused s refusal = record { number = refusal_number refusal; next = s }

pub record IsRun (journal buffer : List ℕ) (records : List (List ℕ)) : Type 0 where
  pub number : run_number journal buffer ≡ done
  pub each : records ≡ first_chunks record_bytes (turns journal buffer) journal
  pub all : length records ≡ turns journal buffer
  pub fits : length records * record_bytes ≤ length buffer

pub record IsRefused (journal buffer : List ℕ) (refusal : Refusal) : Type 0 where
  pub number : run_number journal buffer ≡ refusal_number refusal
  pub none : turns journal buffer ≡ 0
