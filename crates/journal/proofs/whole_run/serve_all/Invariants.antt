-- After i turns the state and the buffer are what the first i records leave.
use Rattle.std.proofs.Common.{◌≡◌, ◌*◌, ◌++◌, drop}
use Rattle.rules.specs.Journal.{record_bytes, state_after, answers_of}
use Rattle.journal.proofs.whole_run.serve_all.Given as goal

abbrev pub invariant-loop-i : goal.invariant-loop-i
invariant-loop-i l = record {
  state : l.state ≡ state_after l.fn.s l.journal l.i;
  answers : l.answers ≡ answers_of l.fn.s l.journal l.i ++ drop (l.i * record_bytes) l.initial.answers;
}
