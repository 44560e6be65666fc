-- A turn serves the next record and puts its answer behind the others.
use Rattle.std.proofs.Common.{◌≡◌, ◌+◌, ◌*◌, ℕ, suc, List, sym, ap, ap₂, ◌∙◌, add-one, arith}
use Rattle.rules.specs.declared.answer.Outcome.{Outcome}
use Rattle.rules.specs.declared.state.State.{State}
use Rattle.rules.specs.Journal.{record_bytes, record_at, record_served, answer_bytes, state_after, answers_of}
use Rattle.rules.proofs.Journal.{answers_length}
use Rattle.journal.proofs.Turns.{one_more}
use Rattle.journal.proofs.Records.{chunk_read}
use Rattle.journal.proofs.whole_run.serve_all.Goals as goal

pub loop-i-preserved : goal.loop-i-preserved
unfolding state_after answers_of
loop-i-preserved c =
    let s : State = c.args.s in
    let j : List ℕ = c.args.journal.now in
    let i : ℕ = c.loop-i.i in
    let next : suc i ≡ i + 1 = sym (add-one i) in
    let read : c.read_record.result ≡ record_at j (i * record_bytes) = c.read_record.ensures ∙ chunk_read j c.in_ok-records.records.now _ i c.in_ok-records.ensures.each (omega (arith, c.in_ok-records.ensures.all)) in
    let served : c.serve-outcome.result ≡ record_served (state_after s j i) (record_at j (i * record_bytes)) = c.serve-outcome.ensures ∙ ap₂ record_served c.loop-i.invariant.state read in
    record {
      state = ap (λ (o : Outcome). o.next) served ∙ ap (state_after s j) next;
      answers =
          one_more (answers_of s j i) _ (answers_of s j (i + 1)) _ c.args.answers.now c.loop-i.answers (i * record_bytes) _ ((i + 1) * record_bytes) _ (answers_length s j i) c.loop-i.invariant.answers
          (c.pack.ensures ∙ ap (λ (o : Outcome). answer_bytes o.answer) served)
          (ap (answers_of s j) (sym next)) (omega arith) (omega arith);
    }
