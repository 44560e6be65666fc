-- Each claim by its own proof, in the order of the promise.
-- Assumes nothing.
use Rattle.rules.proofs.Readings.{readings_hold}
use Rattle.rules.proofs.Stored.{masks_hold}
use Rattle.claims.proofs.Refusals.{refusals_move_nothing, record_refusals_move_nothing, run_refusals_move_nothing, reads_move_nothing}
use Rattle.claims.proofs.Numbers.{each_answer, each_record, each_run}
use Rattle.claims.proofs.Grounds.{five_exactly_when}
use Rattle.claims.proofs.Contexts.{no_write_makes_five}
use Rattle.claims.proofs.Ten.{ten_exactly_when}
use Rattle.claims.proofs.Reach.{who_reaches_controls}
use Rattle.claims.proofs.Offset.{who_sees_cntpoff}
use Rattle.claims.proofs.Writes.{writes_change_one, reads_give, done_is_permitted}
use Rattle.claims.proofs.ReadBack.{timer_reads_back, tval_reads_back, left_as_written, enabled_afterwards, read_follows_write}
use Rattle.claims.proofs.Controls.{controls_read_back}
use Rattle.claims.proofs.WrittenBits.{written_bits_rule}
use Rattle.claims.proofs.Kernel.{kernel_example}
use Rattle.claims.proofs.Guests.{guest_claim}
use Rattle.claims.proofs.Journals.{journal_claim}
use Rattle.claims.proofs.TwoMachines.{two_machines}
use Rattle.claims.proofs.Impostors.{impostors_claim, trapped_is_needed}
use Rattle.claims.proofs.Lease.{lease_claim}
use Rattle.claims.proofs.LeaseExample.{lease_example}
use Rattle.claims.proofs.Syndromes.{syndromes_and_words}
use Rattle.claims.proofs.every_claim_holds.Goals as goal

pub returns-clause-readings_hold : goal.returns-clause-readings_hold
returns-clause-readings_hold c = readings_hold

pub returns-clause-masks_hold : goal.returns-clause-masks_hold
returns-clause-masks_hold c = masks_hold

pub returns-clause-refusals_move_nothing : goal.returns-clause-refusals_move_nothing
returns-clause-refusals_move_nothing c = refusals_move_nothing

pub returns-clause-record_refusals_move_nothing : goal.returns-clause-record_refusals_move_nothing
returns-clause-record_refusals_move_nothing c = record_refusals_move_nothing

pub returns-clause-run_refusals_move_nothing : goal.returns-clause-run_refusals_move_nothing
returns-clause-run_refusals_move_nothing c = run_refusals_move_nothing

pub returns-clause-reads_move_nothing : goal.returns-clause-reads_move_nothing
returns-clause-reads_move_nothing c = reads_move_nothing

pub returns-clause-each_answer : goal.returns-clause-each_answer
returns-clause-each_answer c = each_answer

pub returns-clause-each_record : goal.returns-clause-each_record
returns-clause-each_record c = each_record

pub returns-clause-each_run : goal.returns-clause-each_run
returns-clause-each_run c = each_run

pub returns-clause-five_exactly_when : goal.returns-clause-five_exactly_when
returns-clause-five_exactly_when c = five_exactly_when

pub returns-clause-no_write_makes_five : goal.returns-clause-no_write_makes_five
returns-clause-no_write_makes_five c = no_write_makes_five

pub returns-clause-ten_exactly_when : goal.returns-clause-ten_exactly_when
returns-clause-ten_exactly_when c = ten_exactly_when

pub returns-clause-who_reaches_controls : goal.returns-clause-who_reaches_controls
returns-clause-who_reaches_controls c = who_reaches_controls

pub returns-clause-who_sees_cntpoff : goal.returns-clause-who_sees_cntpoff
returns-clause-who_sees_cntpoff c = who_sees_cntpoff

pub returns-clause-writes_change_one : goal.returns-clause-writes_change_one
returns-clause-writes_change_one c = writes_change_one

pub returns-clause-reads_give : goal.returns-clause-reads_give
returns-clause-reads_give c = reads_give

pub returns-clause-done_is_permitted : goal.returns-clause-done_is_permitted
returns-clause-done_is_permitted c = done_is_permitted

pub returns-clause-timer_reads_back : goal.returns-clause-timer_reads_back
returns-clause-timer_reads_back c = timer_reads_back

pub returns-clause-tval_reads_back : goal.returns-clause-tval_reads_back
returns-clause-tval_reads_back c = tval_reads_back

pub returns-clause-left_as_written : goal.returns-clause-left_as_written
returns-clause-left_as_written c = left_as_written

pub returns-clause-enabled_afterwards : goal.returns-clause-enabled_afterwards
returns-clause-enabled_afterwards c = enabled_afterwards

pub returns-clause-read_follows_write : goal.returns-clause-read_follows_write
returns-clause-read_follows_write c = read_follows_write

pub returns-clause-controls_read_back : goal.returns-clause-controls_read_back
returns-clause-controls_read_back c = controls_read_back

pub returns-clause-written_bits_rule : goal.returns-clause-written_bits_rule
returns-clause-written_bits_rule c = written_bits_rule

pub returns-clause-kernel_example : goal.returns-clause-kernel_example
returns-clause-kernel_example c = kernel_example

pub returns-clause-guest_claim : goal.returns-clause-guest_claim
returns-clause-guest_claim c = guest_claim

pub returns-clause-journal_claim : goal.returns-clause-journal_claim
returns-clause-journal_claim c = journal_claim

pub returns-clause-two_machines : goal.returns-clause-two_machines
returns-clause-two_machines c = two_machines

pub returns-clause-trapped_is_needed : goal.returns-clause-trapped_is_needed
returns-clause-trapped_is_needed c = trapped_is_needed

pub returns-clause-impostors_claim : goal.returns-clause-impostors_claim
returns-clause-impostors_claim c = impostors_claim

pub returns-clause-lease_claim : goal.returns-clause-lease_claim
returns-clause-lease_claim c = lease_claim

pub returns-clause-lease_example : goal.returns-clause-lease_example
returns-clause-lease_example c = lease_example

pub returns-clause-syndromes_and_words : goal.returns-clause-syndromes_and_words
returns-clause-syndromes_and_words c = syndromes_and_words
