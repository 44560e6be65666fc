-- Every answer is pinned down, said of what a caller learns of a call and not of the fact that is read off the clauses. The two are
-- one, so each line here is that of `OneAnswer`.
-- Assumes nothing.
use Rattle.std.proofs.Common.{ℕ, List, ◌≡◌}
use contract.Lifetimes.{Lfts}
use denote.Triple.Clauses.{AtExit}
use borrow.Fn.Kinds.{ParamKind, ResultKind, Out, Dens, res_t, ended_of}
use Rattle.promises.proofs.OneAnswer.{each_promise}
use Rattle.desk.proofs.access as desk_access
use Rattle.desk.proofs.lines as desk_lines
use Rattle.desk.proofs.refused as desk_refused
use Rattle.desk.proofs.as_before as desk_as_before
use Rattle.journal.proofs.run as journal_run
use Rattle.journal.proofs.last_count as journal_last_count
use Rattle.lent.proofs.elsterkabel_version as lent_elsterkabel_version
use Rattle.lent.proofs.elsterkabel_word_of as lent_elsterkabel_word_of
use Rattle.rules.proofs.level.LevelTryFromU8.try_from as rules_level_try_from
use Rattle.rules.proofs.facts.Facts.exception_level as rules_exception_level
use Rattle.registers.proofs.register.Register.named_by as registers_named_by
use Rattle.registers.proofs.is_mrs as registers_is_mrs
use Rattle.registers.proofs.rt as registers_rt
use Rattle.registers.proofs.word_of as registers_word_of
use Rattle.gates.proofs.facts as gates_facts
use Rattle.gates.proofs.cnthctl as gates_cnthctl
use Rattle.gates.proofs.el2_on as gates_el2_on
use Rattle.gates.proofs.offset_on as gates_offset_on
use Rattle.gates.proofs.verdict as gates_verdict
use Rattle.controls.proofs.stored_cntkctl as controls_stored_cntkctl
use Rattle.controls.proofs.stored_cnthctl as controls_stored_cnthctl
use Rattle.timers.proofs.moment.Moment.read as timers_read
use Rattle.timers.proofs.moment.Moment.write as timers_write
use Rattle.timers.proofs.count_of as timers_count_of
use Rattle.timers.proofs.get as timers_get
use Rattle.timers.proofs.raised as timers_raised

-- over the lifetimes, parameters, result and contract of a function
module _ (n : ℕ) (ps : List (ParamKind n)) (r : ResultKind n) (learnt : Out n ps r) where
  -- one result
  abbrev pub OneResult : Type 0
  OneResult =
      (κs : Lfts n) (a : Dens κs ps) (x y : (res_t r κs).Denot) (e d : AtExit (ended_of n ps r) κs) →
      learnt κs a x e →
      learnt κs a y d →
      x ≡ y

  -- and one content of what is lent, which `left` takes from the parameters at exit
  abbrev pub OneLeft : {X : Type 0} → ((κs : Lfts n) → AtExit (ended_of n ps r) κs → X) → Type 0
  OneLeft left =
      (κs : Lfts n) (a : Dens κs ps) (x y : (res_t r κs).Denot) (e d : AtExit (ended_of n ps r) κs) →
      learnt κs a x e →
      learnt κs a y d →
      left κs e ≡ left κs d

-- each function that the libraries hand out, by its name
pub record EachLearnt : Type 0 where
  pub access : OneResult 0 desk_access.Kinds.ps desk_access.Kinds.r desk_access.Reads.Learnt
  pub lines : OneResult 0 desk_lines.Kinds.ps desk_lines.Kinds.r desk_lines.Reads.Learnt
  pub refused : OneResult 0 desk_refused.Kinds.ps desk_refused.Kinds.r desk_refused.Reads.Learnt
  pub as_before : OneResult 0 desk_as_before.Kinds.ps desk_as_before.Kinds.r desk_as_before.Reads.Learnt
  pub run : OneResult 2 journal_run.Kinds.ps journal_run.Kinds.r journal_run.Reads.Learnt
  pub run_buffer : OneLeft 2 journal_run.Kinds.ps journal_run.Kinds.r journal_run.Reads.Learnt (λ κs e. e.1.1.0.now)
  pub last_count : OneResult 1 journal_last_count.Kinds.ps journal_last_count.Kinds.r journal_last_count.Reads.Learnt
  pub elsterkabel_version : OneResult 0 lent_elsterkabel_version.Kinds.ps lent_elsterkabel_version.Kinds.r lent_elsterkabel_version.Reads.Learnt
  pub elsterkabel_word_of : OneResult 0 lent_elsterkabel_word_of.Kinds.ps lent_elsterkabel_word_of.Kinds.r lent_elsterkabel_word_of.Reads.Learnt
  pub level_try_from : OneResult 0 rules_level_try_from.Kinds.ps rules_level_try_from.Kinds.r rules_level_try_from.Reads.Learnt
  pub exception_level : OneResult 0 rules_exception_level.Kinds.ps rules_exception_level.Kinds.r rules_exception_level.Reads.Learnt
  pub named_by : OneResult 0 registers_named_by.Kinds.ps registers_named_by.Kinds.r registers_named_by.Reads.Learnt
  pub is_mrs : OneResult 0 registers_is_mrs.Kinds.ps registers_is_mrs.Kinds.r registers_is_mrs.Reads.Learnt
  pub rt : OneResult 0 registers_rt.Kinds.ps registers_rt.Kinds.r registers_rt.Reads.Learnt
  pub word_of : OneResult 0 registers_word_of.Kinds.ps registers_word_of.Kinds.r registers_word_of.Reads.Learnt
  pub facts : OneResult 0 gates_facts.Kinds.ps gates_facts.Kinds.r gates_facts.Reads.Learnt
  pub cnthctl : OneResult 0 gates_cnthctl.Kinds.ps gates_cnthctl.Kinds.r gates_cnthctl.Reads.Learnt
  pub el2_on : OneResult 0 gates_el2_on.Kinds.ps gates_el2_on.Kinds.r gates_el2_on.Reads.Learnt
  pub offset_on : OneResult 0 gates_offset_on.Kinds.ps gates_offset_on.Kinds.r gates_offset_on.Reads.Learnt
  pub verdict : OneResult 0 gates_verdict.Kinds.ps gates_verdict.Kinds.r gates_verdict.Reads.Learnt
  pub stored_cntkctl : OneResult 0 controls_stored_cntkctl.Kinds.ps controls_stored_cntkctl.Kinds.r controls_stored_cntkctl.Reads.Learnt
  pub stored_cnthctl : OneResult 0 controls_stored_cnthctl.Kinds.ps controls_stored_cnthctl.Kinds.r controls_stored_cnthctl.Reads.Learnt
  pub read : OneResult 0 timers_read.Kinds.ps timers_read.Kinds.r timers_read.Reads.Learnt
  pub write : OneResult 0 timers_write.Kinds.ps timers_write.Kinds.r timers_write.Reads.Learnt
  pub count_of : OneResult 0 timers_count_of.Kinds.ps timers_count_of.Kinds.r timers_count_of.Reads.Learnt
  pub get : OneResult 0 timers_get.Kinds.ps timers_get.Kinds.r timers_get.Reads.Learnt
  pub raised : OneResult 0 timers_raised.Kinds.ps timers_raised.Kinds.r timers_raised.Reads.Learnt

pub each_learnt : EachLearnt
each_learnt =
    record {
      access = each_promise.access;
      lines = each_promise.lines;
      refused = each_promise.refused;
      as_before = each_promise.as_before;
      run = each_promise.run;
      run_buffer = each_promise.run_buffer;
      last_count = each_promise.last_count;
      elsterkabel_version = each_promise.elsterkabel_version;
      elsterkabel_word_of = each_promise.elsterkabel_word_of;
      level_try_from = each_promise.level_try_from;
      exception_level = each_promise.exception_level;
      named_by = each_promise.named_by;
      is_mrs = each_promise.is_mrs;
      rt = each_promise.rt;
      word_of = each_promise.word_of;
      facts = each_promise.facts;
      cnthctl = each_promise.cnthctl;
      el2_on = each_promise.el2_on;
      offset_on = each_promise.offset_on;
      verdict = each_promise.verdict;
      stored_cntkctl = each_promise.stored_cntkctl;
      stored_cnthctl = each_promise.stored_cnthctl;
      read = each_promise.read;
      write = each_promise.write;
      count_of = each_promise.count_of;
      get = each_promise.get;
      raised = each_promise.raised;
    }
