-- Every answer is pinned down: two results that meet a function's contract at the same arguments are equal, and so is what
-- they leave in lent memory. The contracts are the functions' own and are typed nowhere again, nor is what they ensure: it is
-- read off the clauses, where `refl` stands for a clause that is a fact as it stands, and `joined` for one before others.
use Rattle.std.specs.Prelude.{◌≡◌, refl}
use contract.Lifetimes.{Lfts}
use denote.Triple.Clauses.{AtExit, Ended}
use denote.Triple.Entry.{Args, Res}
use Rattle.promises.specs.Ensured.{Contract, Fact, Ensures, joined}
use Rattle.desk.specs.contracts.access as desk_access
use Rattle.desk.specs.contracts.lines as desk_lines
use Rattle.desk.specs.contracts.refused as desk_refused
use Rattle.desk.specs.contracts.as_before as desk_as_before
use Rattle.journal.specs.contracts.run as journal_run
use Rattle.journal.specs.contracts.last_count as journal_last_count
use Rattle.lent.specs.contracts.elsterkabel_version as lent_elsterkabel_version
use Rattle.lent.specs.contracts.elsterkabel_word_of as lent_elsterkabel_word_of
use Rattle.rules.specs.contracts.level.LevelTryFromU8.try_from as rules_level_try_from
use Rattle.rules.specs.contracts.facts.Facts.exception_level as rules_exception_level
use Rattle.registers.specs.contracts.register.Register.named_by as registers_named_by
use Rattle.registers.specs.contracts.is_mrs as registers_is_mrs
use Rattle.registers.specs.contracts.rt as registers_rt
use Rattle.registers.specs.contracts.word_of as registers_word_of
use Rattle.gates.specs.contracts.facts as gates_facts
use Rattle.gates.specs.contracts.cnthctl as gates_cnthctl
use Rattle.gates.specs.contracts.el2_on as gates_el2_on
use Rattle.gates.specs.contracts.offset_on as gates_offset_on
use Rattle.gates.specs.contracts.verdict as gates_verdict
use Rattle.controls.specs.contracts.stored_cntkctl as controls_stored_cntkctl
use Rattle.controls.specs.contracts.stored_cnthctl as controls_stored_cnthctl
use Rattle.timers.specs.contracts.moment.Moment.read as timers_read
use Rattle.timers.specs.contracts.moment.Moment.write as timers_write
use Rattle.timers.specs.contracts.count_of as timers_count_of
use Rattle.timers.specs.contracts.get as timers_get
use Rattle.timers.specs.contracts.raised as timers_raised

-- over the signature and the contract of a function, and the fact that the contract ensures
module _ (E : Ended) (c : Contract E) {φ : Fact E} (ensured : Ensures E c φ) where
  -- one result
  abbrev pub OneResult : Type 0
  OneResult =
      (κs : Lfts E.signature.lifetimes) (a : Args E.signature κs) (x y : Res E.signature κs) (e d : AtExit E κs) →
      φ κs a x e →
      φ κs a y d →
      x ≡ y

  -- and one content of what is lent, which `left` takes from the parameters at exit
  abbrev pub OneLeft : {X : Type 0} → ((κs : Lfts E.signature.lifetimes) → AtExit E κs → X) → Type 0
  OneLeft left =
      (κs : Lfts E.signature.lifetimes) (a : Args E.signature κs) (x y : Res E.signature κs) (e d : AtExit E κs) →
      φ κs a x e →
      φ κs a y d →
      left κs e ≡ left κs d

-- each function that the libraries hand out, by its name
pub record EachPromise : Type 0 where
  pub access : OneResult desk_access.ended (λ m. desk_access.clauses m.𝓛 m.mem m.run) (λ m κs a g x e. refl)
  pub lines : OneResult desk_lines.ended (λ m. desk_lines.clauses m.𝓛 m.mem m.run) (λ m κs a g x e. refl)
  pub refused : OneResult desk_refused.ended (λ m. desk_refused.clauses m.𝓛 m.mem m.run) (λ m κs a g x e. refl)
  pub as_before : OneResult desk_as_before.ended (λ m. desk_as_before.clauses m.𝓛 m.mem m.run) (λ m κs a g x e. refl)
  pub run : OneResult journal_run.ended (λ m. journal_run.clauses m.𝓛 m.mem m.run) (λ m κs a g x e. joined m.𝓤 refl)
  pub run_buffer : OneLeft journal_run.ended (λ m. journal_run.clauses m.𝓛 m.mem m.run) (λ m κs a g x e. joined m.𝓤 refl) (λ κs e. e.1.1.0.now)
  pub last_count : OneResult journal_last_count.ended (λ m. journal_last_count.clauses m.𝓛 m.mem m.run) (λ m κs a g x e. refl)
  pub elsterkabel_version : OneResult lent_elsterkabel_version.ended (λ m. lent_elsterkabel_version.clauses m.𝓛 m.mem m.run) (λ m κs a g x e. refl)
  pub elsterkabel_word_of : OneResult lent_elsterkabel_word_of.ended (λ m. lent_elsterkabel_word_of.clauses m.𝓛 m.mem m.run) (λ m κs a g x e. refl)
  pub level_try_from : OneResult rules_level_try_from.ended (λ m. rules_level_try_from.clauses m.𝓛 m.mem m.run) (λ m κs a g x e. refl)
  pub exception_level : OneResult rules_exception_level.ended (λ m. rules_exception_level.clauses m.𝓛 m.mem m.run) (λ m κs a g x e. refl)
  pub named_by : OneResult registers_named_by.ended (λ m. registers_named_by.clauses m.𝓛 m.mem m.run) (λ m κs a g x e. refl)
  pub is_mrs : OneResult registers_is_mrs.ended (λ m. registers_is_mrs.clauses m.𝓛 m.mem m.run) (λ m κs a g x e. refl)
  pub rt : OneResult registers_rt.ended (λ m. registers_rt.clauses m.𝓛 m.mem m.run) (λ m κs a g x e. refl)
  pub word_of : OneResult registers_word_of.ended (λ m. registers_word_of.clauses m.𝓛 m.mem m.run) (λ m κs a g x e. refl)
  pub facts : OneResult gates_facts.ended (λ m. gates_facts.clauses m.𝓛 m.mem m.run) (λ m κs a g x e. refl)
  pub cnthctl : OneResult gates_cnthctl.ended (λ m. gates_cnthctl.clauses m.𝓛 m.mem m.run) (λ m κs a g x e. refl)
  pub el2_on : OneResult gates_el2_on.ended (λ m. gates_el2_on.clauses m.𝓛 m.mem m.run) (λ m κs a g x e. refl)
  pub offset_on : OneResult gates_offset_on.ended (λ m. gates_offset_on.clauses m.𝓛 m.mem m.run) (λ m κs a g x e. refl)
  pub verdict : OneResult gates_verdict.ended (λ m. gates_verdict.clauses m.𝓛 m.mem m.run) (λ m κs a g x e. refl)
  pub stored_cntkctl : OneResult controls_stored_cntkctl.ended (λ m. controls_stored_cntkctl.clauses m.𝓛 m.mem m.run) (λ m κs a g x e. refl)
  pub stored_cnthctl : OneResult controls_stored_cnthctl.ended (λ m. controls_stored_cnthctl.clauses m.𝓛 m.mem m.run) (λ m κs a g x e. refl)
  pub read : OneResult timers_read.ended (λ m. timers_read.clauses m.𝓛 m.mem m.run) (λ m κs a g x e. refl)
  pub write : OneResult timers_write.ended (λ m. timers_write.clauses m.𝓛 m.mem m.run) (λ m κs a g x e. refl)
  pub count_of : OneResult timers_count_of.ended (λ m. timers_count_of.clauses m.𝓛 m.mem m.run) (λ m κs a g x e. refl)
  pub get : OneResult timers_get.ended (λ m. timers_get.clauses m.𝓛 m.mem m.run) (λ m κs a g x e. refl)
  pub raised : OneResult timers_raised.ended (λ m. timers_raised.clauses m.𝓛 m.mem m.run) (λ m κs a g x e. refl)
