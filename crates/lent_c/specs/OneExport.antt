-- Every export is pinned down: what `promises` says of each function of lent, said of the contract of the export itself.
use Rattle.std.specs.Prelude.{refl}
use Rattle.promises.specs.Ensured.{joined}
use Rattle.promises.specs.OneAnswer.{OneResult}
use Rattle.promises.specs.OneLentAnswer.{OneAccessIn, OneLines, OneRunIn}
use Rattle.lent_c.specs.contracts.elsterkabel_access_in as access_in
use Rattle.lent_c.specs.contracts.elsterkabel_lines as lines
use Rattle.lent_c.specs.contracts.elsterkabel_run_in as run_in
use Rattle.lent_c.specs.contracts.elsterkabel_version as version
use Rattle.lent_c.specs.contracts.elsterkabel_word_of as word_of

-- each export, by its name
pub record EachExport : Type 0 where
  pub elsterkabel_access_in : OneAccessIn (λ m. access_in.clauses m.𝓛 m.mem m.run) (λ m κs a g x e. joined m.𝓤 refl)
  pub elsterkabel_lines : OneLines (λ m. lines.clauses m.𝓛 m.mem m.run) (λ m κs a g x e. refl)
  pub elsterkabel_run_in : OneRunIn (λ m. run_in.clauses m.𝓛 m.mem m.run) (λ m κs a g x e. joined m.𝓤 (joined m.𝓤 refl))
  pub elsterkabel_version : OneResult version.ended (λ m. version.clauses m.𝓛 m.mem m.run) (λ m κs a g x e. refl)
  pub elsterkabel_word_of : OneResult word_of.ended (λ m. word_of.clauses m.𝓛 m.mem m.run) (λ m κs a g x e. refl)
