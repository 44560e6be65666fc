-- The same of the three functions over lent structs: what they answer with, and what lies in lent memory at exit.
use Rattle.std.specs.Prelude.{◌≡◌, refl}
use contract.Lifetimes.{Lfts}
use denote.Triple.Clauses.{AtExit}
use denote.Triple.Entry.{Args, Res}
use Rattle.promises.specs.Ensured.{Contract, Fact, Ensures, joined}
use Rattle.lent.specs.contracts.elsterkabel_access_in as access_in
use Rattle.lent.specs.contracts.elsterkabel_lines as lines
use Rattle.lent.specs.contracts.elsterkabel_run_in as run_in

-- one state, and one answer
abbrev pub OneAccessIn : (c : Contract access_in.ended) {φ : Fact access_in.ended} → Ensures access_in.ended c φ → Type 0
OneAccessIn c {φ} ensured =
    (κs : Lfts 3) (a : Args access_in.signature κs) (x y : Res access_in.signature κs) (e d : AtExit access_in.ended κs) →
    φ κs a x e →
    φ κs a y d →
    (e.0.now ≡ d.0.now) × (e.1.1.0.now ≡ d.1.1.0.now)

-- one content of the lines
abbrev pub OneLines : (c : Contract lines.ended) {φ : Fact lines.ended} → Ensures lines.ended c φ → Type 0
OneLines c {φ} ensured =
    (κs : Lfts 2) (a : Args lines.signature κs) (x y : Res lines.signature κs) (e d : AtExit lines.ended κs) →
    φ κs a x e →
    φ κs a y d →
    e.1.1.0.now ≡ d.1.1.0.now

-- one number, one state, and one content of the buffer
abbrev pub OneRunIn : (c : Contract run_in.ended) {φ : Fact run_in.ended} → Ensures run_in.ended c φ → Type 0
OneRunIn c {φ} ensured =
    (κs : Lfts 3) (a : Args run_in.signature κs) (x y : Res run_in.signature κs) (e d : AtExit run_in.ended κs) →
    φ κs a x e →
    φ κs a y d →
    (x ≡ y) × (e.0.now ≡ d.0.now) × (e.1.1.0.now ≡ d.1.1.0.now)

-- each of the three, by its name
pub record EachLentPromise : Type 0 where
  pub access_in : OneAccessIn (λ m. access_in.clauses m.𝓛 m.mem m.run) (λ m κs a g x e. joined m.𝓤 refl)
  pub lines : OneLines (λ m. lines.clauses m.𝓛 m.mem m.run) (λ m κs a g x e. refl)
  pub run_in : OneRunIn (λ m. run_in.clauses m.𝓛 m.mem m.run) (λ m κs a g x e. joined m.𝓤 (joined m.𝓤 refl))
