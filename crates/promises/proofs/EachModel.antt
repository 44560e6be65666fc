-- The answers of the three functions over lent structs are pinned down, said of their clauses as assertions of the program logic, in
-- every model of it: who holds them of two ends of a call holds that the results are equal, and what lies in lent memory at exit too.
-- Each clause is the fact of an equation, and the clauses are joined by ∗: who holds them knows the equations, and both ends equal
-- what they name.
-- Assumes nothing.
use Rattle.std.proofs.Common.{◌≡◌, sym, ◌∙◌}
use seplogic.Ra.Ura.{Ura}
use base.Logic.{SProp, ent, sep, via, fst∗, snd∗}
use contract.Lifetimes.{Lfts}
use contract.Monad.{Fun, conj, conj_l, conj_r, fact, fact_i, fact_use}
use denote.Triple.Clauses.{AtExit}
use denote.Triple.Entry.{Args, Res}
use types.Logic.{Logic}
use prog.Memory.{Memory}
use prog.Routine.{Routine}
use Rattle.lent.specs.contracts.elsterkabel_access_in as access_in
use Rattle.lent.specs.contracts.elsterkabel_lines as lines
use Rattle.lent.specs.contracts.elsterkabel_run_in as run_in

module _ {M : Type 1} {𝓤 : Ura M} (𝓛 : Logic 𝓤) (mem : Memory → SProp 𝓤) (run : Routine → Fun 𝓤) where
  -- one state, and one answer
  abbrev pub OneAccessIn : Type 1
  OneAccessIn =
      (κs : Lfts 3) (a : Args access_in.signature κs) (x y : Res access_in.signature κs) (e d : AtExit access_in.ended κs) →
      ent 𝓤
      (conj 𝓤 ((access_in.clauses 𝓛 mem run κs a).ensures tt x e) ((access_in.clauses 𝓛 mem run κs a).ensures tt y d))
      (fact 𝓤 ((e.0.now ≡ d.0.now) × (e.1.1.0.now ≡ d.1.1.0.now)))

  -- one content of the lines
  abbrev pub OneLines : Type 1
  OneLines =
      (κs : Lfts 2) (a : Args lines.signature κs) (x y : Res lines.signature κs) (e d : AtExit lines.ended κs) →
      ent 𝓤
      (conj 𝓤 ((lines.clauses 𝓛 mem run κs a).ensures tt x e) ((lines.clauses 𝓛 mem run κs a).ensures tt y d))
      (fact 𝓤 (e.1.1.0.now ≡ d.1.1.0.now))

  -- one number, one state, and one content of the buffer
  abbrev pub OneRunIn : Type 1
  OneRunIn =
      (κs : Lfts 3) (a : Args run_in.signature κs) (x y : Res run_in.signature κs) (e d : AtExit run_in.ended κs) →
      ent 𝓤
      (conj 𝓤 ((run_in.clauses 𝓛 mem run κs a).ensures tt x e) ((run_in.clauses 𝓛 mem run κs a).ensures tt y d))
      (fact 𝓤 ((x ≡ y) × (e.0.now ≡ d.0.now) × (e.1.1.0.now ≡ d.1.1.0.now)))

-- in every model
pub record EachInModel : Type 2 where
  pub access_in : {M : Type 1} {𝓤 : Ura M} (𝓛 : Logic 𝓤) (mem : Memory → SProp 𝓤) (run : Routine → Fun 𝓤) → OneAccessIn 𝓛 mem run
  pub lines : {M : Type 1} {𝓤 : Ura M} (𝓛 : Logic 𝓤) (mem : Memory → SProp 𝓤) (run : Routine → Fun 𝓤) → OneLines 𝓛 mem run
  pub run_in : {M : Type 1} {𝓤 : Ura M} (𝓛 : Logic 𝓤) (mem : Memory → SProp 𝓤) (run : Routine → Fun 𝓤) → OneRunIn 𝓛 mem run

module _ {M : Type 1} (𝓤 : Ura M) {P Z : SProp 𝓤} where
  -- the first fact is told, and what is joined to it is still held
  first : {φ : Type 0} {Q : SProp 𝓤} → ent 𝓤 P (sep 𝓤 (fact 𝓤 φ) Q) → (φ → ent 𝓤 P Q → ent 𝓤 P Z) → ent 𝓤 P Z
  first {φ} {Q} held told =
      let both : SProp 𝓤 = sep 𝓤 (fact 𝓤 φ) Q in
      fact_use 𝓤 φ (via 𝓤 both held (fst∗ 𝓤 (fact 𝓤 φ) Q)) (λ p. told p (via 𝓤 both held (snd∗ 𝓤 (fact 𝓤 φ) Q)))

  last : {φ : Type 0} → ent 𝓤 P (fact 𝓤 φ) → (φ → ent 𝓤 P Z) → ent 𝓤 P Z
  last {φ} held told = fact_use 𝓤 φ held told

pub each_in_model : EachInModel
each_in_model =
    record {
      access_in = λ {𝓤 = 𝓤} 𝓛 mem run κs a x y e d.
          first 𝓤 (conj_l 𝓤 _ _) (λ state held. last 𝓤 held (λ answer.
          first 𝓤 (conj_r 𝓤 _ _) (λ state' held'. last 𝓤 held' (λ answer'.
          fact_i 𝓤 _ _ (state ∙ sym state', answer ∙ sym answer')))));
      lines = λ {𝓤 = 𝓤} 𝓛 mem run κs a x y e d.
          last 𝓤 (conj_l 𝓤 _ _) (λ content. last 𝓤 (conj_r 𝓤 _ _) (λ content'.
          fact_i 𝓤 _ _ (content ∙ sym content')));
      run_in = λ {𝓤 = 𝓤} 𝓛 mem run κs a x y e d.
          first 𝓤 (conj_l 𝓤 _ _) (λ number held. first 𝓤 held (λ state held₂. last 𝓤 held₂ (λ buffer.
          first 𝓤 (conj_r 𝓤 _ _) (λ number' held'. first 𝓤 held' (λ state' held₂'. last 𝓤 held₂' (λ buffer'.
          fact_i 𝓤 _ _ (number ∙ sym number', state ∙ sym state', buffer ∙ sym buffer')))))));
    }
