-- What a function's contract ensures, as a plain fact. The contract is the function's own, as Rattle states it of the source: its
-- clauses are assertions of the program logic, and here such an assertion and a plain fact are the same, in each model of it.
use Rattle.std.specs.Prelude.{◌≡◌}
use mathlib.Core.Path.{ap, ◌∙◌}
use seplogic.Ra.Ura.{Ura}
use base.Logic.{SProp, sep, via, id⊢, fst∗, snd∗, both⊢}
use contract.Lifetimes.{Lfts}
use contract.Monad.{Fun, conj, conj_i, fact, fact_i, fact_use, fact_hold}
use denote.Triple.Clauses.{AtExit, Clauses, Ended}
use denote.Triple.Entry.{Args, Res}
use prog.Memory.{Memory}
use prog.Routine.{Routine}
use types.Logic.{Logic}

-- a model of the program logic, and in it what memory and routines are
pub record Model : Type 2 where
  pub M : Type 1
  pub 𝓤 : Ura M
  pub 𝓛 : Logic 𝓤
  pub mem : Memory → SProp 𝓤
  pub run : Routine → Fun 𝓤

-- over a signature, with which of the parameters are seen at exit
module _ (E : Ended) where
  -- the clauses of a contract, in each model
  abbrev pub Contract : Type 2
  Contract = (m : Model) → Clauses m.𝓤 E

  -- a fact of the lifetimes, the arguments, the result and the parameters at exit
  abbrev pub Fact : Type 1
  Fact = (κs : Lfts E.signature.lifetimes) → Args E.signature κs → Res E.signature κs → AtExit E κs → Type 0

  -- what the contract ensures is the fact φ, no more and no less, in each model
  abbrev pub Ensures : Contract → Fact → Type 2
  Ensures c φ =
      (m : Model) (κs : Lfts E.signature.lifetimes) (a : Args E.signature κs) (g : (c m κs a).ghost) (x : Res E.signature κs) (e : AtExit E κs) →
      (c m κs a).ensures g x e ≡ fact m.𝓤 (φ κs a x e)

-- A clause that is a fact φ, and what comes behind it, a fact ψ: the two clauses are the fact of both.
pub joined : {M : Type 1} (𝓤 : Ura M) {φ ψ : Type 0} {P : SProp 𝓤} → P ≡ fact 𝓤 ψ → sep 𝓤 (fact 𝓤 φ) P ≡ fact 𝓤 (φ × ψ)
joined 𝓤 {φ} {ψ} {P} behind =
    ap (λ (Q : SProp 𝓤). sep 𝓤 (fact 𝓤 φ) Q) behind
    ∙ both⊢ 𝓤
    (fact_use 𝓤 φ (fst∗ 𝓤 (fact 𝓤 φ) (fact 𝓤 ψ)) (λ p. fact_use 𝓤 ψ (snd∗ 𝓤 (fact 𝓤 φ) (fact 𝓤 ψ)) (λ q.
    fact_i 𝓤 (φ × ψ) (sep 𝓤 (fact 𝓤 φ) (fact 𝓤 ψ)) (p, q))))
    (fact_use 𝓤 (φ × ψ) (id⊢ 𝓤 (fact 𝓤 (φ × ψ))) (λ pq.
    via 𝓤 (conj 𝓤 (fact 𝓤 φ) (fact 𝓤 ψ))
    (conj_i 𝓤 (fact 𝓤 φ) (fact 𝓤 ψ) (fact_i 𝓤 φ (fact 𝓤 (φ × ψ)) pq.0) (fact_i 𝓤 ψ (fact 𝓤 (φ × ψ)) pq.1))
    (fact_hold 𝓤 φ (fact 𝓤 ψ))))
