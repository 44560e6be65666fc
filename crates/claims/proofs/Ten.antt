-- 10 exactly when: a verdict 'to EL3' alone ends in it, and the gate of CNTPOFF alone gives that, at EL2 with ECVEn 0.
-- Assumes nothing.
use Rattle.std.specs.Prelude.{Err, None, Ok, Option, Some}
use Prim.Native.Nat.{ℕ}
use mathlib.Core.Bool.{Bool, true, false, cond, not, ◌&&◌}
use mathlib.Core.List.{[], ◌∷◌}
use mathlib.Core.Path.{◌≡◌, refl, subst}
use native.Mathlib.Omega.{arith}
use lib.Dec.{eqb}
use borrow.Author.Tests.{eqb-true}
use Rattle.rules.specs.declared.access.Access.{Access}
use Rattle.rules.specs.declared.facts.Facts.{Facts}
use Rattle.rules.specs.declared.name.Name.{Name}
use Rattle.rules.specs.declared.name.Name.TheVariants.{Cntpct, Cntvct, Cntpctss, Cntvctss, Cntp, Cntv, Cntvoff, Cnthp, Cnthvs, Cntkctl, Cnthctl, Cntpoff}
use Rattle.rules.specs.declared.state.State.{State}
use Rattle.rules.specs.declared.verdict.Stop.TheVariants.{Undefined, ToEl1, ToEl2, ToEl3}
use Rattle.rules.specs.declared.verdict.Target.{Target}
use Rattle.rules.specs.Words.{EL0, EL1, EL2, facts_of}
use Rattle.rules.specs.Names.{name_of, is_mrs}
use Rattle.rules.specs.Rules.{Verdict, ◌⇒◌, first}
use Rattle.rules.specs.Cntp.{denied, a_to_d, el1_rule}
use Rattle.rules.specs.Cntv.{a_to_c}
use Rattle.rules.specs.Counters.{cntpct_el0, cntpct_el1, cntpct, cntvct_el0, cntvct_el1, cntvct, self_synchronized}
use Rattle.rules.specs.El2.{cntvoff}
use Rattle.rules.specs.Control.{cntpoff}
use Rattle.rules.specs.Verdicts.{verdict_of}
use Rattle.rules.specs.Context.{impossible_at}
use Rattle.rules.specs.Access.{permitted, ruled, served, access_of}
use Rattle.rules.proofs.Rules.{cond_holds, first_holds, at_level_holds}
use Rattle.rules.proofs.Verdicts.{cntp_holds, cntv_holds, cnthp_holds, cnthvs_holds, cntkctl_holds, cnthctl_holds}
use Rattle.claims.specs.Ten.{CntpoffToEl3, TenExactlyWhen}
use Rattle.claims.proofs.Refusals.{permitted_is_done}

-- ---- the gates but CNTPOFF's

abbrev NotToEl3 : Verdict → Type 0
NotToEl3 (Err Undefined) = Unit {0}
NotToEl3 (Err ToEl1) = Unit {0}
NotToEl3 (Err ToEl2) = Unit {0}
NotToEl3 (Err ToEl3) = ⊥
NotToEl3 (Ok target) = Unit {0}

module _ (f : Facts) where
  open f use {level, on, ecv, tge, cntkctl, cnthctl}

  denied_elsewhere : NotToEl3 (denied f)
  denied_elsewhere = cond_holds NotToEl3 (on && tge) (Err ToEl2) (Err ToEl1) tt tt

  cntpct_elsewhere : NotToEl3 (cntpct f)
  unfolding cntpct
  cntpct_elsewhere =
      at_level_holds NotToEl3 level (cntpct_el0 f) (cntpct_el1 f) (Ok Target.Cntpct) (Ok Target.Cntpct)
      (first_holds NotToEl3 (a_to_d f cntkctl.el0pcten cnthctl.el1pcten cnthctl.el1pcten cnthctl.el0pcten) (Ok Target.Cntpct) (denied_elsewhere, (tt, (tt, (tt, tt)))) tt)
      (first_holds NotToEl3 (el1_rule f cnthctl.el1pcten cnthctl.el1pcten) (Ok Target.Cntpct) (tt, tt) tt)
      tt
      tt

  cntvct_elsewhere : NotToEl3 (cntvct f)
  unfolding cntvct
  cntvct_elsewhere =
      at_level_holds NotToEl3 level (cntvct_el0 f) (cntvct_el1 f) (Ok Target.Cntvct) (Ok Target.Cntvct)
      (first_holds NotToEl3 (a_to_c f cntkctl.el0vcten cnthctl.el0vcten cnthctl.el1tvct) (Ok Target.Cntvct) (denied_elsewhere, (tt, (tt, tt))) tt)
      (first_holds NotToEl3 ((on && cnthctl.el1tvct) ⇒ Err ToEl2 ∷ []) (Ok Target.Cntvct) (tt, tt) tt)
      tt
      tt

  undefined_or : (b : Bool) (w : Verdict) → NotToEl3 w → NotToEl3 (first (b ⇒ Err Undefined ∷ []) w)
  undefined_or b w = first_holds NotToEl3 (b ⇒ Err Undefined ∷ []) w (tt, tt)

  cntvoff_elsewhere : NotToEl3 (cntvoff f)
  unfolding cntvoff
  cntvoff_elsewhere =
      at_level_holds NotToEl3 level (Err Undefined) (Err Undefined) (Ok Target.Cntvoff) (Ok Target.Cntvoff) tt tt tt tt

  not_so : {name : Name} {v : Verdict} → NotToEl3 v → v ≡ (Err ToEl3) → name ≡ Cntpoff
  not_so elsewhere e = absurd (subst NotToEl3 e elsewhere)

  only_cntpoff : (name : Name) (mrs : Bool) → verdict_of f name mrs ≡ (Err ToEl3) → name ≡ Cntpoff
  unfolding verdict_of
  only_cntpoff Cntpct mrs = not_so (undefined_or (not mrs) (cntpct f) cntpct_elsewhere)
  only_cntpoff Cntvct mrs = not_so (undefined_or (not mrs) (cntvct f) cntvct_elsewhere)
  only_cntpoff Cntpctss mrs =
      not_so (undefined_or (not mrs) (self_synchronized f (cntpct f)) (undefined_or (not ecv) (cntpct f) cntpct_elsewhere))
  only_cntpoff Cntvctss mrs =
      not_so (undefined_or (not mrs) (self_synchronized f (cntvct f)) (undefined_or (not ecv) (cntvct f) cntvct_elsewhere))
  only_cntpoff (Cntp p) mrs = not_so (cntp_holds NotToEl3 p tt tt tt (λ _. tt) f)
  only_cntpoff (Cntv p) mrs = not_so (cntv_holds NotToEl3 p tt tt tt (λ _. tt) f)
  only_cntpoff Cntvoff mrs = not_so cntvoff_elsewhere
  only_cntpoff (Cnthp p) mrs = not_so (cnthp_holds NotToEl3 p tt tt tt (λ _. tt) f)
  only_cntpoff (Cnthvs p) mrs = not_so (cnthvs_holds NotToEl3 p tt tt tt (λ _. tt) f)
  only_cntpoff Cntkctl mrs = not_so (cntkctl_holds NotToEl3 tt tt tt f)
  only_cntpoff Cnthctl mrs = not_so (cnthctl_holds NotToEl3 tt tt f)
  only_cntpoff Cntpoff mrs = λ e. refl

-- ---- and CNTPOFF's, by ECV, whether the level is EL0, EL1 or EL2, and ECVEn

by_facts : (ecv el0 el1 el2 ecven : Bool) → cond (not ecv) (Err Undefined) (cond el0 (Err Undefined) (cond el1 (Err Undefined) (cond el2 (cond (not ecven) (Err ToEl3) (Ok Target.Cntpoff)) (Ok Target.Cntpoff)))) ≡ (Err ToEl3) → (ecv ≡ true) × (el2 ≡ true) × (ecven ≡ false)
by_facts false el0 el1 el2 ecven e = absurd (subst NotToEl3 e tt)
by_facts true true el1 el2 ecven e = absurd (subst NotToEl3 e tt)
by_facts true false true el2 ecven e = absurd (subst NotToEl3 e tt)
by_facts true false false false ecven e = absurd (subst NotToEl3 e tt)
by_facts true false false true true e = absurd (subst NotToEl3 e tt)
by_facts true false false true false e = (refl, refl, refl)

module _ (s : State) (a : Access) where
  abbrev f : Facts
  f = facts_of s a.level

  sent_to_el3 : CntpoffToEl3 s a → cntpoff f ≡ (Err ToEl3)
  unfolding facts_of cntpoff
  sent_to_el3 k = rw (k.ecv, k.ecven, k.level)

  trapped : CntpoffToEl3 s a → (access_of s a).answer.number ≡ 10
  unfolding access_of served ruled verdict_of
  trapped k = rw (k.name, k.possible, sent_to_el3 k)

  -- ---- the ways to 10

  told_apart : name_of a.word ≡ Some Cntpoff → impossible_at s a.level ≡ false → cntpoff f ≡ (Err ToEl3) → CntpoffToEl3 s a
  unfolding facts_of cntpoff
  told_apart n i e =
      let told : (s.features.ecv ≡ true) × (eqb a.level EL2 ≡ true) × (s.controls.ecven ≡ false) = by_facts s.features.ecv (eqb a.level EL0) (eqb a.level EL1) (eqb a.level EL2) s.controls.ecven e in
      record { name = n; possible = i; level = eqb-true a.level 2 told.1; ecv = told.0; ecven = told.2 }

  by_verdict : (v : Verdict) → (ruled f s a v).answer.number ≡ 10 → v ≡ (Err ToEl3)
  unfolding ruled
  by_verdict (Err Undefined) e = absurd (omega arith)
  by_verdict (Err ToEl1) e = absurd (omega arith)
  by_verdict (Err ToEl2) e = absurd (omega arith)
  by_verdict (Err ToEl3) e = refl
  by_verdict (Ok target) e =
      let done : (permitted f s a target).answer.number ≡ 0 = permitted_is_done f s a target in
      absurd (omega arith)

  by_gate : (name : Name) → name_of a.word ≡ Some name → impossible_at s a.level ≡ false → verdict_of f name (is_mrs a.word) ≡ (Err ToEl3) → CntpoffToEl3 s a
  unfolding verdict_of
  by_gate name n i e =
      let is-cntpoff : name ≡ Cntpoff = only_cntpoff f name (is_mrs a.word) e in
      told_apart (rw is-cntpoff at n) i (rw is-cntpoff at e)

  by_context : (name : Name) → name_of a.word ≡ Some name → (b : Bool) → impossible_at s a.level ≡ b → (served s a (Some name)).answer.number ≡ 10 → CntpoffToEl3 s a
  unfolding served
  by_context name n true i e = let no : ◌≡◌ {A = ℕ} 5 10 = rw i at e in absurd (omega arith)
  by_context name n false i e =
      by_gate name n i (by_verdict (verdict_of f name (is_mrs a.word)) (rw i at e))

  by_name : (l : Option Name) → name_of a.word ≡ l → (served s a l).answer.number ≡ 10 → CntpoffToEl3 s a
  unfolding served
  by_name None n e = absurd (omega arith)
  by_name (Some name) n e = by_context name n (impossible_at s a.level) refl e

  reason : (access_of s a).answer.number ≡ 10 → CntpoffToEl3 s a
  unfolding access_of
  reason = by_name (name_of a.word) refl

pub ten_exactly_when : TenExactlyWhen
ten_exactly_when = record { trapped = trapped; reason = reason }
