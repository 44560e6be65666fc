-- 5 exactly on its grounds: the rulebook's test is a chain of 'or', so it is true exactly if one of its parts is, and each part
-- is one ground. No other way of an access ends in 5.
-- Assumes nothing.
use Rattle.std.specs.Prelude.{Err, None, Ok, Option, Some}
use Prim.Native.Nat.{ℕ, ◌*◌, ◌/◌, ◌%◌, ◌^◌, ◌<◌, ◌≤◌}
use mathlib.Core.Bool.{Bool, true, false, not, ◌&&◌, ◌||◌, and-eq-true_iff, or-true, or_assoc}
use mathlib.Core.Logic.{◌⊎◌, inl, inr, ⊎_elim}
use mathlib.Core.Path.{◌≡◌, refl, sym, ap, subst, ◌∙◌}
use native.Mathlib.Nat.{div-div-eq-div-mul, mul-mod_right}
use native.Mathlib.Omega.{arith}
use lib.Dec.{T, eqb, ltb}
use borrow.Author.Tests.{ltb-true, ltb-false, lt-ltb, eqb-true, eqb-false, eq-eqb, not-true}
use Rattle.rules.specs.declared.access.Access.{Access}
use Rattle.rules.specs.declared.name.Name.{Name}
use Rattle.rules.specs.declared.state.State.{State}
use Rattle.rules.specs.Rules.{Verdict}
use Rattle.rules.specs.declared.verdict.Stop.TheVariants.{Undefined, ToEl1, ToEl2, ToEl3}
use Rattle.rules.specs.Bits.{bits, bit}
use Rattle.rules.specs.Words.{EL1, EL2, EL3, on, facts_of}
use Rattle.rules.specs.Names.{name_of, is_mrs}
use Rattle.rules.specs.Verdicts.{verdict_of}
use Rattle.rules.specs.Context.{impossible, impossible_at}
use Rattle.rules.specs.Access.{permitted, ruled, served, access_of}
use Rattle.rules.specs.Lines.{lines_of}
use Rattle.claims.specs.Grounds.{El2On, Ground, GroundAt, FiveExactlyWhen}
use Rattle.claims.specs.Grounds.Ground.{e2h_without_vhe, eel2_without_sel2, ecven_without_ecv, bits12_to14_without_ecv}
use Rattle.claims.specs.Grounds.GroundAt.{level_above3, whatever_level, el2_not_on, el1_under_tge}
use Rattle.claims.proofs.Refusals.{permitted_is_done}

-- ---- 'or' and 'and' of truths

or_left : (a b : Bool) → a ≡ true → a || b ≡ true
or_left a b e = rw e

or_right : (a b : Bool) → b ≡ true → a || b ≡ true
or_right a b e = rw e (or-true a)

or_split : (a b : Bool) → a || b ≡ true → (a ≡ true) ⊎ (b ≡ true)
or_split true b e = inl refl
or_split false b e = inr e

and_both : (a b : Bool) → a ≡ true → b ≡ true → a && b ≡ true
and_both a b e f = (and-eq-true_iff a b).1 (e, f)

pub is_false : (a : Bool) → (a ≡ true → ⊥) → a ≡ false
is_false true h = absurd (h refl)
is_false false h = refl

-- ---- EL2 on

pub on_of : (s : State) → El2On s → on s ≡ true
on_of s e =
    ⊎_elim (λ n. or_left s.controls.ns _ n) (λ p. or_right s.controls.ns _ (and_both s.features.sel2 s.controls.eel2 p.0 p.1)) e

pub of_on : (s : State) → on s ≡ true → El2On s
of_on s e =
    ⊎_elim (λ n. inl n) (λ p. inr ((and-eq-true_iff s.features.sel2 s.controls.eel2).0 p)) (or_split s.controls.ns _ e)

-- ---- bits 12 to 14

-- a bit that is not 1 is 0
clear : (y : ℕ) (b : Bool) → ltb 0 (y % 2) ≡ b → eqb (y % 2) 1 ≡ false → y % 2 ≡ 0
clear y true f e = let above : 0 < y % 2 = ltb-true 0 (y % 2) f in absurd (eqb-false (y % 2) 1 e (omega arith))
clear y false f e = let below : y % 2 ≤ 0 = ltb-false 0 (y % 2) f in omega arith

-- and three of them make 0
three_clear : (y : ℕ) → y % 2 ≡ 0 → y / 2 % 2 ≡ 0 → y / 2 / 2 % 2 ≡ 0 → y % 8 ≡ 0
three_clear y low middle high =
    let eighths : y ≡ 8 * (y / 2 / 2 / 2) = omega arith in
    ap (λ (n : ℕ). n % 8) eighths ∙ mul-mod_right 8 (y / 2 / 2 / 2)

module _ (x : ℕ) where
  abbrev any_of_three : Bool
  any_of_three = bit 12 x || bit 13 x || bit 14 x

  by_bits : (a b c : Bool) → bit 12 x ≡ a → bit 13 x ≡ b → bit 14 x ≡ c → (bits 14 12 x ≡ 0 → ⊥) → any_of_three ≡ true
  by_bits true b c p q r h = or_left (bit 12 x || bit 13 x) (bit 14 x) (or_left (bit 12 x) (bit 13 x) p)
  by_bits false true c p q r h = or_left (bit 12 x || bit 13 x) (bit 14 x) (or_right (bit 12 x) (bit 13 x) q)
  by_bits false false true p q r h = or_right (bit 12 x || bit 13 x) (bit 14 x) r
  by_bits false false false p q r h =
      let low : x / 2 ^ 12 % 2 ≡ 0 = clear (x / 2 ^ 12) (ltb 0 (x / 2 ^ 12 % 2)) refl p in
      let middle : x / 2 ^ 13 % 2 ≡ 0 = clear (x / 2 ^ 13) (ltb 0 (x / 2 ^ 13 % 2)) refl q in
      let high : x / 2 ^ 14 % 2 ≡ 0 = clear (x / 2 ^ 14) (ltb 0 (x / 2 ^ 14 % 2)) refl r in
      let halved : x / 2 ^ 12 / 2 ≡ x / 2 ^ 13 = div-div-eq-div-mul x (2 ^ 12) 2 in
      let twice : x / 2 ^ 12 / 2 / 2 ≡ x / 2 ^ 14 = ap (λ (y : ℕ). y / 2) halved ∙ div-div-eq-div-mul x (2 ^ 13) 2 in
      absurd (h (three_clear (x / 2 ^ 12) low (rw halved middle) (rw twice high)))

  three_of_field : (bits 14 12 x ≡ 0 → ⊥) → any_of_three ≡ true
  three_of_field = by_bits (bit 12 x) (bit 13 x) (bit 14 x) refl refl refl

  -- each bit that is set makes the field other than 0
  field_of_three : any_of_three ≡ true → bits 14 12 x ≡ 0 → ⊥
  field_of_three e zero =
      ⊎_elim
      (λ f. ⊎_elim
      (λ g. let low : x / 2 ^ 12 % 2 ≡ 1 = eqb-true (x / 2 ^ 12 % 2) 1 g in omega arith)
      (λ g. let middle : x / 2 ^ 13 % 2 ≡ 1 = eqb-true (x / 2 ^ 13 % 2) 1 g in omega arith)
      (or_split (bit 12 x) (bit 13 x) f))
      (λ f. let high : x / 2 ^ 14 % 2 ≡ 1 = eqb-true (x / 2 ^ 14 % 2) 1 f in omega arith)
      (or_split (bit 12 x || bit 13 x) (bit 14 x) e)

-- ---- the grounds that have no level

module _ (s : State) where
  abbrev e2h_ground : Bool
  e2h_ground = s.controls.e2h && not s.features.vhe

  abbrev eel2_ground : Bool
  eel2_ground = s.controls.eel2 && not s.features.sel2

  abbrev x : ℕ
  x = s.controls.cnthctl

  abbrev ecv_bits : Bool
  ecv_bits = s.controls.ecven || bit 12 x || bit 13 x || bit 14 x

  abbrev ecv_ground : Bool
  ecv_ground = ecv_bits && not s.features.ecv

  ecven_first : ecv_bits ≡ s.controls.ecven || any_of_three x
  ecven_first =
      ap (λ (b : Bool). b || bit 14 x) (or_assoc s.controls.ecven (bit 12 x) (bit 13 x)) ∙ or_assoc s.controls.ecven (bit 12 x || bit 13 x) (bit 14 x)

  impossible_of : Ground s → impossible s ≡ true
  unfolding impossible
  impossible_of (e2h_without_vhe e f) =
      or_left (e2h_ground || eel2_ground) ecv_ground (or_left e2h_ground eel2_ground (rw (e, f)))
  impossible_of (eel2_without_sel2 e f) =
      or_left (e2h_ground || eel2_ground) ecv_ground (or_right e2h_ground eel2_ground (rw (e, f)))
  impossible_of (ecven_without_ecv e f) = or_right (e2h_ground || eel2_ground) ecv_ground (rw (e, f))
  impossible_of (bits12_to14_without_ecv e f) =
      or_right (e2h_ground || eel2_ground) ecv_ground
      (and_both ecv_bits (not s.features.ecv) (ecven_first ∙ or_right s.controls.ecven (any_of_three x) (three_of_field x e)) (rw f))

  of_e2h : e2h_ground ≡ true → Ground s
  of_e2h e =
      let both : (s.controls.e2h ≡ true) × (not s.features.vhe ≡ true) = (and-eq-true_iff _ _).0 e in
      e2h_without_vhe both.0 (not-true s.features.vhe both.1)

  of_eel2 : eel2_ground ≡ true → Ground s
  of_eel2 e =
      let both : (s.controls.eel2 ≡ true) × (not s.features.sel2 ≡ true) = (and-eq-true_iff _ _).0 e in
      eel2_without_sel2 both.0 (not-true s.features.sel2 both.1)

  of_ecv : ecv_ground ≡ true → Ground s
  of_ecv e =
      let both : (ecv_bits ≡ true) × (not s.features.ecv ≡ true) = (and-eq-true_iff _ _).0 e in
      let without : s.features.ecv ≡ false = not-true s.features.ecv both.1 in
      ⊎_elim (λ q. ecven_without_ecv q without) (λ q. bits12_to14_without_ecv (field_of_three x q) without)
      (or_split s.controls.ecven (any_of_three x) (sym ecven_first ∙ both.0))

  of_impossible : impossible s ≡ true → Ground s
  unfolding impossible
  of_impossible e =
      ⊎_elim (λ p. ⊎_elim of_e2h of_eel2 (or_split e2h_ground eel2_ground p)) of_ecv (or_split (e2h_ground || eel2_ground) ecv_ground e)

-- ---- and those of an access

module _ (s : State) (level : ℕ) where
  abbrev above : Bool
  above = ltb EL3 level

  abbrev el2_ground : Bool
  el2_ground = eqb level EL2 && not (on s)

  abbrev el1_ground : Bool
  el1_ground = eqb level EL1 && on s && s.controls.tge

  not_on : (El2On s → ⊥) → on s ≡ false
  not_on h = is_false (on s) (λ e. h (of_on s e))

  impossible_at_of : GroundAt s level → impossible_at s level ≡ true
  unfolding impossible_at
  impossible_at_of (level_above3 h) =
      or_left (above || impossible s || el2_ground) el1_ground (or_left (above || impossible s) el2_ground (or_left above (impossible s) (lt-ltb 3 level h)))
  impossible_at_of (whatever_level g) =
      or_left (above || impossible s || el2_ground) el1_ground (or_left (above || impossible s) el2_ground (or_right above (impossible s) (impossible_of s g)))
  impossible_at_of (el2_not_on l h) =
      or_left (above || impossible s || el2_ground) el1_ground (or_right (above || impossible s) el2_ground (rw (eq-eqb level 2 l, not_on h)))
  impossible_at_of (el1_under_tge l h t) =
      or_right (above || impossible s || el2_ground) el1_ground (rw (eq-eqb level 1 l, on_of s h, t))

  of_el2 : el2_ground ≡ true → GroundAt s level
  of_el2 e =
      let both : (eqb level EL2 ≡ true) × (not (on s) ≡ true) = (and-eq-true_iff _ _).0 e in
      el2_not_on (eqb-true level 2 both.0) (λ h. subst T (sym (on_of s h) ∙ not-true (on s) both.1) tt)

  of_el1 : el1_ground ≡ true → GroundAt s level
  of_el1 e =
      let both : (eqb level EL1 && on s ≡ true) × (s.controls.tge ≡ true) = (and-eq-true_iff _ _).0 e in
      let low : (eqb level EL1 ≡ true) × (on s ≡ true) = (and-eq-true_iff _ _).0 both.0 in
      el1_under_tge (eqb-true level 1 low.0) (of_on s low.1) both.1

  of_impossible_at : impossible_at s level ≡ true → GroundAt s level
  unfolding impossible_at
  of_impossible_at e =
      ⊎_elim
      (λ p. ⊎_elim
      (λ q. ⊎_elim (λ r. level_above3 (ltb-true 3 level r)) (λ r. whatever_level (of_impossible s r)) (or_split above (impossible s) q))
      of_el2
      (or_split (above || impossible s) el2_ground p))
      of_el1
      (or_split (above || impossible s || el2_ground) el1_ground e)

-- ---- 5, and nothing else ends in it

module _ (s : State) (a : Access) where
  refused_by : (name : Name) → name_of a.word ≡ Some name → GroundAt s a.level → (access_of s a).answer.number ≡ 5
  unfolding access_of served
  refused_by name n g = rw (n, impossible_at_of s a.level g)

  by_verdict : (v : Verdict) → (ruled (facts_of s a.level) s a v).answer.number ≡ 5 → ⊥
  unfolding ruled
  by_verdict (Err Undefined) e = omega arith
  by_verdict (Err ToEl1) e = omega arith
  by_verdict (Err ToEl2) e = omega arith
  by_verdict (Err ToEl3) e = omega arith
  by_verdict (Ok target) e =
      let done : (permitted (facts_of s a.level) s a target).answer.number ≡ 0 = permitted_is_done (facts_of s a.level) s a target in
      omega arith

  by_context : (name : Name) (b : Bool) → impossible_at s a.level ≡ b → (served s a (Some name)).answer.number ≡ 5 → GroundAt s a.level
  unfolding served
  by_context name true i e = of_impossible_at s a.level i
  by_context name false i e =
      absurd (by_verdict (verdict_of (facts_of s a.level) name (is_mrs a.word)) (rw i at e))

  by_name : (l : Option Name) → (served s a l).answer.number ≡ 5 → GroundAt s a.level
  unfolding served
  by_name None e = absurd (omega arith)
  by_name (Some name) e = by_context name (impossible_at s a.level) refl e

  reason_of : (access_of s a).answer.number ≡ 5 → GroundAt s a.level
  unfolding access_of
  reason_of = by_name (name_of a.word)

lines_refused : (s : State) (physical : ℕ) → Ground s → (lines_of s physical).number ≡ 5
unfolding lines_of
lines_refused s physical g = rw (impossible_of s g)

lines_reason : (s : State) (physical : ℕ) (b : Bool) → impossible s ≡ b → (lines_of s physical).number ≡ 5 → Ground s
unfolding lines_of
lines_reason s physical true i e = of_impossible s i
lines_reason s physical false i e = let done : ◌≡◌ {A = ℕ} 0 5 = rw i at e in absurd (omega arith)

pub five_exactly_when : FiveExactlyWhen
five_exactly_when =
    record {
      refused = refused_by;
      reason = reason_of;
      lines_refused = lines_refused;
      lines_reason = λ s physical. lines_reason s physical (impossible s) refl;
    }
