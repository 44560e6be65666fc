-- The rules by which an access of the host, or at EL2 with E2H 1, reaches EL2's own timer: what CNTP's (e) to (g), CNTV's
-- (d) to (f) and both families' rules at EL2 have in common.
use Rattle.std.specs.Prelude.{Bool, not, ◌&&◌, [], ◌∷◌}
use Rattle.rules.specs.declared.facts.Facts.{Facts}
use Rattle.rules.specs.declared.name.Part.{Part}
use Rattle.rules.specs.Rules.{Verdict, ◌⇒◌, first, at_level, timer}
use Rattle.gates.specs.declared.family.Family.{Family}

-- whether EL2's own is meant
abbrev pub redirected_of : Facts → Bool → Family → Part → Verdict
redirected_of f own family p =
    first
    ((own && f.secure && f.sel2) ⇒ timer family.secure p
    ∷ (own && not f.secure) ⇒ timer family.nonsecure p
    ∷ [])
    (timer family.itself p)

-- at EL0 the host means it, at EL2 an access with E2H 1
unfoldable pub reached_of : Facts → Family → Part → Verdict
reached_of f family p =
    at_level f.level
    (redirected_of f f.host family p)
    (timer family.itself p)
    (redirected_of f f.e2h family p)
    (timer family.itself p)
