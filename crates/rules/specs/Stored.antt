-- 'Stored bits' (Arm's pages; document 02, request 1): what a write of CNTKCTL or CNTHCTL stores, as the page of each has its
-- fields. A bit that the page reserves for the features that are there, or for E2H, is stored as 0.
use Rattle.std.specs.Prelude.{ℕ, ◌+◌, ◌-◌, ◌*◌, ◌^◌, Bool, true, false, not, if◌then◌else◌, List, [], ◌∷◌, map, ◌≡◌}
use Rattle.rules.specs.Bits.{bits}

-- the fields by the names of the page. EVNTEN, EVNTDIR, EVNTI and EVNTIS are the event stream's, EL1NVPCT and EL1NVVCT nested
-- virtualization's: these are kept, without effect
pub data FieldName : Type 0 where
  EL0PCTEN : FieldName
  EL0VCTEN : FieldName
  EVNTEN : FieldName
  EVNTDIR : FieldName
  EVNTI : FieldName
  EL0VTEN : FieldName
  EL0PTEN : FieldName
  EL1PCTEN : FieldName
  EL1PCEN : FieldName
  EL1PTEN : FieldName
  ECV : FieldName
  EL1TVT : FieldName
  EL1TVCT : FieldName
  EL1NVPCT : FieldName
  EL1NVVCT : FieldName
  EVNTIS : FieldName

-- a field: its name, its highest and its lowest bit, and whether it is there
pub record Field : Type 0 where
  pub name : FieldName
  pub high : ℕ
  pub low : ℕ
  pub there : Bool

-- a field of one bit, and one of several
abbrev one : FieldName → ℕ → Bool → Field
one name place there = record { name = name; high = place; low = place; there = there }

abbrev several : FieldName → ℕ → ℕ → Bool → Field
several name high low there = record { name = name; high = high; low = low; there = there }

abbrev always : Bool
always = true

-- CNTKCTL: bits 10 to 16 and those above 17 are reserved
unfoldable pub cntkctl_fields : Bool → List Field
cntkctl_fields ecv =
    one EL0PCTEN 0 always
    ∷ one EL0VCTEN 1 always
    ∷ one EVNTEN 2 always
    ∷ one EVNTDIR 3 always
    ∷ several EVNTI 7 4 always
    ∷ one EL0VTEN 8 always
    ∷ one EL0PTEN 9 always
    ∷ one EVNTIS 17 ecv
    ∷ []

-- CNTHCTL: with E2H 0 bits 8 to 11 are reserved, and bits 0 and 1 have other names; so are bits above 17, of which the page
-- gives 18 and 19, CNTVMASK and CNTPMASK, to Realm alone
unfoldable pub cnthctl_fields : Bool → Bool → List Field
cnthctl_fields e2h ecv =
    one EL1PCTEN 0 (not e2h)
    ∷ one EL1PCEN 1 (not e2h)
    ∷ one EL0PCTEN 0 e2h
    ∷ one EL0VCTEN 1 e2h
    ∷ one EVNTEN 2 always
    ∷ one EVNTDIR 3 always
    ∷ several EVNTI 7 4 always
    ∷ one EL0VTEN 8 e2h
    ∷ one EL0PTEN 9 e2h
    ∷ one EL1PCTEN 10 e2h
    ∷ one EL1PTEN 11 e2h
    ∷ one ECV 12 ecv
    ∷ one EL1TVT 13 ecv
    ∷ one EL1TVCT 14 ecv
    ∷ one EL1NVPCT 15 ecv
    ∷ one EL1NVVCT 16 ecv
    ∷ one EVNTIS 17 ecv
    ∷ []

-- what a write of x stores: each field that is there, in its place; every other bit is 0
abbrev pub stored : List Field → ℕ → ℕ
stored [] x = 0
stored (f ∷ fs) x = (if f.there then bits f.high f.low x * 2 ^ f.low else 0) + stored fs x

-- what a write of CNTKCTL stores, by ECV, and one of CNTHCTL, by E2H at the moment of the write and ECV
unfoldable pub stored_cntkctl : Bool → ℕ → ℕ
stored_cntkctl ecv x = stored (cntkctl_fields ecv) x

unfoldable pub stored_cnthctl : Bool → Bool → ℕ → ℕ
stored_cnthctl e2h ecv x = stored (cnthctl_fields e2h ecv) x

-- the masks, as a table: what a write of 64 ones stores
pub record Mask : Type 0 where
  pub stores : ℕ → ℕ
  pub mask : ℕ

abbrev keeps : (ℕ → ℕ) → ℕ → Mask
keeps stores mask = record { stores = stores; mask = mask }

abbrev pub mask_table : List Mask
mask_table =
    keeps (stored_cntkctl false) 0x3FF  -- CNTKCTL
    ∷ keeps (stored_cntkctl true) 0x203FF  -- with ECV
    ∷ keeps (stored_cnthctl false false) 0xFF  -- CNTHCTL, E2H 0
    ∷ keeps (stored_cnthctl false true) 0x3F0FF  -- with ECV
    ∷ keeps (stored_cnthctl true false) 0xFFF  -- CNTHCTL, E2H 1
    ∷ keeps (stored_cnthctl true true) 0x3FFFF  -- with ECV
    ∷ []

abbrev all_ones : ℕ
all_ones = 2 ^ 64 - 1

-- one claim: each line of the table holds
abbrev pub MasksHold : Type 0
MasksHold = map (λ (m : Mask). m.stores all_ones) mask_table ≡ map (λ (m : Mask). m.mask) mask_table
