-- Stores into a lent part: what was stored is all that is left, and where a part begins and ends. No proof cites them today.
-- Assumes nothing.
use Prim.Native.Nat.{ℕ, ◌+◌, ◌-◌, ◌≤◌}
use mathlib.Core.List.{List, ◌++◌, append-nil}
use mathlib.Core.Path.{◌≡◌, ap, ◌∙◌}
use native.Mathlib.Omega.{arith}
use lib.ListN.{length, take, drop, drop_of_length-le}
use lib.Seq.{sets, sets-eq}
use borrow.Rule.Slice.PartMut.{put_mid, Post-is}

-- as many stores as there are places leave the stored values
pub all_stored : (vs l : List ℕ) → length l ≡ length vs → sets l 0 vs ≡ vs
all_stored vs l e =
    let past : length l ≤ 0 + length vs = omega (arith, e) in
    sets-eq vs l 0 (omega (arith, e)) ∙ ap (λ (r : List ℕ). vs ++ r) (drop_of_length-le l {i = 0 + length vs} past) ∙ append-nil vs

-- a part from a place on, 24 bytes long
pub put_part : (at : ℕ) (l p : List ℕ) → put_mid at (at + 24 - at) l p ≡ take at l ++ (p ++ drop (at + 24) l)
put_part at l p = ap (λ (r : List ℕ). take at l ++ (p ++ r)) (Post-is at (at + 24) l (omega arith))
