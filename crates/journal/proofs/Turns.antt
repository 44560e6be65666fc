-- One turn of the run more: the next answer goes right behind the others, in front of what was in the buffer.
-- Assumes nothing.
use Rattle.std.proofs.Common.{◌≡◌, ℕ, ◌+◌, ◌≤◌, List, ◌++◌, length, drop, sym, ap, ◌∙◌, append_assoc, arith}
use Rattle.std.proofs.Math.Seq.{take_at, drop-drop}
use Rattle.std.proofs.lemmas.Slice.{drop-append-drop}
use Rattle.std.proofs.Math.ListN.{length-append, length-drop}
use borrow.Rule.Slice.PartMut.{put_mid}

pub one_more : (front more answers part buffer out : List ℕ) (k m n at : ℕ) → length front ≡ k → out ≡ front ++ drop k buffer → part ≡ more → answers ≡ front ++ more → at ≡ k → k + m ≡ n → put_mid at m out part ≡ answers ++ drop n buffer
one_more front more answers part buffer out k m n at h e p a same s =
    rw (same, e, p, a, take_at front (drop k buffer) k h, drop-drop m k (front ++ drop k buffer), s, drop-append-drop k buffer front n (omega arith) h) (sym (append_assoc front more (drop n buffer)))

-- answers in front of a buffer's rest leave its length; no proof cites it today
pub same_length : (front buffer out : List ℕ) (k : ℕ) → length front ≡ k → k ≤ length buffer → out ≡ front ++ drop k buffer → length out ≡ length buffer
same_length front buffer out k n h e = ap length e ∙ simp (length-append, length-drop) (omega (arith, n, h))
