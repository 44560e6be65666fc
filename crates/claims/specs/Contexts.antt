-- No write makes a context that 5 refuses (document 02, request 1): reserved bits are stored as 0.
use Rattle.std.specs.Prelude.{ℕ, List, ◌≡◌}
use Rattle.rules.specs.declared.access.Access.{Access}
use Rattle.rules.specs.declared.state.State.{State}
use Rattle.rules.specs.Context.{impossible, impossible_at}
use Rattle.rules.specs.Access.{access_of}
use Rattle.claims.specs.Desk.{end_state}

-- 5 holds on the one state exactly if it does on the other: at every level, and for the lines question, which has none
pub record SameContexts (old new : State) : Type 0 where
  pub at_every_level : (level : ℕ) → impossible_at new level ≡ impossible_at old level
  pub lines : impossible new ≡ impossible old

-- so it does after any access, permitted or not, and after any sequence of them
pub record NoWriteMakesFive : Type 0 where
  pub one_access : (s : State) (a : Access) → SameContexts s (access_of s a).next
  pub any_sequence : (s : State) (accesses : List Access) → SameContexts s (end_state access_of s accesses)
