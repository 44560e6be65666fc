-- Each clause of the three contracts is an equation: both ends of a call equal what it names.
-- Assumes nothing.
use Rattle.promises.specs.OneLentAnswer.{EachLentPromise}
use Rattle.promises.proofs.OneAnswer.{both_are}

pub each_lent_promise : EachLentPromise
each_lent_promise =
    record {
      access_in = λ κs a x y e d p q. (both_are p.0 q.0, both_are p.1 q.1);
      lines = λ κs a x y e d. both_are;
      run_in = λ κs a x y e d p q. (both_are p.0 q.0, both_are p.1.0 q.1.0, both_are p.1.1 q.1.1);
    }
