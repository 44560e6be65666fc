-- By the two theorems. Each holds beside it what says the same in other words, which no clause can: of what a caller learns of a call,
-- and of every model of the program logic.
-- Assumes nothing.
use Rattle.promises.proofs.EachModel.{EachInModel, each_in_model}
use Rattle.promises.proofs.Learnt.{EachLearnt, each_learnt}
use Rattle.promises.proofs.OneAnswer.{each_promise}
use Rattle.promises.proofs.OneLentAnswer.{each_lent_promise}
use Rattle.promises.proofs.every_answer_is_pinned_down.Goals as goal

pub returns-clause-each_promise : goal.returns-clause-each_promise
returns-clause-each_promise c =
    let learnt : EachLearnt = each_learnt in
    each_promise

pub returns-clause-each_lent_promise : goal.returns-clause-each_lent_promise
returns-clause-each_lent_promise c =
    let models : EachInModel = each_in_model in
    each_lent_promise
