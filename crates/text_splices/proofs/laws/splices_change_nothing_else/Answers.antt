use Rattle.std.proofs.Common.{arith, ap, ◌∙◌}
use Rattle.text_splices.proofs.Kept.{lined, ordered, stays}
use Rattle.text_splices.specs.Places.{lines_before}
use Rattle.text_splices.proofs.Rising.{left_out, others}
use Rattle.text_splices.proofs.laws.splices_change_nothing_else.Goals as goal

pub returns-clause-outside : goal.returns-clause-outside
returns-clause-outside c = λ text ss k rise out within. stays text 0 ss k rise out (omega arith)

pub returns-clause-order : goal.returns-clause-order
returns-clause-order c = λ text ss j k rise out beside less. ordered text 0 ss j k rise out beside (omega arith) less

pub returns-clause-lines : goal.returns-clause-lines
returns-clause-lines c = λ text ss k rise out within keep. lined text 0 ss k rise out (omega arith) keep ∙ ap (λ n. lines_before text n) (omega arith)

pub returns-clause-left_out : goal.returns-clause-left_out
returns-clause-left_out c = λ text ss. left_out text 0 ss

pub returns-clause-others : goal.returns-clause-others
returns-clause-others c = λ text ss. others text 0 ss
