use Rattle.core_laws.proofs.Truth.{given_true, served_true, view_true, staged_true}
use Rattle.core_laws.proofs.laws.true_results_are_of_the_texts.Goals as goal

pub returns-clause-given : goal.returns-clause-given
returns-clause-given c = given_true

pub returns-clause-served : goal.returns-clause-served
returns-clause-served c transformed roots past w = served_true transformed roots past w

pub returns-clause-view : goal.returns-clause-view
returns-clause-view c transformed roots past w = view_true transformed roots past w

pub returns-clause-staged : goal.returns-clause-staged
returns-clause-staged c transformed roots past w = staged_true transformed roots past w
