use Rattle.std.proofs.Common.{refl}
use Rattle.std.specs.Fmt.{digits}
use Rattle.module_semantics.specs.Values.{number, text}
use Rattle.module_semantics.proofs.evaluation_examples.texts_are_joined.Goals as goal

pub returns-clause-text_and_number : goal.returns-clause-text_and_number
unfolding number text digits
returns-clause-text_and_number c = refl

pub returns-clause-number_and_text : goal.returns-clause-number_and_text
unfolding number text digits
returns-clause-number_and_text c = refl
