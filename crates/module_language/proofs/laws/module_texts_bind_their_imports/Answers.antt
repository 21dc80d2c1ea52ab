use Rattle.module_language.proofs.Binding.{module_texts_bind}
use Rattle.module_language.proofs.laws.module_texts_bind_their_imports.Goals as goal

pub returns : goal.returns
returns c = module_texts_bind
