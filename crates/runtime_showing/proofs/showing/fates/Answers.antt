use Rattle.client_model.specs.Past.{runtime_after}
use Rattle.module_language.specs.ModuleLanguage.{module_language}
use Rattle.runtime_showing.proofs.showing.fates.Goals as goal

pub returns : goal.returns
returns g c = λ opening past s. c.fate_lines.ensures (runtime_after module_language opening past) s.keeps.page
