use Rattle.module_language.proofs.Linking.{module_links, no_links}
use Rattle.module_language.proofs.laws.links_are_the_texts_imports.Goals as goal

pub returns-clause-module : goal.returns-clause-module
returns-clause-module c = module_links

pub returns-clause-none : goal.returns-clause-none
returns-clause-none c = no_links
