use Rattle.std.proofs.Common.{refl}
use Rattle.core_laws.proofs.examples.page_is_loaded.Goals as goal

pub returns-clause-ready : goal.returns-clause-ready
returns-clause-ready c = record { loaded = refl; unchanged = refl; whole = refl }
