use Rattle.std.proofs.Common.{◌≡◌, ℕ, List}
use Rattle.std.specs.Prelude.{Some, IfSome}
use Rattle.std.proofs.Math.Path.{subst}
use Rattle.core_model.specs.Names.{Name}
use Rattle.core_model.specs.Client.{Client}
use Rattle.core_model.specs.Core.{Event, client_at, core_after, changes_of}
use Rattle.core_laws.specs.Given.{analysis_given}
use Rattle.core_laws.specs.Facts.{ClientFacts}
use Rattle.core_laws.proofs.Events.{client_facts}
use Rattle.core_laws.proofs.Idling.{idle_exactly}
use Rattle.core_laws.proofs.laws.idle_is_answered_exactly.Goals as goal

facts_of : (roots : List Name) (past : List Event) (i : ℕ) (client : Client) → client_at (core_after roots past).clients i ≡ Some client → ClientFacts (analysis_given (changes_of past)) (core_after roots past).sources client
facts_of roots past i client e = subst (λ o. IfSome o (ClientFacts (analysis_given (changes_of past)) (core_after roots past).sources)) e (client_facts roots past i)

pub returns : goal.returns
returns c roots past i client e = idle_exactly roots (core_after roots past) i client e (facts_of roots past i client e).accepting
