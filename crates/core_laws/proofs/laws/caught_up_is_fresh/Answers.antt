use Rattle.core_model.specs.Core.{client_at, core_after, changes_of}
use Rattle.core_laws.specs.Given.{analysis_given}
use Rattle.std.proofs.lemmas.Option.{IfSome_then}
use Rattle.core_laws.proofs.Events.{client_facts, served_given}
use Rattle.core_laws.proofs.Freshness.{is_fresh}
use Rattle.core_laws.proofs.laws.caught_up_is_fresh.Goals as goal

pub returns : goal.returns
returns c roots past i = IfSome_then (client_at (core_after roots past).clients i) (client_facts roots past i)
    (λ client facts. is_fresh (analysis_given (changes_of past)) (core_after roots past).sources client (served_given roots past) facts)
