-- One event more.
use Rattle.std.proofs.Common.{◌≡◌, ◌+◌, ◌∷◌, [], length, ap, ◌∙◌}
use Rattle.std.specs.Prelude.{Ok}
use Rattle.std.proofs.lemmas.List.{length-append}
use Rattle.core_model.specs.Core.{Event}
use Rattle.events_and_replies.specs.declared.event.Reply.{Reply}
use Rattle.turn_lock.specs.Histories.{calls}
use Rattle.hmr_hub.specs.declared.pass.Pass.{Pass}
use Rattle.hmr_hub.specs.Calls.{Called, SameKnower}
use Rattle.hmr_hub.specs.Passes.{known_of, number_of, seen_of}
use Rattle.hub_tests.specs.Counts.{made_by}

-- an event that was answered is one entry more
pub one_more : (event : Event) (reply : Reply) (p q : Pass) → Called event (Ok reply) p q → SameKnower p q → made_by q ≡ made_by p + 1
one_more event reply p q c s = ap length (ap (λ ks. calls ks (seen_of q)) s.known ∙ c.known) ∙ length-append (calls (known_of p) (seen_of p)) ((number_of p, event) ∷ [])
