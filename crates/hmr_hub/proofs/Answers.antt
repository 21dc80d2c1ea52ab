-- What was answered to an entry, in longer transcripts.
use Rattle.std.proofs.Common.{ℕ, List, [], ◌∷◌, ◌++◌, ap, sym, ◌∙◌, subst, append_assoc}
use Rattle.std.specs.Prelude.{Ok}
use Rattle.core_model.specs.Names.{Name}
use Rattle.core_model.specs.Core.{Event}
use Rattle.core_model.specs.Transcript.{Recorded}
use Rattle.events_and_replies.specs.declared.event.Reply.{Reply}
use Rattle.hmr_hub.specs.declared.pass.Pass.{Pass}
use Rattle.hmr_hub.specs.Calls.{Called}
use Rattle.hmr_hub.specs.Passes.{number_of, roots_of, seen_of}
use Rattle.hmr_hub.specs.Moves.{Moved}
use Rattle.hmr_hub.specs.Answered.{Answered}

pub answered_called : (p q : Pass) (event : Event) (reply : Reply) → Called event (Ok reply) p q → Answered (roots_of p) (seen_of q) (number_of p) event reply
answered_called p q event reply c = record {
  before = c.before;
  after = [];
  whole = c.seen;
  reply_is = c.reply;
}

pub answered_longer : (roots : List Name) (entries more : List Recorded) (by : ℕ) (event : Event) (reply : Reply)
    → Answered roots entries by event reply → Answered roots (entries ++ more) by event reply
answered_longer roots entries more by event reply a = record {
  before = a.before;
  after = a.after ++ more;
  whole = ap (λ xs. xs ++ more) a.whole ∙ append_assoc a.before ((by, event) ∷ a.after) more;
  reply_is = a.reply_is;
}

pub answered_moved : (p q : Pass) (mine : List Recorded) (by : ℕ) (event : Event) (reply : Reply)
    → Moved p q mine → Answered (roots_of p) (seen_of p) by event reply → Answered (roots_of q) (seen_of q) by event reply
answered_moved p q mine by event reply m a =
    subst (λ roots. Answered roots (seen_of q) by event reply) (sym m.roots)
    (subst (λ entries. Answered (roots_of p) entries by event reply) (sym m.longer) (answered_longer (roots_of p) (seen_of p) m.more by event reply a))
