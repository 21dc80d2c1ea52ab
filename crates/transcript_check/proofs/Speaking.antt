-- The replies of a core can be written.
use Rattle.std.proofs.Common.{List}
use Rattle.std.specs.Prelude.{All}
use Rattle.core_model.specs.Core.{Event, core_after, step}
use Rattle.core_model.specs.Names.{Name}
use Rattle.core_model.specs.Requests.{Reply, edited, settled, to_client, refused, gone}
use Rattle.core_model.specs.Sources.{job, same, removed, edit_refused, serve, refuse, late}
use Rattle.core_laws.specs.Ranges.{IsWritableReply}
use Rattle.events_and_replies.specs.Said.{said}
use Rattle.record_text.specs.Told.{IsTold}
use Rattle.record_laws.specs.Answers.{reply_after, reply_told}
use Rattle.event_facts.specs.Tellable.{IsTellable}
use Rattle.record_laws.proofs.Ranges.{tellable_says}

told_writable : (reply : Reply) → IsWritableReply reply → IsTold (reply_told (said reply))
told_writable (edited (job v)) w = tt
told_writable (edited same) w = tt
told_writable (edited (removed v)) w = tt
told_writable (edited (edit_refused r)) w = tt
told_writable (settled (serve a)) w = tt
told_writable (settled (refuse f)) w = tt
told_writable (settled late) w = tt
told_writable (to_client m) w = w 2
told_writable (refused r) w = w 2
told_writable gone w = tt

-- the reply to an event that a record can tell, behind such events, can be written
pub reply_writable : (roots : List Name) (past : List Event) (event : Event) → All IsTellable past → IsTellable event → IsTold (reply_told (reply_after roots past event))
reply_writable roots past event w one = told_writable (step roots (core_after roots past) event).1 (tellable_says roots past event w one)
