-- Which replies say that nothing was done.
use Rattle.std.specs.Prelude.{Bool, true, false}
use Rattle.core_model.specs.Sources.{EditAnswer, job, same, removed, edit_refused}
use Rattle.core_model.specs.Requests as reply
use Rattle.core_model.specs.Requests.{Reply, edited, settled, to_client, gone}

-- the edit was refused
abbrev pub is_refused_edit : EditAnswer → Bool
is_refused_edit (job v) = false
is_refused_edit same = false
is_refused_edit (removed v) = false
is_refused_edit (edit_refused w) = true

-- the reply is a refusal: of an edit, of a client that comes, of a request, or of a client that goes
abbrev pub is_refusal : Reply → Bool
is_refusal (edited answer) = is_refused_edit answer
is_refusal (settled answer) = false
is_refusal (to_client m) = false
is_refusal (reply.refused refusal) = true
is_refusal gone = false
