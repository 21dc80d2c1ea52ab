-- What an answer is as a reply of the core, and whether it can be written.
use Rattle.std.specs.Prelude.{ℕ, ⊤}
use Rattle.update_msgs.specs.Writable.{IsFormat, IsWritable}
use Rattle.core_model.specs.Requests.{Reply, to_client, refused}
use Rattle.client_records.specs.declared.answer.Answer.{Answer}
use Rattle.client_records.specs.declared.answer.Answer.TheVariants.{To, Refused}

-- the answer, as a reply of the core
abbrev pub reply_of : Answer → Reply
reply_of (To message) = to_client message
reply_of (Refused refusal) = refused refusal

-- what is told the client can be written in both formats
abbrev pub IsWritten : Answer → Type 0
IsWritten (To message) = (format : ℕ) → IsFormat format → IsWritable format message
IsWritten (Refused refusal) = ⊤
