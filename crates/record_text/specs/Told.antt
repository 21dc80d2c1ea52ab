-- The text of each reply.
use Rattle.std.specs.Prelude.{ℕ, List, ◌++◌, codes, ⊤}
use Rattle.hmr_types.specs.declared.analysis.TextFault.{TextFault}
use Rattle.play_script.specs.Texts.{spaced_number}
use Rattle.play_text.specs.Lines.{text_fault}
use Rattle.word_texts.specs.Words.{refusal_word}
use Rattle.update_msgs.specs.Writable.{IsWritable}
use Rattle.message_text.specs.ServerText.{server_text}
use Rattle.record_text.specs.declared.reply.RecordReply.{RecordReply}
use Rattle.record_text.specs.declared.reply.RecordReply.TheVariants as replies

-- a word and a version
abbrev pub counted_text : List ℕ → ℕ → List ℕ
counted_text word version = word ++ spaced_number version

-- the place and the fault of a text
abbrev pub refused_text : TextFault → List ℕ
refused_text fault = codes "refused " ++ text_fault fault

-- the text of a reply
abbrev pub reply_text : RecordReply → List ℕ
reply_text (replies.Job version) = counted_text (codes "job") version
reply_text replies.Same = codes "same"
reply_text (replies.Removed version) = counted_text (codes "removed") version
reply_text (replies.EditRefused refusal) = refusal_word refusal
reply_text replies.Served = codes "served"
reply_text (replies.RefusedText fault) = refused_text fault
reply_text replies.Late = codes "late"
reply_text (replies.Message m) = server_text 2 m
reply_text replies.Gone = codes "gone"

-- a message is one that can be written in the second format
abbrev pub IsTold : RecordReply → Type 0
IsTold (replies.Job version) = ⊤
IsTold replies.Same = ⊤
IsTold (replies.Removed version) = ⊤
IsTold (replies.EditRefused refusal) = ⊤
IsTold replies.Served = ⊤
IsTold (replies.RefusedText fault) = ⊤
IsTold replies.Late = ⊤
IsTold (replies.Message m) = IsWritable 2 m
IsTold replies.Gone = ⊤
