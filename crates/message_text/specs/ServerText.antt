-- The messages of a server as they are written in a format, with keys in byte order.
use Rattle.std.specs.Prelude.{ℕ, List, [], ◌∷◌, codes, ◌==◌, if◌then◌else◌, Option, Some, None}
use Rattle.serde_json.specs.Data.{Data, string}
use Rattle.serde_json.specs.Written.{compact_text}
use Rattle.hmr_types.specs.declared.analysis.FaultWord.{FaultWord}
use Rattle.json_readings.specs.Object.{entries}
use Rattle.word_texts.specs.Words.{fault_word, cause_word}
use Rattle.update_msgs.specs.declared.message.JsUpdate.{JsUpdate}
use Rattle.update_msgs.specs.declared.message.ServerMsg.{ServerMsg}
use Rattle.update_msgs.specs.declared.message.ServerMsg.TheVariants as msg
use Rattle.message_text.specs.Values.{alone, only_path, whole, or_null, number_or_null, list}

-- a callback to be called
abbrev pub js_update : JsUpdate → Data
js_update u =
    entries ((codes "acceptedPath", Some (string u.accepted_path)) ∷ (codes "path", Some (string u.path))
    ∷ (codes "timestamp", Some (whole u.timestamp)) ∷ (codes "type", Some (string (codes "js-update"))) ∷ [])

-- what is written in the second format alone
abbrev pub in_second : ℕ → Data → Option Data
in_second format d = if format == 2 then Some d else None

-- a fault of a text: the module, the place and the kind
abbrev pub text_fault : List ℕ → List ℕ → ℕ → ℕ → FaultWord → Data
text_fault word path line column kind =
    entries ((codes "column", Some (whole column)) ∷ (codes "kind", Some (string (fault_word kind)))
    ∷ (codes "line", Some (whole line)) ∷ (codes "path", Some (string path))
    ∷ (codes "type", Some (string word)) ∷ [])

-- the JSON value of a message in a format
abbrev pub tell : ℕ → ServerMsg → Data
tell format (msg.Connected client roots) =
    entries ((codes "client", Some (whole client)) ∷ (codes "roots", Some (list string roots))
    ∷ (codes "type", Some (string (codes "connected"))) ∷ [])
tell format (msg.Update replaced updates batch triggered) =
    entries
    ((codes "batch", in_second format (whole batch)) ∷ (codes "replaced", Some (list string replaced))
    ∷ (codes "triggeredBy", in_second format (list string triggered))
    ∷ (codes "type", Some (string (codes "update")))
    ∷ (codes "updates", Some (list js_update updates)) ∷ [])
tell format (msg.Prune paths) =
    entries ((codes "paths", Some (list string paths)) ∷ (codes "type", Some (string (codes "prune"))) ∷ [])
tell format (msg.FullReload cause path batch triggered) =
    entries
    ((codes "batch", in_second format (whole batch)) ∷ (codes "cause", Some (string (cause_word cause)))
    ∷ (codes "path", Some (list string path))
    ∷ (codes "triggeredBy", in_second format (list string triggered))
    ∷ (codes "type", Some (string (codes "full-reload"))) ∷ [])
tell format (msg.Error path line column kind) = text_fault (codes "error") path line column kind
tell format (msg.Broken path line column kind) = text_fault (codes "broken") path line column kind
tell format msg.Idle = alone (codes "idle")
tell format msg.Done = alone (codes "done")
tell format (msg.Text path version text) =
    entries ((codes "path", Some (string path)) ∷ (codes "text", Some (string text))
    ∷ (codes "type", Some (string (codes "text"))) ∷ (codes "version", Some (whole version)) ∷ [])
tell format (msg.Missing path) = only_path (codes "missing") path
tell format (msg.NotYet path) = only_path (codes "not-yet") path
tell format (msg.Refused code path told kept) =
    entries ((codes "code", Some (whole code)) ∷ (codes "kept", Some (number_or_null kept))
    ∷ (codes "path", Some (or_null path)) ∷ (codes "told", Some (number_or_null told))
    ∷ (codes "type", Some (string (codes "refused"))) ∷ [])

-- the text of a message in a format: its value without spaces
abbrev pub server_text : ℕ → ServerMsg → List ℕ
server_text format m = compact_text (tell format m)
