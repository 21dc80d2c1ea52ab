-- The messages of a server as they are read in a format: by the fields in the order of their table, and then
-- by further keys.
use Rattle.std.specs.Prelude.{◌≡◌, ℕ, List, [], ◌∷◌, codes, ◌==◌, ◌||◌, length, nat_le, Bool, true, ◌&&◌}
use Rattle.std.specs.Prelude.{if◌then◌else◌, Option, Some, None, option_and_then, Result, Ok, Err, ⊤}
use Rattle.std.specs.List.{list_all}
use Rattle.std.specs.Str.{bytes_eq}
use Rattle.serde_json.specs.Data.{Data}
use Rattle.serde_json.specs.Find.{as_str}
use Rattle.hmr_types.specs.declared.analysis.FaultWord.{FaultWord}
use Rattle.hmr_types.specs.declared.limits.TheConstants.{LARGEST_CLIENT, LARGEST_NUMBER}
use Rattle.hmr_types.specs.ModName.{is_name}
use Rattle.word_texts.specs.Words.{fault_word, cause_word}
use Rattle.update_msgs.specs.declared.message.JsUpdate.{JsUpdate}
use Rattle.update_msgs.specs.declared.message.ServerMsg.{ServerMsg}
use Rattle.update_msgs.specs.declared.message.ServerMsg.TheVariants as msg
use Rattle.update_msgs.specs.Writable.{most_text_bytes}
use Rattle.message_json.specs.declared.batch.Batch.{Batch}
use Rattle.message_json.specs.Reading.{Fault, no_type, ◌>>=◌, field, only, plain_of, path_of, kind_of}
use Rattle.message_json.specs.Reading.{HasName, if_holds, name_in, number_in, wanted_in}
use Rattle.message_json.specs.Reading.{list_in, some_names_in, rising_in}
use Rattle.message_json.specs.Words.{reload_causes, fault_kinds, word_in}

abbrev pub ok_of : {X : Type 0} → Result X Fault → Option X
ok_of (Ok x) = Some x
ok_of (Err e) = None

abbrev pub js_update_of : Data → Result JsUpdate Fault
js_update_of d = do
  path ← field name_in (codes "path") d
  accepted ← field name_in (codes "acceptedPath") d
  timestamp ← field (number_in 0 LARGEST_NUMBER) (codes "timestamp") d
  none ← only (codes "acceptedPath" ∷ codes "path" ∷ codes "timestamp" ∷ codes "type" ∷ []) d
  Ok (record { path = path; accepted_path = accepted; timestamp = timestamp })

abbrev pub if_js_update : Data → List ℕ → Option JsUpdate
if_js_update d t = if bytes_eq t (codes "js-update") then ok_of (js_update_of d) else None

unfoldable pub js_update_in : Data → Option JsUpdate
js_update_in d = option_and_then (if_js_update d) (kind_of d)

abbrev pub is_short : List ℕ → Bool
is_short text = nat_le (length text) most_text_bytes

-- a text of a module
unfoldable pub text_in : Data → Option (List ℕ)
text_in d = option_and_then (if_holds is_short) (as_str d)

-- the first format has no batch
abbrev pub no_batch : Batch
no_batch = record { number = 0; names = [] }

-- the batch, and the names that triggered it
abbrev pub second_batch : Data → Result Batch Fault
second_batch d = do
  batch ← field (number_in 1 LARGEST_NUMBER) (codes "batch") d
  triggered ← field rising_in (codes "triggeredBy") d
  Ok (record { number = batch; names = triggered })

-- the second format alone has a batch
abbrev pub batch_of : ℕ → Data → Result Batch Fault
batch_of format d = if format == 2 then second_batch d else Ok no_batch

-- the keys of the first format, or of the second
abbrev pub only_by : ℕ → List (List ℕ) → List (List ℕ) → Data → Result ⊤ Fault
only_by format first second d = if format == 2 then only second d else only first d

abbrev pub connected_of : Data → Result ServerMsg Fault
connected_of d = do
  client ← field (number_in 1 LARGEST_CLIENT) (codes "client") d
  roots ← field (list_in name_in) (codes "roots") d
  none ← only (codes "client" ∷ codes "roots" ∷ codes "type" ∷ []) d
  Ok (msg.Connected client roots)

abbrev pub update_of : ℕ → Data → Result ServerMsg Fault
update_of format d = do
  replaced ← field (list_in name_in) (codes "replaced") d
  updates ← field (list_in js_update_in) (codes "updates") d
  batch ← batch_of format d
  none ← only_by format (codes "replaced" ∷ codes "type" ∷ codes "updates" ∷ [])
      (codes "batch" ∷ codes "replaced" ∷ codes "triggeredBy" ∷ codes "type" ∷ codes "updates" ∷ []) d
  Ok (msg.Update replaced updates batch.number batch.names)

abbrev pub prune_of : Data → Result ServerMsg Fault
prune_of d = do
  paths ← field (list_in name_in) (codes "paths") d
  none ← only (codes "paths" ∷ codes "type" ∷ []) d
  Ok (msg.Prune paths)

abbrev pub reload_of : ℕ → Data → Result ServerMsg Fault
reload_of format d = do
  cause ← field (word_in cause_word reload_causes) (codes "cause") d
  path ← field some_names_in (codes "path") d
  batch ← batch_of format d
  none ← only_by format (codes "cause" ∷ codes "path" ∷ codes "type" ∷ [])
      (codes "batch" ∷ codes "cause" ∷ codes "path" ∷ codes "triggeredBy" ∷ codes "type" ∷ []) d
  Ok (msg.FullReload cause path batch.number batch.names)

-- a fault of a text: the module, the place and the kind
abbrev pub fault_of : (List ℕ → ℕ → ℕ → FaultWord → ServerMsg) → Data → Result ServerMsg Fault
fault_of made d = do
  path ← field name_in (codes "path") d
  line ← field (number_in 0 LARGEST_NUMBER) (codes "line") d
  column ← field (number_in 0 LARGEST_NUMBER) (codes "column") d
  kind ← field (word_in fault_word fault_kinds) (codes "kind") d
  none ← only (codes "column" ∷ codes "kind" ∷ codes "line" ∷ codes "path" ∷ codes "type" ∷ []) d
  Ok (made path line column kind)

abbrev pub text_of : Data → Result ServerMsg Fault
text_of d = do
  path ← field name_in (codes "path") d
  version ← field (number_in 1 LARGEST_NUMBER) (codes "version") d
  text ← field text_in (codes "text") d
  none ← only (codes "path" ∷ codes "text" ∷ codes "type" ∷ codes "version" ∷ []) d
  Ok (msg.Text path version text)

abbrev pub refused_of : Data → Result ServerMsg Fault
refused_of d = do
  code ← field (number_in 1 7) (codes "code") d
  path ← field (wanted_in (code == 4 || code == 5) name_in) (codes "path") d
  told ← field (wanted_in (code == 4) (number_in 0 LARGEST_NUMBER)) (codes "told") d
  kept ← field (wanted_in (code == 4) (number_in 0 LARGEST_NUMBER)) (codes "kept") d
  none ← only (codes "code" ∷ codes "kept" ∷ codes "path" ∷ codes "told" ∷ codes "type" ∷ []) d
  Ok (msg.Refused code path told kept)

-- by the text at `type`: the messages that carry nothing to do
abbrev pub telling_by : List ℕ → Data → Result ServerMsg Fault
telling_by t d =
    if bytes_eq t (codes "idle") then plain_of msg.Idle d else (
    if bytes_eq t (codes "done") then plain_of msg.Done d else (
    if bytes_eq t (codes "text") then text_of d else (
    if bytes_eq t (codes "missing") then path_of msg.Missing d else (
    if bytes_eq t (codes "not-yet") then path_of msg.NotYet d else (
    if bytes_eq t (codes "refused") then refused_of d else Err no_type)))))

-- by the text at `type`: the messages that carry something to do, and the others
abbrev pub kind_by : ℕ → List ℕ → Data → Result ServerMsg Fault
kind_by format t d =
    if bytes_eq t (codes "connected") then connected_of d else (
    if bytes_eq t (codes "update") then update_of format d else (
    if bytes_eq t (codes "prune") then prune_of d else (
    if bytes_eq t (codes "full-reload") then reload_of format d else (
    if bytes_eq t (codes "error") then fault_of msg.Error d else (
    if bytes_eq t (codes "broken") then fault_of msg.Broken d else telling_by t d)))))

-- by the text at `type`, where there is one
abbrev pub server_by : ℕ → Option (List ℕ) → Data → Result ServerMsg Fault
server_by format None d = Err no_type
server_by format (Some t) d = kind_by format t d

-- the message of a server that a value is in a format, or its first fault
unfoldable pub server_of : ℕ → Data → Result ServerMsg Fault
server_of format d = server_by format (kind_of d) d

-- what the types of the code keep: names are names
abbrev pub AreNames : List (List ℕ) → Type 0
AreNames names = list_all is_name names ≡ true

abbrev pub is_named : JsUpdate → Bool
is_named u = is_name u.path && is_name u.accepted_path

abbrev pub IsTyped : ServerMsg → Type 0
IsTyped (msg.Connected client roots) = AreNames roots
IsTyped (msg.Update replaced updates batch triggered) =
    AreNames replaced × (list_all is_named updates ≡ true) × AreNames triggered
IsTyped (msg.Prune paths) = AreNames paths
IsTyped (msg.FullReload cause path batch triggered) = AreNames path × AreNames triggered
IsTyped (msg.Error path line column kind) = is_name path ≡ true
IsTyped (msg.Broken path line column kind) = is_name path ≡ true
IsTyped msg.Idle = ⊤
IsTyped msg.Done = ⊤
IsTyped (msg.Text path version text) = is_name path ≡ true
IsTyped (msg.Missing path) = is_name path ≡ true
IsTyped (msg.NotYet path) = is_name path ≡ true
IsTyped (msg.Refused code path told kept) = HasName path
