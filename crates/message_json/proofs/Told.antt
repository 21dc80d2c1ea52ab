-- What reads as a message of a server in a format is what is written for it in that format.
use Rattle.std.proofs.Common.{◌≡◌, ℕ, List, [], ◌∷◌, Bool, true, false, ◌==◌, ◌||◌, Option, Some, None, Result, Ok, Err, codes, refl, sym, ap, ◌∙◌, bytes_eq}
use Rattle.std.specs.Prelude.{IfOk, if◌then◌else◌, ⊤}
use Rattle.serde_json.specs.Data.{Data, string}
use Rattle.serde_json.specs.Find.{get}
use Rattle.hmr_types.specs.declared.analysis.FaultWord.{FaultWord}
use Rattle.hmr_types.specs.declared.limits.TheConstants.{LARGEST_CLIENT, LARGEST_NUMBER}
use Rattle.json_readings.specs.Ordered.{IsOrdered}
use Rattle.json_readings.specs.Object.{entries}
use Rattle.json_readings.proofs.Ordered.{ordered-read}
use Rattle.word_texts.specs.Words.{fault_word, cause_word}
use Rattle.update_msgs.specs.declared.message.JsUpdate.{JsUpdate}
use Rattle.update_msgs.specs.declared.message.ServerMsg.{ServerMsg}
use Rattle.update_msgs.specs.declared.message.ServerMsg.TheVariants as msg
use Rattle.message_json.specs.declared.batch.Batch.{Batch}
use Rattle.message_json.specs.declared.fault.MsgFault.{MsgFault}
use Rattle.message_text.specs.Values.{HasReading, or_null, whole, list, number_or_null}
use Rattle.message_json.specs.Reading.{Fault, Gives, only, kind_of, name_in}
use Rattle.message_json.specs.Words.{reload_causes, fault_kinds}
use Rattle.message_text.specs.ServerText.{js_update, tell, text_fault}
use Rattle.message_json.specs.ServerReading.{ok_of, js_update_of, if_js_update, js_update_in, no_batch, second_batch, connected_of, update_of, prune_of, reload_of, fault_of, text_of, refused_of, server_by, server_of}
use Rattle.message_json.proofs.Fields.{bind_ok, ok_is, some_is, and_then_some, Exactly, name_exact, number_exact, list_exact, wanted_exact, wanted_number_exact, word_exact, text_exact, rising_exact, some_list_exact, field_exact, same_value, kind_exact, plain_exact, path_exact, which, which_some, text_is}

-- ---- callbacks

pub ok_some : (r : Result JsUpdate Fault) (u : JsUpdate) → ok_of r ≡ Some u → r ≡ Ok u
ok_some (Ok x) u h = ap Ok (some_is _ _ h)
ok_some (Err e) u h = cc

js_update_at : (d : Data) (u : JsUpdate) → IsOrdered d → kind_of d ≡ Some (codes "js-update") → js_update_of d ≡ Ok u → d ≡ js_update u
js_update_at d u a kind h =
    let type = kind_exact (codes "js-update") d a kind in
    let path = bind_ok _ _ u h in
    let accepted = bind_ok _ _ u path.2 in
    let timestamp = bind_ok _ _ u accepted.2 in
    let none = bind_ok _ _ u timestamp.2 in
    same_value ((codes "acceptedPath", Some (string accepted.0)) ∷ (codes "path", Some (string path.0)) ∷ (codes "timestamp", Some (whole timestamp.0)) ∷ (codes "type", Some (string (codes "js-update"))) ∷ []) (codes "type") _ d none.0 refl a type
    (field_exact _ string name_exact (codes "acceptedPath") d accepted.0 a accepted.1, (field_exact _ string name_exact (codes "path") d path.0 a path.1, (field_exact _ whole (number_exact 0 LARGEST_NUMBER) (codes "timestamp") d timestamp.0 a timestamp.1, (type, tt)))) none.1
    ∙ ap js_update (ok_is _ _ none.2)

js_update_exact : Exactly js_update_in js_update
unfolding js_update_in
js_update_exact d u a h =
    let t = and_then_some (if_js_update d) (kind_of d) u h in
    which_some (bytes_eq t.0 (codes "js-update")) _ _ (λ e f. js_update_at d u a (t.1 ∙ ap Some (text_is t.0 _ e)) (ok_some _ u f)) (λ e f. cc) t.2

-- ---- both formats

abbrev names : List (List ℕ) → Data
names = list string

abbrev in_both : Bool → Data → Option Data
in_both b d = if b then Some d else None

update_at : (b : Bool) (d : Data) (replaced : List (List ℕ)) (updates : List JsUpdate) (batch : Batch) (u : ⊤) → IsOrdered d → kind_of d ≡ Some (codes "update")
    → get (codes "replaced") d ≡ Some (names replaced) → get (codes "updates") d ≡ Some (list js_update updates) → (if b then second_batch d else Ok no_batch) ≡ Ok batch
    → (if b then only (codes "batch" ∷ codes "replaced" ∷ codes "triggeredBy" ∷ codes "type" ∷ codes "updates" ∷ []) d else only (codes "replaced" ∷ codes "type" ∷ codes "updates" ∷ []) d) ≡ Ok u
    → d ≡ entries ((codes "batch", in_both b (whole batch.number)) ∷ (codes "replaced", Some (names replaced)) ∷ (codes "triggeredBy", in_both b (names batch.names)) ∷ (codes "type", Some (string (codes "update"))) ∷ (codes "updates", Some (list js_update updates)) ∷ [])
update_at true d replaced updates batch u a kind at_replaced at_updates h none =
    let type = kind_exact (codes "update") d a kind in
    let number = bind_ok _ _ batch h in
    let triggered = bind_ok _ _ batch number.2 in
    same_value ((codes "batch", Some (whole number.0)) ∷ (codes "replaced", Some (names replaced)) ∷ (codes "triggeredBy", Some (names triggered.0)) ∷ (codes "type", Some (string (codes "update"))) ∷ (codes "updates", Some (list js_update updates)) ∷ []) (codes "type") _ d u refl a type
    (field_exact _ whole (number_exact 1 LARGEST_NUMBER) (codes "batch") d number.0 a number.1, (at_replaced, (field_exact _ names rising_exact (codes "triggeredBy") d triggered.0 a triggered.1, (type, (at_updates, tt))))) none
    ∙ ap (λ x. entries ((codes "batch", Some (whole x.number)) ∷ (codes "replaced", Some (names replaced)) ∷ (codes "triggeredBy", Some (names x.names)) ∷ (codes "type", Some (string (codes "update"))) ∷ (codes "updates", Some (list js_update updates)) ∷ [])) (ok_is _ batch triggered.2)
update_at false d replaced updates batch u a kind at_replaced at_updates h none =
    let type = kind_exact (codes "update") d a kind in
    same_value ((codes "replaced", Some (names replaced)) ∷ (codes "type", Some (string (codes "update"))) ∷ (codes "updates", Some (list js_update updates)) ∷ []) (codes "type") _ d u refl a type (at_replaced, (type, (at_updates, tt))) none

reload_at : (b : Bool) (d : Data) (cause : List ℕ) (path : List (List ℕ)) (batch : Batch) (u : ⊤) → IsOrdered d → kind_of d ≡ Some (codes "full-reload")
    → get (codes "cause") d ≡ Some (string cause) → get (codes "path") d ≡ Some (names path) → (if b then second_batch d else Ok no_batch) ≡ Ok batch
    → (if b then only (codes "batch" ∷ codes "cause" ∷ codes "path" ∷ codes "triggeredBy" ∷ codes "type" ∷ []) d else only (codes "cause" ∷ codes "path" ∷ codes "type" ∷ []) d) ≡ Ok u
    → d ≡ entries ((codes "batch", in_both b (whole batch.number)) ∷ (codes "cause", Some (string cause)) ∷ (codes "path", Some (names path)) ∷ (codes "triggeredBy", in_both b (names batch.names)) ∷ (codes "type", Some (string (codes "full-reload"))) ∷ [])
reload_at true d cause path batch u a kind at_cause at_path h none =
    let type = kind_exact (codes "full-reload") d a kind in
    let number = bind_ok _ _ batch h in
    let triggered = bind_ok _ _ batch number.2 in
    same_value ((codes "batch", Some (whole number.0)) ∷ (codes "cause", Some (string cause)) ∷ (codes "path", Some (names path)) ∷ (codes "triggeredBy", Some (names triggered.0)) ∷ (codes "type", Some (string (codes "full-reload"))) ∷ []) (codes "type") _ d u refl a type
    (field_exact _ whole (number_exact 1 LARGEST_NUMBER) (codes "batch") d number.0 a number.1, (at_cause, (at_path, (field_exact _ names rising_exact (codes "triggeredBy") d triggered.0 a triggered.1, (type, tt))))) none
    ∙ ap (λ x. entries ((codes "batch", Some (whole x.number)) ∷ (codes "cause", Some (string cause)) ∷ (codes "path", Some (names path)) ∷ (codes "triggeredBy", Some (names x.names)) ∷ (codes "type", Some (string (codes "full-reload"))) ∷ [])) (ok_is _ batch triggered.2)
reload_at false d cause path batch u a kind at_cause at_path h none =
    let type = kind_exact (codes "full-reload") d a kind in
    same_value ((codes "cause", Some (string cause)) ∷ (codes "path", Some (names path)) ∷ (codes "type", Some (string (codes "full-reload"))) ∷ []) (codes "type") _ d u refl a type (at_cause, (at_path, (type, tt))) none

module _ (format : ℕ) (d : Data) (m : ServerMsg) (a : IsOrdered d) where
  connected_exact : kind_of d ≡ Some (codes "connected") → connected_of d ≡ Ok m → d ≡ tell format m
  connected_exact kind h =
      let type = kind_exact (codes "connected") d a kind in
      let client = bind_ok _ _ m h in
      let roots = bind_ok _ _ m client.2 in
      let none = bind_ok _ _ m roots.2 in
      same_value ((codes "client", Some (whole client.0)) ∷ (codes "roots", Some (names roots.0)) ∷ (codes "type", Some (string (codes "connected"))) ∷ []) (codes "type") _ d none.0 refl a type
      (field_exact _ whole (number_exact 1 LARGEST_CLIENT) (codes "client") d client.0 a client.1, (field_exact _ names (list_exact name_in string name_exact) (codes "roots") d roots.0 a roots.1, (type, tt))) none.1
      ∙ ap (tell format) (ok_is _ _ none.2)

  update_exact : kind_of d ≡ Some (codes "update") → update_of format d ≡ Ok m → d ≡ tell format m
  update_exact kind h =
      let replaced = bind_ok _ _ m h in
      let updates = bind_ok _ _ m replaced.2 in
      let batch = bind_ok _ _ m updates.2 in
      let none = bind_ok _ _ m batch.2 in
      update_at (format == 2) d replaced.0 updates.0 batch.0 none.0 a kind
      (field_exact _ names (list_exact name_in string name_exact) (codes "replaced") d replaced.0 a replaced.1) (field_exact _ (list js_update) (list_exact js_update_in js_update js_update_exact) (codes "updates") d updates.0 a updates.1) batch.1 none.1
      ∙ ap (tell format) (ok_is _ _ none.2)

  prune_exact : kind_of d ≡ Some (codes "prune") → prune_of d ≡ Ok m → d ≡ tell format m
  prune_exact kind h =
      let type = kind_exact (codes "prune") d a kind in
      let paths = bind_ok _ _ m h in
      let none = bind_ok _ _ m paths.2 in
      same_value ((codes "paths", Some (names paths.0)) ∷ (codes "type", Some (string (codes "prune"))) ∷ []) (codes "type") _ d none.0 refl a type
      (field_exact _ names (list_exact name_in string name_exact) (codes "paths") d paths.0 a paths.1, (type, tt)) none.1
      ∙ ap (tell format) (ok_is _ _ none.2)

  reload_exact : kind_of d ≡ Some (codes "full-reload") → reload_of format d ≡ Ok m → d ≡ tell format m
  reload_exact kind h =
      let cause = bind_ok _ _ m h in
      let path = bind_ok _ _ m cause.2 in
      let batch = bind_ok _ _ m path.2 in
      let none = bind_ok _ _ m batch.2 in
      reload_at (format == 2) d (cause_word cause.0) path.0 batch.0 none.0 a kind
      (field_exact _ (λ c. string (cause_word c)) (word_exact cause_word reload_causes) (codes "cause") d cause.0 a cause.1) (field_exact _ names some_list_exact (codes "path") d path.0 a path.1) batch.1 none.1
      ∙ ap (tell format) (ok_is _ _ none.2)

  fault_exact : (t : List ℕ) (made : List ℕ → ℕ → ℕ → FaultWord → ServerMsg)
      → ((path : List ℕ) (line column : ℕ) (kind : FaultWord) → tell format (made path line column kind) ≡ text_fault t path line column kind)
      → kind_of d ≡ Some t → fault_of made d ≡ Ok m → d ≡ tell format m
  fault_exact t made writes kind h =
      let type = kind_exact t d a kind in
      let path = bind_ok _ _ m h in
      let line = bind_ok _ _ m path.2 in
      let column = bind_ok _ _ m line.2 in
      let word = bind_ok _ _ m column.2 in
      let none = bind_ok _ _ m word.2 in
      same_value ((codes "column", Some (whole column.0)) ∷ (codes "kind", Some (string (fault_word word.0))) ∷ (codes "line", Some (whole line.0)) ∷ (codes "path", Some (string path.0)) ∷ (codes "type", Some (string t)) ∷ []) (codes "type") _ d none.0 refl a type
      (field_exact _ whole (number_exact 0 LARGEST_NUMBER) (codes "column") d column.0 a column.1, (field_exact _ (λ w. string (fault_word w)) (word_exact fault_word fault_kinds) (codes "kind") d word.0 a word.1, (field_exact _ whole (number_exact 0 LARGEST_NUMBER) (codes "line") d line.0 a line.1, (field_exact _ string name_exact (codes "path") d path.0 a path.1, (type, tt))))) none.1
      ∙ sym (writes path.0 line.0 column.0 word.0) ∙ ap (tell format) (ok_is _ _ none.2)

  text_message_exact : kind_of d ≡ Some (codes "text") → text_of d ≡ Ok m → d ≡ tell format m
  text_message_exact kind h =
      let type = kind_exact (codes "text") d a kind in
      let path = bind_ok _ _ m h in
      let version = bind_ok _ _ m path.2 in
      let text = bind_ok _ _ m version.2 in
      let none = bind_ok _ _ m text.2 in
      same_value ((codes "path", Some (string path.0)) ∷ (codes "text", Some (string text.0)) ∷ (codes "type", Some (string (codes "text"))) ∷ (codes "version", Some (whole version.0)) ∷ []) (codes "type") _ d none.0 refl a type
      (field_exact _ string name_exact (codes "path") d path.0 a path.1, (field_exact _ string text_exact (codes "text") d text.0 a text.1, (type, (field_exact _ whole (number_exact 1 LARGEST_NUMBER) (codes "version") d version.0 a version.1, tt)))) none.1
      ∙ ap (tell format) (ok_is _ _ none.2)

  refused_exact : kind_of d ≡ Some (codes "refused") → refused_of d ≡ Ok m → d ≡ tell format m
  refused_exact kind h =
      let type = kind_exact (codes "refused") d a kind in
      let code = bind_ok _ _ m h in
      let path = bind_ok _ _ m code.2 in
      let told = bind_ok _ _ m path.2 in
      let kept = bind_ok _ _ m told.2 in
      let none = bind_ok _ _ m kept.2 in
      same_value ((codes "code", Some (whole code.0)) ∷ (codes "kept", Some (number_or_null kept.0)) ∷ (codes "path", Some (or_null path.0)) ∷ (codes "told", Some (number_or_null told.0)) ∷ (codes "type", Some (string (codes "refused"))) ∷ []) (codes "type") _ d none.0 refl a type
      (field_exact _ whole (number_exact 1 7) (codes "code") d code.0 a code.1, (field_exact _ number_or_null (wanted_number_exact (code.0 == 4) 0 LARGEST_NUMBER) (codes "kept") d kept.0 a kept.1, (field_exact _ or_null (wanted_exact (code.0 == 4 || code.0 == 5) name_in name_exact) (codes "path") d path.0 a path.1, (field_exact _ number_or_null (wanted_number_exact (code.0 == 4) 0 LARGEST_NUMBER) (codes "told") d told.0 a told.1, (type, tt))))) none.1
      ∙ ap (tell format) (ok_is _ _ none.2)

  by_text : (o : Option (List ℕ)) → kind_of d ≡ o → server_by format o d ≡ Ok m → d ≡ tell format m
  by_text None is h = cc
  by_text (Some t) is h =
      let at = λ (k : List ℕ) (e : bytes_eq t k ≡ true). is ∙ ap Some (text_is t k e) in
      which (bytes_eq t (codes "connected")) _ _ (λ e f. connected_exact (at _ e) f) (λ e f.
      which (bytes_eq t (codes "update")) _ _ (λ e f. update_exact (at _ e) f) (λ e f.
      which (bytes_eq t (codes "prune")) _ _ (λ e f. prune_exact (at _ e) f) (λ e f.
      which (bytes_eq t (codes "full-reload")) _ _ (λ e f. reload_exact (at _ e) f) (λ e f.
      which (bytes_eq t (codes "error")) _ _ (λ e f. fault_exact (codes "error") msg.Error (λ p l c k. refl) (at _ e) f) (λ e f.
      which (bytes_eq t (codes "broken")) _ _ (λ e f. fault_exact (codes "broken") msg.Broken (λ p l c k. refl) (at _ e) f) (λ e f.
      which (bytes_eq t (codes "idle")) _ _ (λ e f. plain_exact (tell format) (codes "idle") msg.Idle m d a (at _ e) refl f) (λ e f.
      which (bytes_eq t (codes "done")) _ _ (λ e f. plain_exact (tell format) (codes "done") msg.Done m d a (at _ e) refl f) (λ e f.
      which (bytes_eq t (codes "text")) _ _ (λ e f. text_message_exact (at _ e) f) (λ e f.
      which (bytes_eq t (codes "missing")) _ _ (λ e f. path_exact (tell format) (codes "missing") msg.Missing m d a (at _ e) (λ p. refl) f) (λ e f.
      which (bytes_eq t (codes "not-yet")) _ _ (λ e f. path_exact (tell format) (codes "not-yet") msg.NotYet m d a (at _ e) (λ p. refl) f) (λ e f.
      which (bytes_eq t (codes "refused")) _ _ (λ e f. refused_exact (at _ e) f) (λ e f. cc) f) f) f) f) f) f) f) f) f) f) f) h

server_exact : (format : ℕ) (d : Data) (m : ServerMsg) → IsOrdered d → server_of format d ≡ Ok m → d ≡ tell format m
unfolding server_of
server_exact format d m a h = by_text format d m a (kind_of d) refl h

pub exact_result : (format : ℕ) (bytes : List ℕ) (d : Data) (r : Result ServerMsg MsgFault) → HasReading bytes d → Gives r (server_of format d) → IfOk r (λ m. HasReading bytes (tell format m))
exact_result format bytes d (Ok m) x g = record { utf8 = x.utf8; value = x.value ∙ ap Some (server_exact format d m (ordered-read bytes d x.value) g) }
exact_result format bytes d (Err e) x g = tt
