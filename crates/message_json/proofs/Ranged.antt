-- What reads as a message is in its ranges.
use Rattle.std.proofs.Common.{◌≡◌, ◌≤◌, ℕ, List, [], ◌∷◌, length, Bool, true, false, ◌&&◌, ◌||◌, ◌==◌, nat_le, Option, Some, None, option_map, option_and_then, Result, Ok, Err, codes, sym, ap, ◌∙◌, subst, arith, bytes_eq}
use Rattle.std.specs.Prelude.{All, IfOk, is_some}
use Rattle.std.proofs.lemmas.Bool.{and_parts, leb-true, false≢true}
use Rattle.std.proofs.lemmas.List.Elements.{All-nil, All-cons}
use Rattle.serde_json.specs.Data.{Data, Items, no_items, item}
use Rattle.serde_json.specs.Find.{get, as_str, as_number, as_u64, as_array}
use Rattle.hmr_types.specs.declared.analysis.FaultWord.{FaultWord}
use Rattle.hmr_types.specs.declared.limits.TheConstants.{LARGEST_CLIENT, LARGEST_NUMBER}
use Rattle.word_texts.specs.Words.{fault_word, cause_word}
use Rattle.message_text.specs.Words.{abort_word}
use Rattle.update_msgs.specs.Names.{rise}
use Rattle.update_msgs.specs.Writable.{IsBetween, IsAtMost, IsPlace, FitsBatch, IsBatch, FitsCause, IsSayable, IsWritable}
use Rattle.update_msgs.specs.declared.message.AbortCause.{AbortCause}
use Rattle.update_msgs.specs.declared.message.AbortCause.TheVariants.{Missing, Broken, Link}
use Rattle.update_msgs.specs.declared.message.ClientMsg.{ClientMsg}
use Rattle.update_msgs.specs.declared.message.ClientMsg.TheVariants as client
use Rattle.update_msgs.specs.declared.message.JsUpdate.{JsUpdate}
use Rattle.update_msgs.specs.declared.message.ServerMsg.{ServerMsg}
use Rattle.update_msgs.specs.declared.message.ServerMsg.TheVariants as msg
use Rattle.message_json.specs.declared.batch.Batch.{Batch}
use Rattle.message_json.specs.declared.fault.MsgFault.{MsgFault}
use Rattle.message_json.specs.Reading.{Gives, field, field_or, only, kind_of, if_holds, name_in, number_in, wanted_in, items_in, list_in, is_some_list, some_names_in, table_in, rising_in, plain_of, only_path_of, path_of}
use Rattle.message_json.specs.Words.{is_link, word_in, abort_causes, reload_causes, fault_kinds}
use Rattle.message_json.specs.ClientReading.{hello_of, applied_of, aborted_of, invalidate_of, client_by, client_of}
use Rattle.message_json.specs.ServerReading.{js_update_of, if_js_update, js_update_in, is_short, text_in, second_batch, batch_of, only_by, connected_of, update_of, prune_of, reload_of, fault_of, text_of, refused_of, server_by, server_of}
use Rattle.message_json.proofs.Fields.{bind_ok, ok_is, some_is, found_some, and_then_some, map_some, if_holds_some, null_exact, which, which_some}
use Rattle.message_json.proofs.Told.{ok_some}

-- ---- values

field_some : {X : Type 0} (f : Data → Option X) (k : List ℕ) (d : Data) (x : X) → field f k d ≡ Ok x → (e : Data) × (f e ≡ Some x)
unfolding field
field_some f k d x h = let v = and_then_some f (get k d) x (found_some k _ x h) in (v.0, v.2)

number_between : (low high : ℕ) (d : Data) (n : ℕ) → number_in low high d ≡ Some n → IsBetween low high n
unfolding number_in
number_between low high d n h =
    let m = and_then_some _ (option_and_then as_u64 (as_number d)) n h in
    let both = and_parts (nat_le low n) (nat_le n high) (if_holds_some (λ n. nat_le low n && nat_le n high) m.0 n m.2).1 in
    record { least = leb-true low n both.0; most = leb-true n high both.1 }

field_between : (low high : ℕ) (k : List ℕ) (d : Data) (n : ℕ) → field (number_in low high) k d ≡ Ok n → IsBetween low high n
field_between low high k d n h = let v = field_some (number_in low high) k d n h in number_between low high v.0 n v.1

wanted_some : {X : Type 0} (b : Bool) (f : Data → Option X) (d : Data) (o : Option X) → wanted_in b f d ≡ Some o → is_some o ≡ b
unfolding wanted_in
wanted_some true f d o h = let y = map_some Some (f d) o h in ap is_some (sym y.2)
wanted_some false f d o h = ap is_some (null_exact d o h).1

field_wanted : {X : Type 0} (b : Bool) (f : Data → Option X) (k : List ℕ) (d : Data) (o : Option X) → field (wanted_in b f) k d ≡ Ok o → is_some o ≡ b
field_wanted b f k d o h = let v = field_some (wanted_in b f) k d o h in wanted_some b f v.0 o v.1

wanted_most : (b : Bool) (d : Data) (o : Option ℕ) → wanted_in b (number_in 0 LARGEST_NUMBER) d ≡ Some o → IsAtMost o
unfolding wanted_in
wanted_most true d o h = let y = map_some Some (number_in 0 LARGEST_NUMBER d) o h in subst IsAtMost y.2 (number_between 0 LARGEST_NUMBER d y.0 y.1).most
wanted_most false d o h = subst IsAtMost (sym (null_exact d o h).1) tt

field_most : (b : Bool) (k : List ℕ) (d : Data) (o : Option ℕ) → field (wanted_in b (number_in 0 LARGEST_NUMBER)) k d ≡ Ok o → IsAtMost o
field_most b k d o h = let v = field_some (wanted_in b (number_in 0 LARGEST_NUMBER)) k d o h in wanted_most b v.0 o v.1

items_all : {X : Type 0} (f : Data → Option X) (P : X → Type 0) → ((d : Data) (x : X) → f d ≡ Some x → P x) → (ds : Items) (xs : List X) → items_in f ds ≡ Some xs → All P xs
unfolding items_in
items_all f P each no_items xs h = subst (All P) (some_is _ _ h) (All-nil P)
items_all f P each (item d ds) xs h =
    let x = and_then_some (λ x. option_map (λ xs. x ∷ xs) (items_in f ds)) (f d) xs h in
    let ys = map_some (λ ys. x.0 ∷ ys) (items_in f ds) xs x.2 in
    subst (All P) ys.2 (All-cons P x.0 ys.0 (each d x.0 x.1) (items_all f P each ds ys.0 ys.1))

field_all : {X : Type 0} (f : Data → Option X) (P : X → Type 0) → ((d : Data) (x : X) → f d ≡ Some x → P x) → (k : List ℕ) (d : Data) (xs : List X) → field (list_in f) k d ≡ Ok xs → All P xs
unfolding list_in
field_all f P each k d xs h =
    let v = field_some (list_in f) k d xs h in
    let ds = and_then_some (items_in f) (as_array v.0) xs v.1 in
    items_all f P each ds.0 xs ds.2

some_more : (xs : List (List ℕ)) → is_some_list xs ≡ true → 1 ≤ length xs
some_more [] h = absurd (false≢true h)
some_more (x ∷ xs) h = omega arith

some_names : (d : Data) (xs : List (List ℕ)) → some_names_in d ≡ Some xs → 1 ≤ length xs
unfolding some_names_in
some_names d xs h = let ys = and_then_some (if_holds is_some_list) (list_in name_in d) xs h in some_more xs (if_holds_some is_some_list ys.0 xs ys.2).1

names_rising : (d : Data) (xs : List (List ℕ)) → rising_in d ≡ Some xs → rise xs ≡ true
unfolding rising_in
names_rising d xs h = let ys = and_then_some (if_holds rise) (list_in name_in d) xs h in (if_holds_some rise ys.0 xs ys.2).1

short_text : (d : Data) (t : List ℕ) → text_in d ≡ Some t → is_short t ≡ true
unfolding text_in
short_text d t h = let s = and_then_some (if_holds is_short) (as_str d) t h in (if_holds_some is_short s.0 t s.2).1

-- ---- messages of few fields, of either side

plain_ranged : {M : Type 0} (P : M → Type 0) (made : M) → P made → (d : Data) (m : M) → plain_of made d ≡ Ok m → P m
plain_ranged P made p d m h = let none = bind_ok (only (codes "type" ∷ []) d) _ m h in subst P (ok_is _ _ none.2) p

path_ranged : {M : Type 0} (P : M → Type 0) (made : List ℕ → M) → ((p : List ℕ) → P (made p)) → (d : Data) (m : M) → path_of made d ≡ Ok m → P m
path_ranged P made p d m h = let path = bind_ok (only_path_of d) _ m h in subst P (ok_is _ _ path.2) (p path.0)

-- ---- messages of a client

hello_ranged : (d : Data) (m : ClientMsg) → hello_of d ≡ Ok m → IsSayable m
hello_ranged d m h =
    let format = bind_ok (field (number_in 1 2) (codes "format") d) _ m h in
    let roots = bind_ok (field_or [] some_names_in (codes "roots") d) _ m format.2 in
    let none = bind_ok (only (codes "format" ∷ codes "roots" ∷ codes "type" ∷ []) d) _ m roots.2 in
    subst IsSayable (ok_is _ _ none.2) (field_between 1 2 (codes "format") d format.0 format.1)

applied_ranged : (d : Data) (m : ClientMsg) → applied_of d ≡ Ok m → IsSayable m
applied_ranged d m h =
    let table = bind_ok (field table_in (codes "table") d) _ m h in
    let none = bind_ok (only (codes "table" ∷ codes "type" ∷ []) d) _ m table.2 in
    subst IsSayable (ok_is _ _ none.2) tt

fits_cause : (c : AbortCause) (from name : Option (List ℕ)) → is_some from ≡ is_link c → is_some name ≡ is_link c → FitsCause c from name
fits_cause Missing None None f n = tt
fits_cause Missing None (Some x) f n = absurd (false≢true (sym n))
fits_cause Missing (Some x) name f n = absurd (false≢true (sym f))
fits_cause Broken None None f n = tt
fits_cause Broken None (Some x) f n = absurd (false≢true (sym n))
fits_cause Broken (Some x) name f n = absurd (false≢true (sym f))
fits_cause Link (Some x) (Some y) f n = tt
fits_cause Link (Some x) None f n = absurd (false≢true n)
fits_cause Link None name f n = absurd (false≢true f)

aborted_ranged : (d : Data) (m : ClientMsg) → aborted_of d ≡ Ok m → IsSayable m
aborted_ranged d m h =
    let cause = bind_ok (field (word_in abort_word abort_causes) (codes "cause") d) _ m h in
    let path = bind_ok (field name_in (codes "path") d) _ m cause.2 in
    let from = bind_ok (field (wanted_in (is_link cause.0) name_in) (codes "from") d) _ m path.2 in
    let name = bind_ok (field (wanted_in (is_link cause.0) as_str) (codes "name") d) _ m from.2 in
    let none = bind_ok (only (codes "cause" ∷ codes "from" ∷ codes "name" ∷ codes "path" ∷ codes "type" ∷ []) d) _ m name.2 in
    subst IsSayable (ok_is _ _ none.2)
    (fits_cause cause.0 from.0 name.0 (field_wanted (is_link cause.0) name_in (codes "from") d from.0 from.1) (field_wanted (is_link cause.0) as_str (codes "name") d name.0 name.1))

invalidate_ranged : (d : Data) (m : ClientMsg) → invalidate_of d ≡ Ok m → IsSayable m
invalidate_ranged d m h =
    let path = bind_ok (field name_in (codes "path") d) _ m h in
    let version = bind_ok (field (number_in 1 LARGEST_NUMBER) (codes "version") d) _ m path.2 in
    let message = bind_ok (field as_str (codes "message") d) _ m version.2 in
    let none = bind_ok (only (codes "message" ∷ codes "path" ∷ codes "type" ∷ codes "version" ∷ []) d) _ m message.2 in
    subst IsSayable (ok_is _ _ none.2) (field_between 1 LARGEST_NUMBER (codes "version") d version.0 version.1)

client_ranged_by : (o : Option (List ℕ)) (d : Data) (m : ClientMsg) → client_by o d ≡ Ok m → IsSayable m
client_ranged_by None d m h = cc
client_ranged_by (Some t) d m h =
    which (bytes_eq t (codes "hello")) _ _ (λ e f. hello_ranged d m f) (λ e f.
    which (bytes_eq t (codes "ask")) _ _ (λ e f. plain_ranged IsSayable client.Ask tt d m f) (λ e f.
    which (bytes_eq t (codes "fetch")) _ _ (λ e f. path_ranged IsSayable client.Fetch (λ p. tt) d m f) (λ e f.
    which (bytes_eq t (codes "applied")) _ _ (λ e f. applied_ranged d m f) (λ e f.
    which (bytes_eq t (codes "aborted")) _ _ (λ e f. aborted_ranged d m f) (λ e f.
    which (bytes_eq t (codes "invalidate")) _ _ (λ e f. invalidate_ranged d m f) (λ e f.
    which (bytes_eq t (codes "bye")) _ _ (λ e f. plain_ranged IsSayable client.Bye tt d m f) (λ e f. cc) f) f) f) f) f) f) h

client_ranged : (d : Data) (m : ClientMsg) → client_of d ≡ Ok m → IsSayable m
unfolding client_of
client_ranged d m h = client_ranged_by (kind_of d) d m h

pub client_ranged_result : (d : Data) (r : Result ClientMsg MsgFault) → Gives r (client_of d) → IfOk r IsSayable
client_ranged_result d (Ok m) g = client_ranged d m g
client_ranged_result d (Err e) g = tt

-- ---- messages of a server

abbrev IsTimed : JsUpdate → Type 0
IsTimed u = u.timestamp ≤ LARGEST_NUMBER

js_update_ranged : (d : Data) (u : JsUpdate) → js_update_of d ≡ Ok u → IsTimed u
js_update_ranged d u h =
    let path = bind_ok (field name_in (codes "path") d) _ u h in
    let accepted = bind_ok (field name_in (codes "acceptedPath") d) _ u path.2 in
    let timestamp = bind_ok (field (number_in 0 LARGEST_NUMBER) (codes "timestamp") d) _ u accepted.2 in
    let none = bind_ok (only (codes "acceptedPath" ∷ codes "path" ∷ codes "timestamp" ∷ codes "type" ∷ []) d) _ u timestamp.2 in
    subst IsTimed (ok_is _ _ none.2) (field_between 0 LARGEST_NUMBER (codes "timestamp") d timestamp.0 timestamp.1).most

update_timed : (d : Data) (u : JsUpdate) → js_update_in d ≡ Some u → IsTimed u
unfolding js_update_in
update_timed d u h =
    let t = and_then_some (if_js_update d) (kind_of d) u h in
    which_some (bytes_eq t.0 (codes "js-update")) _ _ (λ e f. js_update_ranged d u (ok_some _ u f)) (λ e f. cc) t.2

abbrev IsOfBatch : Batch → Type 0
IsOfBatch b = IsBatch b.number b.names

second_ranged : (d : Data) (b : Batch) → second_batch d ≡ Ok b → IsOfBatch b
second_ranged d b h =
    let number = bind_ok (field (number_in 1 LARGEST_NUMBER) (codes "batch") d) _ b h in
    let triggered = bind_ok (field rising_in (codes "triggeredBy") d) _ b number.2 in
    let rising = field_some rising_in (codes "triggeredBy") d triggered.0 triggered.1 in
    subst IsOfBatch (ok_is _ b triggered.2) (record { counted = field_between 1 LARGEST_NUMBER (codes "batch") d number.0 number.1; rising = names_rising rising.0 triggered.0 rising.1 })

batch_ranged : (format : ℕ) (d : Data) (b : Batch) → batch_of format d ≡ Ok b → FitsBatch format b.number b.names
batch_ranged format d b h two = second_ranged d b (ap (λ f. batch_of f d) (sym two) ∙ h)

connected_ranged : (format : ℕ) (d : Data) (m : ServerMsg) → connected_of d ≡ Ok m → IsWritable format m
connected_ranged format d m h =
    let client = bind_ok (field (number_in 1 LARGEST_CLIENT) (codes "client") d) _ m h in
    let roots = bind_ok (field (list_in name_in) (codes "roots") d) _ m client.2 in
    let none = bind_ok (only (codes "client" ∷ codes "roots" ∷ codes "type" ∷ []) d) _ m roots.2 in
    subst (IsWritable format) (ok_is _ _ none.2) (field_between 1 LARGEST_CLIENT (codes "client") d client.0 client.1)

update_ranged : (format : ℕ) (d : Data) (m : ServerMsg) → update_of format d ≡ Ok m → IsWritable format m
update_ranged format d m h =
    let replaced = bind_ok (field (list_in name_in) (codes "replaced") d) _ m h in
    let updates = bind_ok (field (list_in js_update_in) (codes "updates") d) _ m replaced.2 in
    let batch = bind_ok (batch_of format d) _ m updates.2 in
    let none = bind_ok (only_by format (codes "replaced" ∷ codes "type" ∷ codes "updates" ∷ []) (codes "batch" ∷ codes "replaced" ∷ codes "triggeredBy" ∷ codes "type" ∷ codes "updates" ∷ []) d) _ m batch.2 in
    subst (IsWritable format) (ok_is _ _ none.2)
    (record { timed = field_all js_update_in IsTimed update_timed (codes "updates") d updates.0 updates.1; fits = batch_ranged format d batch.0 batch.1 })

prune_ranged : (format : ℕ) (d : Data) (m : ServerMsg) → prune_of d ≡ Ok m → IsWritable format m
prune_ranged format d m h =
    let paths = bind_ok (field (list_in name_in) (codes "paths") d) _ m h in
    let none = bind_ok (only (codes "paths" ∷ codes "type" ∷ []) d) _ m paths.2 in
    subst (IsWritable format) (ok_is _ _ none.2) tt

reload_ranged : (format : ℕ) (d : Data) (m : ServerMsg) → reload_of format d ≡ Ok m → IsWritable format m
reload_ranged format d m h =
    let cause = bind_ok (field (word_in cause_word reload_causes) (codes "cause") d) _ m h in
    let path = bind_ok (field some_names_in (codes "path") d) _ m cause.2 in
    let batch = bind_ok (batch_of format d) _ m path.2 in
    let none = bind_ok (only_by format (codes "cause" ∷ codes "path" ∷ codes "type" ∷ []) (codes "batch" ∷ codes "cause" ∷ codes "path" ∷ codes "triggeredBy" ∷ codes "type" ∷ []) d) _ m batch.2 in
    let names = field_some some_names_in (codes "path") d path.0 path.1 in
    subst (IsWritable format) (ok_is _ _ none.2) (record { some = some_names names.0 path.0 names.1; fits = batch_ranged format d batch.0 batch.1 })

fault_ranged : (format : ℕ) (made : List ℕ → ℕ → ℕ → FaultWord → ServerMsg) → ((p : List ℕ) (l c : ℕ) (k : FaultWord) → IsPlace l c → IsWritable format (made p l c k)) → (d : Data) (m : ServerMsg) → fault_of made d ≡ Ok m → IsWritable format m
fault_ranged format made writes d m h =
    let path = bind_ok (field name_in (codes "path") d) _ m h in
    let line = bind_ok (field (number_in 0 LARGEST_NUMBER) (codes "line") d) _ m path.2 in
    let column = bind_ok (field (number_in 0 LARGEST_NUMBER) (codes "column") d) _ m line.2 in
    let kind = bind_ok (field (word_in fault_word fault_kinds) (codes "kind") d) _ m column.2 in
    let none = bind_ok (only (codes "column" ∷ codes "kind" ∷ codes "line" ∷ codes "path" ∷ codes "type" ∷ []) d) _ m kind.2 in
    subst (IsWritable format) (ok_is _ _ none.2)
    (writes path.0 line.0 column.0 kind.0 (record { row = (field_between 0 LARGEST_NUMBER (codes "line") d line.0 line.1).most; place = (field_between 0 LARGEST_NUMBER (codes "column") d column.0 column.1).most }))

text_ranged : (format : ℕ) (d : Data) (m : ServerMsg) → text_of d ≡ Ok m → IsWritable format m
text_ranged format d m h =
    let path = bind_ok (field name_in (codes "path") d) _ m h in
    let version = bind_ok (field (number_in 1 LARGEST_NUMBER) (codes "version") d) _ m path.2 in
    let text = bind_ok (field text_in (codes "text") d) _ m version.2 in
    let none = bind_ok (only (codes "path" ∷ codes "text" ∷ codes "type" ∷ codes "version" ∷ []) d) _ m text.2 in
    let short = field_some text_in (codes "text") d text.0 text.1 in
    subst (IsWritable format) (ok_is _ _ none.2)
    (record { counted = field_between 1 LARGEST_NUMBER (codes "version") d version.0 version.1; few = leb-true (length text.0) 4_294_967_294 (short_text short.0 text.0 short.1) })

refused_ranged : (format : ℕ) (d : Data) (m : ServerMsg) → refused_of d ≡ Ok m → IsWritable format m
refused_ranged format d m h =
    let code = bind_ok (field (number_in 1 7) (codes "code") d) _ m h in
    let path = bind_ok (field (wanted_in (code.0 == 4 || code.0 == 5) name_in) (codes "path") d) _ m code.2 in
    let told = bind_ok (field (wanted_in (code.0 == 4) (number_in 0 LARGEST_NUMBER)) (codes "told") d) _ m path.2 in
    let kept = bind_ok (field (wanted_in (code.0 == 4) (number_in 0 LARGEST_NUMBER)) (codes "kept") d) _ m told.2 in
    let none = bind_ok (only (codes "code" ∷ codes "kept" ∷ codes "path" ∷ codes "told" ∷ codes "type" ∷ []) d) _ m kept.2 in
    subst (IsWritable format) (ok_is _ _ none.2) (record {
      coded = field_between 1 7 (codes "code") d code.0 code.1;
      named = field_wanted (code.0 == 4 || code.0 == 5) name_in (codes "path") d path.0 path.1;
      telling = field_wanted (code.0 == 4) (number_in 0 LARGEST_NUMBER) (codes "told") d told.0 told.1;
      keeping = field_wanted (code.0 == 4) (number_in 0 LARGEST_NUMBER) (codes "kept") d kept.0 kept.1;
      told_most = field_most (code.0 == 4) (codes "told") d told.0 told.1;
      kept_most = field_most (code.0 == 4) (codes "kept") d kept.0 kept.1;
    })

server_ranged_by : (format : ℕ) (o : Option (List ℕ)) (d : Data) (m : ServerMsg) → server_by format o d ≡ Ok m → IsWritable format m
server_ranged_by format None d m h = cc
server_ranged_by format (Some t) d m h =
    which (bytes_eq t (codes "connected")) _ _ (λ e f. connected_ranged format d m f) (λ e f.
    which (bytes_eq t (codes "update")) _ _ (λ e f. update_ranged format d m f) (λ e f.
    which (bytes_eq t (codes "prune")) _ _ (λ e f. prune_ranged format d m f) (λ e f.
    which (bytes_eq t (codes "full-reload")) _ _ (λ e f. reload_ranged format d m f) (λ e f.
    which (bytes_eq t (codes "error")) _ _ (λ e f. fault_ranged format msg.Error (λ p l c k w. w) d m f) (λ e f.
    which (bytes_eq t (codes "broken")) _ _ (λ e f. fault_ranged format msg.Broken (λ p l c k w. w) d m f) (λ e f.
    which (bytes_eq t (codes "idle")) _ _ (λ e f. plain_ranged (IsWritable format) msg.Idle tt d m f) (λ e f.
    which (bytes_eq t (codes "done")) _ _ (λ e f. plain_ranged (IsWritable format) msg.Done tt d m f) (λ e f.
    which (bytes_eq t (codes "text")) _ _ (λ e f. text_ranged format d m f) (λ e f.
    which (bytes_eq t (codes "missing")) _ _ (λ e f. path_ranged (IsWritable format) msg.Missing (λ p. tt) d m f) (λ e f.
    which (bytes_eq t (codes "not-yet")) _ _ (λ e f. path_ranged (IsWritable format) msg.NotYet (λ p. tt) d m f) (λ e f.
    which (bytes_eq t (codes "refused")) _ _ (λ e f. refused_ranged format d m f) (λ e f. cc) f) f) f) f) f) f) f) f) f) f) f) h

server_ranged : (format : ℕ) (d : Data) (m : ServerMsg) → server_of format d ≡ Ok m → IsWritable format m
unfolding server_of
server_ranged format d m h = server_ranged_by format (kind_of d) d m h

pub server_ranged_result : (format : ℕ) (d : Data) (r : Result ServerMsg MsgFault) → Gives r (server_of format d) → IfOk r (IsWritable format)
server_ranged_result format d (Ok m) g = server_ranged format d m g
server_ranged_result format d (Err e) g = tt
