-- What is written has no float and nests little, so its text is the compact text, and it reads back.
use Rattle.std.proofs.Common.{◌≡◌, ◌≤◌, ℕ, List, [], ◌∷◌, ◌++◌, length, map, Bool, true, false, ◌==◌, Some, None, Option, option_and_then, Result, Ok, Err, Vec, Global, IfOk, refl, sym, ap, ap₂, ◌∙◌, arith, subst, append-nil, append_assoc}
use Rattle.std.proofs.lemmas.Bool.{and_parts, leb-true}
use Rattle.std.specs.Prelude.{IsUtf8, OnOk, codes, if◌then◌else◌, nat_le}
use Rattle.std.specs.List.{list_all}
use Rattle.std.specs.declared.alloc.AllocError.{AllocError}
use Rattle.json.specs.Json as json
use Rattle.json.specs.Lex.{tokens}
use Rattle.json.specs.Print.{print}
use Rattle.json.specs.Token.{Token}
use Rattle.json.specs.Tree as tree
use Rattle.json.specs.Written.{Written}
use Rattle.json.proofs.Printed.Trees.{value-json_tokens}
use Rattle.serde_json.specs.Data.{Data, string, depth, items_depth}
use Rattle.serde_json.specs.Read.{of_items, of_json, read, max_depth}
use Rattle.serde_json.specs.View.{items_of}
use Rattle.serde_json.specs.Written.{outline, items_outline, has_float, items_have_float, compact_text}
use Rattle.serde_json.proofs.Numbers.{number_of-decimal}
use Rattle.serde_json.proofs.Texts.{print-outline}
use Rattle.hmr_types.specs.Table.{is_version, rises}
use Rattle.hmr_types.specs.declared.limits.TheConstants.{LARGEST_NUMBER}
use Rattle.hmr_types.specs.declared.words.ReloadCause.{ReloadCause}
use Rattle.update_msgs.specs.Writable.{IsSayable}
use Rattle.update_msgs.specs.declared.message.ClientMsg.{ClientMsg}
use Rattle.update_msgs.specs.declared.message.ClientMsg.TheVariants as client
use Rattle.update_msgs.specs.declared.message.JsUpdate.{JsUpdate}
use Rattle.update_msgs.specs.declared.message.ServerMsg.{ServerMsg}
use Rattle.update_msgs.specs.declared.message.ServerMsg.TheVariants as server
use Rattle.json_readings.specs.Object.{entries}
use Rattle.word_texts.specs.Words.{cause_word}
use Rattle.message_text.specs.Values.{HasReading, list, row, tokens_of, whole}
use Rattle.message_text.specs.ClientText.{HasTable, client_text, unless_empty, say}
use Rattle.message_text.specs.ServerText.{js_update, tell}

pub some_roots : (xs : List (List ℕ)) → (length xs == 0) ≡ false → unless_empty xs ≡ Some (list string xs)
some_roots [] h = cc
some_roots (x ∷ xs) h = refl

-- ---- lists

names_float : (xs : List (List ℕ)) → items_have_float (items_of (map string xs)) ≡ false
names_float [] = refl
names_float (x ∷ xs) = names_float xs

updates_float : (us : List JsUpdate) → items_have_float (items_of (map js_update us)) ≡ false
updates_float [] = refl
updates_float (u ∷ us) = updates_float us

names_depth : (xs : List (List ℕ)) → items_depth (items_of (map string xs)) ≤ 0
names_depth [] = omega arith
names_depth (x ∷ xs) = omega (arith, names_depth xs)

updates_depth : (us : List JsUpdate) → items_depth (items_of (map js_update us)) ≤ 1
updates_depth [] = omega arith
updates_depth (u ∷ us) = omega (arith, updates_depth us)

-- ---- messages of a client

names_back : (xs : List (List ℕ)) → of_items (items_outline (items_of (map string xs))) ≡ Some (items_of (map string xs))
names_back [] = refl
names_back (x ∷ xs) = rw (names_back xs) refl

rows_back : (rs : List (List ℕ × ℕ)) → list_all (λ r. is_version r.1) rs ≡ true → of_items (items_outline (items_of (map row rs))) ≡ Some (items_of (map row rs))
rows_back [] h = refl
rows_back (r ∷ rs) h =
    let both = and_parts (is_version r.1) _ h in
    let most : r.1 ≤ LARGEST_NUMBER = leb-true r.1 LARGEST_NUMBER (and_parts (nat_le 1 r.1) _ both.0).1 in
    rw (number_of-decimal r.1 (omega (arith, most)), rows_back rs both.1) refl

pub say_back : (m : ClientMsg) → IsSayable m → HasTable m → of_json (outline (say m)) ≡ Some (say m)
say_back (client.Hello format []) fits t = rw (number_of-decimal format (omega (arith, fits.most))) refl
say_back (client.Hello format (x ∷ xs)) fits t = rw (number_of-decimal format (omega (arith, fits.most)), names_back xs) refl
say_back client.Ask fits t = refl
say_back (client.Fetch path) fits t = refl
say_back (client.Applied table) fits t = rw (rows_back table (and_parts (rises table) _ t).1) refl
say_back (client.Aborted cause path None None) fits t = refl
say_back (client.Aborted cause path None (Some n)) fits t = refl
say_back (client.Aborted cause path (Some f) None) fits t = refl
say_back (client.Aborted cause path (Some f) (Some n)) fits t = refl
say_back (client.Invalidate path version message) fits t = rw (number_of-decimal version (omega (arith, fits.most))) refl
say_back client.Bye fits t = refl

names_nest : (xs : List (List ℕ)) → tree.items_depth (items_outline (items_of (map string xs))) ≤ 0
names_nest [] = omega arith
names_nest (x ∷ xs) = omega (arith, names_nest xs)

rows_nest : (rs : List (List ℕ × ℕ)) → tree.items_depth (items_outline (items_of (map row rs))) ≤ 1
rows_nest [] = omega arith
rows_nest (r ∷ rs) = omega (arith, rows_nest rs)

pub say_nests : (m : ClientMsg) → tree.depth (outline (say m)) ≤ max_depth
say_nests (client.Hello format []) = omega arith
say_nests (client.Hello format (x ∷ xs)) = omega (arith, names_nest (x ∷ xs))
say_nests client.Ask = omega arith
say_nests (client.Fetch path) = omega arith
say_nests (client.Applied table) = omega (arith, rows_nest table)
say_nests (client.Aborted cause path None None) = omega arith
say_nests (client.Aborted cause path None (Some n)) = omega arith
say_nests (client.Aborted cause path (Some f) None) = omega arith
say_nests (client.Aborted cause path (Some f) (Some n)) = omega arith
say_nests (client.Invalidate path version message) = omega arith
say_nests client.Bye = omega arith

-- what the reader makes of the value of a text
abbrev whole_of : Option (json.Json × List Token) → Option Data
whole_of o = option_and_then of_json (option_and_then (λ p. json.if_last p.0 p.1) o)

pub read_back : (d : Data) (text : List ℕ) → tokens text ≡ tokens_of d → tree.depth (outline d) ≤ max_depth → of_json (outline d) ≡ Some d → read text ≡ Some d
read_back d text same shallow back =
    ap whole_of (ap (json.value max_depth) (same ∙ sym (append-nil (tokens_of d))) ∙ value-json_tokens (outline d) max_depth [] shallow) ∙ back

-- tokens that are put one after another
pub then_put : {E : Type 0} (r : Result (Unit {0}) E) (t u v xs ys : List Token) → u ≡ t ++ xs → OnOk r (v ≡ u ++ ys) → OnOk r (v ≡ t ++ (xs ++ ys))
then_put (Ok x) t u v xs ys first next = next ∙ ap (λ l. l ++ ys) first ∙ append_assoc t xs ys
then_put (Err e) t u v xs ys first next = tt

-- what a writer holds at the end, which began with nothing
put_bytes : (d : Data) (w : Written) (bytes : List ℕ) → bytes ≡ w.before ++ print w.tokens → w.before ≡ [] → w.tokens ≡ tokens_of d → bytes ≡ print (tokens_of d)
put_bytes d w bytes is none same = is ∙ ap₂ (λ b ts. b ++ print ts) none same

pub put_text : (m : ClientMsg) (w : Written) (bytes : List ℕ) → bytes ≡ w.before ++ print w.tokens → w.before ≡ [] → w.tokens ≡ tokens_of (say m) → bytes ≡ client_text m
put_text m w bytes is none same = put_bytes (say m) w bytes is none same ∙ print-outline (say m)

pub put_reads : (m : ClientMsg) (w : Written) (bytes : List ℕ) → IsSayable m → HasTable m → bytes ≡ w.before ++ print w.tokens → w.before ≡ [] → w.tokens ≡ tokens_of (say m)
    → tokens (print w.tokens) ≡ w.tokens → IsUtf8 (print w.tokens) → HasReading bytes (say m)
put_reads m w bytes fits t is none same back utf8 =
    let all = is ∙ ap (λ b. b ++ print w.tokens) none in
    record { utf8 = subst IsUtf8 (sym all) utf8; value = read_back (say m) bytes (ap tokens all ∙ back ∙ same) (say_nests m) (say_back m fits t) }

-- ---- messages of a server

abbrev update_by : Bool → List (List ℕ) → List JsUpdate → ℕ → List (List ℕ) → Data
update_by b replaced updates batch triggered =
    entries ((codes "batch", if b then Some (whole batch) else None) ∷ (codes "replaced", Some (list string replaced)) ∷ (codes "triggeredBy", if b then Some (list string triggered) else None) ∷ (codes "type", Some (string (codes "update"))) ∷ (codes "updates", Some (list js_update updates)) ∷ [])

update_float : (b : Bool) (replaced : List (List ℕ)) (updates : List JsUpdate) (batch : ℕ) (triggered : List (List ℕ)) → has_float (update_by b replaced updates batch triggered) ≡ false
update_float true replaced updates batch triggered = rw (names_float replaced, names_float triggered, updates_float updates) refl
update_float false replaced updates batch triggered = rw (names_float replaced, updates_float updates) refl

update_depth : (b : Bool) (replaced : List (List ℕ)) (updates : List JsUpdate) (batch : ℕ) (triggered : List (List ℕ)) → depth (update_by b replaced updates batch triggered) ≤ max_depth
update_depth true replaced updates batch triggered = omega (arith, names_depth replaced, names_depth triggered, updates_depth updates)
update_depth false replaced updates batch triggered = omega (arith, names_depth replaced, updates_depth updates)

abbrev reload_by : Bool → ReloadCause → List (List ℕ) → ℕ → List (List ℕ) → Data
reload_by b cause path batch triggered =
    entries ((codes "batch", if b then Some (whole batch) else None) ∷ (codes "cause", Some (string (cause_word cause))) ∷ (codes "path", Some (list string path)) ∷ (codes "triggeredBy", if b then Some (list string triggered) else None) ∷ (codes "type", Some (string (codes "full-reload"))) ∷ [])

reload_float : (b : Bool) (cause : ReloadCause) (path : List (List ℕ)) (batch : ℕ) (triggered : List (List ℕ)) → has_float (reload_by b cause path batch triggered) ≡ false
reload_float true cause path batch triggered = rw (names_float path, names_float triggered) refl
reload_float false cause path batch triggered = rw (names_float path) refl

reload_depth : (b : Bool) (cause : ReloadCause) (path : List (List ℕ)) (batch : ℕ) (triggered : List (List ℕ)) → depth (reload_by b cause path batch triggered) ≤ max_depth
reload_depth true cause path batch triggered = omega (arith, names_depth path, names_depth triggered)
reload_depth false cause path batch triggered = omega (arith, names_depth path)

tell_float : (format : ℕ) (m : ServerMsg) → has_float (tell format m) ≡ false
tell_float format (server.Connected i roots) = rw (names_float roots) refl
tell_float format (server.Update replaced updates batch triggered) = update_float (format == 2) replaced updates batch triggered
tell_float format (server.Prune paths) = rw (names_float paths) refl
tell_float format (server.FullReload cause path batch triggered) = reload_float (format == 2) cause path batch triggered
tell_float format (server.Error path line column kind) = refl
tell_float format (server.Broken path line column kind) = refl
tell_float format server.Idle = refl
tell_float format server.Done = refl
tell_float format (server.Text path version text) = refl
tell_float format (server.Missing path) = refl
tell_float format (server.NotYet path) = refl
tell_float format (server.Refused code None None None) = refl
tell_float format (server.Refused code None None (Some k)) = refl
tell_float format (server.Refused code None (Some t) None) = refl
tell_float format (server.Refused code None (Some t) (Some k)) = refl
tell_float format (server.Refused code (Some p) None None) = refl
tell_float format (server.Refused code (Some p) None (Some k)) = refl
tell_float format (server.Refused code (Some p) (Some t) None) = refl
tell_float format (server.Refused code (Some p) (Some t) (Some k)) = refl

tell_depth : (format : ℕ) (m : ServerMsg) → depth (tell format m) ≤ max_depth
tell_depth format (server.Connected i roots) = omega (arith, names_depth roots)
tell_depth format (server.Update replaced updates batch triggered) = update_depth (format == 2) replaced updates batch triggered
tell_depth format (server.Prune paths) = omega (arith, names_depth paths)
tell_depth format (server.FullReload cause path batch triggered) = reload_depth (format == 2) cause path batch triggered
tell_depth format (server.Error path line column kind) = omega arith
tell_depth format (server.Broken path line column kind) = omega arith
tell_depth format server.Idle = omega arith
tell_depth format server.Done = omega arith
tell_depth format (server.Text path version text) = omega arith
tell_depth format (server.Missing path) = omega arith
tell_depth format (server.NotYet path) = omega arith
tell_depth format (server.Refused code None None None) = omega arith
tell_depth format (server.Refused code None None (Some k)) = omega arith
tell_depth format (server.Refused code None (Some t) None) = omega arith
tell_depth format (server.Refused code None (Some t) (Some k)) = omega arith
tell_depth format (server.Refused code (Some p) None None) = omega arith
tell_depth format (server.Refused code (Some p) None (Some k)) = omega arith
tell_depth format (server.Refused code (Some p) (Some t) None) = omega arith
tell_depth format (server.Refused code (Some p) (Some t) (Some k)) = omega arith

-- ---- of a result

text_of_value : (e d : Data) (r : Result (Vec ℕ Global) AllocError) → has_float e ≡ false → d ≡ e → IfOk r (λ b. has_float d ≡ false → b.items ≡ compact_text d) → IfOk r (λ b. b.items ≡ compact_text e)
text_of_value e d (Ok b) float is h = h (ap has_float is ∙ float) ∙ ap compact_text is
text_of_value e d (Err x) float is h = tt

reading_of_value : (e d : Data) (r : Result (Vec ℕ Global) AllocError) → depth e ≤ max_depth → d ≡ e → IfOk r (λ b. IsUtf8 b.items) → IfOk r (λ b. depth d ≤ max_depth → read b.items ≡ Some d) → IfOk r (λ b. HasReading b.items e)
reading_of_value e d (Ok b) deep is u h = record { utf8 = u; value = h (subst (λ x. depth x ≤ max_depth) (sym is) deep) ∙ ap Some is }
reading_of_value e d (Err x) deep is u h = tt

pub server_text_result : (format : ℕ) (m : ServerMsg) (d : Data) (r : Result (Vec ℕ Global) AllocError) → d ≡ tell format m → IfOk r (λ b. has_float d ≡ false → b.items ≡ compact_text d) → IfOk r (λ b. b.items ≡ compact_text (tell format m))
server_text_result format m d r is h = text_of_value (tell format m) d r (tell_float format m) is h

pub server_reads_result : (format : ℕ) (m : ServerMsg) (d : Data) (r : Result (Vec ℕ Global) AllocError) → d ≡ tell format m → IfOk r (λ b. IsUtf8 b.items) → IfOk r (λ b. depth d ≤ max_depth → read b.items ≡ Some d) → IfOk r (λ b. HasReading b.items (tell format m))
server_reads_result format m d r is u h = reading_of_value (tell format m) d r (tell_depth format m) is u h
