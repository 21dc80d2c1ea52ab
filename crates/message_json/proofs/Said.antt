-- What reads as a message of a client is what is written for it, and is in its ranges.
use Rattle.std.proofs.Common.{◌≡◌, ◌≤◌, ℕ, ◌+◌, List, [], ◌∷◌, length, map, true, false, Option, Some, None, Result, Ok, Err, codes, refl, ap, sym, ◌∙◌, arith, bytes_eq}
use Rattle.std.specs.Prelude.{IfOk, sum_by}
use Rattle.std.proofs.lemmas.List.Sums.{sum_by-cons}
use Rattle.serde_json.specs.Data.{Data, string}
use Rattle.serde_json.specs.View.{items_of}
use Rattle.serde_json.specs.Find.{get, as_str}
use Rattle.hmr_types.specs.declared.limits.TheConstants.{LARGEST_NUMBER}
use Rattle.json_readings.specs.Ordered.{IsOrdered}
use Rattle.json_readings.specs.Size.{size, items_size}
use Rattle.json_readings.proofs.Objects.{ordered_get}
use Rattle.json_readings.proofs.Ordered.{ordered-read}
use Rattle.json_readings.proofs.Sizes.{size-read}
use Rattle.update_msgs.specs.declared.message.ClientMsg.{ClientMsg}
use Rattle.update_msgs.specs.declared.message.ClientMsg.TheVariants as msg
use Rattle.update_msgs.specs.Desk.{bytes_of}
use Rattle.message_json.specs.declared.fault.MsgFault.{MsgFault}
use Rattle.message_text.specs.Values.{HasReading, or_null, whole, list, row}
use Rattle.message_json.specs.Reading.{Gives, found_or, field_or, kind_of, name_in, some_names_in}
use Rattle.message_text.specs.Words.{abort_word}
use Rattle.message_json.specs.Words.{abort_causes}
use Rattle.message_text.specs.ClientText.{unless_empty, say}
use Rattle.message_json.specs.ClientReading.{hello_of, applied_of, aborted_of, invalidate_of, client_by, client_of}
use Rattle.message_json.proofs.Fields.{bind_ok, ok_is, found_some, str_exact, name_exact, number_exact, wanted_exact, some_names_exact, table_exact, word_exact, field_exact, same_value, kind_exact, plain_exact, path_exact, which, text_is}

roots_at : (k : List ℕ) (xs : List (List ℕ)) (o : Option Data) → ((d : Data) → o ≡ Some d → IsOrdered d) → found_or [] some_names_in k o ≡ Ok xs → o ≡ unless_empty xs
roots_at k [] None a h = refl
roots_at k (x ∷ xs) None a h = let bad : [] ≡ x ∷ xs = ok_is _ _ h in cc
roots_at k [] (Some d) a h = let e = some_names_exact d [] (a d refl) (found_some k _ _ h) in let bad : false ≡ true = e.1 in cc
roots_at k (x ∷ xs) (Some d) a h = ap Some (some_names_exact d (x ∷ xs) (a d refl) (found_some k _ _ h)).0

roots_exact : (k : List ℕ) (d : Data) (xs : List (List ℕ)) → IsOrdered d → field_or [] some_names_in k d ≡ Ok xs → get k d ≡ unless_empty xs
unfolding field_or
roots_exact k d xs a h = roots_at k xs (get k d) (λ e is. ordered_get k d e a is) h

-- ---- one message each: its fields, and that there is no further key

hello_exact : (d : Data) (s : ClientMsg) → IsOrdered d → kind_of d ≡ Some (codes "hello") → hello_of d ≡ Ok s → d ≡ say s
hello_exact d s a kind h =
    let type = kind_exact (codes "hello") d a kind in
    let format = bind_ok _ _ s h in
    let roots = bind_ok _ _ s format.2 in
    let none = bind_ok _ _ s roots.2 in
    same_value ((codes "format", Some (whole format.0)) ∷ (codes "roots", unless_empty roots.0) ∷ (codes "type", Some (string (codes "hello"))) ∷ []) (codes "type") _ d none.0 refl a type
    (field_exact _ whole (number_exact 1 2) (codes "format") d format.0 a format.1, (roots_exact (codes "roots") d roots.0 a roots.1, (type, tt))) none.1 ∙ ap say (ok_is _ _ none.2)

applied_exact : (d : Data) (s : ClientMsg) → IsOrdered d → kind_of d ≡ Some (codes "applied") → applied_of d ≡ Ok s → d ≡ say s
applied_exact d s a kind h =
    let type = kind_exact (codes "applied") d a kind in
    let table = bind_ok _ _ s h in
    let none = bind_ok _ _ s table.2 in
    same_value ((codes "table", Some (list row table.0)) ∷ (codes "type", Some (string (codes "applied"))) ∷ []) (codes "type") _ d none.0 refl a type
    (field_exact _ (list row) table_exact (codes "table") d table.0 a table.1, (type, tt)) none.1 ∙ ap say (ok_is _ _ none.2)

aborted_exact : (d : Data) (s : ClientMsg) → IsOrdered d → kind_of d ≡ Some (codes "aborted") → aborted_of d ≡ Ok s → d ≡ say s
aborted_exact d s a kind h =
    let type = kind_exact (codes "aborted") d a kind in
    let cause = bind_ok _ _ s h in
    let path = bind_ok _ _ s cause.2 in
    let from = bind_ok _ _ s path.2 in
    let name = bind_ok _ _ s from.2 in
    let none = bind_ok _ _ s name.2 in
    same_value ((codes "cause", Some (string (abort_word cause.0))) ∷ (codes "from", Some (or_null from.0)) ∷ (codes "name", Some (or_null name.0)) ∷ (codes "path", Some (string path.0)) ∷ (codes "type", Some (string (codes "aborted"))) ∷ [])
    (codes "type") _ d none.0 refl a type (
      field_exact _ (λ c. string (abort_word c)) (word_exact abort_word abort_causes) (codes "cause") d cause.0 a cause.1,
      (
        field_exact _ or_null (wanted_exact _ name_in name_exact) (codes "from") d from.0 a from.1,
        (
          field_exact _ or_null (wanted_exact _ as_str str_exact) (codes "name") d name.0 a name.1,
          (field_exact _ string name_exact (codes "path") d path.0 a path.1, (type, tt)),
        ),
      ),
    ) none.1 ∙ ap say (ok_is _ _ none.2)

invalidate_exact : (d : Data) (s : ClientMsg) → IsOrdered d → kind_of d ≡ Some (codes "invalidate") → invalidate_of d ≡ Ok s → d ≡ say s
invalidate_exact d s a kind h =
    let type = kind_exact (codes "invalidate") d a kind in
    let path = bind_ok _ _ s h in
    let version = bind_ok _ _ s path.2 in
    let message = bind_ok _ _ s version.2 in
    let none = bind_ok _ _ s message.2 in
    same_value ((codes "message", Some (string message.0)) ∷ (codes "path", Some (string path.0)) ∷ (codes "type", Some (string (codes "invalidate"))) ∷ (codes "version", Some (whole version.0)) ∷ []) (codes "type") _ d none.0 refl a type (
      field_exact _ string str_exact (codes "message") d message.0 a message.1,
      (
        field_exact _ string name_exact (codes "path") d path.0 a path.1,
        (type, (field_exact _ whole (number_exact 1 LARGEST_NUMBER) (codes "version") d version.0 a version.1, tt)),
      ),
    ) none.1 ∙ ap say (ok_is _ _ none.2)

by_text : (d : Data) (s : ClientMsg) → IsOrdered d → (o : Option (List ℕ)) → kind_of d ≡ o → client_by o d ≡ Ok s → d ≡ say s
by_text d s a None is h = cc
by_text d s a (Some t) is h =
    let at = λ (k : List ℕ) (e : bytes_eq t k ≡ true). is ∙ ap Some (text_is t k e) in
    which (bytes_eq t (codes "hello")) _ _ (λ e f. hello_exact d s a (at _ e) f) (λ e f.
    which (bytes_eq t (codes "ask")) _ _ (λ e f. plain_exact say (codes "ask") msg.Ask s d a (at _ e) refl f) (λ e f.
    which (bytes_eq t (codes "fetch")) _ _ (λ e f. path_exact say (codes "fetch") msg.Fetch s d a (at _ e) (λ p. refl) f) (λ e f.
    which (bytes_eq t (codes "applied")) _ _ (λ e f. applied_exact d s a (at _ e) f) (λ e f.
    which (bytes_eq t (codes "aborted")) _ _ (λ e f. aborted_exact d s a (at _ e) f) (λ e f.
    which (bytes_eq t (codes "invalidate")) _ _ (λ e f. invalidate_exact d s a (at _ e) f) (λ e f.
    which (bytes_eq t (codes "bye")) _ _ (λ e f. plain_exact say (codes "bye") msg.Bye s d a (at _ e) refl f) (λ e f. cc) f) f) f) f) f) f) h

pub client_exact : (d : Data) (s : ClientMsg) → IsOrdered d → client_of d ≡ Ok s → d ≡ say s
unfolding client_of
client_exact d s a h = by_text d s a (kind_of d) refl h

-- ---- sizes

names_size : (xs : List (List ℕ)) → items_size (items_of (map string xs)) ≡ sum_by length xs
names_size [] = refl
names_size (x ∷ xs) = ap (λ n. length x + n) (names_size xs) ∙ sym (sum_by-cons length x xs)

rows_size : (rs : List (List ℕ × ℕ)) → sum_by (λ row. length row.0) rs ≤ items_size (items_of (map row rs))
rows_size [] = omega arith
rows_size (r ∷ rs) = omega (arith, rows_size rs, sum_by-cons (λ row. length row.0) r rs)

said_size : (m : ClientMsg) → bytes_of m ≤ size (say m)
said_size (msg.Hello format []) = omega arith
said_size (msg.Hello format (x ∷ xs)) = omega (arith, names_size (x ∷ xs))
said_size msg.Ask = omega arith
said_size (msg.Fetch path) = omega arith
said_size (msg.Applied table) = omega (arith, rows_size table)
said_size (msg.Aborted cause path None None) = omega arith
said_size (msg.Aborted cause path None (Some n)) = omega arith
said_size (msg.Aborted cause path (Some f) None) = omega arith
said_size (msg.Aborted cause path (Some f) (Some n)) = omega arith
said_size (msg.Invalidate path version message) = omega arith
said_size msg.Bye = omega arith

said_reading : (bytes : List ℕ) (d : Data) (m : ClientMsg) → HasReading bytes d → client_of d ≡ Ok m → HasReading bytes (say m)
said_reading bytes d m r h = record { utf8 = r.utf8; value = r.value ∙ ap Some (client_exact d m (ordered-read bytes d r.value) h) }

pub said_bound : (bytes : List ℕ) (m : ClientMsg) → HasReading bytes (say m) → bytes_of m ≤ length bytes
said_bound bytes m r = omega (arith, size-read bytes (say m) r.value, said_size m)

-- ---- of a result

pub exact_result : (bytes : List ℕ) (d : Data) (r : Result ClientMsg MsgFault) → HasReading bytes d → Gives r (client_of d) → IfOk r (λ m. HasReading bytes (say m))
exact_result bytes d (Ok m) x g = said_reading bytes d m x g
exact_result bytes d (Err e) x g = tt

pub size_result : (bytes : List ℕ) (d : Data) (r : Result ClientMsg MsgFault) → HasReading bytes d → Gives r (client_of d) → IfOk r (λ m. bytes_of m ≤ length bytes)
size_result bytes d (Ok m) x g = said_bound bytes m (said_reading bytes d m x g)
size_result bytes d (Err e) x g = tt
