-- What is written of a message that can be written has the form of a reply.
use Rattle.std.proofs.Common.{◌≡◌, ℕ, ◌≤◌, List, [], ◌∷◌, map, true, refl, sym, ap, ◌∙◌, subst, arith, lt-ltb, Some, None, Result, Ok, Err}
use Rattle.std.specs.Prelude.{decimal, All}
use Rattle.std.specs.List.{list_all}
use Rattle.std.proofs.lemmas.Bool.{and_from, and_parts}
use Rattle.std.proofs.lemmas.Option.{same_Some}
use Rattle.std.proofs.lemmas.List.Elements.{All-head, All-tail}
use Rattle.serde_json.specs.Data.{Data, string, unsigned, depth, items_depth}
use Rattle.serde_json.specs.Read.{max_depth, number_of, of_items, of_json}
use Rattle.serde_json.specs.View.{items_of}
use Rattle.serde_json.specs.Written.{items_outline, outline}
use Rattle.serde_json.proofs.Numbers.{number_of-decimal}
use Rattle.hmr_types.specs.ModName.{is_name}
use Rattle.hmr_types.specs.declared.words.ReloadCause.{ReloadCause}
use Rattle.hmr_types.specs.declared.words.ReloadCause.TheVariants.{Root, Declined}
use Rattle.hmr_types.specs.declared.analysis.FaultWord.{FaultWord}
use Rattle.hmr_types.specs.declared.analysis.FaultWord.TheVariants as faults
use Rattle.hmr_types.proofs.Names.{is_name-IsUtf8}
use Rattle.update_msgs.specs.declared.message.JsUpdate.{JsUpdate}
use Rattle.update_msgs.specs.declared.message.ServerMsg.{ServerMsg}
use Rattle.update_msgs.specs.declared.message.ServerMsg.TheVariants as server
use Rattle.update_msgs.specs.Writable.{IsWritable}
use Rattle.core_model.specs.Exchange.{read_in}
use Rattle.core_model.proofs.Naming.{true_same}
use Rattle.word_texts.specs.Words.{cause_word, fault_word}
use Rattle.message_text.specs.Values.{HasReading}
use Rattle.message_text.specs.ServerText.{js_update, server_text, tell}
use Rattle.message_json.specs.declared.fault.MsgFault.{MsgFault}
use Rattle.message_json.specs.declared.fault.MsgFault.TheVariants as errors
use Rattle.message_json.specs.Reading.{Fault, no_type, bad_field, extra_field, Gives}
use Rattle.message_json.specs.ServerReading.{IsTyped, is_named, server_of}
use Rattle.message_json.proofs.Back.{server_given_back}
use Rattle.record_text.specs.Fit.{is_one_line}
use Rattle.record_text.specs.Replies.{is_message_text, is_reply}
use Rattle.record_text.proofs.Messages.{message_read}
use Rattle.record_agreement.proofs.Bytes.{is_clean, is_small, is_string, items_clean, reads_back, utf8_string, value_no_lf, value_utf8}
use Rattle.record_agreement.proofs.Named.{IsSayable}

-- ---- strings and numbers

name_utf8 : (n : List ℕ) → is_name n ≡ true → is_string n ≡ true
name_utf8 n h = utf8_string n (is_name-IsUtf8 n h)

small : (n : ℕ) → n ≤ 9007199254740991 → is_small n ≡ true
small n h = lt-ltb n 18446744073709551616 (omega arith)

digits_read : (n : ℕ) → n ≤ 9007199254740991 → number_of (decimal n) ≡ Some (unsigned n)
digits_read n h = number_of-decimal n (omega arith)

names_clean : (ns : List (List ℕ)) → list_all is_name ns ≡ true → items_clean (items_of (map string ns)) ≡ true
names_clean [] h = refl
names_clean (n ∷ ns) h = let here = and_parts (is_name n) (list_all is_name ns) h in and_from (is_string n) (items_clean (items_of (map string ns))) (name_utf8 n here.0) (names_clean ns here.1)

names_json : (ns : List (List ℕ)) → of_items (items_outline (items_of (map string ns))) ≡ Some (items_of (map string ns))
names_json [] = refl
names_json (n ∷ ns) = rw (names_json ns) refl

names_depth : (ns : List (List ℕ)) → items_depth (items_of (map string ns)) ≤ 0
names_depth [] = omega arith
names_depth (n ∷ ns) = omega (arith, names_depth ns)

updates_clean : (us : List JsUpdate) → list_all is_named us ≡ true → All (λ u. u.timestamp ≤ 9007199254740991) us → items_clean (items_of (map js_update us)) ≡ true
updates_clean [] h t = refl
updates_clean (u ∷ us) h t =
    let here = and_parts (is_named u) (list_all is_named us) h in
    let both = and_parts (is_name u.path) (is_name u.accepted_path) here.0 in
    rw (name_utf8 u.path both.0, name_utf8 u.accepted_path both.1, small u.timestamp (All-head (λ u. u.timestamp ≤ 9007199254740991) u us t), updates_clean us here.1 (All-tail (λ u. u.timestamp ≤ 9007199254740991) u us t)) refl

updates_json : (us : List JsUpdate) → All (λ u. u.timestamp ≤ 9007199254740991) us → of_items (items_outline (items_of (map js_update us))) ≡ Some (items_of (map js_update us))
updates_json [] t = refl
updates_json (u ∷ us) t =
    rw (digits_read u.timestamp (All-head (λ u. u.timestamp ≤ 9007199254740991) u us t), updates_json us (All-tail (λ u. u.timestamp ≤ 9007199254740991) u us t)) refl

updates_depth : (us : List JsUpdate) → items_depth (items_of (map js_update us)) ≤ 1
updates_depth [] = omega arith
updates_depth (u ∷ us) = omega (arith, updates_depth us)

kind_clean : (w : FaultWord) → is_string (fault_word w) ≡ true
kind_clean faults.BadByte = refl
kind_clean faults.OpenString = refl
kind_clean faults.OpenComment = refl
kind_clean faults.BadEscape = refl
kind_clean faults.NumberTooLarge = refl
kind_clean faults.TooManyTokens = refl
kind_clean faults.Unexpected = refl
kind_clean faults.TooDeep = refl
kind_clean faults.DuplicateName = refl
kind_clean faults.NotUtf8 = refl
kind_clean faults.NotAssignable = refl
kind_clean faults.SpecifierBare = refl
kind_clean faults.SpecifierClimbs = refl
kind_clean faults.SpecifierEmpty = refl
kind_clean faults.SpecifierTooLong = refl
kind_clean faults.SpecifierBadSegment = refl
kind_clean faults.TooManyImports = refl

cause_clean : (w : ReloadCause) → is_string (cause_word w) ≡ true
cause_clean Root = refl
cause_clean Declined = refl

-- ---- messages

tell_clean : (m : ServerMsg) → IsSayable m → IsWritable 2 m → is_clean (tell 2 m) ≡ true
tell_clean (server.Connected i roots) t w = rw (small i (omega (arith, w.most)), names_clean roots t.0) refl
tell_clean (server.Update replaced updates batch triggered) t w =
    rw (small batch (w.fits refl).counted.most, names_clean replaced t.0.0, names_clean triggered t.0.2, updates_clean updates t.0.1 w.timed) refl
tell_clean (server.Prune paths) t w = rw (names_clean paths t.0) refl
tell_clean (server.FullReload cause path batch triggered) t w =
    rw (small batch (w.fits refl).counted.most, cause_clean cause, names_clean path t.0.0, names_clean triggered t.0.1) refl
tell_clean (server.Error path line column kind) t w = rw (small column w.place, kind_clean kind, small line w.row, name_utf8 path t.0) refl
tell_clean (server.Broken path line column kind) t w = rw (small column w.place, kind_clean kind, small line w.row, name_utf8 path t.0) refl
tell_clean server.Idle t w = refl
tell_clean server.Done t w = refl
tell_clean (server.Text path version text) t w = rw (name_utf8 path t.0, utf8_string text t.1, small version w.counted.most) refl
tell_clean (server.Missing path) t w = rw (name_utf8 path t.0) refl
tell_clean (server.NotYet path) t w = rw (name_utf8 path t.0) refl
tell_clean (server.Refused code None None None) t w = rw (small code (omega (arith, w.coded.most))) refl
tell_clean (server.Refused code None None (Some k)) t w = rw (small code (omega (arith, w.coded.most)), small k w.kept_most) refl
tell_clean (server.Refused code None (Some n) None) t w = rw (small code (omega (arith, w.coded.most)), small n w.told_most) refl
tell_clean (server.Refused code None (Some n) (Some k)) t w = rw (small code (omega (arith, w.coded.most)), small n w.told_most, small k w.kept_most) refl
tell_clean (server.Refused code (Some p) None None) t w = rw (small code (omega (arith, w.coded.most)), name_utf8 p t.0) refl
tell_clean (server.Refused code (Some p) None (Some k)) t w = rw (small code (omega (arith, w.coded.most)), name_utf8 p t.0, small k w.kept_most) refl
tell_clean (server.Refused code (Some p) (Some n) None) t w = rw (small code (omega (arith, w.coded.most)), name_utf8 p t.0, small n w.told_most) refl
tell_clean (server.Refused code (Some p) (Some n) (Some k)) t w = rw (small code (omega (arith, w.coded.most)), name_utf8 p t.0, small n w.told_most, small k w.kept_most) refl

tell_json : (m : ServerMsg) → IsWritable 2 m → of_json (outline (tell 2 m)) ≡ Some (tell 2 m)
tell_json (server.Connected i roots) w = rw (digits_read i (omega (arith, w.most)), names_json roots) refl
tell_json (server.Update replaced updates batch triggered) w =
    rw (digits_read batch (w.fits refl).counted.most, names_json replaced, names_json triggered, updates_json updates w.timed) refl
tell_json (server.Prune paths) w = rw (names_json paths) refl
tell_json (server.FullReload cause path batch triggered) w = rw (digits_read batch (w.fits refl).counted.most, names_json path, names_json triggered) refl
tell_json (server.Error path line column kind) w = rw (digits_read column w.place, digits_read line w.row) refl
tell_json (server.Broken path line column kind) w = rw (digits_read column w.place, digits_read line w.row) refl
tell_json server.Idle w = refl
tell_json server.Done w = refl
tell_json (server.Text path version text) w = rw (digits_read version w.counted.most) refl
tell_json (server.Missing path) w = refl
tell_json (server.NotYet path) w = refl
tell_json (server.Refused code None None None) w = rw (digits_read code (omega (arith, w.coded.most))) refl
tell_json (server.Refused code None None (Some k)) w = rw (digits_read code (omega (arith, w.coded.most)), digits_read k w.kept_most) refl
tell_json (server.Refused code None (Some n) None) w = rw (digits_read code (omega (arith, w.coded.most)), digits_read n w.told_most) refl
tell_json (server.Refused code None (Some n) (Some k)) w = rw (digits_read code (omega (arith, w.coded.most)), digits_read n w.told_most, digits_read k w.kept_most) refl
tell_json (server.Refused code (Some p) None None) w = rw (digits_read code (omega (arith, w.coded.most))) refl
tell_json (server.Refused code (Some p) None (Some k)) w = rw (digits_read code (omega (arith, w.coded.most)), digits_read k w.kept_most) refl
tell_json (server.Refused code (Some p) (Some n) None) w = rw (digits_read code (omega (arith, w.coded.most)), digits_read n w.told_most) refl
tell_json (server.Refused code (Some p) (Some n) (Some k)) w = rw (digits_read code (omega (arith, w.coded.most)), digits_read n w.told_most, digits_read k w.kept_most) refl

tell_depth : (m : ServerMsg) → depth (tell 2 m) ≤ max_depth
tell_depth (server.Connected i roots) = omega (arith, names_depth roots)
tell_depth (server.Update replaced updates batch triggered) = omega (arith, names_depth replaced, names_depth triggered, updates_depth updates)
tell_depth (server.Prune paths) = omega (arith, names_depth paths)
tell_depth (server.FullReload cause path batch triggered) = omega (arith, names_depth path, names_depth triggered)
tell_depth (server.Error path line column kind) = omega arith
tell_depth (server.Broken path line column kind) = omega arith
tell_depth server.Idle = omega arith
tell_depth server.Done = omega arith
tell_depth (server.Text path version text) = omega arith
tell_depth (server.Missing path) = omega arith
tell_depth (server.NotYet path) = omega arith
tell_depth (server.Refused code None None None) = omega arith
tell_depth (server.Refused code None None (Some k)) = omega arith
tell_depth (server.Refused code None (Some t) None) = omega arith
tell_depth (server.Refused code None (Some t) (Some k)) = omega arith
tell_depth (server.Refused code (Some p) None None) = omega arith
tell_depth (server.Refused code (Some p) None (Some k)) = omega arith
tell_depth (server.Refused code (Some p) (Some t) None) = omega arith
tell_depth (server.Refused code (Some p) (Some t) (Some k)) = omega arith

same_message : (m : ServerMsg) → read_in 2 m ≡ m
same_message (server.Connected i roots) = refl
same_message (server.Update replaced updates batch triggered) = refl
same_message (server.Prune paths) = refl
same_message (server.FullReload cause path batch triggered) = refl
same_message (server.Error path line column kind) = refl
same_message (server.Broken path line column kind) = refl
same_message server.Idle = refl
same_message server.Done = refl
same_message (server.Text path version text) = refl
same_message (server.Missing path) = refl
same_message (server.NotYet path) = refl
same_message (server.Refused code path told kept) = refl

fault_of : Fault → MsgFault
fault_of no_type = errors.NoType
fault_of (bad_field k) = errors.BadField k
fault_of (extra_field k) = errors.ExtraField k

given : Result ServerMsg Fault → Result ServerMsg MsgFault
given (Ok m) = Ok m
given (Err f) = Err (fault_of f)

gives_fault : (f : Fault) → Gives {Y = ServerMsg} (Err (fault_of f)) (Err f)
unfolding fault_of
gives_fault no_type = refl
gives_fault (bad_field k) = refl
gives_fault (extra_field k) = refl

gives_given : (r : Result ServerMsg Fault) → Gives (given r) r
unfolding given
gives_given (Ok m) = refl
gives_given (Err f) = gives_fault f

given_fails : (f : Fault) (m : ServerMsg) → Gives {Y = ServerMsg} (Err (fault_of f)) (Ok m) → Err f ≡ Ok m
unfolding fault_of
given_fails no_type m h = absurd cc
given_fails (bad_field k) m h = absurd cc
given_fails (extra_field k) m h = absurd cc

is_given : (r : Result ServerMsg Fault) (m : ServerMsg) → Gives (given r) (Ok m) → r ≡ Ok m
unfolding given
is_given (Ok n) m h = sym h
is_given (Err f) m h = given_fails f m h

message_back : (m : ServerMsg) → IsTyped m → IsWritable 2 m → server_of 2 (tell 2 m) ≡ Ok m
message_back m t w =
    let back = server_given_back 2 (tell 2 m) m (given (server_of 2 (tell 2 m))) (record { least = omega arith; most = omega arith }) t w refl (gives_given (server_of 2 (tell 2 m))) in
    is_given (server_of 2 (tell 2 m)) (read_in 2 m) back ∙ ap (λ x. Ok x) (same_message m)

module _ (m : ServerMsg) (t : IsSayable m) (w : IsWritable 2 m) where
  reading : HasReading (server_text 2 m) (tell 2 m)
  reading = record { utf8 = value_utf8 (tell 2 m) (tell_clean m t w); value = reads_back (tell 2 m) (tell_clean m t w) (tell_depth m) (tell_json m w) }

  read_as : (d : Data) → HasReading (server_text 2 m) d → server_of 2 d ≡ Ok m
  read_as d h = subst (λ x. server_of 2 x ≡ Ok m) (same_Some (tell 2 m) d (sym reading.value ∙ h.value)) (message_back m t.0 w)

  message_form : is_message_text (server_text 2 m) ≡ true
  message_form = sym (message_read (server_text 2 m) (server_text 2 m) m reading read_as refl) ∙ true_same (server_text 2 m) (server_text 2 m) refl

  pub message_line : is_one_line (server_text 2 m) ≡ true
  message_line = value_no_lf (tell 2 m) (tell_clean m t w)

-- the text of a message begins with a brace
form_by : (bs : List ℕ) → is_message_text (123 ∷ bs) ≡ true → is_reply (123 ∷ bs) ≡ true
unfolding is_reply
form_by bs h = h

braced : (m : ServerMsg) → (bs : List ℕ) × (server_text 2 m ≡ 123 ∷ bs)
braced (server.Connected i roots) = (_, refl)
braced (server.Update replaced updates batch triggered) = (_, refl)
braced (server.Prune paths) = (_, refl)
braced (server.FullReload cause path batch triggered) = (_, refl)
braced (server.Error path line column kind) = (_, refl)
braced (server.Broken path line column kind) = (_, refl)
braced server.Idle = (_, refl)
braced server.Done = (_, refl)
braced (server.Text path version text) = (_, refl)
braced (server.Missing path) = (_, refl)
braced (server.NotYet path) = (_, refl)
braced (server.Refused code path told kept) = (_, refl)

pub message_reply : (m : ServerMsg) → IsSayable m → IsWritable 2 m → is_reply (server_text 2 m) ≡ true
message_reply m t w =
    let b = braced m in
    subst (λ bs. is_reply bs ≡ true) (sym b.1) (form_by b.0 (subst (λ bs. is_message_text bs ≡ true) b.1 (message_form m t w)))
