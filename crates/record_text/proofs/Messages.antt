-- Which bytes are the text of a message, by what reading them gives.
use Rattle.std.proofs.Common.{◌≡◌, ℕ, Bool, true, false, ◌&&◌, List, Option, Some, None, Ok, refl, ap, ◌∙◌}
use Rattle.std.specs.Prelude.{option_and_then}
use Rattle.std.specs.Str.{is_utf8}
use Rattle.std.proofs.lemmas.Str.{IsUtf8-from_is_utf8, is_utf8-from_IsUtf8}
use Rattle.serde_json.specs.Data.{Data}
use Rattle.serde_json.specs.Read.{read}
use Rattle.hmr_types.specs.ModName.{is_text}
use Rattle.update_msgs.specs.declared.message.ServerMsg.{ServerMsg}
use Rattle.message_text.specs.ServerText.{server_text, tell}
use Rattle.message_text.specs.Values.{HasReading}
use Rattle.message_json.specs.Reading.{Fault, ReadsWith}
use Rattle.message_json.specs.ServerReading.{ok_of, server_of}
use Rattle.record_text.specs.Replies.{is_message_text, is_written_as}

message_there : (bytes : List ℕ) (m : ServerMsg) (d : Data) → HasReading bytes d → server_of 2 d ≡ Ok m → is_text (server_text 2 m) bytes ≡ is_message_text bytes
unfolding is_message_text
message_there bytes m d h e = let u = is_utf8-from_IsUtf8 bytes h.utf8 in rw (u, h.value, e) refl

-- the bytes read as a message, whose text is this
pub message_read : (bytes text : List ℕ) (m : ServerMsg) → HasReading bytes (tell 2 m) → ((d : Data) → HasReading bytes d → server_of 2 d ≡ Ok m) → text ≡ server_text 2 m → is_text text bytes ≡ is_message_text bytes
message_read bytes text m h read e = ap (λ t. is_text t bytes) e ∙ message_there bytes m (tell 2 m) h (read (tell 2 m) h)

unread : (bytes : List ℕ) (t : Bool) (o : Option Data) → is_utf8 bytes ≡ t → read bytes ≡ o → ((d : Data) → ¬ (HasReading bytes d)) → false ≡ (t && is_written_as bytes (option_and_then (λ d. ok_of (server_of 2 d)) o))
unread bytes false o e f h = refl
unread bytes true None e f h = refl
unread bytes true (Some d) e f h = absurd (h d (record { utf8 = IsUtf8-from_is_utf8 bytes e; value = f }))

-- the bytes have no reading
pub no_reading : (bytes : List ℕ) → ((d : Data) → ¬ (HasReading bytes d)) → false ≡ is_message_text bytes
unfolding is_message_text
no_reading bytes h = unread bytes (is_utf8 bytes) (read bytes) refl refl h

-- the bytes have a reading that is no message
pub no_message : (bytes : List ℕ) (fault : Fault) → ReadsWith bytes (server_of 2) fault → false ≡ is_message_text bytes
unfolding is_message_text
no_message bytes fault (d, h, e) = let u = is_utf8-from_IsUtf8 bytes h.utf8 in rw (u, h.value, e) refl
