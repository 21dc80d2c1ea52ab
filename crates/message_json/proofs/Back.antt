-- What is written for a message that can be written reads as that message.
use Rattle.std.proofs.Common.{◌≡◌, ◌≤◌, ℕ, suc, zero, List, [], ◌∷◌, length, map, Bool, true, false, ◌&&◌, ◌||◌, ◌==◌, nat_le, Option, Some, None, Result, Ok, refl, ap, sym, ◌∙◌, subst, arith}
use Rattle.std.specs.Prelude.{All, is_some}
use Prim.{⊥}
use Rattle.std.specs.List.{list_all}
use Rattle.std.proofs.lemmas.Bool.{and_parts, le-leb, false≢true}
use Rattle.std.proofs.lemmas.List.Elements.{All-head, All-tail}
use Rattle.serde_json.specs.Data.{Data, string}
use Rattle.serde_json.specs.View.{items_of}
use Rattle.hmr_types.specs.ModName.{is_name}
use Rattle.hmr_types.specs.Table.{is_version, rises}
use Rattle.hmr_types.specs.declared.limits.TheConstants.{LARGEST_NUMBER}
use Rattle.hmr_types.specs.declared.words.ReloadCause.TheVariants.{Root, Declined}
use Rattle.hmr_types.specs.declared.analysis.FaultWord.{FaultWord}
use Rattle.hmr_types.specs.declared.analysis.FaultWord.TheVariants as faults
use Rattle.json_readings.specs.Object.{further_member}
use Rattle.core_model.specs.Exchange.{read_in}
use Rattle.word_texts.specs.Words.{fault_word}
use Rattle.update_msgs.specs.declared.message.AbortCause.TheVariants.{Missing, Broken, Link}
use Rattle.update_msgs.specs.declared.message.ClientMsg.{ClientMsg}
use Rattle.update_msgs.specs.declared.message.ClientMsg.TheVariants as client
use Rattle.update_msgs.specs.declared.message.JsUpdate.{JsUpdate}
use Rattle.update_msgs.specs.declared.message.ServerMsg.{ServerMsg}
use Rattle.update_msgs.specs.declared.message.ServerMsg.TheVariants as server
use Rattle.update_msgs.specs.Writable.{IsBetween, IsFormat, IsSayable, IsWritable, IsAtMost}
use Rattle.message_json.specs.declared.fault.MsgFault.{MsgFault}
use Rattle.message_text.specs.Values.{or_null, row, number_or_null}
use Rattle.message_json.specs.Reading.{Gives, HasName, field, field_or, only, name_in, number_in, wanted_in, items_in, list_in, some_names_in, rising_in, row_in, table_in}
use Rattle.message_json.specs.Words.{spelled, word_in, fault_kinds}
use Rattle.message_text.specs.ClientText.{say}
use Rattle.message_json.specs.ClientReading.{client_of}
use Rattle.message_json.specs.ClientReading as client_reading
use Rattle.message_text.specs.ServerText.{js_update, tell}
use Rattle.message_json.specs.ServerReading.{is_named, text_in, js_update_in, server_of}
use Rattle.message_json.specs.ServerReading as server_reading

-- ---- numbers in a range

in_range : (low high n : ℕ) → IsBetween low high n → (nat_le low n && nat_le n high) ≡ true
in_range low high n b = rw (le-leb low n b.least, le-leb n high b.most) refl

from_zero : (n : ℕ) → n ≤ LARGEST_NUMBER → (nat_le 0 n && nat_le n LARGEST_NUMBER) ≡ true
from_zero n le = in_range 0 LARGEST_NUMBER n (record { least = omega arith; most = le })

-- ---- lists

names_back : (xs : List (List ℕ)) → list_all is_name xs ≡ true → items_in name_in (items_of (map string xs)) ≡ Some xs
unfolding items_in name_in
names_back [] h = refl
names_back (x ∷ xs) h = let both = and_parts (is_name x) (list_all is_name xs) h in rw (both.0, names_back xs both.1) refl

rows_back : (rs : List (List ℕ × ℕ)) → list_all (λ r. is_name r.0) rs ≡ true → list_all (λ p. is_version p.1) rs ≡ true → items_in row_in (items_of (map row rs)) ≡ Some rs
unfolding items_in row_in name_in number_in
rows_back [] h v = refl
rows_back (r ∷ rs) h v =
    let named = and_parts (is_name r.0) (list_all (λ r. is_name r.0) rs) h in
    let counted = and_parts (is_version r.1) (list_all (λ p. is_version p.1) rs) v in
    rw (named.0, counted.0, rows_back rs named.1 counted.1) refl

updates_back : (us : List JsUpdate) → list_all is_named us ≡ true → All (λ u. u.timestamp ≤ LARGEST_NUMBER) us → items_in js_update_in (items_of (map js_update us)) ≡ Some us
unfolding items_in js_update_in field only further_member name_in number_in
updates_back [] h t = refl
updates_back (u ∷ us) h t =
    let all = and_parts (is_named u) (list_all is_named us) h in
    let named = and_parts (is_name u.path) (is_name u.accepted_path) all.0 in
    rw (named.0, named.1, from_zero u.timestamp (All-head (λ u. u.timestamp ≤ LARGEST_NUMBER) u us t), updates_back us all.1 (All-tail (λ u. u.timestamp ≤ LARGEST_NUMBER) u us t)) refl

-- ---- what is there for some kinds alone

name_wanted : (b : Bool) (o : Option (List ℕ)) → is_some o ≡ b → HasName o → wanted_in b name_in (or_null o) ≡ Some o
unfolding wanted_in name_in
name_wanted true None e h = absurd (false≢true e)
name_wanted false None e h = refl
name_wanted true (Some n) e h = rw h refl
name_wanted false (Some n) e h = absurd (false≢true (sym e))

number_wanted : (b : Bool) (o : Option ℕ) → is_some o ≡ b → IsAtMost o → wanted_in b (number_in 0 LARGEST_NUMBER) (number_or_null o) ≡ Some o
unfolding wanted_in number_in
number_wanted true None e h = absurd (false≢true e)
number_wanted false None e h = refl
number_wanted true (Some n) e h = rw (from_zero n h) refl
number_wanted false (Some n) e h = absurd (false≢true (sym e))

kind_back : (w : FaultWord) → word_in fault_word fault_kinds (string (fault_word w)) ≡ Some w
unfolding word_in spelled
kind_back faults.BadByte = refl
kind_back faults.OpenString = refl
kind_back faults.OpenComment = refl
kind_back faults.BadEscape = refl
kind_back faults.NumberTooLarge = refl
kind_back faults.TooManyTokens = refl
kind_back faults.Unexpected = refl
kind_back faults.TooDeep = refl
kind_back faults.DuplicateName = refl
kind_back faults.NotUtf8 = refl
kind_back faults.NotAssignable = refl
kind_back faults.SpecifierBare = refl
kind_back faults.SpecifierClimbs = refl
kind_back faults.SpecifierEmpty = refl
kind_back faults.SpecifierTooLong = refl
kind_back faults.SpecifierBadSegment = refl
kind_back faults.TooManyImports = refl

-- ---- messages of a client

pub client_back : (m : ClientMsg) → client_reading.IsTyped m → IsSayable m → client_of (say m) ≡ Ok m
unfolding client_of field field_or only further_member name_in number_in wanted_in list_in some_names_in table_in word_in spelled
client_back (client.Hello format []) t s = rw (in_range 1 2 format s) refl
client_back (client.Hello format (x ∷ xs)) t s = rw (in_range 1 2 format s, names_back (x ∷ xs) t) refl
client_back client.Ask t s = refl
client_back (client.Fetch path) t s = rw t refl
client_back (client.Applied table) t s = rw (rows_back table t.0 (and_parts (rises table) (list_all (λ p. is_version p.1) table) t.1).1, t.1) refl
client_back (client.Aborted Missing path None None) t s = rw t.0 refl
client_back (client.Aborted Missing path None (Some n)) t s = absurd s
client_back (client.Aborted Missing path (Some f) n) t s = absurd s
client_back (client.Aborted Broken path None None) t s = rw t.0 refl
client_back (client.Aborted Broken path None (Some n)) t s = absurd s
client_back (client.Aborted Broken path (Some f) n) t s = absurd s
client_back (client.Aborted Link path (Some f) (Some n)) t s = rw (t.0, t.1) refl
client_back (client.Aborted Link path (Some f) None) t s = absurd s
client_back (client.Aborted Link path None n) t s = absurd s
client_back (client.Invalidate path version message) t s = rw (t, in_range 1 LARGEST_NUMBER version s) refl
client_back client.Bye t s = refl

pub client_given_back : (d : Data) (m : ClientMsg) (r : Result ClientMsg MsgFault) → client_reading.IsTyped m → IsSayable m → d ≡ say m → Gives r (client_of d) → Gives r (Ok m)
client_given_back d m r t s is g = subst (Gives r) (ap client_of is ∙ client_back m t s) g

-- ---- messages of a server

of_format : (format : ℕ) → IsFormat format → (P : ℕ → Type 0) → P 1 → P 2 → P format
of_format zero f P one two = let never : ⊥ = omega (arith, f.least) in absurd never
of_format (suc zero) f P one two = one
of_format (suc (suc zero)) f P one two = two
of_format (suc (suc (suc n))) f P one two = let never : ⊥ = omega (arith, f.most) in absurd never

abbrev ComesBack : ServerMsg → ℕ → Type 0
ComesBack m format = server_reading.IsTyped m → IsWritable format m → server_of format (tell format m) ≡ Ok (read_in format m)

update_first : (replaced : List (List ℕ)) (updates : List JsUpdate) (batch : ℕ) (triggered : List (List ℕ)) → ComesBack (server.Update replaced updates batch triggered) 1
unfolding server_of field only further_member list_in
update_first replaced updates batch triggered t w = rw (names_back replaced t.0, updates_back updates t.1 w.timed) refl

update_second : (replaced : List (List ℕ)) (updates : List JsUpdate) (batch : ℕ) (triggered : List (List ℕ)) → ComesBack (server.Update replaced updates batch triggered) 2
unfolding server_of field only further_member list_in number_in rising_in
update_second replaced updates batch triggered t w =
    rw (names_back replaced t.0, updates_back updates t.1 w.timed, names_back triggered t.2, in_range 1 LARGEST_NUMBER batch (w.fits refl).counted, (w.fits refl).rising) refl

reload_first : (path : List (List ℕ)) (batch : ℕ) (triggered : List (List ℕ)) → (ComesBack (server.FullReload Root path batch triggered) 1) × (ComesBack (server.FullReload Declined path batch triggered) 1)
unfolding server_of field only further_member list_in some_names_in word_in spelled
reload_first [] batch triggered = ((λ t w. let never : ⊥ = omega (arith, w.some) in absurd never), (λ t w. let never : ⊥ = omega (arith, w.some) in absurd never))
reload_first (n ∷ path) batch triggered = ((λ t w. rw (names_back (n ∷ path) t.0) refl), (λ t w. rw (names_back (n ∷ path) t.0) refl))

reload_second : (path : List (List ℕ)) (batch : ℕ) (triggered : List (List ℕ)) → (ComesBack (server.FullReload Root path batch triggered) 2) × (ComesBack (server.FullReload Declined path batch triggered) 2)
unfolding server_of field only further_member list_in some_names_in word_in spelled number_in rising_in
reload_second [] batch triggered = ((λ t w. let never : ⊥ = omega (arith, w.some) in absurd never), (λ t w. let never : ⊥ = omega (arith, w.some) in absurd never))
reload_second (n ∷ path) batch triggered = (
  (λ t w. rw (names_back (n ∷ path) t.0, names_back triggered t.1, in_range 1 LARGEST_NUMBER batch (w.fits refl).counted, (w.fits refl).rising) refl),
  (λ t w. rw (names_back (n ∷ path) t.0, names_back triggered t.1, in_range 1 LARGEST_NUMBER batch (w.fits refl).counted, (w.fits refl).rising) refl),
)

server_back : (format : ℕ) → IsFormat format → (m : ServerMsg) → ComesBack m format
unfolding server_of field only further_member list_in name_in number_in text_in
server_back format f (server.Connected i roots) t w = rw (in_range 1 4_294_967_295 i w, names_back roots t) refl
server_back format f (server.Update replaced updates batch triggered) t w = of_format format f (ComesBack (server.Update replaced updates batch triggered)) (update_first replaced updates batch triggered) (update_second replaced updates batch triggered) t w
server_back format f (server.Prune paths) t w = rw (names_back paths t) refl
server_back format f (server.FullReload Root path batch triggered) t w = of_format format f (ComesBack (server.FullReload Root path batch triggered)) (reload_first path batch triggered).0 (reload_second path batch triggered).0 t w
server_back format f (server.FullReload Declined path batch triggered) t w = of_format format f (ComesBack (server.FullReload Declined path batch triggered)) (reload_first path batch triggered).1 (reload_second path batch triggered).1 t w
server_back format f (server.Error path line column kind) t w = rw (t, from_zero line w.row, from_zero column w.place, kind_back kind) refl
server_back format f (server.Broken path line column kind) t w = rw (t, from_zero line w.row, from_zero column w.place, kind_back kind) refl
server_back format f server.Idle t w = refl
server_back format f server.Done t w = refl
server_back format f (server.Text path version text) t w = rw (t, in_range 1 LARGEST_NUMBER version w.counted, le-leb (length text) 4_294_967_294 w.few) refl
server_back format f (server.Missing path) t w = rw t refl
server_back format f (server.NotYet path) t w = rw t refl
server_back format f (server.Refused code path told kept) t w =
    rw (in_range 1 7 code w.coded, name_wanted (code == 4 || code == 5) path w.named t, number_wanted (code == 4) told w.telling w.told_most, number_wanted (code == 4) kept w.keeping w.kept_most) refl

pub server_given_back : (format : ℕ) (d : Data) (m : ServerMsg) (r : Result ServerMsg MsgFault) → IsFormat format → server_reading.IsTyped m → IsWritable format m → d ≡ tell format m → Gives r (server_of format d) → Gives r (Ok (read_in format m))
server_given_back format d m r f t w is g = subst (Gives r) (ap (server_of format) is ∙ server_back format f m t w) g
