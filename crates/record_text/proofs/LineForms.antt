-- The line of each event, of a root and of a client at rest says what it is the line of.
use Rattle.std.proofs.Common.{ℕ, ◌≤◌, List, [], ◌∷◌, ◌++◌, true, false, ◌≡◌, refl, sym, ap, ◌∙◌, arith, append_assoc, Some, None}
use Rattle.std.specs.Prelude.{◌&&◌, ◌==◌, codes, decimal, nat_le}
use Rattle.std.specs.List.{All, list_all}
use Rattle.std.proofs.lemmas.Bool.{and_parts}
use Rattle.std.proofs.lemmas.Bool.Decides.{nat_tests}
use Rattle.std.proofs.lemmas.List.{append-nil}
use Rattle.std.proofs.lemmas.List.Splits.{slice_split_at, slice_split_none}
use Rattle.hmr_types.specs.declared.limits.TheConstants.{LARGEST_CLIENT, LARGEST_NUMBER}
use Rattle.hmr_types.specs.ModName.{is_name}
use Rattle.hmr_types.specs.Table.{is_table, is_version, rises}
use Rattle.play_script.specs.Script.{words}
use Rattle.play_script.specs.Texts.{names_text, spaced, spaced_number}
use Rattle.play_script.proofs.SpelledNames.{no_space-name}
use Rattle.play_script.proofs.SpelledNumbers.{no_space-decimal}
use Rattle.record_text.specs.declared.record.RecordEvent.{RecordEvent}
use Rattle.record_text.specs.declared.record.RecordEvent.TheVariants as events
use Rattle.record_text.specs.declared.said.Said.TheVariants as says
use Rattle.record_text.specs.Fit.{fits_event, is_client, is_count, is_page}
use Rattle.record_text.specs.Lines.{rows_from, said_by, said_of, table_of}
use Rattle.record_text.specs.Numbers.{count_of, largest_count}
use Rattle.record_text.specs.Replies.{is_reply}
use Rattle.record_text.specs.Texts.{rows_text}
use Rattle.record_text.proofs.Counts.{count_of-decimal, number_of-decimal}

-- ---- words of a line

abbrev OneWord : List ℕ → Type 0
OneWord w = All (λ b. (b == 32) ≡ false) w

alone : (w : List ℕ) → OneWord w → words w ≡ w ∷ []
alone w h = slice_split_none (λ b. b == 32) w h

before : (w rest : List ℕ) → OneWord w → words (w ++ 32 ∷ rest) ≡ w ∷ words rest
before w rest h = slice_split_at (λ b. b == 32) w 32 rest h refl

two : (v w : List ℕ) → OneWord v → OneWord w → words (v ++ spaced w) ≡ v ∷ w ∷ []
two v w g h = before v w g ∙ ap (λ ws. v ∷ ws) (alone w h)

three : (u v w : List ℕ) → OneWord u → OneWord v → OneWord w → words (u ++ spaced v ++ spaced w) ≡ u ∷ v ∷ w ∷ []
three u v w f g h =
    ap words (append_assoc u (spaced v) (spaced w))
    ∙ (before u (v ++ spaced w) f ∙ ap (λ ws. u ∷ ws) (two v w g h))

names_words : (names : List (List ℕ)) (w : List ℕ) → OneWord w → list_all is_name names ≡ true → words (w ++ names_text names) ≡ w ∷ names
names_words [] w h all = ap words (append-nil w) ∙ alone w h
names_words (n ∷ ns) w h all =
    let here = and_parts (is_name n) (list_all is_name ns) all in
    before w (n ++ names_text ns) h ∙ ap (λ ws. w ∷ ws) (names_words ns n (no_space-name n here.0) here.1)

-- ---- numbers

pub client_small : (n : ℕ) → is_client n ≡ true → n ≤ LARGEST_CLIENT
client_small n h = grind (arith, nat_tests)

client_word : (n : ℕ) → is_client n ≡ true → OneWord (decimal n)
client_word n h = no_space-decimal n (omega (arith, client_small n h))

client_read : (n : ℕ) → is_client n ≡ true → count_of LARGEST_CLIENT (decimal n) ≡ Some n
client_read n h = count_of-decimal LARGEST_CLIENT n (omega arith) (client_small n h)

pub count_small : (n : ℕ) → is_count n ≡ true → n ≤ largest_count
count_small n h = grind (arith, nat_tests)

count_word : (n : ℕ) → is_count n ≡ true → OneWord (decimal n)
count_word n h = no_space-decimal n (omega (arith, count_small n h))

count_read : (n : ℕ) → is_count n ≡ true → count_of largest_count (decimal n) ≡ Some n
count_read n h = count_of-decimal largest_count n (omega arith) (count_small n h)

pub version_parts : (n : ℕ) → is_version n ≡ true → (1 ≤ n) × (n ≤ 9007199254740991)
version_parts n h = let here = and_parts (nat_le 1 n) (nat_le n 9007199254740991) h in (grind (arith, nat_tests), grind (arith, nat_tests))

version_word : (n : ℕ) → is_version n ≡ true → OneWord (decimal n)
version_word n h = no_space-decimal n (omega (arith, (version_parts n h).1))

-- ---- tables

abbrev pub row_words : List (List ℕ × ℕ) → List (List ℕ)
row_words [] = []
row_words (r ∷ rs) = r.0 ∷ decimal r.1 ∷ row_words rs

abbrev pub Rows : List (List ℕ × ℕ) → Type 0
Rows rows = (list_all (λ r. is_name r.0) rows ≡ true) × (list_all (λ p. is_version p.1) rows ≡ true)

pub row_parts : (r : List ℕ × ℕ) (rs : List (List ℕ × ℕ)) → Rows (r ∷ rs) → (is_name r.0 ≡ true) × (is_version r.1 ≡ true) × Rows rs
row_parts r rs h =
    let named = and_parts (is_name r.0) (list_all (λ r. is_name r.0) rs) h.0 in
    let counted = and_parts (is_version r.1) (list_all (λ p. is_version p.1) rs) h.1 in
    (named.0, counted.0, (named.1, counted.1))

rows_words : (rows : List (List ℕ × ℕ)) (w : List ℕ) → OneWord w → Rows rows → words (w ++ rows_text rows) ≡ w ∷ row_words rows
rows_words [] w h all = ap words (append-nil w) ∙ alone w h
rows_words (r ∷ rs) w h all =
    let here = row_parts r rs all in
    let n = r.0 in
    let d = decimal r.1 in
    before w ((n ++ spaced d) ++ rows_text rs) h
    ∙ ap (λ ws. w ∷ ws)
    (ap words (append_assoc n (spaced d) (rows_text rs))
    ∙ (before n (d ++ rows_text rs) (no_space-name n here.0)
    ∙ ap (λ ws. n ∷ ws) (rows_words rs d (version_word r.1 here.1) here.2)))

rows_read : (rows acc : List (List ℕ × ℕ)) → Rows rows → rows_from acc None (row_words rows) ≡ Some (acc ++ rows)
rows_read [] acc all = ap Some (sym (append-nil acc))
rows_read (r ∷ rs) acc all =
    let here = row_parts r rs all in
    let named = here.0 in
    let range = version_parts r.1 here.1 in
    let read = number_of-decimal LARGEST_NUMBER r.1 (omega arith) (omega (arith, range.0)) range.1 in
    let first : rows_from acc None (row_words (r ∷ rs)) ≡ rows_from (acc ++ r ∷ []) None (row_words rs) = rw (named, read) refl in
    first ∙ (rows_read rs (acc ++ r ∷ []) here.2 ∙ ap Some (append_assoc acc (r ∷ []) rs))

-- the parts of the table of a page
pub page_parts : (t : List (List ℕ × ℕ)) → is_page t ≡ true → (is_table t ≡ true) × Rows t
page_parts t h =
    let both = and_parts (is_table t) (list_all (λ r. is_name r.0) t) h in
    (both.0, (both.1, (and_parts (rises t) (list_all (λ p. is_version p.1) t) both.0).1))

table_read : (t : List (List ℕ × ℕ)) → is_page t ≡ true → table_of (row_words t) ≡ Some t
table_read t h =
    let parts = page_parts t h in
    let rows = rows_read t [] parts.1 in
    let is = parts.0 in
    rw (rows, is) refl

-- ---- lines

pub root_said : (name : List ℕ) → is_name name ≡ true → said_of (codes "root" ++ spaced name) ≡ Some (says.Root name)
root_said name h =
    let last : said_by (codes "root" ∷ name ∷ []) ≡ Some (says.Root name) = rw h refl in
    ap (λ ws. said_by (codes "root" ∷ ws)) (alone name (no_space-name name h)) ∙ last

pub rest_said : (c : ℕ) (t : List (List ℕ × ℕ)) → is_client c ≡ true → is_page t ≡ true → said_of (codes "rest" ++ spaced_number c ++ rows_text t) ≡ Some (says.Rest c t)
rest_said c t h p =
    let client = client_read c h in
    let table = table_read t p in
    let last : said_by (codes "rest" ∷ decimal c ∷ row_words t) ≡ Some (says.Rest c t) = rw (client, table) refl in
    ap (λ ws. said_by (codes "rest" ∷ ws)) (rows_words t (decimal c) (client_word c h) (page_parts t p).1) ∙ last

pub reply_said_so : (reply : List ℕ) → is_reply reply ≡ true → said_of (codes "= " ++ reply) ≡ Some (says.Reply reply)
reply_said_so reply h = rw h refl

-- the line of an event
abbrev pub event_line : RecordEvent → List ℕ
event_line (events.Edit name text) = codes "edit" ++ spaced name
event_line (events.Remove name) = codes "remove" ++ spaced name
event_line (events.Settle name text version) = codes "settle" ++ spaced name ++ spaced_number version
event_line (events.Connect names) = codes "connect" ++ names_text names
event_line (events.Ask client) = codes "ask" ++ spaced_number client
event_line (events.Fetch client name) = codes "fetch" ++ spaced_number client ++ spaced name
event_line (events.Applied client table) = codes "applied" ++ spaced_number client ++ rows_text table
event_line (events.Aborted client) = codes "aborted" ++ spaced_number client
event_line (events.Invalidate client name version) = codes "invalidate" ++ spaced_number client ++ spaced name ++ spaced_number version
event_line (events.Disconnect client) = codes "disconnect" ++ spaced_number client

-- an event without its text
abbrev pub bare : RecordEvent → RecordEvent
bare (events.Edit name text) = events.Edit name []
bare (events.Remove name) = events.Remove name
bare (events.Settle name text version) = events.Settle name [] version
bare (events.Connect names) = events.Connect names
bare (events.Ask client) = events.Ask client
bare (events.Fetch client name) = events.Fetch client name
bare (events.Applied client table) = events.Applied client table
bare (events.Aborted client) = events.Aborted client
bare (events.Invalidate client name version) = events.Invalidate client name version
bare (events.Disconnect client) = events.Disconnect client

-- the line of an event says that event, without its text
abbrev Says : RecordEvent → Type 0
Says e = said_of (event_line e) ≡ Some (says.Event (bare e))

edit_said : (name text : List ℕ) → is_name name ≡ true → Says (events.Edit name text)
edit_said name text h =
    let last : said_by (codes "edit" ∷ name ∷ []) ≡ Some (says.Event (events.Edit name [])) = rw h refl in
    ap (λ ws. said_by (codes "edit" ∷ ws)) (alone name (no_space-name name h)) ∙ last

remove_said : (name : List ℕ) → is_name name ≡ true → Says (events.Remove name)
remove_said name h =
    let last : said_by (codes "remove" ∷ name ∷ []) ≡ Some (says.Event (events.Remove name)) = rw h refl in
    ap (λ ws. said_by (codes "remove" ∷ ws)) (alone name (no_space-name name h)) ∙ last

settle_said : (name text : List ℕ) (v : ℕ) → is_name name ≡ true → is_count v ≡ true → Says (events.Settle name text v)
settle_said name text v h c =
    let read = count_read v c in
    let last : said_by (codes "settle" ∷ name ∷ decimal v ∷ []) ≡ Some (says.Event (events.Settle name [] v)) = rw (h, read) refl in
    ap (λ ws. said_by (codes "settle" ∷ ws)) (two name (decimal v) (no_space-name name h) (count_word v c)) ∙ last

connect_said : (names : List (List ℕ)) → list_all is_name names ≡ true → Says (events.Connect names)
connect_said [] h = refl
connect_said (n ∷ ns) h =
    let here = and_parts (is_name n) (list_all is_name ns) h in
    let last : said_by (codes "connect" ∷ n ∷ ns) ≡ Some (says.Event (events.Connect (n ∷ ns))) = rw h refl in
    ap (λ ws. said_by (codes "connect" ∷ ws)) (names_words ns n (no_space-name n here.0) here.1) ∙ last

ask_said : (c : ℕ) → is_client c ≡ true → Says (events.Ask c)
ask_said c h =
    let read = client_read c h in
    let last : said_by (codes "ask" ∷ decimal c ∷ []) ≡ Some (says.Event (events.Ask c)) = rw read refl in
    ap (λ ws. said_by (codes "ask" ∷ ws)) (alone (decimal c) (client_word c h)) ∙ last

fetch_said : (c : ℕ) (name : List ℕ) → is_client c ≡ true → is_name name ≡ true → Says (events.Fetch c name)
fetch_said c name h n =
    let read = client_read c h in
    let last : said_by (codes "fetch" ∷ decimal c ∷ name ∷ []) ≡ Some (says.Event (events.Fetch c name)) = rw (read, n) refl in
    ap (λ ws. said_by (codes "fetch" ∷ ws)) (two (decimal c) name (client_word c h) (no_space-name name n)) ∙ last

applied_said : (c : ℕ) (t : List (List ℕ × ℕ)) → is_client c ≡ true → is_page t ≡ true → Says (events.Applied c t)
applied_said c t h p =
    let client = client_read c h in
    let table = table_read t p in
    let last : said_by (codes "applied" ∷ decimal c ∷ row_words t) ≡ Some (says.Event (events.Applied c t)) = rw (client, table) refl in
    ap (λ ws. said_by (codes "applied" ∷ ws)) (rows_words t (decimal c) (client_word c h) (page_parts t p).1) ∙ last

aborted_said : (c : ℕ) → is_client c ≡ true → Says (events.Aborted c)
aborted_said c h =
    let read = client_read c h in
    let last : said_by (codes "aborted" ∷ decimal c ∷ []) ≡ Some (says.Event (events.Aborted c)) = rw read refl in
    ap (λ ws. said_by (codes "aborted" ∷ ws)) (alone (decimal c) (client_word c h)) ∙ last

invalidate_said : (c : ℕ) (name : List ℕ) (v : ℕ) → is_client c ≡ true → is_name name ≡ true → is_count v ≡ true → Says (events.Invalidate c name v)
invalidate_said c name v h n k =
    let client = client_read c h in
    let count = count_read v k in
    let last : said_by (codes "invalidate" ∷ decimal c ∷ name ∷ decimal v ∷ []) ≡ Some (says.Event (events.Invalidate c name v)) = rw (client, n, count) refl in
    ap (λ ws. said_by (codes "invalidate" ∷ ws)) (three (decimal c) name (decimal v) (client_word c h) (no_space-name name n) (count_word v k)) ∙ last

disconnect_said : (c : ℕ) → is_client c ≡ true → Says (events.Disconnect c)
disconnect_said c h =
    let read = client_read c h in
    let last : said_by (codes "disconnect" ∷ decimal c ∷ []) ≡ Some (says.Event (events.Disconnect c)) = rw read refl in
    ap (λ ws. said_by (codes "disconnect" ∷ ws)) (alone (decimal c) (client_word c h)) ∙ last

pub event_said : (e : RecordEvent) → fits_event e ≡ true → Says e
event_said (events.Edit name text) h = edit_said name text h
event_said (events.Remove name) h = remove_said name h
event_said (events.Settle name text v) h = let both = and_parts (is_name name) (is_count v) h in settle_said name text v both.0 both.1
event_said (events.Connect names) h = connect_said names h
event_said (events.Ask c) h = ask_said c h
event_said (events.Fetch c name) h = let both = and_parts (is_client c) (is_name name) h in fetch_said c name both.0 both.1
event_said (events.Applied c t) h = let both = and_parts (is_client c) (is_page t) h in applied_said c t both.0 both.1
event_said (events.Aborted c) h = aborted_said c h
event_said (events.Invalidate c name v) h =
    let all = and_parts (is_client c && is_name name) (is_count v) h in
    let both = and_parts (is_client c) (is_name name) all.0 in
    invalidate_said c name v both.0 both.1 all.1
event_said (events.Disconnect c) h = disconnect_said c h
