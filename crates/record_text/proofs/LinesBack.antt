-- A line that says something is the line that is written of it.
use Rattle.std.proofs.Common.{ℕ, ◌+◌, ◌*◌, ◌-◌, ◌^◌, ◌<◌, ◌≤◌, List, [], ◌∷◌, ◌++◌, fold, Bool, true, false, cond, ◌≡◌, refl, sym, ap, ◌∙◌, subst, arith, append_assoc, Option, Some, None}
use Rattle.std.specs.Prelude.{◌&&◌, ◌==◌, codes, decimal, nat_eq, nat_le}
use Rattle.std.specs.Fmt.{digits}
use Rattle.std.specs.Int.{IsInRange}
use Rattle.std.specs.List.{join_with_byte, list_all}
use Rattle.std.proofs.lemmas.Bool.{and_from, and_parts}
use Rattle.std.proofs.lemmas.Bool.Decides.{nat_tests}
use Rattle.std.proofs.lemmas.Fmt.{decimal-digits_value}
use Rattle.std.proofs.lemmas.List.{append-nil}
use Rattle.std.proofs.lemmas.List.Splits.{join_with_byte-slice_split}
use Rattle.std.proofs.lemmas.Option.{same_Some}
use Rattle.std.proofs.lemmas.Str.Parse.{FoldsDigits, IsDigitsTest, IsNumeralModel, numerals_by_fold}
use Rattle.hmr_types.specs.declared.limits.TheConstants.{LARGEST_CLIENT, LARGEST_NUMBER}
use Rattle.hmr_types.specs.ModName.{between, is_name, is_text}
use Rattle.hmr_types.specs.Table.{is_table}
use Rattle.play_script.specs.Script.{digits_value, is_digit, number_of, up_to, with_digit, words}
use Rattle.play_script.specs.Texts.{names_text, spaced, spaced_number}
use Rattle.record_text.specs.declared.record.RecordEvent.TheVariants as events
use Rattle.record_text.specs.declared.said.Said.{Said}
use Rattle.record_text.specs.declared.said.Said.TheVariants as says
use Rattle.record_text.specs.declared.said.Word.{Word}
use Rattle.record_text.specs.declared.said.Word.TheVariants as first
use Rattle.record_text.specs.Fit.{fits_event, is_client, is_count, is_page}
use Rattle.record_text.specs.Lines.{◌>>=◌, all_named, client_table, fetch, if_table, invalidate, known_word, last_piece, named, one_client, one_name, one_word, piece_of, reply_said, rows_from, said_by, said_in, said_of, settle, table_of}
use Rattle.record_text.specs.Numbers.{count_of, largest_count}
use Rattle.record_text.specs.Replies.{is_reply}
use Rattle.record_text.specs.Texts.{rows_text}
use Rattle.record_text.proofs.LineForms.{bare, event_line, row_words}

-- ---- texts and numbers

cons_same : (x y : ℕ) (xs ys : List ℕ) → x ≡ y → xs ≡ ys → x ∷ xs ≡ y ∷ ys
cons_same x y xs ys e f = ap (λ a. a ∷ xs) e ∙ ap (λ zs. y ∷ zs) f

same_text : (a b : List ℕ) → is_text a b ≡ true → a ≡ b
same_text [] [] h = refl
same_text [] (y ∷ ys) h = absurd (cc)
same_text (x ∷ xs) [] h = absurd (cc)
same_text (x ∷ xs) (y ∷ ys) h =
    let both = and_parts (nat_eq x y) (is_text xs ys) h in
    cons_same x y xs ys (grind (arith, nat_tests, both.0)) (same_text xs ys both.1)

abbrev AreDigits : List ℕ → Type 0
AreDigits ds = list_all is_digit ds ≡ true

digit_range : (c : ℕ) → is_digit c ≡ true → IsInRange 48 57 c
digit_range c h = (grind (arith, nat_tests), grind (arith, nat_tests))

range_digit : (c : ℕ) → IsInRange 48 57 c → is_digit c ≡ true
range_digit c r = grind (arith, nat_tests, r.0, r.1)

tells : IsDigitsTest AreDigits
tells = record {
  empty = refl;
  parts = λ c cs h. let both = and_parts (is_digit c) (list_all is_digit cs) h in (digit_range c both.0, both.1);
  more = λ c cs r h. and_from _ _ (range_digit c r) h;
}

one_more : (n c : ℕ) (cs : List ℕ) → fold with_digit (with_digit n c) cs ≡ fold with_digit (n * 10 + (c - 48)) cs
one_more n c cs = let e : with_digit n c ≡ n * 10 + (c - 48) = omega arith in ap (λ m. fold with_digit m cs) e

folds : FoldsDigits (λ n ds. fold with_digit n ds)
folds = record { empty = λ n. refl; more = λ n c cs r. one_more n c cs }

model : IsNumeralModel AreDigits digits_value
model = numerals_by_fold AreDigits tells (λ n ds. fold with_digit n ds) folds

-- a number that is written so
abbrev pub Writes : ℕ → List ℕ → ℕ → Type 0
Writes most w n = (w ≡ decimal n) × (n ≤ most)

up_at : (most v n : ℕ) (t : Bool) → nat_le v most ≡ t → cond t (Some v) None ≡ Some n → (v ≡ n) × (n ≤ most)
up_at most v n true e h = let same : v ≡ n = cc in (same, grind (arith, nat_tests, e, same))
up_at most v n false e h = absurd (cc)

at_digits : (most b : ℕ) (bs : List ℕ) (n : ℕ) (s t : Bool) → most < 2 ^ 64 → between 49 57 b ≡ s → list_all is_digit bs ≡ t
    → cond (s && t) (up_to most (digits_value (b ∷ bs))) None ≡ Some n → Writes most (b ∷ bs) n
at_digits most b bs n true true small d e h =
    let v = digits_value (b ∷ bs) in
    let fit = up_at most v n (nat_le v most) refl h in
    let digit : is_digit b ≡ true = grind (arith, nat_tests, d) in
    let high : 49 ≤ b = grind (arith, nat_tests, d) in
    let all : AreDigits (b ∷ bs) = and_from _ _ digit e in
    let back = decimal-digits_value model (b ∷ bs) all (omega arith) (λ z. absurd (omega (arith, z, high))) (omega (arith, fit.0, fit.1)) in
    (sym back ∙ ap decimal fit.0, fit.1)
at_digits most b bs n true false small d e h = absurd (cc)
at_digits most b bs n false t small d e h = absurd (cc)

number_back : (most : ℕ) (w : List ℕ) (n : ℕ) → most < 2 ^ 64 → number_of most w ≡ Some n → Writes most w n
number_back most [] n small h = absurd (cc)
number_back most (b ∷ bs) n small h = at_digits most b bs n (between 49 57 b) (list_all is_digit bs) small refl refl h

nought : codes "0" ≡ decimal 0
unfolding digits
nought = refl

count_at : (most : ℕ) (w : List ℕ) (n : ℕ) (t : Bool) → most < 2 ^ 64 → is_text w (codes "0") ≡ t → cond t (Some 0) (number_of most w) ≡ Some n → Writes most w n
count_at most w n true small e h =
    let none : 0 ≡ n = cc in
    (same_text w (codes "0") e ∙ (nought ∙ ap decimal none), omega (arith, none))
count_at most w n false small e h = number_back most w n small h

pub count_back : (most : ℕ) (w : List ℕ) (n : ℕ) → most < 2 ^ 64 → count_of most w ≡ Some n → Writes most w n
count_back most w n small h = count_at most w n (is_text w (codes "0")) small refl h

client_back : (w : List ℕ) (c : ℕ) → count_of LARGEST_CLIENT w ≡ Some c → (w ≡ decimal c) × (is_client c ≡ true)
client_back w c h = let back = count_back LARGEST_CLIENT w c (omega arith) h in (back.0, grind (arith, nat_tests, back.1))

version_back : (w : List ℕ) (v : ℕ) → count_of largest_count w ≡ Some v → (w ≡ decimal v) × (is_count v ≡ true)
version_back w v h = let back = count_back largest_count w v (omega arith) h in (back.0, grind (arith, nat_tests, back.1))

-- ---- words

bind_back : {A B : Type 0} (o : Option A) (f : A → Option B) (y : B) → (o >>= f) ≡ Some y → (x : A) × (o ≡ Some x) × (f x ≡ Some y)
bind_back (Some x) f y h = (x, refl, h)
bind_back None f y h = absurd (cc)

named_at : (w n : List ℕ) (t : Bool) → is_name w ≡ t → cond t (Some w) None ≡ Some n → (w ≡ n) × (is_name n ≡ true)
named_at w n true e h = let same : w ≡ n = cc in (same, subst (λ x. is_name x ≡ true) same e)
named_at w n false e h = absurd (cc)

named_back : (w n : List ℕ) → named w ≡ Some n → (w ≡ n) × (is_name n ≡ true)
named_back w n h = named_at w n (is_name w) refl h

all_at : (ws ns : List (List ℕ)) (t : Bool) → list_all is_name ws ≡ t → cond t (Some ws) None ≡ Some ns → (ws ≡ ns) × (list_all is_name ns ≡ true)
all_at ws ns true e h = let same : ws ≡ ns = cc in (same, subst (λ x. list_all is_name x ≡ true) same e)
all_at ws ns false e h = absurd (cc)

all_back : (ws ns : List (List ℕ)) → all_named ws ≡ Some ns → (ws ≡ ns) × (list_all is_name ns ≡ true)
all_back ws ns h = all_at ws ns (list_all is_name ws) refl h

one_back : (ws : List (List ℕ)) (w : List ℕ) → one_word ws ≡ Some w → ws ≡ w ∷ []
one_back [] w h = absurd (cc)
one_back (v ∷ []) w h = let same : v ≡ w = cc in ap (λ x. x ∷ []) same
one_back (v ∷ u ∷ more) w h = absurd (cc)

name_back : (ws : List (List ℕ)) (n : List ℕ) → one_name ws ≡ Some n → (ws ≡ n ∷ []) × (is_name n ≡ true)
name_back ws n h =
    let word = bind_back (one_word ws) named n h in
    let name = named_back word.0 n word.2 in
    (one_back ws word.0 word.1 ∙ ap (λ x. x ∷ []) name.0, name.1)

only_client_back : (ws : List (List ℕ)) (c : ℕ) → one_client ws ≡ Some c → (ws ≡ decimal c ∷ []) × (is_client c ≡ true)
only_client_back ws c h =
    let word = bind_back (one_word ws) (count_of LARGEST_CLIENT) c h in
    let client = client_back word.0 c word.2 in
    (one_back ws word.0 word.1 ∙ ap (λ x. x ∷ []) client.0, client.1)

-- ---- tables

abbrev with_pending : Option (List ℕ) → List (List ℕ) → List (List ℕ)
with_pending None ws = ws
with_pending (Some n) ws = n ∷ ws

abbrev IsPending : Option (List ℕ) → Type 0
IsPending None = Unit {0}
IsPending (Some n) = is_name n ≡ true

-- the rows that were read of words
abbrev RowsOf : List (List ℕ × ℕ) → List (List ℕ) → List (List ℕ × ℕ) → Type 0
RowsOf rows ws out = (more : List (List ℕ × ℕ)) × (out ≡ rows ++ more) × (ws ≡ row_words more) × (list_all (λ r. is_name r.0) more ≡ true)

rows_back : (ws : List (List ℕ)) (pending : Option (List ℕ)) (rows out : List (List ℕ × ℕ)) → IsPending pending → rows_from rows pending ws ≡ Some out → RowsOf rows (with_pending pending ws) out
rows_back [] None rows out p h = let same : rows ≡ out = cc in ([], sym same ∙ sym (append-nil rows), refl, refl)
rows_back [] (Some n) rows out p h = absurd (cc)
rows_back (w ∷ ws) None rows out p h =
    let read = bind_back (named w) (λ n. rows_from rows (Some n) ws) out h in
    let name = named_back w read.0 read.1 in
    let rest = rows_back ws (Some read.0) rows out name.1 read.2 in
    (rest.0, rest.1, ap (λ x. x ∷ ws) name.0 ∙ rest.2, rest.3)
rows_back (w ∷ ws) (Some n) rows out p h =
    let read = bind_back (number_of LARGEST_NUMBER w) (λ v. rows_from (rows ++ (n, v) ∷ []) None ws) out h in
    let number = number_back LARGEST_NUMBER w read.0 (omega arith) read.1 in
    let rest = rows_back ws None (rows ++ (n, read.0) ∷ []) out tt read.2 in
    let row : List ℕ × ℕ = (n, read.0) in
    (row ∷ rest.0, rest.1 ∙ append_assoc rows (row ∷ []) rest.0, ap (λ x. n ∷ x ∷ ws) number.0 ∙ ap (λ x. n ∷ decimal read.0 ∷ x) rest.2, and_from _ _ p rest.3)

table_at : (rows t : List (List ℕ × ℕ)) (b : Bool) → is_table rows ≡ b → cond b (Some rows) None ≡ Some t → (rows ≡ t) × (is_table t ≡ true)
table_at rows t true e h = let same : rows ≡ t = cc in (same, subst (λ x. is_table x ≡ true) same e)
table_at rows t false e h = absurd (cc)

table_back : (ws : List (List ℕ)) (t : List (List ℕ × ℕ)) → table_of ws ≡ Some t → (ws ≡ row_words t) × (is_page t ≡ true)
table_back ws t h =
    let read = bind_back (rows_from [] None ws) if_table t h in
    let rows = rows_back ws None [] read.0 tt read.1 in
    let table = table_at read.0 t (is_table read.0) refl read.2 in
    let same : rows.0 ≡ t = sym rows.1 ∙ table.0 in
    (rows.2 ∙ ap row_words same, and_from _ _ table.1 (subst (λ x. list_all (λ r. is_name r.0) x ≡ true) same rows.3))

page_back : (ws : List (List ℕ)) (c : ℕ) (t : List (List ℕ × ℕ)) → client_table ws ≡ Some (c, t) → (ws ≡ decimal c ∷ row_words t) × (is_client c ≡ true) × (is_page t ≡ true)
page_back [] c t h = absurd (cc)
page_back (w ∷ ws) c t h =
    let one = bind_back (count_of LARGEST_CLIENT w) (λ a. table_of ws >>= λ b. Some (a, b)) (c, t) h in
    let other = bind_back (table_of ws) (λ b. Some (one.0, b)) (c, t) one.2 in
    let pair = same_Some (one.0, other.0) (c, t) other.2 in
    let same_client : one.0 ≡ c = ap (λ x. x.0) pair in
    let same_table : other.0 ≡ t = ap (λ x. x.1) pair in
    let client = client_back w c (one.1 ∙ ap Some same_client) in
    let table = table_back ws t (other.1 ∙ ap Some same_table) in
    (ap (λ x. x ∷ ws) client.0 ∙ ap (λ x. decimal c ∷ x) table.0, client.1, table.1)

-- ---- lines by their words

-- the spelling of a line's first word
abbrev word_text : Word → List ℕ
word_text first.Root = codes "root"
word_text first.Edit = codes "edit"
word_text first.Remove = codes "remove"
word_text first.Settle = codes "settle"
word_text first.Connect = codes "connect"
word_text first.Ask = codes "ask"
word_text first.Fetch = codes "fetch"
word_text first.Applied = codes "applied"
word_text first.Aborted = codes "aborted"
word_text first.Invalidate = codes "invalidate"
word_text first.Disconnect = codes "disconnect"
word_text first.Rest = codes "rest"

-- one word tried: it is this one, or a later one
tried : (w : List ℕ) (k x : Word) (rest : Option Word) (t : Bool) → is_text w (word_text k) ≡ t → (rest ≡ Some x → w ≡ word_text x) → cond t (Some k) rest ≡ Some x → w ≡ word_text x
tried w k x rest true e later h = same_text w (word_text k) e ∙ ap word_text (same_Some k x h)
tried w k x rest false e later h = later h

no_word : (w : List ℕ) (x : Word) → None ≡ Some x → w ≡ word_text x
no_word w x h = absurd (cc)

known_back : (w : List ℕ) (x : Word) → known_word w ≡ Some x → w ≡ word_text x
known_back w x =
    tried w first.Root x _ _ refl (
    tried w first.Edit x _ _ refl (
    tried w first.Remove x _ _ refl (
    tried w first.Settle x _ _ refl (
    tried w first.Connect x _ _ refl (
    tried w first.Ask x _ _ refl (
    tried w first.Fetch x _ _ refl (
    tried w first.Applied x _ _ refl (
    tried w first.Aborted x _ _ refl (
    tried w first.Invalidate x _ _ refl (
    tried w first.Disconnect x _ _ refl (
    tried w first.Rest x _ _ refl (no_word w x))))))))))))

-- what is written of what a line says
abbrev pub Written : List ℕ → Said → Type 0
Written line (says.Root n) = (line ≡ codes "root" ++ spaced n) × (is_name n ≡ true)
Written line (says.Event e) = (line ≡ event_line e) × (bare e ≡ e) × (fits_event e ≡ true)
Written line (says.Text p) = (bytes : List ℕ) × (p ≡ piece_of bytes) × (line ≡ 124 ∷ bytes)
Written line (says.Last p) = (b : ℕ) × (bs : List ℕ) × (p ≡ b ∷ bs) × (line ≡ 126 ∷ p)
Written line (says.Reply r) = (line ≡ codes "= " ++ r) × (is_reply r ≡ true)
Written line (says.Rest c t) = (line ≡ codes "rest" ++ spaced_number c ++ rows_text t) × (is_client c ≡ true) × (is_page t ≡ true)

abbrev joined : List (List ℕ) → List ℕ
joined = join_with_byte 32

join_names : (ns : List (List ℕ)) (w : List ℕ) → joined (w ∷ ns) ≡ w ++ names_text ns
join_names [] w = sym (append-nil w)
join_names (n ∷ ns) w = ap (λ x. w ++ 32 ∷ x) (join_names ns n)

join_rows : (rs : List (List ℕ × ℕ)) (w : List ℕ) → joined (w ∷ row_words rs) ≡ w ++ rows_text rs
join_rows [] w = sym (append-nil w)
join_rows (r ∷ rs) w =
    let d = decimal r.1 in
    ap (λ x. w ++ 32 ∷ (r.0 ++ 32 ∷ x)) (join_rows rs d) ∙ ap (λ x. w ++ 32 ∷ x) (sym (append_assoc r.0 (spaced d) (rows_text rs)))

-- a line whose words are these says what it is written of
said_as : (line : List ℕ) (made said : Said) → Written line made → Some made ≡ Some said → Written line said
said_as line made said h e = subst (Written line) (same_Some made said e) h

root_back : (line : List ℕ) (ws : List (List ℕ)) (s : Said) → line ≡ joined (codes "root" ∷ ws) → said_in first.Root ws ≡ Some s → Written line s
root_back line ws s j h =
    let read = bind_back (one_name ws) (λ n. Some (says.Root n)) s h in
    let name = name_back ws read.0 read.1 in
    said_as line (says.Root read.0) s (j ∙ ap (λ x. joined (codes "root" ∷ x)) name.0, name.1) read.2

edit_back : (line : List ℕ) (ws : List (List ℕ)) (s : Said) → line ≡ joined (codes "edit" ∷ ws) → said_in first.Edit ws ≡ Some s → Written line s
edit_back line ws s j h =
    let read = bind_back (one_name ws) (λ n. Some (says.Event (events.Edit n []))) s h in
    let name = name_back ws read.0 read.1 in
    said_as line (says.Event (events.Edit read.0 [])) s (j ∙ ap (λ x. joined (codes "edit" ∷ x)) name.0, refl, name.1) read.2

remove_back : (line : List ℕ) (ws : List (List ℕ)) (s : Said) → line ≡ joined (codes "remove" ∷ ws) → said_in first.Remove ws ≡ Some s → Written line s
remove_back line ws s j h =
    let read = bind_back (one_name ws) (λ n. Some (says.Event (events.Remove n))) s h in
    let name = name_back ws read.0 read.1 in
    said_as line (says.Event (events.Remove read.0)) s (j ∙ ap (λ x. joined (codes "remove" ∷ x)) name.0, refl, name.1) read.2

settle_back : (line : List ℕ) (ws : List (List ℕ)) (s : Said) → line ≡ joined (codes "settle" ∷ ws) → settle ws ≡ Some s → Written line s
settle_back line [] s j h = absurd (cc)
settle_back line (w ∷ []) s j h = absurd (cc)
settle_back line (w ∷ v ∷ []) s j h =
    let a = bind_back (named w) (λ n. count_of largest_count v >>= λ k. Some (says.Event (events.Settle n [] k))) s h in
    let b = bind_back (count_of largest_count v) (λ k. Some (says.Event (events.Settle a.0 [] k))) s a.2 in
    let name = named_back w a.0 a.1 in
    let version = version_back v b.0 b.1 in
    let words_are : line ≡ joined (codes "settle" ∷ a.0 ∷ decimal b.0 ∷ []) = j ∙ (ap (λ x. joined (codes "settle" ∷ x ∷ v ∷ [])) name.0 ∙ ap (λ x. joined (codes "settle" ∷ a.0 ∷ x ∷ [])) version.0) in
    said_as line (says.Event (events.Settle a.0 [] b.0)) s (words_are, refl, and_from _ _ name.1 version.1) b.2
settle_back line (w ∷ v ∷ u ∷ more) s j h = absurd (cc)

connect_back : (line : List ℕ) (ws : List (List ℕ)) (s : Said) → line ≡ joined (codes "connect" ∷ ws) → said_in first.Connect ws ≡ Some s → Written line s
connect_back line ws s j h =
    let read = bind_back (all_named ws) (λ ns. Some (says.Event (events.Connect ns))) s h in
    let names = all_back ws read.0 read.1 in
    said_as line (says.Event (events.Connect read.0)) s (j ∙ (ap (λ x. joined (codes "connect" ∷ x)) names.0 ∙ join_names read.0 (codes "connect")), refl, names.1) read.2

ask_back : (line : List ℕ) (ws : List (List ℕ)) (s : Said) → line ≡ joined (codes "ask" ∷ ws) → said_in first.Ask ws ≡ Some s → Written line s
ask_back line ws s j h =
    let read = bind_back (one_client ws) (λ c. Some (says.Event (events.Ask c))) s h in
    let client = only_client_back ws read.0 read.1 in
    said_as line (says.Event (events.Ask read.0)) s (j ∙ ap (λ x. joined (codes "ask" ∷ x)) client.0, refl, client.1) read.2

aborted_back : (line : List ℕ) (ws : List (List ℕ)) (s : Said) → line ≡ joined (codes "aborted" ∷ ws) → said_in first.Aborted ws ≡ Some s → Written line s
aborted_back line ws s j h =
    let read = bind_back (one_client ws) (λ c. Some (says.Event (events.Aborted c))) s h in
    let client = only_client_back ws read.0 read.1 in
    said_as line (says.Event (events.Aborted read.0)) s (j ∙ ap (λ x. joined (codes "aborted" ∷ x)) client.0, refl, client.1) read.2

disconnect_back : (line : List ℕ) (ws : List (List ℕ)) (s : Said) → line ≡ joined (codes "disconnect" ∷ ws) → said_in first.Disconnect ws ≡ Some s → Written line s
disconnect_back line ws s j h =
    let read = bind_back (one_client ws) (λ c. Some (says.Event (events.Disconnect c))) s h in
    let client = only_client_back ws read.0 read.1 in
    said_as line (says.Event (events.Disconnect read.0)) s (j ∙ ap (λ x. joined (codes "disconnect" ∷ x)) client.0, refl, client.1) read.2

fetch_back : (line : List ℕ) (ws : List (List ℕ)) (s : Said) → line ≡ joined (codes "fetch" ∷ ws) → fetch ws ≡ Some s → Written line s
fetch_back line [] s j h = absurd (cc)
fetch_back line (w ∷ []) s j h = absurd (cc)
fetch_back line (w ∷ v ∷ []) s j h =
    let a = bind_back (count_of LARGEST_CLIENT w) (λ c. named v >>= λ n. Some (says.Event (events.Fetch c n))) s h in
    let b = bind_back (named v) (λ n. Some (says.Event (events.Fetch a.0 n))) s a.2 in
    let client = client_back w a.0 a.1 in
    let name = named_back v b.0 b.1 in
    let words_are : line ≡ joined (codes "fetch" ∷ decimal a.0 ∷ b.0 ∷ []) = j ∙ (ap (λ x. joined (codes "fetch" ∷ x ∷ v ∷ [])) client.0 ∙ ap (λ x. joined (codes "fetch" ∷ decimal a.0 ∷ x ∷ [])) name.0) in
    said_as line (says.Event (events.Fetch a.0 b.0)) s (words_are, refl, and_from _ _ client.1 name.1) b.2
fetch_back line (w ∷ v ∷ u ∷ more) s j h = absurd (cc)

invalidate_back : (line : List ℕ) (ws : List (List ℕ)) (s : Said) → line ≡ joined (codes "invalidate" ∷ ws) → invalidate ws ≡ Some s → Written line s
invalidate_back line [] s j h = absurd (cc)
invalidate_back line (w ∷ []) s j h = absurd (cc)
invalidate_back line (w ∷ v ∷ []) s j h = absurd (cc)
invalidate_back line (w ∷ v ∷ u ∷ []) s j h =
    let a = bind_back (count_of LARGEST_CLIENT w) (λ c. named v >>= λ n. count_of largest_count u >>= λ k. Some (says.Event (events.Invalidate c n k))) s
    h in
    let b = bind_back (named v) (λ n. count_of largest_count u >>= λ k. Some (says.Event (events.Invalidate a.0 n k))) s a.2 in
    let c = bind_back (count_of largest_count u) (λ k. Some (says.Event (events.Invalidate a.0 b.0 k))) s b.2 in
    let client = client_back w a.0 a.1 in
    let name = named_back v b.0 b.1 in
    let version = version_back u c.0 c.1 in
    let words_are : line ≡ joined (codes "invalidate" ∷ decimal a.0 ∷ b.0 ∷ decimal c.0 ∷ []) =
    j ∙ (ap (λ x. joined (codes "invalidate" ∷ x ∷ v ∷ u ∷ [])) client.0
    ∙ (ap (λ x. joined (codes "invalidate" ∷ decimal a.0 ∷ x ∷ u ∷ [])) name.0 ∙ ap (λ x. joined (codes "invalidate" ∷ decimal a.0 ∷ b.0 ∷ x ∷ [])) version.0)) in
    let line_is = words_are ∙ ap (λ x. codes "invalidate" ++ 32 ∷ x) (sym (append_assoc (decimal a.0) (spaced b.0) (spaced_number c.0))) in
    said_as line (says.Event (events.Invalidate a.0 b.0 c.0)) s (line_is, refl, and_from _ _ (and_from _ _ client.1 name.1) version.1) c.2
invalidate_back line (w ∷ v ∷ u ∷ x ∷ more) s j h = absurd (cc)

applied_back : (line : List ℕ) (ws : List (List ℕ)) (s : Said) → line ≡ joined (codes "applied" ∷ ws) → said_in first.Applied ws ≡ Some s → Written line s
applied_back line ws s j h =
    let read = bind_back (client_table ws) (λ t. Some (says.Event (events.Applied t.0 t.1))) s h in
    let page = page_back ws read.0.0 read.0.1 read.1 in
    let line_is = j ∙ (ap (λ x. joined (codes "applied" ∷ x)) page.0 ∙ ap (λ x. codes "applied" ++ 32 ∷ x) (join_rows read.0.1 (decimal read.0.0))) in
    said_as line (says.Event (events.Applied read.0.0 read.0.1)) s (line_is, refl, and_from _ _ page.1 page.2) read.2

rest_back : (line : List ℕ) (ws : List (List ℕ)) (s : Said) → line ≡ joined (codes "rest" ∷ ws) → said_in first.Rest ws ≡ Some s → Written line s
rest_back line ws s j h =
    let read = bind_back (client_table ws) (λ t. Some (says.Rest t.0 t.1)) s h in
    let page = page_back ws read.0.0 read.0.1 read.1 in
    let line_is = j ∙ (ap (λ x. joined (codes "rest" ∷ x)) page.0 ∙ ap (λ x. codes "rest" ++ 32 ∷ x) (join_rows read.0.1 (decimal read.0.0))) in
    said_as line (says.Rest read.0.0 read.0.1) s (line_is, page.1, page.2) read.2

in_back : (line : List ℕ) (k : Word) (ws : List (List ℕ)) (s : Said) → line ≡ joined (word_text k ∷ ws) → said_in k ws ≡ Some s → Written line s
in_back line first.Root ws s j h = root_back line ws s j h
in_back line first.Edit ws s j h = edit_back line ws s j h
in_back line first.Remove ws s j h = remove_back line ws s j h
in_back line first.Settle ws s j h = settle_back line ws s j h
in_back line first.Connect ws s j h = connect_back line ws s j h
in_back line first.Ask ws s j h = ask_back line ws s j h
in_back line first.Fetch ws s j h = fetch_back line ws s j h
in_back line first.Applied ws s j h = applied_back line ws s j h
in_back line first.Aborted ws s j h = aborted_back line ws s j h
in_back line first.Invalidate ws s j h = invalidate_back line ws s j h
in_back line first.Disconnect ws s j h = disconnect_back line ws s j h
in_back line first.Rest ws s j h = rest_back line ws s j h

by_back : (line : List ℕ) (ws : List (List ℕ)) (s : Said) → line ≡ joined ws → said_by ws ≡ Some s → Written line s
by_back line [] s j h = absurd (cc)
by_back line (w ∷ ws) s j h =
    let read = bind_back (known_word w) (λ k. said_in k ws) s h in
    in_back line read.0 ws s (j ∙ ap (λ x. joined (x ∷ ws)) (known_back w read.0 read.1)) read.2

-- ---- lines

last_back : (line bs : List ℕ) (s : Said) → line ≡ 126 ∷ bs → last_piece bs ≡ Some s → Written line s
last_back line [] s j h = absurd (cc)
last_back line (b ∷ bs) s j h = said_as line (says.Last (b ∷ bs)) s (b, bs, refl, j) h

reply_at : (line bs : List ℕ) (s : Said) (t : Bool) → is_reply bs ≡ t → line ≡ codes "= " ++ bs → cond t (Some (says.Reply bs)) None ≡ Some s → Written line s
reply_at line bs s true e j h = said_as line (says.Reply bs) s (j, e) h
reply_at line bs s false e j h = absurd (cc)

spaced_at : (line : List ℕ) (b : ℕ) (bs : List ℕ) (s : Said) (t : Bool) → (b == 32) ≡ t → line ≡ 61 ∷ b ∷ bs → cond t (cond (is_reply bs) (Some (says.Reply bs)) None) None ≡ Some s → Written line s
spaced_at line b bs s true e j h =
    let space : b ≡ 32 = grind (arith, nat_tests, e) in
    reply_at line bs s (is_reply bs) refl (j ∙ ap (λ x. 61 ∷ x ∷ bs) space) h
spaced_at line b bs s false e j h = absurd (cc)

reply_back : (line bs : List ℕ) (s : Said) → line ≡ 61 ∷ bs → reply_said bs ≡ Some s → Written line s
reply_back line [] s j h = absurd (cc)
reply_back line (b ∷ bs) s j h = spaced_at line b bs s (b == 32) refl j h

at_equals : (b : ℕ) (bs : List ℕ) (s : Said) (t : Bool) → (b == 61) ≡ t → cond t (reply_said bs) (said_by (words (b ∷ bs))) ≡ Some s → Written (b ∷ bs) s
at_equals b bs s true e h = let is : b ≡ 61 = grind (arith, nat_tests, e) in reply_back (b ∷ bs) bs s (ap (λ x. x ∷ bs) is) h
at_equals b bs s false e h = by_back (b ∷ bs) (words (b ∷ bs)) s (sym (join_with_byte-slice_split 32 (b ∷ bs))) h

at_tilde : (b : ℕ) (bs : List ℕ) (s : Said) (t : Bool) → (b == 126) ≡ t → cond t (last_piece bs) (cond (b == 61) (reply_said bs) (said_by (words (b ∷ bs)))) ≡ Some s → Written (b ∷ bs) s
at_tilde b bs s true e h = let is : b ≡ 126 = grind (arith, nat_tests, e) in last_back (b ∷ bs) bs s (ap (λ x. x ∷ bs) is) h
at_tilde b bs s false e h = at_equals b bs s (b == 61) refl h

at_bar : (b : ℕ) (bs : List ℕ) (s : Said) (t : Bool) → (b == 124) ≡ t
    → cond t (Some (says.Text (piece_of bs))) (cond (b == 126) (last_piece bs) (cond (b == 61) (reply_said bs) (said_by (words (b ∷ bs))))) ≡ Some s → Written (b ∷ bs) s
at_bar b bs s true e h = let is : b ≡ 124 = grind (arith, nat_tests, e) in said_as (b ∷ bs) (says.Text (piece_of bs)) s (bs, refl, ap (λ x. x ∷ bs) is) h
at_bar b bs s false e h = at_tilde b bs s (b == 126) refl h

-- a line that says something is the line that is written of it
pub said_back : (line : List ℕ) (s : Said) → said_of line ≡ Some s → Written line s
said_back [] s h = absurd (cc)
said_back (b ∷ bs) s h = at_bar b bs s (b == 124) refl h
