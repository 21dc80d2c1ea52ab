-- The line of each command, as it is spelled, says that command.
use Rattle.std.proofs.Common.{◌⊎◌, inl, inr, ℕ, ◌^◌, ◌<◌, ◌≤◌, List, [], ◌∷◌, ◌++◌, length, true, false, ◌≡◌, refl, sym, ap, subst, ◌∙◌, arith, append_assoc, Ok}
use Rattle.std.specs.Prelude.{◌==◌, ◌&&◌, codes, decimal, not, nat_lt, nat_le, Some}
use Rattle.std.specs.List.{All, list_all}
use Rattle.std.specs.Str.{is_utf8, IsUtf8, chars}
use lib.Utf8.{encode}
use Rattle.std.proofs.lemmas.Bool.{and_parts}
use Rattle.std.proofs.lemmas.Bool.Decides.{nat_tests}
use Rattle.std.proofs.lemmas.List.{append-nil, length-append}
use Rattle.std.proofs.lemmas.List.Elements.{All-cons}
use Rattle.std.proofs.lemmas.List.Splits.{slice_split_at, slice_split_none}
use Rattle.std.proofs.lemmas.Fmt.{IsAscii-decimal, length-decimal-le}
use Rattle.std.proofs.lemmas.Str.{IsUtf8-append, IsUtf8-from_ascii, IsUtf8-from_is_utf8, is_utf8-from_IsUtf8}
use Rattle.hmr_types.specs.Event.{event_module, event_of, is_event, is_event_module}
use Rattle.hmr_types.specs.ModName.{is_name, is_segment, parts, slash}
use Rattle.hmr_types.proofs.Events.{event_of-is, is_event-IsUtf8}
use Rattle.hmr_types.specs.declared.limits.TheConstants.{LARGEST_CLIENT, LARGEST_NUMBER}
use Rattle.hmr_types.proofs.Names.{is_name-IsUtf8}
use Rattle.play_script.specs.declared.script_line.ScriptLine.{ScriptLine}
use Rattle.play_script.specs.declared.script_line.ScriptLine.TheVariants as lines
use Rattle.play_script.specs.declared.words.Said.{Said}
use Rattle.play_script.specs.declared.words.Said.TheVariants as says
use Rattle.play_script.specs.Texts.{event_text, names_text, spaced, spaced_number}
use Rattle.play_script.specs.Script.{is_text_value, line_said, lines_from, number, said, whole_line, words}
use Rattle.play_script.specs.Spelling.{command_text, fits, in_range, is_opening, is_word_value, is_writable, open_word}
use Rattle.play_script.proofs.SpelledNames.{has_no_lf, no_space-event, no_space-name}
use Rattle.play_script.proofs.SpelledNumbers.{no_space-decimal, number-decimal}

-- what the line of a command says
abbrev pub said_of : ScriptLine → Said
said_of (lines.Edit name text) = says.Edit name
said_of line = says.Command line

-- what the last word of a line has
abbrev Word : List ℕ → Type 0
Word w = IsUtf8 w × (length w ≤ 4096) × All (λ b. (b == 32) ≡ false) w

short : (b : ℕ) (bs : List ℕ) → is_name (b ∷ bs) ≡ true → length (b ∷ bs) ≤ 255
short b bs h =
    let tests = and_parts ((b == slash) && nat_le (length (b ∷ bs)) 255) (list_all is_segment (parts bs)) h in
    let here = and_parts (b == slash) (nat_le (length (b ∷ bs)) 255) tests.0 in
    grind (arith, nat_tests, here.1)

name_word : (name : List ℕ) → is_name name ≡ true → Word name
name_word [] h = absurd (cc)
name_word (b ∷ bs) h = (is_name-IsUtf8 (b ∷ bs) h, omega (arith, short b bs h), no_space-name (b ∷ bs) h)

pub in_range-parts : (most n : ℕ) → in_range most n ≡ true → (0 < n) × (n ≤ most)
in_range-parts most n h = let here = and_parts (nat_lt 0 n) (nat_le n most) h in (grind (arith, nat_tests), grind (arith, nat_tests))

number_word : (n : ℕ) → n < 2 ^ 64 → Word (decimal n)
number_word n h =
    let short : length (decimal n) ≤ 20 = length-decimal-le 20 n (omega arith) (omega arith) h in
    (IsUtf8-from_ascii (decimal n) (IsAscii-decimal n h), omega arith, no_space-decimal n h)

alone : (w : List ℕ) → Word w → words w ≡ w ∷ []
alone w h = slice_split_none (λ b. b == 32) w h.2

before : (w rest : List ℕ) → Word w → words (w ++ 32 ∷ rest) ≡ w ∷ words rest
before w rest h = slice_split_at (λ b. b == 32) w 32 rest h.2 refl

-- a word, and names behind it
words_of_names : (names : List (List ℕ)) (w : List ℕ) → All (λ b. (b == 32) ≡ false) w → list_all is_name names ≡ true → words (w ++ names_text names) ≡ w ∷ names
words_of_names [] w h all = ap words (append-nil w) ∙ slice_split_none (λ b. b == 32) w h
words_of_names (n ∷ ns) w h all =
    let here = and_parts (is_name n) (list_all is_name ns) all in
    slice_split_at (λ b. b == 32) w 32 (n ++ names_text ns) h refl ∙ ap (λ ws. w ∷ ws) (words_of_names ns n (no_space-name n here.0) here.1)

space_is : is_utf8 (codes " ") ≡ true
unfolding is_utf8 chars encode
space_is = refl

space_utf8 : IsUtf8 (codes " ")
space_utf8 = IsUtf8-from_is_utf8 (codes " ") space_is

bar_is : is_utf8 (codes "|") ≡ true
unfolding is_utf8 chars encode
bar_is = refl

pub bar_utf8 : (bytes : List ℕ) → IsUtf8 bytes → IsUtf8 (codes "|" ++ bytes)
bar_utf8 bytes h = IsUtf8-append (codes "|") bytes (IsUtf8-from_is_utf8 (codes "|") bar_is) h

-- the line says this, wherever it stands
abbrev pub Says : List ℕ → Said → Type 0
Says line s = (line_said line true ≡ Ok s) × (whole_line line ≡ Ok s)

-- a line of words says what its words say
of_words : (b : ℕ) (bs : List ℕ) (s : Said) → IsUtf8 (b ∷ bs) → length (b ∷ bs) ≤ 65535 → (b == 35) ≡ false → (b == 124) ≡ false → said (words (b ∷ bs)) ≡ Ok s → Says (b ∷ bs) s
of_words b bs s text few hash bar e =
    let utf8 = is_utf8-from_IsUtf8 (b ∷ bs) text in
    let long : nat_lt 65535 (length (b ∷ bs)) ≡ false = grind (arith, nat_tests) in
    (rw (utf8, long, hash, bar, e) refl, rw (hash, bar, e) refl)

one_utf8 : (first w : List ℕ) → IsUtf8 first → Word w → IsUtf8 (first ++ spaced w)
one_utf8 first w f h = IsUtf8-append first (spaced w) f (IsUtf8-append (codes " ") w space_utf8 h.0)

two_utf8 : (first v w : List ℕ) → IsUtf8 first → Word v → Word w → IsUtf8 (first ++ spaced v ++ spaced w)
two_utf8 first v w f g h = IsUtf8-append (first ++ spaced v) (spaced w) (one_utf8 first v f g) (IsUtf8-append (codes " ") w space_utf8 h.0)

names_utf8 : (names : List (List ℕ)) (first : List ℕ) → IsUtf8 first → list_all is_name names ≡ true → IsUtf8 (first ++ names_text names)
names_utf8 [] first f all = subst IsUtf8 (sym (append-nil first)) f
names_utf8 (n ∷ ns) first f all =
    let here = and_parts (is_name n) (list_all is_name ns) all in
    subst IsUtf8 (append_assoc first (spaced n) (names_text ns)) (names_utf8 ns (first ++ spaced n) (one_utf8 first n f (name_word n here.0)) here.1)

one_few : (first w : List ℕ) → length first ≤ 20 → Word w → length (first ++ spaced w) ≤ 65535
one_few first w f h = omega (arith, f, h.1, length-append first (spaced w), length-append (codes " ") w)

two_few : (first v w : List ℕ) → length first ≤ 20 → Word v → Word w → length (first ++ spaced v ++ spaced w) ≤ 65535
two_few first v w f g h = omega (arith, f, g.1, h.1, length-append (first ++ spaced v) (spaced w), length-append first (spaced v), length-append (codes " ") v, length-append (codes " ") w)

client_word : (n : ℕ) → in_range LARGEST_CLIENT n ≡ true → Word (decimal n)
client_word n h = let here = in_range-parts LARGEST_CLIENT n h in number_word n (omega (arith, here.1))

client_read : (n : ℕ) → in_range LARGEST_CLIENT n ≡ true → number LARGEST_CLIENT (decimal n) ≡ Ok n
client_read n h = let here = in_range-parts LARGEST_CLIENT n h in number-decimal LARGEST_CLIENT n (omega arith) here.0 here.1

version_word : (n : ℕ) → in_range LARGEST_NUMBER n ≡ true → Word (decimal n)
version_word n h = let here = in_range-parts LARGEST_NUMBER n h in number_word n (omega (arith, here.1))

version_read : (n : ℕ) → in_range LARGEST_NUMBER n ≡ true → number LARGEST_NUMBER (decimal n) ≡ Ok n
version_read n h = let here = in_range-parts LARGEST_NUMBER n h in number-decimal LARGEST_NUMBER n (omega arith) here.0 here.1

pub root_said : (name : List ℕ) → is_name name ≡ true → said (words (codes "root" ++ spaced name)) ≡ Ok (says.Root name)
root_said name h =
    let last : said (codes "root" ∷ name ∷ []) ≡ Ok (says.Root name) = rw h refl in
    ap (λ ws. said (codes "root" ∷ ws)) (alone name (name_word name h)) ∙ last

edit_said : (name : List ℕ) → is_name name ≡ true → said (words (codes "edit" ++ spaced name)) ≡ Ok (says.Edit name)
edit_said name h =
    let last : said (codes "edit" ∷ name ∷ []) ≡ Ok (says.Edit name) = rw h refl in
    ap (λ ws. said (codes "edit" ∷ ws)) (alone name (name_word name h)) ∙ last

remove_said : (name : List ℕ) → is_name name ≡ true → said (words (codes "remove" ++ spaced name)) ≡ Ok (says.Command (lines.Remove name))
remove_said name h =
    let last : said (codes "remove" ∷ name ∷ []) ≡ Ok (says.Command (lines.Remove name)) = rw h refl in
    ap (λ ws. said (codes "remove" ∷ ws)) (alone name (name_word name h)) ∙ last

settle_said : (name : List ℕ) (n : ℕ) → is_name name ≡ true → in_range LARGEST_NUMBER n ≡ true → said (words (codes "settle" ++ spaced name ++ spaced_number n)) ≡ Ok (says.Command (lines.Settle name n))
settle_said name n h r =
    let read = version_read n r in
    let last : said (codes "settle" ∷ name ∷ decimal n ∷ []) ≡ Ok (says.Command (lines.Settle name n)) = rw (h, read) refl in
    ap (λ ws. said (codes "settle" ∷ ws)) (before name (decimal n) (name_word name h) ∙ ap (λ ws. name ∷ ws) (alone (decimal n) (version_word n r)))
    ∙ last

turns_said : (c k : ℕ) → in_range LARGEST_CLIENT c ≡ true → in_range LARGEST_CLIENT k ≡ true → said (words (codes "turns" ++ spaced_number c ++ spaced_number k)) ≡ Ok (says.Command (lines.Turns c k))
turns_said c k h r =
    let first = client_read c h in
    let second = client_read k r in
    let last : said (codes "turns" ∷ decimal c ∷ decimal k ∷ []) ≡ Ok (says.Command (lines.Turns c k)) = rw (first, second) refl in
    ap (λ ws. said (codes "turns" ∷ ws)) (before (decimal c) (decimal k) (client_word c h) ∙ ap (λ ws. decimal c ∷ ws) (alone (decimal k) (client_word k r)))
    ∙ last

hear_said : (n : ℕ) → in_range LARGEST_CLIENT n ≡ true → said (words (codes "hear" ++ spaced_number n)) ≡ Ok (says.Command (lines.Hear n))
hear_said n h =
    let read = client_read n h in
    let last : said (codes "hear" ∷ decimal n ∷ []) ≡ Ok (says.Command (lines.Hear n)) = rw read refl in
    ap (λ ws. said (codes "hear" ∷ ws)) (alone (decimal n) (client_word n h)) ∙ last

close_said : (n : ℕ) → in_range LARGEST_CLIENT n ≡ true → said (words (codes "close" ++ spaced_number n)) ≡ Ok (says.Command (lines.Close n))
close_said n h =
    let read = client_read n h in
    let last : said (codes "close" ∷ decimal n ∷ []) ≡ Ok (says.Command (lines.Close n)) = rw read refl in
    ap (λ ws. said (codes "close" ∷ ws)) (alone (decimal n) (client_word n h)) ∙ last

turn_said : (n : ℕ) → in_range LARGEST_CLIENT n ≡ true → said (words (codes "turn" ++ spaced_number n)) ≡ Ok (says.Command (lines.Turn n))
turn_said n h =
    let read = client_read n h in
    let last : said (codes "turn" ∷ decimal n ∷ []) ≡ Ok (says.Command (lines.Turn n)) = rw read refl in
    ap (λ ws. said (codes "turn" ∷ ws)) (alone (decimal n) (client_word n h)) ∙ last

show_said : (n : ℕ) → in_range LARGEST_CLIENT n ≡ true → said (words (codes "show" ++ spaced_number n)) ≡ Ok (says.Command (lines.Show n))
show_said n h =
    let read = client_read n h in
    let last : said (codes "show" ∷ decimal n ∷ []) ≡ Ok (says.Command (lines.Show n)) = rw read refl in
    ap (λ ws. said (codes "show" ∷ ws)) (alone (decimal n) (client_word n h)) ∙ last

values_said : (n : ℕ) → in_range LARGEST_CLIENT n ≡ true → said (words (codes "values" ++ spaced_number n)) ≡ Ok (says.Command (lines.Values n))
values_said n h =
    let read = client_read n h in
    let last : said (codes "values" ∷ decimal n ∷ []) ≡ Ok (says.Command (lines.Values n)) = rw read refl in
    ap (λ ws. said (codes "values" ∷ ws)) (alone (decimal n) (client_word n h)) ∙ last

fates_said : (n : ℕ) → in_range LARGEST_CLIENT n ≡ true → said (words (codes "fates" ++ spaced_number n)) ≡ Ok (says.Command (lines.Fates n))
fates_said n h =
    let read = client_read n h in
    let last : said (codes "fates" ∷ decimal n ∷ []) ≡ Ok (says.Command (lines.Fates n)) = rw read refl in
    ap (λ ws. said (codes "fates" ∷ ws)) (alone (decimal n) (client_word n h)) ∙ last

fresh_said : (n : ℕ) → in_range LARGEST_CLIENT n ≡ true → said (words (codes "fresh" ++ spaced_number n)) ≡ Ok (says.Command (lines.FreshOf n))
fresh_said n h =
    let read = client_read n h in
    let last : said (codes "fresh" ∷ decimal n ∷ []) ≡ Ok (says.Command (lines.FreshOf n)) = rw read refl in
    ap (λ ws. said (codes "fresh" ∷ ws)) (alone (decimal n) (client_word n h)) ∙ last

pub root_says : (name : List ℕ) → is_name name ≡ true → Says (codes "root" ++ spaced name) (says.Root name)
unfolding is_utf8 chars encode
root_says name h = let w = name_word name h in of_words 114 (codes "oot" ++ spaced name) (says.Root name) (one_utf8 (codes "root") name (IsUtf8-from_is_utf8 (codes "root") refl) w) (one_few (codes "root") name (omega arith) w) refl refl (root_said name h)

-- the parts of an opening that has a spelling
pub record Opening (format : ℕ) (roots : List (List ℕ)) : Type 0 where
  pub formats : (format ≡ 1) ⊎ (format ≡ 2)
  pub names : list_all is_name roots ≡ true
  pub few : length (open_word format ++ names_text roots) ≤ 65535

one_or_two : (format : ℕ) → in_range 2 format ≡ true → (format ≡ 1) ⊎ (format ≡ 2)
one_or_two format h = let here = in_range-parts 2 format h in grind (arith, here.0, here.1)

pub opening_parts : (format : ℕ) (roots : List (List ℕ)) → is_opening format roots ≡ true → Opening format roots
opening_parts format roots h =
    let all = and_parts (in_range 2 format && list_all is_name roots) (nat_le (length (open_word format ++ names_text roots)) 65535) h in
    let both = and_parts (in_range 2 format) (list_all is_name roots) all.0 in
    record {
      formats = one_or_two format both.0;
      names = both.1;
      few = grind (arith, nat_tests, all.1);
    }

no_space_bytes : (bs : List ℕ) → list_all (λ b. not (b == 32)) bs ≡ true → All (λ b. (b == 32) ≡ false) bs
no_space_bytes [] h = λ k d lt. absurd (omega arith)
no_space_bytes (b ∷ bs) h =
    let here = and_parts (not (b == 32)) (list_all (λ b. not (b == 32)) bs) h in
    All-cons (λ x. (x == 32) ≡ false) b bs (grind (arith, nat_tests, here.0)) (no_space_bytes bs here.1)

event_is : (name : List ℕ) → is_event_module name ≡ true → event_of name ≡ Some (event_text name)
event_is name h = rw h refl

event_short : (event : List ℕ) → is_event event ≡ true → length event ≤ 4096
event_short event h = let few = (and_parts (nat_le (length event) 64) _ h).0 in grind (arith, nat_tests, few)

event_word : (name : List ℕ) → is_event_module name ≡ true → Word (event_text name)
event_word name h =
    let event = (event_of-is name (event_text name) (event_is name h)).1 in
    (is_event-IsUtf8 (event_text name) event, event_short (event_text name) event, no_space-event name h)

-- the parts of a text that is one word
pub record OneWord (text : List ℕ) : Type 0 where
  pub value : is_text_value text ≡ true
  pub spaces : list_all (λ b. not (b == 32)) text ≡ true
  pub line_ends : has_no_lf text ≡ true

pub word_parts : (text : List ℕ) → is_word_value text ≡ true → OneWord text
word_parts text h =
    let all = and_parts (is_text_value text && list_all (λ b. not (b == 32)) text) (has_no_lf text) h in
    let both = and_parts (is_text_value text) (list_all (λ b. not (b == 32)) text) all.0 in
    record { value = both.0; spaces = both.1; line_ends = all.1 }

value_word : (text : List ℕ) → is_word_value text ≡ true → Word text
value_word text h =
    let parts = word_parts text h in
    let both = and_parts (is_utf8 text) (nat_le (length text) 4096) parts.value in
    (IsUtf8-from_is_utf8 text both.0, grind (arith, nat_tests, both.1), no_space_bytes text parts.spaces)

emit_read : (event text : List ℕ) → is_event event ≡ true → is_text_value text ≡ true → said (codes "emit" ∷ event ∷ text ∷ []) ≡ Ok (says.Command (lines.Emit (event_module event) text))
emit_read event text e v = rw (e, v) refl

emit_said : (name text : List ℕ) → is_event_module name ≡ true → is_word_value text ≡ true → said (words (codes "emit" ++ spaced (event_text name) ++ spaced text)) ≡ Ok (says.Command (lines.Emit name text))
emit_said name text h v =
    let event = event_of-is name (event_text name) (event_is name h) in
    ap (λ ws. said (codes "emit" ∷ ws)) (before (event_text name) text (event_word name h) ∙ ap (λ ws. event_text name ∷ ws) (alone text (value_word text v)))
    ∙ (emit_read (event_text name) text event.1 (word_parts text v).value ∙ ap (λ n. Ok (says.Command (lines.Emit n text))) event.0)

-- an opening with these names, where its line isn't too long, says that opening
abbrev SaysOpening : List (List ℕ) → ℕ → Type 0
SaysOpening roots format =
    length (open_word format ++ names_text roots) ≤ 65535
    → Says (open_word format ++ names_text roots) (says.Command (lines.Open format roots))

open_says : (roots : List (List ℕ)) → list_all is_name roots ≡ true → SaysOpening roots 1
unfolding is_utf8 chars encode
open_says roots all few =
    let utf8 = names_utf8 roots (codes "open") (IsUtf8-from_is_utf8 (codes "open") refl) all in
    let whole = words_of_names roots (codes "open") (no_space_bytes (codes "open") refl) all in
    let last : said (codes "open" ∷ roots) ≡ Ok (says.Command (lines.Open 1 roots)) = rw all refl in
    of_words 111 (codes "pen" ++ names_text roots) (says.Command (lines.Open 1 roots)) utf8 few refl refl (ap said whole ∙ last)

open2_says : (roots : List (List ℕ)) → list_all is_name roots ≡ true → SaysOpening roots 2
unfolding is_utf8 chars encode
open2_says roots all few =
    let utf8 = names_utf8 roots (codes "open2") (IsUtf8-from_is_utf8 (codes "open2") refl) all in
    let whole = words_of_names roots (codes "open2") (no_space_bytes (codes "open2") refl) all in
    let last : said (codes "open2" ∷ roots) ≡ Ok (says.Command (lines.Open 2 roots)) = rw all refl in
    of_words 111 (codes "pen2" ++ names_text roots) (says.Command (lines.Open 2 roots)) utf8 few refl refl (ap said whole ∙ last)

by_format : (format : ℕ) (roots : List (List ℕ)) → (format ≡ 1) ⊎ (format ≡ 2) → list_all is_name roots ≡ true → SaysOpening roots format
by_format format roots (inl e) all = subst (SaysOpening roots) (sym e) (open_says roots all)
by_format format roots (inr e) all = subst (SaysOpening roots) (sym e) (open2_says roots all)

opening_says : (format : ℕ) (roots : List (List ℕ)) → is_opening format roots ≡ true → Says (open_word format ++ names_text roots) (says.Command (lines.Open format roots))
opening_says format roots h = let parts = opening_parts format roots h in by_format format roots parts.formats parts.names parts.few

-- a command's line says that command
pub command_says : (line : ScriptLine) → is_writable line ≡ true → Says (command_text line) (said_of line)
unfolding is_utf8 chars encode
command_says lines.Quiet h = of_words 113 (codes "uiet") (says.Command lines.Quiet) (IsUtf8-from_is_utf8 (codes "quiet") refl) (omega arith) refl refl refl
command_says (lines.Edit name text) h = let n = (and_parts (is_name name) (list_all fits (lines_from [] text)) h).0 in let w = name_word name n in of_words 101 (codes "dit" ++ spaced name) (says.Edit name) (one_utf8 (codes "edit") name (IsUtf8-from_is_utf8 (codes "edit") refl) w) (one_few (codes "edit") name (omega arith) w) refl refl (edit_said name n)
command_says (lines.Remove name) h = let w = name_word name h in of_words 114 (codes "emove" ++ spaced name) (says.Command (lines.Remove name)) (one_utf8 (codes "remove") name (IsUtf8-from_is_utf8 (codes "remove") refl) w) (one_few (codes "remove") name (omega arith) w) refl refl (remove_said name h)
command_says lines.SettleAll h = of_words 115 (codes "ettle") (says.Command lines.SettleAll) (IsUtf8-from_is_utf8 (codes "settle") refl) (omega arith) refl refl refl
command_says (lines.Settle name n) h = let both = and_parts (is_name name) (in_range LARGEST_NUMBER n) h in let v = name_word name both.0 in let w = version_word n both.1 in of_words 115 (codes "ettle" ++ spaced name ++ spaced_number n) (says.Command (lines.Settle name n)) (two_utf8 (codes "settle") name (decimal n) (IsUtf8-from_is_utf8 (codes "settle") refl) v w) (two_few (codes "settle") name (decimal n) (omega arith) v w) refl refl (settle_said name n both.0 both.1)
command_says (lines.Open format roots) h = opening_says format roots h
command_says (lines.Close n) h = let w = client_word n h in of_words 99 (codes "lose" ++ spaced_number n) (says.Command (lines.Close n)) (one_utf8 (codes "close") (decimal n) (IsUtf8-from_is_utf8 (codes "close") refl) w) (one_few (codes "close") (decimal n) (omega arith) w) refl refl (close_said n h)
command_says (lines.Turn n) h = let w = client_word n h in of_words 116 (codes "urn" ++ spaced_number n) (says.Command (lines.Turn n)) (one_utf8 (codes "turn") (decimal n) (IsUtf8-from_is_utf8 (codes "turn") refl) w) (one_few (codes "turn") (decimal n) (omega arith) w) refl refl (turn_said n h)
command_says (lines.Turns c k) h = let both = and_parts (in_range LARGEST_CLIENT c) (in_range LARGEST_CLIENT k) h in let v = client_word c both.0 in let w = client_word k both.1 in of_words 116 (codes "urns" ++ spaced_number c ++ spaced_number k) (says.Command (lines.Turns c k)) (two_utf8 (codes "turns") (decimal c) (decimal k) (IsUtf8-from_is_utf8 (codes "turns") refl) v w) (two_few (codes "turns") (decimal c) (decimal k) (omega arith) v w) refl refl (turns_said c k both.0 both.1)
command_says (lines.Emit event text) h = let both = and_parts (is_event_module event) (is_word_value text) h in let v = event_word event both.0 in let w = value_word text both.1 in of_words 101 (codes "mit" ++ spaced (event_text event) ++ spaced text) (says.Command (lines.Emit event text)) (two_utf8 (codes "emit") (event_text event) text (IsUtf8-from_is_utf8 (codes "emit") refl) v w) (two_few (codes "emit") (event_text event) text (omega arith) v w) refl refl (emit_said event text both.0 both.1)
command_says (lines.Hear n) h = let w = client_word n h in of_words 104 (codes "ear" ++ spaced_number n) (says.Command (lines.Hear n)) (one_utf8 (codes "hear") (decimal n) (IsUtf8-from_is_utf8 (codes "hear") refl) w) (one_few (codes "hear") (decimal n) (omega arith) w) refl refl (hear_said n h)
command_says (lines.Show n) h = let w = client_word n h in of_words 115 (codes "how" ++ spaced_number n) (says.Command (lines.Show n)) (one_utf8 (codes "show") (decimal n) (IsUtf8-from_is_utf8 (codes "show") refl) w) (one_few (codes "show") (decimal n) (omega arith) w) refl refl (show_said n h)
command_says (lines.Values n) h = let w = client_word n h in of_words 118 (codes "alues" ++ spaced_number n) (says.Command (lines.Values n)) (one_utf8 (codes "values") (decimal n) (IsUtf8-from_is_utf8 (codes "values") refl) w) (one_few (codes "values") (decimal n) (omega arith) w) refl refl (values_said n h)
command_says (lines.Fates n) h = let w = client_word n h in of_words 102 (codes "ates" ++ spaced_number n) (says.Command (lines.Fates n)) (one_utf8 (codes "fates") (decimal n) (IsUtf8-from_is_utf8 (codes "fates") refl) w) (one_few (codes "fates") (decimal n) (omega arith) w) refl refl (fates_said n h)
command_says lines.Fresh h = of_words 102 (codes "resh") (says.Command lines.Fresh) (IsUtf8-from_is_utf8 (codes "fresh") refl) (omega arith) refl refl refl
command_says (lines.FreshOf n) h = let w = client_word n h in of_words 102 (codes "resh" ++ spaced_number n) (says.Command (lines.FreshOf n)) (one_utf8 (codes "fresh") (decimal n) (IsUtf8-from_is_utf8 (codes "fresh") refl) w) (one_few (codes "fresh") (decimal n) (omega arith) w) refl refl (fresh_said n h)
