-- An edit of a text has no more bytes in its name and its text than the text has.
use Rattle.std.proofs.Common.{◌≡◌, ℕ, ◌+◌, Bool, true, false, cond, List, [], ◌∷◌, ◌++◌, length, arith}
use Rattle.std.specs.Prelude.{◌≤◌, ⊤, All, ◌==◌, IfOk, IfSome, Option, Some, None, Result, Ok, Err, codes, if◌then◌else◌}
use Prim.{⊥}
use Rattle.std.specs.List.{onto_first, slice_split}
use Rattle.std.proofs.Math.Path.{subst}
use Rattle.std.proofs.lemmas.List.{length-append}
use Rattle.std.proofs.lemmas.List.Elements.{All-cons, All-nil}
use Rattle.hmr_types.specs.ModName.{is_name}
use Rattle.hmr_types.specs.Results.{◌>>=◌}
use Rattle.play_script.specs.declared.fault.ScriptKind.{ScriptKind}
use Rattle.play_script.specs.declared.fault.ScriptKind.TheVariants.{BadName}
use Rattle.play_script.specs.declared.form.Form.TheVariants as forms
use Rattle.play_script.specs.declared.script_line.ScriptLine.{ScriptLine}
use Rattle.play_script.specs.declared.script_line.ScriptLine.TheVariants as lines
use Rattle.play_script.specs.declared.words.Word.{Word}
use Rattle.play_script.specs.declared.words.Word.TheVariants as first
use Rattle.play_script.specs.declared.words.Said.{Said}
use Rattle.play_script.specs.declared.words.Said.TheVariants as says
use Rattle.hub_editor.specs.Edits.{length_of}
use Rattle.play_script.specs.declared.fault.ScriptFault.{ScriptFault}
use Rattle.play_script.specs.Edits.{Edit, edits_among, edits_in, edits_of}
use Rattle.play_script.specs.Script.{Line, all_named, beginning, checked, command, command_of, commands, cut_line, emission, event_named, fresh, is_line_end, known_word, lines_from, no_word, number, one_client, one_name, named, said_in, settle, text_below, text_of, text_value, text_with, turns, whole_line, with_first, words}
use Rattle.hmr_types.specs.declared.limits.TheConstants.{LARGEST_CLIENT, LARGEST_NUMBER}

-- P holds of each element, by cases on the list
abbrev Each : {X : Type 0} → (X → Type 0) → List X → Type 0
Each P [] = ⊤
Each P (x ∷ xs) = P x × Each P xs

all_each : {X : Type 0} (P : X → Type 0) (xs : List X) → Each P xs → All P xs
all_each P [] h = All-nil P
all_each P (x ∷ xs) h = All-cons P x xs h.0 (all_each P xs h.1)

-- a line of so many bytes says a name of no more bytes
abbrev FitsCommand : ℕ → ScriptLine → Type 0
FitsCommand n (lines.Edit name text) = ⊥
FitsCommand n (lines.Remove name) = length name ≤ n
FitsCommand n other = ⊤

abbrev Fits : ℕ → Result Said ScriptKind → Type 0
Fits n (Ok (says.Edit name)) = length name ≤ n
Fits n (Ok (says.Command line)) = FitsCommand n line
Fits n other = ⊤

-- by what it is answered of
bind_any : {X : Type 0} (n : ℕ) (r : Result X ScriptKind) (f : X → Result Said ScriptKind)
    → ((x : X) → Fits n (f x)) → Fits n (r >>= f)
bind_any n (Ok x) f h = h x
bind_any n (Err kind) f h = tt

bind_if : (n : ℕ) (r : Result (List ℕ) ScriptKind) (f : List ℕ → Result Said ScriptKind)
    → IfOk r (λ name. length name ≤ n) → ((name : List ℕ) → length name ≤ n → Fits n (f name)) → Fits n (r >>= f)
bind_if n (Ok name) f k h = h name k
bind_if n (Err kind) f k h = tt

-- a name, where a word is one
abbrev named_by : Bool → List ℕ → Result (List ℕ) ScriptKind
named_by t word = if t then Ok word else Err BadName

named_if : (n : ℕ) (word : List ℕ) (t : Bool) → length word ≤ n
    → IfOk (named_by t word) (λ name. length name ≤ n)
named_if n word true h = h
named_if n word false h = tt

name_fits : (n : ℕ) (ws : List (List ℕ)) → Each (λ w. length w ≤ n) ws → IfOk (one_name ws) (λ name. length name ≤ n)
name_fits n [] h = tt
name_fits n (word ∷ []) h = named_if n word (is_name word) h.0
name_fits n (word ∷ other ∷ more) h = tt

quiet_fits : (n : ℕ) (ws : List (List ℕ)) → Fits n (no_word lines.Quiet ws)
quiet_fits n [] = tt
quiet_fits n (w ∷ ws) = tt

settle_fits : (n : ℕ) (ws : List (List ℕ)) → Fits n (settle ws)
settle_fits n [] = tt
settle_fits n (w ∷ []) = tt
settle_fits n (name ∷ version ∷ []) =
    bind_any n (named name) _ (λ m. bind_any n (number LARGEST_NUMBER version) _ (λ v. tt))
settle_fits n (name ∷ version ∷ other ∷ more) = tt

turns_fits : (n : ℕ) (ws : List (List ℕ)) → Fits n (turns ws)
turns_fits n [] = tt
turns_fits n (w ∷ []) = tt
turns_fits n (client ∷ most ∷ []) =
    bind_any n (number LARGEST_CLIENT client) _ (λ c. bind_any n (number LARGEST_CLIENT most) _ (λ k. tt))
turns_fits n (client ∷ most ∷ other ∷ more) = tt

emission_fits : (n : ℕ) (ws : List (List ℕ)) → Fits n (emission ws)
emission_fits n [] = tt
emission_fits n (w ∷ []) = tt
emission_fits n (event ∷ text ∷ []) = bind_any n (event_named event) _ (λ e. bind_any n (text_value text) _ (λ t. tt))
emission_fits n (event ∷ text ∷ other ∷ more) = tt

fresh_fits : (n : ℕ) (ws : List (List ℕ)) → Fits n (fresh ws)
fresh_fits n [] = tt
fresh_fits n (client ∷ []) = bind_any n (number LARGEST_CLIENT client) _ (λ c. tt)
fresh_fits n (client ∷ other ∷ more) = tt

command_fits : (n : ℕ) (word : Word) (ws : List (List ℕ)) → Each (λ w. length w ≤ n) ws → Fits n (command word ws)
command_fits n first.Root ws h = bind_any n (one_name ws) _ (λ name. tt)
command_fits n first.Quiet ws h = quiet_fits n ws
command_fits n first.Edit ws h = bind_if n (one_name ws) _ (name_fits n ws h) (λ name k. k)
command_fits n first.Remove ws h = bind_if n (one_name ws) _ (name_fits n ws h) (λ name k. k)
command_fits n first.Settle ws h = settle_fits n ws
command_fits n first.Open ws h = bind_any n (all_named ws) _ (λ roots. tt)
command_fits n first.Open2 ws h = bind_any n (all_named ws) _ (λ roots. tt)
command_fits n first.Close ws h = bind_any n (one_client ws) _ (λ client. tt)
command_fits n first.Turn ws h = bind_any n (one_client ws) _ (λ client. tt)
command_fits n first.Turns ws h = turns_fits n ws
command_fits n first.Emit ws h = emission_fits n ws
command_fits n first.Hear ws h = bind_any n (one_client ws) _ (λ client. tt)
command_fits n first.Show ws h = bind_any n (one_client ws) _ (λ client. tt)
command_fits n first.Values ws h = bind_any n (one_client ws) _ (λ client. tt)
command_fits n first.Fates ws h = bind_any n (one_client ws) _ (λ client. tt)
command_fits n first.Fresh ws h = fresh_fits n ws

said_fits : (n : ℕ) (ws : List (List ℕ)) → Each (λ w. length w ≤ n) ws → Fits n (said_in forms.Page ws)
said_fits n [] h = tt
said_fits n (word ∷ ws) h = bind_any n (known_word word) _ (λ k. command_fits n k ws h.1)

longer_all : (n : ℕ) (parts : List (List ℕ)) → Each (λ w. length w ≤ n) parts → Each (λ w. length w ≤ n + 1) parts
longer_all n [] h = tt
longer_all n (part ∷ parts) h = (omega (arith, h.0), longer_all n parts h.1)

-- the parts of a list are no longer than it
onto_short : (n x : ℕ) (parts : List (List ℕ)) → Each (λ w. length w ≤ n) parts
    → Each (λ w. length w ≤ n + 1) (onto_first x parts)
onto_short n x [] h = (omega arith, tt)
onto_short n x (part ∷ parts) h = (omega (arith, h.0), longer_all n parts h.1)

part_by : (n x : ℕ) (parts : List (List ℕ)) (t : Bool) → Each (λ w. length w ≤ n) parts
    → Each (λ w. length w ≤ n + 1) (cond t ([] ∷ parts) (onto_first x parts))
part_by n x parts true h = (omega arith, longer_all n parts h)
part_by n x parts false h = onto_short n x parts h

parts_short : (p : ℕ → Bool) (bs : List ℕ) → Each (λ w. length w ≤ length bs) (slice_split p bs)
parts_short p [] = (omega arith, tt)
parts_short p (b ∷ bs) =
    subst (λ m. Each (λ w. length w ≤ m) (slice_split p (b ∷ bs))) (omega arith)
    (part_by (length bs) b (slice_split p bs) (p b) (parts_short p bs))

text_or_words : (n : ℕ) (ws : List (List ℕ)) (t u : Bool) → Each (λ w. length w ≤ n) ws
    → Fits n (if t then Ok says.Nothing else if u then Ok says.Text else said_in forms.Page ws)
text_or_words n ws true u h = tt
text_or_words n ws false true h = tt
text_or_words n ws false false h = said_fits n ws h

line_fits : (bs : List ℕ) → Fits (length bs) (whole_line bs)
line_fits [] = tt
line_fits (b ∷ bs) = text_or_words (length (b ∷ bs)) (words (b ∷ bs)) (b == 35) (b == 124) (parts_short (λ x. x == 32) (b ∷ bs))

-- the bytes of lines, without their LFs
abbrev weight : List Line → ℕ
weight [] = 0
weight (line ∷ more) = length line.bytes + weight more

with_by : (text : Option (List ℕ)) (below : List ℕ) (n m : ℕ) → IfSome text (λ t. length t + 1 ≤ n) → length below ≤ m
    → length (text_with text below) ≤ n + m
with_by None below n m h k = omega arith
with_by (Some text) below n m h k =
    let e = length-append text (codes "\n" ++ below) in omega (arith, e, h, k)

text_shorter : (bs : List ℕ) (t : Bool) (n : ℕ) → length bs + 1 ≤ n → IfSome (if t then Some bs else None) (λ t. length t + 1 ≤ n)
text_shorter bs true n h = h
text_shorter bs false n h = tt

text_fits : (bs : List ℕ) → IfSome (text_of bs) (λ t. length t + 1 ≤ length bs)
text_fits [] = tt
text_fits (b ∷ bs) = text_shorter bs (b == 124) (length (b ∷ bs)) (omega arith)

below_fits : (ls : List Line) → length (text_below ls) ≤ weight ls
below_fits [] = omega arith
below_fits (line ∷ more) = with_by (text_of line.bytes) (text_below more) (length line.bytes) (weight more) (text_fits line.bytes) (below_fits more)

-- an edit among these is no longer
abbrev AreWithin : ℕ → List Edit → Type 0
AreWithin n edits = Each (λ e. length_of e ≤ n) edits

longer_edits : (n m : ℕ) (edits : List Edit) → n ≤ m → AreWithin n edits → AreWithin m edits
longer_edits n m [] h k = tt
longer_edits n m (e ∷ edits) h k = (omega (arith, h, k.0), longer_edits n m edits h k.1)

-- the edit of a command
command_edit : (command : ScriptLine) (m : ℕ) (after : List ScriptLine) (n : ℕ) → FitsCommand n command
    → AreWithin m (edits_among after) → AreWithin (n + m) (edits_among (command ∷ after))
command_edit (lines.Edit name text) m after n h all = absurd h
command_edit (lines.Remove name) m after n h all =
    (omega (arith, h), longer_edits m (n + m) (edits_among after) (omega arith) all)
command_edit lines.Quiet m after n h all = longer_edits m (n + m) (edits_among after) (omega arith) all
command_edit lines.SettleAll m after n h all = longer_edits m (n + m) (edits_among after) (omega arith) all
command_edit (lines.Settle name v) m after n h all = longer_edits m (n + m) (edits_among after) (omega arith) all
command_edit (lines.Open format roots) m after n h all = longer_edits m (n + m) (edits_among after) (omega arith) all
command_edit (lines.Close i) m after n h all = longer_edits m (n + m) (edits_among after) (omega arith) all
command_edit (lines.Turn i) m after n h all = longer_edits m (n + m) (edits_among after) (omega arith) all
command_edit (lines.Turns i k) m after n h all = longer_edits m (n + m) (edits_among after) (omega arith) all
command_edit (lines.Emit event text) m after n h all = longer_edits m (n + m) (edits_among after) (omega arith) all
command_edit (lines.Hear i) m after n h all = longer_edits m (n + m) (edits_among after) (omega arith) all
command_edit (lines.Show i) m after n h all = longer_edits m (n + m) (edits_among after) (omega arith) all
command_edit (lines.Values i) m after n h all = longer_edits m (n + m) (edits_among after) (omega arith) all
command_edit (lines.Fates i) m after n h all = longer_edits m (n + m) (edits_among after) (omega arith) all
command_edit lines.Fresh m after n h all = longer_edits m (n + m) (edits_among after) (omega arith) all
command_edit (lines.FreshOf i) m after n h all = longer_edits m (n + m) (edits_among after) (omega arith) all

-- the edit of a line
said_edit : (said : Result Said ScriptKind) (more : List Line) (after : List ScriptLine) (n : ℕ) → Fits n said
    → AreWithin (weight more) (edits_among after) → AreWithin (n + weight more) (edits_among (with_first (command_of said more) after))
said_edit (Ok (says.Edit name)) more after n h k =
    let below = below_fits more in
    (omega (arith, h, below), longer_edits (weight more) (n + weight more) (edits_among after) (omega arith) k)
said_edit (Ok (says.Command command)) more after n h k = command_edit command (weight more) after n h k
said_edit (Ok says.Nothing) more after n h k = longer_edits (weight more) (n + weight more) (edits_among after) (omega arith) k
said_edit (Ok says.Text) more after n h k = longer_edits (weight more) (n + weight more) (edits_among after) (omega arith) k
said_edit (Ok (says.Root name)) more after n h k = longer_edits (weight more) (n + weight more) (edits_among after) (omega arith) k
said_edit (Err kind) more after n h k = longer_edits (weight more) (n + weight more) (edits_among after) (omega arith) k

edits_fit : (ls : List Line) → AreWithin (weight ls) (edits_among (commands ls))
edits_fit [] = tt
edits_fit (line ∷ more) = said_edit (whole_line line.bytes) more (commands more) (length line.bytes) (line_fits line.bytes) (edits_fit more)

cut_fits : (line : List ℕ) → weight (cut_line line) ≤ length line
cut_fits [] = omega arith
cut_fits (b ∷ bs) = omega arith

line_by : (line bs : List ℕ) (b : ℕ) (t : Bool) → weight (lines_from [] bs) ≤ length bs
    → weight (lines_from (line ++ b ∷ []) bs) ≤ length (line ++ b ∷ []) + length bs
    → weight (if t then record { bytes = line; ended = true } ∷ lines_from [] bs else lines_from (line ++ b ∷ []) bs) ≤ length line + length (b ∷ bs)
line_by line bs b true h k = omega (arith, h)
line_by line bs b false h k = let e = length-append line (b ∷ []) in omega (arith, e, k)

lines_fit : (line bs : List ℕ) → weight (lines_from line bs) ≤ length line + length bs
lines_fit line [] = let e = cut_fits line in omega (arith, e)
lines_fit line (b ∷ bs) =
    let e = lines_fit [] bs in
    line_by line bs b (is_line_end b) (omega (arith, e)) (lines_fit (line ++ b ∷ []) bs)

-- each edit that a text says has a name and a text of no more bytes together than it
edits_short : (text : List ℕ) (n : ℕ) → length text ≤ n → All (λ e. length_of e ≤ n) (edits_in text)
edits_short text n h =
    let e = lines_fit [] text in
    all_each (λ e. length_of e ≤ n) (edits_in text)
    (longer_edits (weight (lines_from [] text)) n (edits_in text) (omega (arith, e, h)) (edits_fit (lines_from [] text)))

-- what was given, where an answer gave
given_by : {A : Type 0} (r : Result A ScriptFault) (said edits : List Edit)
    → (r >>= λ d. Ok said) ≡ Ok edits → said ≡ edits
given_by (Ok d) said edits e = cc
given_by (Err fault) said edits e = cc

-- the same of the edits that a text was read as
pub read_short : (text : List ℕ) (edits : List Edit) (n : ℕ) → edits_of text ≡ Ok edits → length text ≤ n
    → All (λ e. length_of e ≤ n) edits
read_short text edits n is h =
    subst (All (λ e. length_of e ≤ n)) (given_by (checked (beginning forms.Edits) 1 (lines_from [] text)) (edits_in text) edits is)
    (edits_short text n h)
