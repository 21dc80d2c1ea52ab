-- The names in a script are names of modules: those of its roots, of its edits and of the clients that it opens.
use Rattle.std.proofs.Common.{◌≡◌, ℕ, ◌+◌, Bool, true, false, cond, List, [], ◌∷◌, ◌++◌, Option, Some, None, Result, Ok, Err, refl}
use Rattle.std.specs.Prelude.{◌==◌, IfOk, IfSome, ⊤}
use Rattle.std.specs.List.{list_all}
use Rattle.std.proofs.lemmas.Bool.{and_parts}
use Rattle.hmr_types.specs.ModName.{is_name}
use Rattle.hmr_types.specs.Results.{◌>>=◌}
use Rattle.hmr_types.specs.declared.limits.TheConstants.{LARGEST_CLIENT, LARGEST_NUMBER}
use Rattle.core_model.specs.Formed.{IsName}
use Rattle.play_script.specs.declared.draft.Draft.{Draft}
use Rattle.play_script.specs.declared.fault.ScriptFault.{ScriptFault}
use Rattle.play_script.specs.declared.fault.ScriptKind.{ScriptKind}
use Rattle.play_script.specs.declared.fault.ScriptKind.TheVariants.{BadName, CutLine, LineTooLong, NotUtf8}
use Rattle.play_script.specs.declared.form.Form.{Form}
use Rattle.play_script.specs.declared.form.Form.TheVariants as forms
use Rattle.play_script.specs.declared.script_line.ScriptLine.{ScriptLine}
use Rattle.play_script.specs.declared.script_line.ScriptLine.TheVariants as lines
use Rattle.play_script.specs.declared.words.Said.{Said}
use Rattle.play_script.specs.declared.words.Said.TheVariants as says
use Rattle.play_script.specs.declared.words.Word.{Word}
use Rattle.play_script.specs.declared.words.Word.TheVariants as first
use Rattle.play_script.specs.Script.{Contents, Line, all_named, allowed, beginning, below_edit, checked, command, command_of, commands, emission, event_named, finished, fresh, in_form, known_word, line_read, line_said_in, lines_from, may_be_command, may_be_root, named, no_word, number, numbered, one_client, one_name, one_word, placed, said_in, script_of, settle, text_value, turns, whole_line, whole_line_in, with_first, words}
use Rattle.record_agreement.proofs.Lists.{Each, each_append}

-- a command's names are names
abbrev pub LineNamed : ScriptLine → Type 0
LineNamed lines.Quiet = ⊤
LineNamed (lines.Edit n text) = IsName n
LineNamed (lines.Remove n) = IsName n
LineNamed lines.SettleAll = ⊤
LineNamed (lines.Settle n v) = ⊤
LineNamed (lines.Open format roots) = Each IsName roots
LineNamed (lines.Close i) = ⊤
LineNamed (lines.Turn i) = ⊤
LineNamed (lines.Turns i k) = ⊤
LineNamed (lines.Emit event text) = ⊤
LineNamed (lines.Hear i) = ⊤
LineNamed (lines.Show i) = ⊤
LineNamed (lines.Values i) = ⊤
LineNamed (lines.Fates i) = ⊤
LineNamed lines.Fresh = ⊤
LineNamed (lines.FreshOf i) = ⊤

-- and so are those of what a line says
abbrev Fits : Said → Type 0
Fits says.Nothing = ⊤
Fits says.Text = ⊤
Fits (says.Root name) = IsName name
Fits (says.Edit name) = IsName name
Fits (says.Command line) = LineNamed line

behind : {X : Type 0} (P : X → Type 0) (r : Result X ScriptKind) (f : X → Result Said ScriptKind) → IfOk r P → ((x : X) → P x → IfOk (f x) Fits) → IfOk (r >>= f) Fits
behind P (Ok x) f g h = h x g
behind P (Err kind) f g h = tt

anyhow : {X : Type 0} (r : Result X ScriptKind) → IfOk r (λ x. ⊤)
anyhow (Ok x) = tt
anyhow (Err kind) = tt

name_if : (b : Bool) (word : List ℕ) → is_name word ≡ b → IfOk (cond b (Ok word) (Err BadName)) IsName
name_if true word e = e
name_if false word e = tt

named_is : (word : List ℕ) → IfOk (named word) IsName
named_is word = name_if (is_name word) word refl

word_named : (r : Result (List ℕ) ScriptKind) → IfOk (r >>= named) IsName
word_named (Ok word) = named_is word
word_named (Err kind) = tt

one_is : (ws : List (List ℕ)) → IfOk (one_name ws) IsName
one_is ws = word_named (one_word ws)

each_of : (ws : List (List ℕ)) → list_all is_name ws ≡ true → Each IsName ws
each_of [] h = tt
each_of (w ∷ ws) h = let parts = and_parts (is_name w) (list_all is_name ws) h in (parts.0, each_of ws parts.1)

names_if : (b : Bool) (ws : List (List ℕ)) → list_all is_name ws ≡ b → IfOk (cond b (Ok ws) (Err BadName)) (Each IsName)
names_if true ws e = each_of ws e
names_if false ws e = tt

all_are : (ws : List (List ℕ)) → IfOk (all_named ws) (Each IsName)
all_are ws = names_if (list_all is_name ws) ws refl

settle_fits : (ws : List (List ℕ)) → IfOk (settle ws) Fits
settle_fits [] = tt
settle_fits (word ∷ []) = tt
settle_fits (name ∷ version ∷ []) = behind (λ n. ⊤) (named name) (λ n. number LARGEST_NUMBER version >>= λ v. Ok (says.Command (lines.Settle n v))) (anyhow (named name)) (λ n g. behind (λ v. ⊤) (number LARGEST_NUMBER version) (λ v. Ok (says.Command (lines.Settle n v))) (anyhow (number LARGEST_NUMBER version)) (λ v h. tt))
settle_fits (name ∷ version ∷ other ∷ more) = tt

turns_fit : (ws : List (List ℕ)) → IfOk (turns ws) Fits
turns_fit [] = tt
turns_fit (word ∷ []) = tt
turns_fit (client ∷ most ∷ []) = behind (λ c. ⊤) (number LARGEST_CLIENT client) (λ c. number LARGEST_CLIENT most >>= λ k. Ok (says.Command (lines.Turns c k))) (anyhow (number LARGEST_CLIENT client)) (λ c g. behind (λ k. ⊤) (number LARGEST_CLIENT most) (λ k. Ok (says.Command (lines.Turns c k))) (anyhow (number LARGEST_CLIENT most)) (λ k h. tt))
turns_fit (client ∷ most ∷ other ∷ more) = tt

emission_fits : (ws : List (List ℕ)) → IfOk (emission ws) Fits
emission_fits [] = tt
emission_fits (word ∷ []) = tt
emission_fits (event ∷ text ∷ []) = behind (λ e. ⊤) (event_named event) (λ e. text_value text >>= λ t. Ok (says.Command (lines.Emit e t))) (anyhow (event_named event)) (λ e g. behind (λ t. ⊤) (text_value text) (λ t. Ok (says.Command (lines.Emit e t))) (anyhow (text_value text)) (λ t h. tt))
emission_fits (event ∷ text ∷ other ∷ more) = tt

fresh_fits : (ws : List (List ℕ)) → IfOk (fresh ws) Fits
fresh_fits [] = tt
fresh_fits (client ∷ []) = behind (λ c. ⊤) (number LARGEST_CLIENT client) (λ c. Ok (says.Command (lines.FreshOf c))) (anyhow (number LARGEST_CLIENT client)) (λ c h. tt)
fresh_fits (client ∷ other ∷ more) = tt

quiet_fits : (ws : List (List ℕ)) → IfOk (no_word lines.Quiet ws) Fits
quiet_fits [] = tt
quiet_fits (word ∷ more) = tt

client_fits : (line : ℕ → ScriptLine) → ((c : ℕ) → LineNamed (line c)) → (ws : List (List ℕ)) → IfOk (one_client ws >>= λ c. Ok (says.Command (line c))) Fits
client_fits line h ws = behind (λ c. ⊤) (one_client ws) (λ c. Ok (says.Command (line c))) (anyhow (one_client ws)) (λ c g. h c)

command_fits : (w : Word) (ws : List (List ℕ)) → IfOk (command w ws) Fits
command_fits first.Root ws = behind IsName (one_name ws) (λ name. Ok (says.Root name)) (one_is ws) (λ name h. h)
command_fits first.Quiet ws = quiet_fits ws
command_fits first.Edit ws = behind IsName (one_name ws) (λ name. Ok (says.Edit name)) (one_is ws) (λ name h. h)
command_fits first.Remove ws = behind IsName (one_name ws) (λ name. Ok (says.Command (lines.Remove name))) (one_is ws) (λ name h. h)
command_fits first.Settle ws = settle_fits ws
command_fits first.Open ws = behind (Each IsName) (all_named ws) (λ roots. Ok (says.Command (lines.Open 1 roots))) (all_are ws) (λ roots h. h)
command_fits first.Open2 ws = behind (Each IsName) (all_named ws) (λ roots. Ok (says.Command (lines.Open 2 roots))) (all_are ws) (λ roots h. h)
command_fits first.Close ws = client_fits (λ c. lines.Close c) (λ c. tt) ws
command_fits first.Turn ws = client_fits (λ c. lines.Turn c) (λ c. tt) ws
command_fits first.Turns ws = turns_fit ws
command_fits first.Emit ws = emission_fits ws
command_fits first.Hear ws = client_fits (λ c. lines.Hear c) (λ c. tt) ws
command_fits first.Show ws = client_fits (λ c. lines.Show c) (λ c. tt) ws
command_fits first.Values ws = client_fits (λ c. lines.Values c) (λ c. tt) ws
command_fits first.Fates ws = client_fits (λ c. lines.Fates c) (λ c. tt) ws
command_fits first.Fresh ws = fresh_fits ws

said_fits : (form : Form) (ws : List (List ℕ)) → IfOk (said_in form ws) Fits
said_fits form [] = tt
said_fits form (word ∷ ws) =
    behind (λ k. ⊤) (known_word word) (λ k. in_form form k >>= λ w. command w ws) (anyhow (known_word word))
    (λ k g. behind (λ w. ⊤) (in_form form k) (λ w. command w ws) (anyhow (in_form form k)) (λ w h. command_fits w ws))

by_first : (hash bar : Bool) (form : Form) (ws : List (List ℕ)) → IfOk (cond hash (Ok says.Nothing) (cond bar (Ok says.Text) (said_in form ws))) Fits
by_first true bar form ws = tt
by_first false true form ws = tt
by_first false false form ws = said_fits form ws

line_fits : (form : Form) (line : List ℕ) → IfOk (whole_line_in form line) Fits
line_fits form [] = tt
line_fits form (b ∷ bs) = by_first (b == 35) (b == 124) form (words (b ∷ bs))

-- ---- the commands

one_fits : (s : Result Said ScriptKind) (more : List Line) → IfOk s Fits → IfSome (command_of s more) LineNamed
one_fits (Ok (says.Edit name)) more h = h
one_fits (Ok (says.Command line)) more h = h
one_fits (Ok says.Nothing) more h = tt
one_fits (Ok says.Text) more h = tt
one_fits (Ok (says.Root name)) more h = tt
one_fits (Err kind) more h = tt

joined : (o : Option ScriptLine) (more : List ScriptLine) → IfSome o LineNamed → Each LineNamed more → Each LineNamed (with_first o more)
joined None more here below = below
joined (Some line) more here below = (here, below)

all_fit : (ls : List Line) → Each LineNamed (commands ls)
all_fit [] = tt
all_fit (l ∷ ls) = joined (command_of (whole_line l.bytes) ls) (commands ls) (one_fits (whole_line l.bytes) ls (line_fits forms.Page l.bytes)) (all_fit ls)

-- ---- the roots

abbrev Named : {E : Type 0} → Result Draft E → Type 0
Named result = IfOk result (λ d. Each IsName d.roots)

allowed_named : (b : Bool) (d : Draft) → Each IsName d.roots → Named (allowed b d)
allowed_named true d h = h
allowed_named false d h = tt

below_named : (b : Bool) (d : Draft) → Each IsName d.roots → Named (below_edit b d)
below_named true d h = h
below_named false d h = tt

placed_named : (d : Draft) (s : Said) → Fits s → Each IsName d.roots → Named (placed d s)
placed_named d says.Nothing f h = h
placed_named d says.Text f h = below_named d.in_edit d h
placed_named d (says.Root name) f h = allowed_named (may_be_root d name) (record d { roots = d.roots ++ name ∷ []; in_edit = false }) (each_append IsName d.roots (name ∷ []) h (f, tt))
placed_named d (says.Edit name) f h = allowed_named (may_be_command d) (record d { began = true; in_edit = true }) h
placed_named d (says.Command line) f h = allowed_named (may_be_command d) (record d { began = true; in_edit = false }) h

read_named : (d : Draft) (s : Result Said ScriptKind) → IfOk s Fits → Each IsName d.roots → Named (s >>= placed d)
read_named d (Ok s) f h = placed_named d s f h
read_named d (Err kind) f h = tt

said_if : (bad long ended : Bool) (s : Result Said ScriptKind) → IfOk s Fits → IfOk (cond bad (Err NotUtf8) (cond long (Err LineTooLong) (cond ended s (Err CutLine)))) Fits
said_if true long ended s h = tt
said_if false true ended s h = tt
said_if false false true s h = h
said_if false false false s h = tt

line_said_fits : (form : Form) (line : List ℕ) (ended : Bool) → IfOk (line_said_in form line ended) Fits
line_said_fits form line ended = said_if _ _ ended (whole_line_in form line) (line_fits form line)

numbered_named : (n : ℕ) (result : Result Draft ScriptKind) → Named result → Named (numbered n result)
numbered_named n (Ok d) h = h
numbered_named n (Err kind) h = tt

then_named : (result : Result Draft ScriptFault) (after : Draft → Result Draft ScriptFault) → Named result → ((d : Draft) → Each IsName d.roots → Named (after d)) → Named (result >>= after)
then_named (Ok d) after h f = f d h
then_named (Err fault) after h f = tt

checked_named : (d : Draft) (n : ℕ) (ls : List Line) → Each IsName d.roots → Named (checked d n ls)
checked_named d n [] h = h
checked_named d n (line ∷ more) h =
    then_named (numbered n (line_read d line.bytes line.ended)) (λ next. checked next (n + 1) more)
    (numbered_named n (line_read d line.bytes line.ended) (read_named d (line_said_in d.form line.bytes line.ended) (line_said_fits d.form line.bytes line.ended) h))
    (λ next k. checked_named next (n + 1) more k)

-- ---- a script

-- its roots and the names of its commands are names
pub record ScriptNamed (s : Contents) : Type 0 where
  pub roots : Each IsName s.roots
  pub lines : Each LineNamed s.lines

ended_named : (ls : List Line) (result : Result Draft ScriptFault) → Named result → IfOk (result >>= λ d. Ok (finished ls d)) ScriptNamed
ended_named ls (Ok d) h = record { roots = h; lines = all_fit ls }
ended_named ls (Err fault) h = tt

pub script_named : (bytes : List ℕ) → IfOk (script_of bytes) ScriptNamed
script_named bytes =
    ended_named (lines_from [] bytes) (checked (beginning forms.Page) 1 (lines_from [] bytes))
    (checked_named (beginning forms.Page) 1 (lines_from [] bytes) tt)
