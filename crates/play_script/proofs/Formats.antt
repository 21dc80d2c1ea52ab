-- A client that a script opens is of format 1 or 2.
use Rattle.std.proofs.Common.{◌≡◌, ℕ, Bool, true, false, cond, List, [], ◌∷◌, Option, Some, None, Result, Ok, Err, inl, inr, refl, subst}
use Rattle.std.specs.Prelude.{◌==◌, IfOk, IfSome}
use Rattle.hmr_types.specs.Results.{◌>>=◌}
use Rattle.hmr_types.specs.declared.limits.TheConstants.{LARGEST_CLIENT, LARGEST_NUMBER}
use Rattle.play_script.specs.declared.script_line.ScriptLine.{ScriptLine}
use Rattle.play_script.specs.declared.script_line.ScriptLine.TheVariants as lines
use Rattle.play_script.specs.declared.fault.ScriptKind.{ScriptKind}
use Rattle.play_script.specs.declared.form.Form.TheVariants as forms
use Rattle.play_script.specs.declared.words.Word.{Word}
use Rattle.play_script.specs.declared.words.Word.TheVariants as first
use Rattle.play_script.specs.declared.words.Said.{Said}
use Rattle.play_script.specs.declared.words.Said.TheVariants as says
use Rattle.play_script.specs.Asked.{HasFormat}
use Rattle.play_script.specs.Script.{Line, all_named, command, command_of, commands, emission, event_named, fresh, in_form, known_word, named, no_word, number, one_client, one_name, said, settle, text_value, turns, whole_line, with_first, words}

-- what a line says opens no client, or one of format 1 or 2
abbrev Fits : Said → Type 0
Fits (says.Command line) = HasFormat line
Fits says.Nothing = Unit {0}
Fits says.Text = Unit {0}
Fits (says.Root name) = Unit {0}
Fits (says.Edit name) = Unit {0}

behind : {X : Type 0} (r : Result X ScriptKind) (f : X → Result Said ScriptKind) → ((x : X) → IfOk (f x) Fits) → IfOk (r >>= f) Fits
behind (Ok x) f h = h x
behind (Err kind) f h = tt

settle_fits : (ws : List (List ℕ)) → IfOk (settle ws) Fits
settle_fits [] = tt
settle_fits (word ∷ []) = tt
settle_fits (name ∷ version ∷ []) = behind (named name) (λ n. number LARGEST_NUMBER version >>= λ v. Ok (says.Command (lines.Settle n v))) (λ n. behind (number LARGEST_NUMBER version) (λ v. Ok (says.Command (lines.Settle n v))) (λ v. tt))
settle_fits (name ∷ version ∷ other ∷ more) = tt

turns_fit : (ws : List (List ℕ)) → IfOk (turns ws) Fits
turns_fit [] = tt
turns_fit (word ∷ []) = tt
turns_fit (client ∷ most ∷ []) = behind (number LARGEST_CLIENT client) (λ c. number LARGEST_CLIENT most >>= λ k. Ok (says.Command (lines.Turns c k))) (λ c. behind (number LARGEST_CLIENT most) (λ k. Ok (says.Command (lines.Turns c k))) (λ k. tt))
turns_fit (client ∷ most ∷ other ∷ more) = tt

emission_fits : (ws : List (List ℕ)) → IfOk (emission ws) Fits
emission_fits [] = tt
emission_fits (word ∷ []) = tt
emission_fits (event ∷ text ∷ []) = behind (event_named event) (λ e. text_value text >>= λ t. Ok (says.Command (lines.Emit e t))) (λ e. behind (text_value text) (λ t. Ok (says.Command (lines.Emit e t))) (λ t. tt))
emission_fits (event ∷ text ∷ other ∷ more) = tt

fresh_fits : (ws : List (List ℕ)) → IfOk (fresh ws) Fits
fresh_fits [] = tt
fresh_fits (client ∷ []) = behind (number LARGEST_CLIENT client) (λ c. Ok (says.Command (lines.FreshOf c))) (λ c. tt)
fresh_fits (client ∷ other ∷ more) = tt

quiet_fits : (ws : List (List ℕ)) → IfOk (no_word lines.Quiet ws) Fits
quiet_fits [] = tt
quiet_fits (word ∷ more) = tt

command_fits : (w : Word) (ws : List (List ℕ)) → IfOk (command w ws) Fits
command_fits first.Root ws = behind (one_name ws) (λ name. Ok (says.Root name)) (λ name. tt)
command_fits first.Quiet ws = quiet_fits ws
command_fits first.Edit ws = behind (one_name ws) (λ name. Ok (says.Edit name)) (λ name. tt)
command_fits first.Remove ws = behind (one_name ws) (λ name. Ok (says.Command (lines.Remove name))) (λ name. tt)
command_fits first.Settle ws = settle_fits ws
command_fits first.Open ws = behind (all_named ws) (λ roots. Ok (says.Command (lines.Open 1 roots))) (λ roots. inl refl)
command_fits first.Open2 ws = behind (all_named ws) (λ roots. Ok (says.Command (lines.Open 2 roots))) (λ roots. inr refl)
command_fits first.Close ws = behind (one_client ws) (λ c. Ok (says.Command (lines.Close c))) (λ c. tt)
command_fits first.Turn ws = behind (one_client ws) (λ c. Ok (says.Command (lines.Turn c))) (λ c. tt)
command_fits first.Turns ws = turns_fit ws
command_fits first.Emit ws = emission_fits ws
command_fits first.Hear ws = behind (one_client ws) (λ c. Ok (says.Command (lines.Hear c))) (λ c. tt)
command_fits first.Show ws = behind (one_client ws) (λ c. Ok (says.Command (lines.Show c))) (λ c. tt)
command_fits first.Values ws = behind (one_client ws) (λ c. Ok (says.Command (lines.Values c))) (λ c. tt)
command_fits first.Fates ws = behind (one_client ws) (λ c. Ok (says.Command (lines.Fates c))) (λ c. tt)
command_fits first.Fresh ws = fresh_fits ws

said_fits : (ws : List (List ℕ)) → IfOk (said ws) Fits
said_fits [] = tt
said_fits (word ∷ ws) =
    behind (known_word word) (λ k. in_form forms.Page k >>= λ w. command w ws) (λ w. command_fits w ws)

by_first : (hash bar : Bool) (ws : List (List ℕ)) → IfOk (cond hash (Ok says.Nothing) (cond bar (Ok says.Text) (said ws))) Fits
by_first true bar ws = tt
by_first false true ws = tt
by_first false false ws = said_fits ws

line_fits : (line : List ℕ) → IfOk (whole_line line) Fits
line_fits [] = tt
line_fits (b ∷ bs) = by_first (b == 35) (b == 124) (words (b ∷ bs))

one_fits : (s : Result Said ScriptKind) (more : List Line) → IfOk s Fits → IfSome (command_of s more) HasFormat
one_fits (Ok (says.Edit name)) more h = tt
one_fits (Ok (says.Command line)) more h = h
one_fits (Ok says.Nothing) more h = tt
one_fits (Ok says.Text) more h = tt
one_fits (Ok (says.Root name)) more h = tt
one_fits (Err kind) more h = tt

-- each command that opens a client opens one of format 1 or 2
abbrev Formats : List ScriptLine → Type 0
Formats [] = Unit {0}
Formats (line ∷ more) = HasFormat line × Formats more

joined : (o : Option ScriptLine) (more : List ScriptLine) → IfSome o HasFormat → Formats more → Formats (with_first o more)
joined None more here below = below
joined (Some line) more here below = (here, below)

all_fit : (ls : List Line) → Formats (commands ls)
all_fit [] = tt
all_fit (l ∷ ls) = joined (command_of (whole_line l.bytes) ls) (commands ls) (one_fits (whole_line l.bytes) ls (line_fits l.bytes)) (all_fit ls)

-- the first of a script's commands, where it opens a client, opens one of format 1 or 2
pub first_fits : (ls : List Line) (line : ScriptLine) (more : List ScriptLine) → commands ls ≡ line ∷ more → HasFormat line
first_fits ls line more e = (subst Formats e (all_fit ls)).0
