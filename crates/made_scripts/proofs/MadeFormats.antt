-- Each client of a generated script is opened in a format that there is.
use Rattle.std.proofs.Common.{ℕ, zero, suc, ◌+◌, ◌*◌, ◌++◌, List, [], ◌∷◌, refl, inl}
use Rattle.std.specs.List.{All}
use Rattle.std.proofs.lemmas.List.Elements.{All-append, All-cons, All-nil}
use Rattle.play_script.specs.Asked.{HasFormat}
use Rattle.play_script.specs.declared.script_line.ScriptLine.{ScriptLine}
use Rattle.play_script.specs.declared.script_line.ScriptLine.TheVariants as lines
use Rattle.made_scripts.specs.Making.{drawn, edit_of, ending, generated, made, next, opening, round, rounds, state_after}

one : (x : ScriptLine) → HasFormat x → All HasFormat (x ∷ [])
one x h = All-cons HasFormat x [] h (All-nil HasFormat)

and_more : (x : ScriptLine) (xs : List ScriptLine) → HasFormat x → All HasFormat xs → All HasFormat (x ∷ xs)
and_more x xs h more = All-cons HasFormat x xs h more

both : (xs ys : List ScriptLine) → All HasFormat xs → All HasFormat ys → All HasFormat (xs ++ ys)
both xs ys first then = All-append HasFormat xs ys first then

edit_fits : (n i k a : ℕ) → HasFormat (edit_of n i k a)
unfolding edit_of
edit_fits n i k a = tt

turns_fit : (k : ℕ) → All HasFormat (lines.SettleAll ∷ lines.Turns 1 k ∷ [])
turns_fit k = and_more lines.SettleAll (lines.Turns 1 k ∷ []) tt (one (lines.Turns 1 k) tt)

round_fits : (n s k : ℕ) → All HasFormat (round n s k)
unfolding round
round_fits n s k =
    let edit : ScriptLine = edit_of n (drawn (next s) n) k (drawn (next (next s)) 3) in
    let fits = edit_fits n (drawn (next s) n) k (drawn (next (next s)) 3) in
    and_more edit (lines.SettleAll ∷ lines.Turns 1 (2 * n + 16) ∷ []) fits (turns_fit (2 * n + 16))

opening_fits : (n : ℕ) → All HasFormat (opening n)
opening_fits n =
    and_more lines.SettleAll (lines.Open 1 [] ∷ lines.Turns 1 (n + 4) ∷ []) tt
    (and_more (lines.Open 1 []) (lines.Turns 1 (n + 4) ∷ []) (inl refl) (one (lines.Turns 1 (n + 4)) tt))

ending_fits : All HasFormat ending
ending_fits = and_more (lines.Show 1) (lines.Fresh ∷ []) tt (one lines.Fresh tt)

made_fit : (n s i : ℕ) → All HasFormat (made n s i)
unfolding made
made_fit n s zero = All-nil HasFormat
made_fit n s (suc i) =
    let edit : ScriptLine = edit_of n i 0 (drawn (state_after s (suc i)) 3) in
    let fits = edit_fits n i 0 (drawn (state_after s (suc i)) 3) in
    both (made n s i) (edit ∷ []) (made_fit n s i) (one edit fits)

rounds_fit : (n s r : ℕ) → All HasFormat (rounds n s r)
unfolding rounds
rounds_fit n s zero = All-nil HasFormat
rounds_fit n s (suc r) =
    let state = state_after s (2 * r) in
    both (rounds n s r) (round n state (r + 1)) (rounds_fit n s r) (round_fits n state (r + 1))

pub formats_generated : (n s : ℕ) → All HasFormat (generated n s).lines
formats_generated n s =
    let quiet : List ScriptLine = lines.Quiet ∷ [] in
    let load : List ScriptLine = quiet ++ made n s n ++ opening n in
    let rest : List ScriptLine = rounds n (state_after s n) 8 in
    let edits = both quiet (made n s n) (one lines.Quiet tt) (made_fit n s n) in
    let loads = both (quiet ++ made n s n) (opening n) edits (opening_fits n) in
    both (load ++ rest) ending (both load rest loads (rounds_fit n (state_after s n) 8)) ending_fits
