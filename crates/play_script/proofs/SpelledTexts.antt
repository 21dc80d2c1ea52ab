-- Lines that LF ends are the lines of what they make, and the lines of a text make the text.
use Rattle.std.proofs.Common.{ℕ, List, [], ◌∷◌, ◌++◌, Bool, true, false, cond, map, ◌≡◌, refl, sym, ap, ◌∙◌, arith, append_assoc}
use Rattle.std.specs.Prelude.{codes, not}
use Rattle.std.specs.List.{list_all}
use Rattle.std.proofs.lemmas.Bool.{and_parts, and_from}
use Rattle.std.proofs.lemmas.Bool.Decides.{nat_tests}
use Rattle.std.proofs.lemmas.List.{append-nil}
use Rattle.std.proofs.lemmas.List.Folds.{list_all-append}
use Rattle.play_script.specs.Script.{Line, cut_line, is_line_end, lines_from}
use Rattle.play_script.specs.Spelling.{ended_by_lf, fits}
use Rattle.play_script.proofs.SpelledNames.{has_no_lf}

-- a byte of a line
goes_on : (line : List ℕ) (b : ℕ) (rest : List ℕ) → is_line_end b ≡ false → lines_from line (b ∷ rest) ≡ lines_from (line ++ b ∷ []) rest
goes_on line b rest h = rw h refl

-- a line that LF ends
abbrev pub ended : List ℕ → Line
ended line = record { bytes = line; ended = true }

-- what lines make
abbrev pub joined : List Line → List ℕ
joined [] = []
joined (line ∷ more) = line.bytes ++ (codes "\n" ++ joined more)

is_not : (t : Bool) → not t ≡ true → t ≡ false
is_not true h = absurd (cc)
is_not false h = refl

next_line : (xs acc rest : List ℕ) → has_no_lf xs ≡ true → lines_from acc (xs ++ 10 ∷ rest) ≡ ended (acc ++ xs) ∷ lines_from [] rest
next_line [] acc rest h = ap (λ line. ended line ∷ lines_from [] rest) (sym (append-nil acc))
next_line (x ∷ xs) acc rest h =
    let here = and_parts (not (is_line_end x)) (has_no_lf xs) h in
    goes_on acc x (xs ++ 10 ∷ rest) (is_not (is_line_end x) here.0) ∙ (next_line xs (acc ++ x ∷ []) rest here.1 ∙ ap (λ line. ended line ∷ lines_from [] rest) (append_assoc acc (x ∷ []) xs))

-- lines without LF are the lines of what they make with LF
pub lines-ended_by_lf : (ls : List (List ℕ)) → list_all has_no_lf ls ≡ true → lines_from [] (ended_by_lf ls) ≡ map ended ls
lines-ended_by_lf [] h = refl
lines-ended_by_lf (l ∷ ls) h =
    let here = and_parts (has_no_lf l) (list_all has_no_lf ls) h in
    next_line l [] (ended_by_lf ls) here.0 ∙ ap (λ more. ended l ∷ more) (lines-ended_by_lf ls here.1)

-- a line of a text has no LF
abbrev pub are_lines : List Line → Bool
are_lines = list_all (λ line. has_no_lf line.bytes)

cut_no_lf : (acc : List ℕ) → has_no_lf acc ≡ true → are_lines (cut_line acc) ≡ true
cut_no_lf [] h = refl
cut_no_lf (b ∷ bs) h = and_from _ _ h refl

step_no_lf : (b : ℕ) (bs acc : List ℕ) (t : Bool) → is_line_end b ≡ t → has_no_lf acc ≡ true → ((next : List ℕ) → has_no_lf next ≡ true → are_lines (lines_from next bs) ≡ true)
    → are_lines (cond t (ended acc ∷ lines_from [] bs) (lines_from (acc ++ b ∷ []) bs)) ≡ true
step_no_lf b bs acc true e h below = and_from _ _ h (below [] refl)
step_no_lf b bs acc false e h below =
    let this : not (is_line_end b) ≡ true = rw e refl in
    below (acc ++ b ∷ []) (list_all-append (λ x. not (is_line_end x)) acc (b ∷ []) ∙ and_from _ _ h (and_from _ _ this refl))

pub lines_no_lf : (bs acc : List ℕ) → has_no_lf acc ≡ true → are_lines (lines_from acc bs) ≡ true
lines_no_lf [] acc h = cut_no_lf acc h
lines_no_lf (b ∷ bs) acc h = step_no_lf b bs acc (is_line_end b) refl h (lines_no_lf bs)

cut_joined : (acc : List ℕ) → list_all fits (cut_line acc) ≡ true → joined (cut_line acc) ≡ acc ++ []
cut_joined [] h = refl
cut_joined (b ∷ bs) h = absurd (cc)

step_joined : (b : ℕ) (bs acc : List ℕ) (t : Bool) → is_line_end b ≡ t → list_all fits (cond t (ended acc ∷ lines_from [] bs) (lines_from (acc ++ b ∷ []) bs)) ≡ true
    → ((next : List ℕ) → list_all fits (lines_from next bs) ≡ true → joined (lines_from next bs) ≡ next ++ bs)
    → joined (cond t (ended acc ∷ lines_from [] bs) (lines_from (acc ++ b ∷ []) bs)) ≡ acc ++ (b ∷ bs)
step_joined b bs acc true e h below =
    let here = and_parts (fits (ended acc)) (list_all fits (lines_from [] bs)) h in
    let lf : 10 ≡ b = grind (arith, nat_tests, e) in
    ap (λ more. acc ++ (10 ∷ more)) (below [] here.1) ∙ ap (λ x. acc ++ (x ∷ bs)) lf
step_joined b bs acc false e h below = below (acc ++ b ∷ []) h ∙ append_assoc acc (b ∷ []) bs

-- the lines of a text make the text, where LF ends them all
pub joined-lines : (bs acc : List ℕ) → list_all fits (lines_from acc bs) ≡ true → joined (lines_from acc bs) ≡ acc ++ bs
joined-lines [] acc h = cut_joined acc h
joined-lines (b ∷ bs) acc h = step_joined b bs acc (is_line_end b) refl h (joined-lines bs)
