-- The roots of a script are few, and no two are equal.
use Rattle.std.proofs.Common.{◌≡◌, ℕ, ◌+◌, ◌≤◌, Bool, true, false, List, [], ◌∷◌, ◌++◌, length, length-append, arith, ap, sym, refl, ◌∙◌}
use Rattle.std.specs.Prelude.{◌&&◌, ◌||◌, not, nat_lt, Result, Ok, Err, IfOk}
use Rattle.std.proofs.Math.Path.{subst}
use Rattle.std.proofs.lemmas.Bool.{false≢true}
use Rattle.std.proofs.lemmas.Bool.Decides.{nat_tests}
use Rattle.hmr_types.specs.Results.{◌>>=◌}
use Rattle.hmr_types.specs.declared.limits.TheConstants.{ROOTS}
use Rattle.core_model.specs.Names.{Name, has, same_name}
use Rattle.core_model.specs.Roots.{are_distinct}
use Rattle.core_model.proofs.Naming.{and_both, both_true, has_more, neither, not_true, same_true, true_same}
use Rattle.play_script.specs.declared.draft.Draft.{Draft}
use Rattle.play_script.specs.declared.form.Form.TheVariants as forms
use Rattle.play_script.specs.declared.fault.ScriptFault.{ScriptFault}
use Rattle.play_script.specs.declared.fault.ScriptKind.{ScriptKind}
use Rattle.play_script.specs.declared.words.Said.{Said}
use Rattle.play_script.specs.declared.words.Said.TheVariants as says
use Rattle.play_script.specs.Script.{Contents, Line, allowed, beginning, below_edit, checked, finished, line_read, line_said_in, lines_from, may_be_command, may_be_root, numbered, placed, script_of}
use Rattle.text_commands.specs.Ends.{AreFew}

-- a name that isn't in the list, at its end
apart : (a b : Bool) → a ≡ false → b ≡ false → not (a || (b || false)) ≡ true
apart true b e k = absurd (false≢true (sym e))
apart false true e k = absurd (false≢true (sym k))
apart false false e k = refl

turned : (n m : Name) → same_name n m ≡ false → same_name m n ≡ false
turned n m e = by (same_name m n) refl
  where
    by : (b : Bool) → same_name m n ≡ b → b ≡ false
    by false k = refl
    by true k = absurd (false≢true (sym e ∙ true_same n m (sym (same_true m n k))))

pub distinct_more : (roots : List Name) (name : Name) →
    are_distinct roots ≡ true → has roots name ≡ false → are_distinct (roots ++ name ∷ []) ≡ true
distinct_more [] name d h = refl
distinct_more (r ∷ rs) name d h =
    let parts = both_true (not (has rs r)) (are_distinct rs) d in
    let other = neither (same_name r name) (has rs name) h in
    let first : not (has (rs ++ name ∷ []) r) ≡ true = ap not (has_more rs name r)
    ∙ apart (has rs r) (same_name name r) (not_true (has rs r) parts.0) (turned r name other.0) in
    and_both (not (has (rs ++ name ∷ []) r)) (are_distinct (rs ++ name ∷ [])) first
    (distinct_more rs name parts.1 other.1)

few_more : (roots : List Name) (name : Name) →
    nat_lt (length roots) ROOTS ≡ true → length (roots ++ name ∷ []) ≤ ROOTS
few_more roots name e = grind (arith, nat_tests, length-append roots (name ∷ []), e)

-- a script so far has such roots
abbrev Few : {E : Type 0} → Result Draft E → Type 0
Few result = IfOk result (λ d. AreFew d.roots)

allowed_few : (b : Bool) (d : Draft) → (b ≡ true → AreFew d.roots) → Few (allowed b d)
allowed_few true d h = h refl
allowed_few false d h = tt

below_few : (b : Bool) (d : Draft) → AreFew d.roots → Few (below_edit b d)
below_few true d h = h
below_few false d h = tt

root_few : (d : Draft) (name : Name) → AreFew d.roots →
    may_be_root d name ≡ true → AreFew (d.roots ++ name ∷ [])
root_few d name h e =
    let all = both_true (not d.began && nat_lt (length d.roots) ROOTS) (not (has d.roots name)) e in
    let two = both_true (not d.began) (nat_lt (length d.roots) ROOTS) all.0 in
    let new = not_true (has d.roots name) all.1 in
    record { few = few_more d.roots name two.1; distinct = distinct_more d.roots name h.distinct new }

placed_few : (d : Draft) (s : Said) → AreFew d.roots → Few (placed d s)
placed_few d says.Nothing h = h
placed_few d says.Text h = below_few d.in_edit d h
placed_few d (says.Root name) h =
    allowed_few (may_be_root d name) (record d { roots = d.roots ++ name ∷ []; in_edit = false })
    (root_few d name h)
placed_few d (says.Edit name) h =
    allowed_few (may_be_command d) (record d { began = true; in_edit = true }) (λ e. h)
placed_few d (says.Command command) h =
    allowed_few (may_be_command d) (record d { began = true; in_edit = false }) (λ e. h)

read_few : (d : Draft) (said : Result Said ScriptKind) → AreFew d.roots → Few (said >>= placed d)
read_few d (Ok s) h = placed_few d s h
read_few d (Err kind) h = tt

numbered_few : (n : ℕ) (result : Result Draft ScriptKind) → Few result → Few (numbered n result)
numbered_few n (Ok d) h = h
numbered_few n (Err kind) h = tt

then_few : (result : Result Draft ScriptFault) (after : Draft → Result Draft ScriptFault) →
    Few result → ((d : Draft) → AreFew d.roots → Few (after d)) → Few (result >>= after)
then_few (Ok d) after h f = f d h
then_few (Err fault) after h f = tt

checked_few : (d : Draft) (n : ℕ) (lines : List Line) → AreFew d.roots → Few (checked d n lines)
checked_few d n [] h = h
checked_few d n (line ∷ more) h =
    then_few (numbered n (line_read d line.bytes line.ended)) (λ next. checked next (n + 1) more)
    (numbered_few n (line_read d line.bytes line.ended) (read_few d (line_said_in d.form line.bytes line.ended) h))
    (λ next k. checked_few next (n + 1) more k)

ended_few : (lines : List Line) (result : Result Draft ScriptFault) → Few result →
    IfOk (result >>= λ d. Ok (finished lines d)) (λ (s : Contents). AreFew s.roots)
ended_few lines (Ok d) h = h
ended_few lines (Err fault) h = tt

no_roots : AreFew []
no_roots = record { few = omega arith; distinct = refl }

pub script_few : (bytes : List ℕ) → IfOk (script_of bytes) (λ (s : Contents). AreFew s.roots)
script_few bytes =
    let lines = lines_from [] bytes in
    ended_few lines (checked (beginning forms.Page) 1 lines) (checked_few (beginning forms.Page) 1 lines no_roots)

pub few_of : (bytes : List ℕ) (s : Contents) → script_of bytes ≡ Ok s → AreFew s.roots
few_of bytes s e = subst (λ r. IfOk r (λ (x : Contents). AreFew x.roots)) e (script_few bytes)
