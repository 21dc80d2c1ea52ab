-- What is left of a list of jobs when one more is taken.
use Rattle.std.proofs.Common.{◌≡◌, ◌+◌, ◌-◌, List, [], ◌∷◌, ◌++◌, length, drop, take, sym, ap, ◌∙◌, subst, arith, length-append}
use Rattle.std.proofs.lemmas.List.{take-append-drop, take_all}
use Rattle.std.proofs.Math.Seq.{drop-append-add, take-append-add}
use Rattle.transform_pool.specs.Left.{IsLeft, taken_of}
use Rattle.transform_pool.specs.Tasks.{Task}

past : (front left : List Task) (job : Task)
    → IsLeft (front ++ job ∷ left) left × (taken_of (front ++ job ∷ left) left ≡ front ++ job ∷ [])
past front left job =
    let n : length (front ++ job ∷ left) - length left ≡ length front + 1 =
    omega (arith, length-append front (job ∷ left)) in (
      sym (ap (λ m. drop m (front ++ job ∷ left)) n ∙ drop-append-add front (job ∷ left) 1),
      ap (λ m. take m (front ++ job ∷ left)) n ∙ take-append-add front (job ∷ left) 1,
    )

pub taken_next : (all old left : List Task) (job : Task) → IsLeft all old → old ≡ job ∷ left
    → IsLeft all left × (taken_of all left ≡ taken_of all old ++ job ∷ [])
taken_next all old left job h next =
    let front = taken_of all old in
    let whole : front ++ job ∷ left ≡ all =
    ap (λ l. front ++ l) (sym next ∙ h) ∙ take-append-drop (length all - length old) all in
    let P : List Task → Type 0 = λ a. IsLeft a left × (taken_of a left ≡ front ++ job ∷ []) in
    subst P whole (past front left job)

-- nothing was taken of all
pub none_taken : (all : List Task) → IsLeft all all × (taken_of all all ≡ [])
none_taken all =
    let n : length all - length all ≡ 0 = omega arith in
    (sym (ap (λ m. drop m all) n), ap (λ m. take m all) n)

-- where nothing is left, all were taken
pub all_taken : (all left : List Task) → left ≡ [] → taken_of all left ≡ all
all_taken all left none =
    let n : length all - length left ≡ length all = omega (arith, ap length none) in
    ap (λ m. take m all) n ∙ take_all (length all) all (omega arith)
