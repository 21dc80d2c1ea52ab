-- Of roots that are too many, so many are kept that this is known.
use Rattle.std.proofs.Common.{ℕ, ◌+◌, ◌<◌, ◌≤◌, List, [], ◌∷◌, ◌++◌, length, ⊎_elim, true, false, ◌≡◌, refl, sym, ap, subst, ◌∙◌, arith, Option, Some, None, Result}
use lib.Dec.{ltb}
use Rattle.std.proofs.lemmas.Bool.{cases_Bool, ltb-true, ltb-false}
use Rattle.std.proofs.lemmas.List.{length-append, length-take-le, take-append-le, take_all}
use Rattle.hmr_types.specs.declared.limits.TheConstants.{ROOTS}
use Rattle.core_model.specs.Names.{Name}
use Rattle.record_text.specs.declared.record.RecordEvent.{RecordEvent}
use Rattle.record_laws.specs.Course.{first_begun, roots_fault}
use Rattle.record_laws.specs.declared.verdict.Why.{Why}
use Rattle.record_laws.specs.declared.verdict.Why.TheVariants.{Roots}
use Rattle.transcript_check.specs.Following.{IsTaken, kept_roots}
use Rattle.transcript_check.specs.declared.course.Course.{Course}
use Rattle.transcript_check.specs.declared.halt.Halt.{Halt}
use Rattle.transcript_check.proofs.Entering.{many_roots_fault}

by_length : {C : Type 0} (told : List Name) → (length told ≤ ROOTS → C) → (ROOTS < length told → C) → C
by_length told few many =
    ⊎_elim
    (λ (t : ltb ROOTS (length told) ≡ true). many (ltb-true ROOTS (length told) t))
    (λ (f : ltb ROOTS (length told) ≡ false). few (ltb-false ROOTS (length told) f))
    (cases_Bool (ltb ROOTS (length told)))

all_kept : (told : List Name) → length told ≤ ROOTS → kept_roots told ≡ told
all_kept told few = take_all (ROOTS + 1) told (omega (arith, few))

one_beyond : (told : List Name) → ROOTS < length told → ROOTS < length (kept_roots told)
one_beyond told many = let e = length-take-le (ROOTS + 1) told (omega (arith, many)) in omega (arith, e)

-- the same is wrong with those that are kept
pub fault_kept : (told : List Name) → roots_fault (kept_roots told) ≡ roots_fault told
fault_kept told =
    by_length told (λ few. ap roots_fault (all_kept told few))
    (λ many. many_roots_fault (kept_roots told) (one_beyond told many) ∙ sym (many_roots_fault told many))

good_kept : (told : List Name) → roots_fault told ≡ None → kept_roots told ≡ told
good_kept told h =
    by_length told (all_kept told) (λ many. let is : Some Roots ≡ None = sym (many_roots_fault told many) ∙ h in absurd (cc))

first_by : (line : ℕ) (event : RecordEvent) (told names : List Name) (result : Result Course Halt) (o : Option Why) → roots_fault told ≡ o → names ≡ kept_roots told
    → IsTaken result (first_begun (roots_fault names) line event names) → IsTaken result (first_begun (roots_fault told) line event told)
first_by line event told names result (Some why) f e t =
    subst (λ o. IsTaken result (first_begun o line event told)) (sym f)
    (subst (λ o. IsTaken result (first_begun o line event names)) (ap roots_fault e ∙ (fault_kept told ∙ f)) t)
first_by line event told names result None f e t =
    subst (λ rs. IsTaken result (first_begun (roots_fault rs) line event rs)) (e ∙ good_kept told f) t

-- the first event behind roots
pub first_told : (line : ℕ) (event : RecordEvent) (told names : List Name) (result : Result Course Halt) → names ≡ kept_roots told
    → IsTaken result (first_begun (roots_fault names) line event names) → IsTaken result (first_begun (roots_fault told) line event told)
first_told line event told names result e t = first_by line event told names result (roots_fault told) refl e t

-- one more root
pub root_more : (told : List Name) (name : Name) (names new : List Name) → names ≡ kept_roots told → length names ≤ ROOTS → new ≡ names ++ name ∷ [] → new ≡ kept_roots (told ++ name ∷ [])
root_more told name names new e few is =
    by_length told
    (λ short.
    let longer = length-append told (name ∷ []) in
    is ∙ (ap (λ ns. ns ++ name ∷ []) (e ∙ all_kept told short) ∙ sym (take_all (ROOTS + 1) (told ++ name ∷ []) (omega (arith, short, longer)))))
    (λ many. let beyond = one_beyond told many in let same = ap length e in absurd (omega (arith, few, beyond, same)))

pub root_beyond : (told : List Name) (name : Name) (names : List Name) → names ≡ kept_roots told → ROOTS < length names → names ≡ kept_roots (told ++ name ∷ [])
root_beyond told name names e many =
    by_length told
    (λ short. let same = ap length (e ∙ all_kept told short) in absurd (omega (arith, short, many, same)))
    (λ long. e ∙ sym (take-append-le (ROOTS + 1) told (name ∷ []) (omega (arith, long))))
