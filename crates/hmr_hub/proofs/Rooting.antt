-- Roots that a core was made of are those of a page.
use Rattle.std.proofs.Common.{◌≡◌, ◌<◌, ◌≤◌, ◌↔◌, ⊎_elim, true, false, List, [], ◌∷◌, length, refl, arith}
use Rattle.std.specs.Prelude.{Result, Ok, Err, IsErrOf}
use lib.Dec.{ltb}
use Rattle.std.proofs.lemmas.Bool.{cases_Bool, ltb-true, ltb-false}
use Rattle.hmr_types.specs.declared.limits.TheConstants.{ROOTS}
use Rattle.core_model.specs.Names.{Name}
use Rattle.core_model.specs.Roots.{AreRoots, are_distinct}
use Rattle.server_core.specs.declared.new_fault.NewFault.{NewFault}
use Rattle.server_core.specs.declared.new_fault.NewFault.TheVariants.{DuplicateRoot, NoRoots, TooManyRoots}
use Rattle.hmr_hub.specs.declared.pass.HubFault.TheVariants.{Roots}
use Prim.{⊥}

module _ {X : Type 0} (made : Result X NewFault) (core : X) (is : made ≡ Ok core) where
  made_none : (fault : NewFault) → made ≡ Err fault → ⊥
  made_none fault e = cc

  some_root : (roots : List Name) → (roots ≡ [] → made ≡ Err NoRoots) → 1 ≤ length roots
  some_root [] none = absurd (made_none NoRoots (none refl))
  some_root (n ∷ names) none = omega arith

  -- none of the three faults came
  pub are_roots : (roots : List Name) → IsErrOf made NoRoots ↔ (roots ≡ []) → IsErrOf made TooManyRoots ↔ (ROOTS < length roots)
      → IsErrOf made DuplicateRoot ↔ ((length roots ≤ ROOTS) × (are_distinct roots ≡ false)) → AreRoots roots
  are_roots roots none many twice =
      let few : length roots ≤ ROOTS = ⊎_elim
      (λ (t : ltb ROOTS (length roots) ≡ true). absurd (made_none TooManyRoots (many.1 (ltb-true ROOTS (length roots) t))))
      (λ (f : ltb ROOTS (length roots) ≡ false). ltb-false ROOTS (length roots) f)
      (cases_Bool (ltb ROOTS (length roots))) in
      record {
        some = some_root roots none.1;
        few = few;
        distinct = ⊎_elim
            (λ (t : are_distinct roots ≡ true). t)
            (λ (f : are_distinct roots ≡ false). absurd (made_none DuplicateRoot (twice.1 (few, f))))
            (cases_Bool (are_distinct roots));
      }

-- a fault of the roots is told as one
pub same_fault : {X Y : Type 0} (made : Result X NewFault) (fault f : NewFault) (P : Type 0) → made ≡ Err fault → IsErrOf made f ↔ P → IsErrOf {T = Y} (Err (Roots fault)) (Roots f) ↔ P
same_fault made fault f P is iff = (λ e. iff.0 (cc), λ p. let h = iff.1 p in cc)
