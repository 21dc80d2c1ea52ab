-- The first import that isn't exported, as the code looks for it, module by module.
use Rattle.std.proofs.Common.{◌≡◌, ◌<◌, ◌+◌, ℕ, List, ◌∷◌, ◌++◌, drop, get_or, length, ap, sym, ◌∙◌}
use Rattle.std.specs.Prelude.{Some, None}
use Rattle.std.proofs.lemmas.List.{drop_more}
use Rattle.module_tree.specs.declared.tree.Module.{Module}
use Rattle.core_model.specs.Names.{Name, at, first_of}
use Rattle.core_model.specs.Page.{Plan}
use Rattle.core_model.specs.View.{View}
use Rattle.client_model.specs.Runtime.{Cause}
use Rattle.client_plan.specs.Unlinked.{bound_of, unlinked_among, unlinked_by}
use Rattle.client_plan.proofs.Unlinking.{first_none, first_some}

module _ (p : Plan) (view : View) (trees : List (Name × Module)) (names : List Name) (place : ℕ) (n : Name) (is : n ≡ get_or names place n) (within : place < length names)
    (before : first_of (unlinked_by p view trees (drop place names)) ≡ first_of (unlinked_by p view trees names)) where
  here : first_of (unlinked_among p view n (bound_of n (at trees n)) ++ unlinked_by p view trees (drop (place + 1) names)) ≡ first_of (unlinked_by p view trees names)
  here = ap (λ ns. first_of (unlinked_by p view trees ns)) (ap (λ k. k ∷ drop (place + 1) names) is ∙ sym (drop_more names place n within)) ∙ before

  -- a module that gives no cause
  pub module_passed : None ≡ first_of (unlinked_among p view n (bound_of n (at trees n))) → first_of (unlinked_by p view trees (drop (place + 1) names)) ≡ first_of (unlinked_by p view trees names)
  module_passed none = sym (first_none (unlinked_among p view n (bound_of n (at trees n))) (unlinked_by p view trees (drop (place + 1) names)) (sym none)) ∙ here

  -- the first that gives one
  pub module_found : (cause : Cause) → Some cause ≡ first_of (unlinked_among p view n (bound_of n (at trees n))) → Some cause ≡ first_of (unlinked_by p view trees names)
  module_found cause found = sym (first_some (unlinked_among p view n (bound_of n (at trees n))) (unlinked_by p view trees (drop (place + 1) names)) cause (sym found)) ∙ here
