-- The first import that isn't exported, found piece by piece.
use Rattle.std.proofs.Common.{◌≡◌, Bool, true, false, List, [], ◌∷◌, ◌++◌, map, refl, ap, sym, ◌∙◌}
use Rattle.std.specs.Prelude.{filter, flat_map, not, if◌then◌else◌, Option, Some, None}
use Rattle.std.specs.Option.{option_map}
use Rattle.std.proofs.lemmas.Option.{none-some, same_Some}
use Rattle.module_tree.specs.Tree.{module_of}
use Rattle.module_tree.specs.declared.tree.Module.{Module}
use Rattle.module_semantics.specs.ModuleText.{parsing}
use Rattle.core_model.specs.Names.{Name, at, first_of, has}
use Rattle.core_model.specs.Page.{Plan, entry_at}
use Rattle.core_model.specs.Sources.{Text}
use Rattle.core_model.specs.View.{View}
use Rattle.client_model.specs.Language.{Binding}
use Rattle.client_model.specs.Linking.{bindings_of, exports_of, is_unlinked, link_cause, new_names}
use Rattle.client_model.specs.Runtime.{Runtime, Cause, unlinked}
use Rattle.module_language.specs.ModuleLanguage.{bound_in, module_in, module_language}
use Rattle.page_plan.specs.Plans.{IsSamePlan}
use Rattle.page_plan.proofs.Same.{entry_same}
use Rattle.client_plan.specs.UnderWay.{HasTrees}
use Rattle.client_plan.specs.Unlinked.{bound_of, unlinked_among, unlinked_by}

-- where the first list gives none, the first is that of the second
pub first_none : {X : Type 0} (xs ys : List X) → first_of xs ≡ None → first_of (xs ++ ys) ≡ first_of ys
first_none [] ys e = refl
first_none (x ∷ xs) ys e = absurd (none-some x (sym e))

-- else it is that of the first
pub first_some : {X : Type 0} (xs ys : List X) (x : X) → first_of xs ≡ Some x → first_of (xs ++ ys) ≡ Some x
first_some [] ys x e = absurd (none-some x e)
first_some (z ∷ xs) ys x e = e

among_step : (p : Plan) (view : View) (n : Name) (b : Bool) (c : Binding) (cs bs : List Binding) → unlinked_among p view n (cs ++ bs) ≡ unlinked_among p view n cs ++ unlinked_among p view n bs
    → map (λ b. unlinked n b.dependency b.exported) (if b then c ∷ filter (is_unlinked p view) (cs ++ bs) else filter (is_unlinked p view) (cs ++ bs)) ≡ map (λ b. unlinked n b.dependency b.exported) (if b then c ∷ filter (is_unlinked p view) cs else filter (is_unlinked p view) cs) ++ unlinked_among p view n bs
among_step p view n true c cs bs e = ap (λ xs. unlinked n c.dependency c.exported ∷ xs) e
among_step p view n false c cs bs e = e

pub among_append : (p : Plan) (view : View) (n : Name) (cs bs : List Binding) → unlinked_among p view n (cs ++ bs) ≡ unlinked_among p view n cs ++ unlinked_among p view n bs
among_append p view n [] bs = refl
among_append p view n (a ∷ cs) bs = among_step p view n (is_unlinked p view a) a cs bs (among_append p view n cs bs)

-- the bindings are those of the trees
trees_bind : (n : Name) (o : Option Text) (m : Option Module) → option_map (λ t. module_in (parsing t)) o ≡ option_map module_of m → bindings_of module_language n o ≡ bound_of n m
trees_bind n None None e = refl
trees_bind n None (Some tree) e = absurd (none-some (module_of tree) e)
trees_bind n (Some t) None e = absurd (none-some (module_in (parsing t)) (sym e))
trees_bind n (Some t) (Some tree) e = ap (bound_in n) (same_Some (module_in (parsing t)) (module_of tree) e)

same_filter : (p q : Plan) (view : View) → ((n : Name) → entry_at p view n ≡ entry_at q view n) → (bs : List Binding) → filter (is_unlinked p view) bs ≡ filter (is_unlinked q view) bs
same_filter p q view same [] = refl
same_filter p q view same (b ∷ bs) = ap (λ e. if not (has (exports_of e) b.exported) then b ∷ filter (is_unlinked p view) bs else filter (is_unlinked p view) bs) (same b.dependency)
    ∙ ap (λ rest. if is_unlinked q view b then b ∷ rest else rest) (same_filter p q view same bs)

module _ (r : Runtime) (p q : Plan) (trees : List (Name × Module)) (s : IsSamePlan p q) (t : HasTrees r trees) where
  of_name : (n : Name) → unlinked_among p r.page.view n (bindings_of module_language n (at r.texts n)) ≡ unlinked_among q r.page.view n (bound_of n (at trees n))
  of_name n = ap (map (λ b. unlinked n b.dependency b.exported)) (same_filter p q r.page.view (entry_same p q r.page.view s) (bindings_of module_language n (at r.texts n)))
      ∙ ap (unlinked_among q r.page.view n) (trees_bind n (at r.texts n) (at trees n) (t n))

  of_names : (names : List Name) → flat_map (λ n. unlinked_among p r.page.view n (bindings_of module_language n (at r.texts n))) names ≡ unlinked_by q r.page.view trees names
  of_names [] = refl
  of_names (n ∷ names) = ap (λ xs. xs ++ flat_map (λ n. unlinked_among p r.page.view n (bindings_of module_language n (at r.texts n))) names) (of_name n) ∙ ap (λ xs. unlinked_among q r.page.view n (bound_of n (at trees n)) ++ xs) (of_names names)

  -- the cause of the model is the first over the trees
  pub link_is : (view : View) (names : List Name) (o : Option Cause) → r.page.view ≡ view → names ≡ new_names p r → o ≡ first_of (unlinked_by q view trees names) → link_cause module_language p r ≡ o
  link_is view names o v e is = ap first_of (of_names (new_names p r)) ∙ ap (λ ns. first_of (unlinked_by q r.page.view trees ns)) (sym e) ∙ ap (λ w. first_of (unlinked_by q w trees names)) v ∙ sym is
