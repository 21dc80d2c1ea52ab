-- When a page has, once a plan is applied, exactly the modules that its roots reach.
use Rattle.std.proofs.Common.{◌≡◌, ◌⊎◌, inl, inr, suc, ◌≤◌, Bool, true, false, List, [], ◌∷◌, length, refl, ap, sym, ◌∙◌, arith}
use Rattle.std.specs.Prelude.{not, None, is_some}
use Rattle.std.proofs.Math.Path.{subst}
use Rattle.hmr_types.specs.declared.words.PlanKind.TheVariants.{Update}
use Rattle.core_model.specs.Names.{Name, at, has, names_of}
use Rattle.core_model.specs.Page.{Plan, entry_at, met_of, new_entry, new_view, plan_imports, unmet_entry}
use Rattle.core_model.specs.Paths.{Reaches}
use Rattle.core_model.specs.Roots.{are_distinct}
use Rattle.core_model.specs.View.{View, imports, imports_of}
use Rattle.core_model.proofs.Naming.{and_both, cases_bool, has_cases}
use Rattle.core_model.proofs.Planning.{at_new, met_is}
use Rattle.core_model.proofs.Reaching.{reaches_on, reaches_start, reaches_within}
use Rattle.core_model.proofs.Tables.{named}
use Rattle.client_model.specs.Linking.{next_needed}
use Rattle.client_model.specs.Order.{evaluation_order}
use Rattle.client_model.specs.Runtime.{Runtime}
use Rattle.module_graph.proofs.Distinct.{at_most}
use Rattle.client_plan.specs.Renewing.{IsRenewing}
use Rattle.client_plan.specs.Whole.{IsWhole}
use Rattle.client_plan.proofs.Orders.{Distinct, left_once}
use Rattle.client_plan.proofs.Paging.{left_there, met_left}
use Rattle.client_plan.proofs.Renewal.{met_paged}

-- Names that are all of a view's.

as_distinct : (names : List Name) → Distinct names → are_distinct names ≡ true
as_distinct [] d = refl
as_distinct (n ∷ names) d = and_both (not (has names n)) _ (ap not d.0) (as_distinct names d.1)

count : (view : View) → length (names_of view) ≡ length view
count [] = refl
count (row ∷ rows) = ap suc (count rows)

-- names of a view, no two equal and as many as its modules, are the names of all of them
none_left_out : (names : List Name) (view : View) → Distinct names → ((n : Name) → has names n ≡ true → is_some (at view n) ≡ true) → length view ≤ length names → (n : Name) → is_some (at view n) ≡ true → has names n ≡ true
none_left_out names view once there few n here = by (cases_bool (has names n))
  where
    all : (m : Name) → has (n ∷ names) m ≡ true → has (names_of view) m ≡ true
    all m h = sym (named view m) ∙ one (has_cases n names m h)
      where
        one : (n ≡ m) ⊎ (has names m ≡ true) → is_some (at view m) ≡ true
        one (inl e) = subst (λ k. is_some (at view k) ≡ true) e here
        one (inr t) = there m t

    by : (has names n ≡ true) ⊎ (has names n ≡ false) → has names n ≡ true
    by (inl t) = t
    by (inr f) = absurd (omega (
      arith,
      few,
      count view,
      at_most (n ∷ names) (names_of view) (and_both (not (has names n)) _ (ap not f) (as_distinct names once)) all,
    ))

module _ (r : Runtime) (p : Plan) (none : next_needed p r ≡ None) where
  -- what is met has its entry in the plan
  met_entry : (n : Name) → has (met_of r.roots p r.page.view) n ≡ true → at (new_view r.roots p r.page.view) n ≡ entry_at p r.page.view n
  met_entry n h = at_new r.roots p r.page.view n ∙ ap (λ b. new_entry b p r.page.view n) h

  met_there : (n : Name) → has (met_of r.roots p r.page.view) n ≡ true → is_some (at (new_view r.roots p r.page.view) n) ≡ true
  met_there n h = ap is_some (met_entry n h) ∙ left_there p r none n (sym (met_left r.roots p r.page.view n) ∙ h)

  -- where the page then has nothing else, it has exactly what the roots reach
  pub whole_of : ((n : Name) → is_some (at (new_view r.roots p r.page.view) n) ≡ true → has (met_of r.roots p r.page.view) n ≡ true) → IsWhole r.roots (new_view r.roots p r.page.view)
  whole_of all = record {
    there = λ n reached. met_there n ((met_is r.roots p r.page.view n).1 (by_plan n reached));
    reached = λ n here. (in_view n ((met_is r.roots p r.page.view n).0 (all n here))).1;
  }
    where
      edge : (n m : Name) → Reaches (plan_imports p r.page.view) r.roots n → imports (new_view r.roots p r.page.view) n m ≡ plan_imports p r.page.view n m
      edge n m reached = ap (λ o. has (imports_of o) m) (met_entry n ((met_is r.roots p r.page.view n).1 reached))

      by_plan : (n : Name) → Reaches (imports (new_view r.roots p r.page.view)) r.roots n → Reaches (plan_imports p r.page.view) r.roots n
      by_plan n reached = reaches_within (imports (new_view r.roots p r.page.view)) r.roots (Reaches (plan_imports p r.page.view) r.roots)
          (reaches_start (plan_imports p r.page.view) r.roots) (λ k m s e. reaches_on (plan_imports p r.page.view) r.roots k m s (sym (edge k m s) ∙ e)) n reached

      in_view : (n : Name) → Reaches (plan_imports p r.page.view) r.roots n → Reaches (plan_imports p r.page.view) r.roots n × Reaches (imports (new_view r.roots p r.page.view)) r.roots n
      in_view n reached = reaches_within (plan_imports p r.page.view) r.roots (λ k. Reaches (plan_imports p r.page.view) r.roots k × Reaches (imports (new_view r.roots p r.page.view)) r.roots k)
          (λ k c. (reaches_start (plan_imports p r.page.view) r.roots k c, reaches_start (imports (new_view r.roots p r.page.view)) r.roots k c))
          (λ k m s e. (reaches_on (plan_imports p r.page.view) r.roots k m s.0 e, reaches_on (imports (new_view r.roots p r.page.view)) r.roots k m s.1 (edge k m s.0 ∙ e))) n reached

  -- it has no more modules than the walk leaves
  pub whole_counted : length (new_view r.roots p r.page.view) ≤ length (evaluation_order r.roots p r.page.view) → IsWhole r.roots (new_view r.roots p r.page.view)
  whole_counted few = whole_of (λ n here. met_left r.roots p r.page.view n
      ∙ none_left_out (evaluation_order r.roots p r.page.view) (new_view r.roots p r.page.view) (left_once r.roots p r.page.view)
      (λ m h. met_there m (met_left r.roots p r.page.view m ∙ h)) few n here)

  stay_step : (met : Bool) (n : Name) → (has (met_of r.roots p r.page.view) n ≡ met) → p.kind ≡ Update → is_some (new_entry met p r.page.view n) ≡ true → (is_some (at r.page.view n) ≡ true → has (met_of r.roots p r.page.view) n ≡ true) → has (met_of r.roots p r.page.view) n ≡ true
  stay_step true n e is here f = e
  stay_step false n e is here f = f (ap (λ k. is_some (unmet_entry k (at r.page.view n))) (sym is) ∙ here)

  -- an update's page, where all of its modules are met
  pub whole_stays : IsRenewing r p → ((n : Name) → is_some (at r.page.view n) ≡ true → has (met_of r.roots p r.page.view) n ≡ true) → IsWhole r.roots (new_view r.roots p r.page.view)
  whole_stays renewing all = whole_of (λ n here. stay_step (has (met_of r.roots p r.page.view) n) n refl renewing.kind (ap is_some (sym (at_new r.roots p r.page.view n)) ∙ here) (all n))

  -- the page stays, and has no more modules than the walk leaves
  pub whole_renewed : IsRenewing r p → length r.page.view ≤ length (evaluation_order r.roots p r.page.view) → IsWhole r.roots (new_view r.roots p r.page.view)
  whole_renewed renewing few = whole_stays renewing (λ n here. met_left r.roots p r.page.view n
      ∙ none_left_out (evaluation_order r.roots p r.page.view) r.page.view (left_once r.roots p r.page.view) (met_paged r p renewing) few n here)
