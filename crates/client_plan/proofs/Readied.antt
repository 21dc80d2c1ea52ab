-- What carries a plan on, found over a plan that is the same but for the order of its lists.
use Rattle.std.proofs.Common.{◌≡◌, ◌≤◌, Bool, true, List, [], ◌∷◌, length, refl, ap, sym, ◌∙◌}
use Rattle.std.specs.Prelude.{cond, filter, not, is_none, None, IfOk, OnOk, Result, Ok, Err}
use Rattle.std.specs.Option.{option_map}
use Rattle.std.proofs.Math.Path.{subst}
use Rattle.core_model.specs.Names.{Name, at, first_of, has}
use Rattle.core_model.specs.Page.{Plan, entry_at, new_view}
use Rattle.core_model.specs.View.{View}
use Rattle.client_model.specs.Linking.{is_kept, is_kept_kind, link_cause, new_names, next_needed}
use Rattle.client_model.specs.Order.{evaluation_order, fetch_order}
use Rattle.client_model.specs.Runtime.{Runtime}
use Rattle.module_language.specs.ModuleLanguage.{module_language}
use Rattle.page_plan.specs.Plans.{IsSamePlan}
use Rattle.page_plan.specs.Walking.{IsAt, KeptWalk, needed_of}
use Rattle.page_plan.proofs.Same.{at_same, entry_same, view_same, walked_same}
use Rattle.client_plan.specs.Renewing.{AreAllIn, IsMade}
use Rattle.client_plan.specs.UnderWay.{AreModules, IsNext, IsReady, IsWalk, cause_of}
use Rattle.client_plan.specs.Whole.{IsLoneFetched, IsWhole}
use Rattle.client_plan.specs.declared.under_way.Modules.{Modules}
use Rattle.client_plan.specs.declared.under_way.Modules.TheVariants.{Anew, Renewed}
use Rattle.client_plan.specs.declared.under_way.Next.{Next}
use Rattle.client_plan.specs.declared.under_way.Next.TheVariants.{Fetch, Finish}
use Rattle.client_plan.specs.declared.under_way.Ready.{Ready}
use Rattle.client_plan.specs.declared.under_way.Walk.TheVariants.{Begun}
use Rattle.client_plan.proofs.Alone.{lone_ends, lone_names, lone_renews, lone_whole}
use Rattle.client_plan.proofs.Reached.{whole_counted, whole_renewed}
use Rattle.client_plan.proofs.Renewal.{is_renewal}

turned : (p q : Plan) → IsSamePlan p q → IsSamePlan q p
turned p q s = record { kind = sym s.kind; replaced = λ n. sym (s.replaced n); staged = λ n. sym (s.staged n) }

filter_as : (f g : Name → Bool) → ((n : Name) → f n ≡ g n) → (ns : List Name) → filter f ns ≡ filter g ns
filter_as f g same [] = refl
filter_as f g same (n ∷ ns) = ap (λ b. cond b (n ∷ filter f ns) (filter f ns)) (same n) ∙ ap (λ ms. cond (g n) (n ∷ ms) ms) (filter_as f g same ns)

module _ (r : Runtime) (p q : Plan) (view : View) (v : r.page.view ≡ view) (s : IsSamePlan p q) where
  pub goes_on : (kept : KeptWalk) → IsAt r.roots p r.page.view kept → IsAt r.roots q view kept
  goes_on kept w = subst (λ x. IsAt r.roots q x kept) v (at_same r.roots p q r.page.view kept s w)

  pub came_to : (kept : KeptWalk) → IsAt r.roots q view kept → IsAt r.roots p r.page.view kept
  came_to kept w = at_same r.roots q p r.page.view kept (turned p q s) (subst (λ x. IsAt r.roots q x kept) (sym v) w)

  pub order_same : evaluation_order r.roots p r.page.view ≡ evaluation_order r.roots q view
  order_same = ap (λ w. w.left) (walked_same r.roots p q r.page.view s) ∙ ap (evaluation_order r.roots q) v

  pub needed_same : next_needed p r ≡ needed_of r.roots q view
  needed_same = ap (λ w. first_of (filter (λ n. is_none (entry_at p r.page.view n)) w.met)) (walked_same r.roots p q r.page.view s)
      ∙ ap first_of (filter_as (λ n. is_none (entry_at p r.page.view n)) (λ n. is_none (entry_at q r.page.view n)) (λ n. ap is_none (entry_same p q r.page.view s n)) (fetch_order r.roots q r.page.view))
      ∙ ap (needed_of r.roots q) v

  kept_same : (n : Name) → is_kept q view n ≡ is_kept p r.page.view n
  kept_same n = ap (λ k. is_kept_kind k (has q.replaced n) (at view n)) s.kind ∙ ap (λ b. is_kept_kind p.kind b (at view n)) (s.replaced n)
      ∙ ap (λ x. is_kept_kind p.kind (has p.replaced n) (at x n)) (sym v)

  names_same : (order : List Name) → order ≡ evaluation_order r.roots p r.page.view → filter (λ n. not (is_kept q view n)) order ≡ new_names p r
  names_same order o = ap (filter (λ n. not (is_kept q view n))) o
      ∙ filter_as (λ n. not (is_kept q view n)) (λ n. not (is_kept p r.page.view n)) (λ n. ap not (kept_same n)) (evaluation_order r.roots p r.page.view)

  -- what becomes of the page's modules, and whether they are then those that the roots reach
  pub modules_made : (names order : List Name) (modules : Modules) → order ≡ evaluation_order r.roots p r.page.view → names ≡ new_names p r → IsMade q view names order modules → AreModules r p modules
  modules_made names order (Anew made) o named is = is r.roots (o ∙ order_same) ∙ sym (view_same r.roots p q r.page.view s ∙ ap (new_view r.roots q) v)
  modules_made names order Renewed o named is = is_renewal r p q view names v s named is

  whole_found : (order : List Name) (modules : Modules) → next_needed p r ≡ None → order ≡ evaluation_order r.roots p r.page.view → AreModules r p modules → AreAllIn view modules (length order) → IsWhole r.roots (new_view r.roots p r.page.view)
  whole_found order (Anew made) none o is few = whole_counted r p none (subst (λ (w : View). length w ≤ length (evaluation_order r.roots p r.page.view)) is (subst (λ ns. length made ≤ length ns) o few))
  whole_found order Renewed none o is few = whole_renewed r p none is (subst (λ (w : View). length w ≤ length (evaluation_order r.roots p r.page.view)) (sym v) (subst (λ ns. length view ≤ length ns) o few))

  pub all_ready : (ready : Ready) (order : List Name) → next_needed p r ≡ None → order ≡ evaluation_order r.roots p r.page.view
      → ready.names.items ≡ filter (λ n. not (is_kept q view n)) order → (ready.names.items ≡ new_names p r → link_cause module_language p r ≡ option_map cause_of ready.link)
      → IsMade q view ready.names.items order ready.modules → (ready.whole ≡ true → AreAllIn view ready.modules (length order)) → IsReady r p ready
  all_ready ready order none o named links made few =
      let names : ready.names.items ≡ new_names p r = named ∙ names_same order o in
      let modules : AreModules r p ready.modules = modules_made ready.names.items order ready.modules o names made in
      record { none_needed = none; modules = modules; names = names; link = links names; whole = λ h. whole_found order ready.modules none o modules (few h) }

-- an update of one module that keeps its imports
pub lone_ready : (r : Runtime) (p : Plan) (n : Name) (ready : Ready) → IsLoneFetched r.roots p r.page.view n true → ready.modules ≡ Renewed → ready.names.items ≡ n ∷ []
    → (ready.names.items ≡ new_names p r → link_cause module_language p r ≡ option_map cause_of ready.link) → IsReady r p ready
lone_ready r p n ready i renews named links =
    let names : ready.names.items ≡ new_names p r = named ∙ sym (lone_names r p n i) in
    record { none_needed = lone_ends r p n i; modules = subst (AreModules r p) (sym renews) (lone_renews r p n i); names = names; link = links names; whole = λ h. lone_whole r p n i }

-- a walk that stands somewhere
pub stood : (r : Runtime) (p : Plan) (next : Next) (walker : KeptWalk) → IsAt r.roots p r.page.view walker → IsWalk r p next (Begun walker)
stood r p (Fetch n) walker w = w
stood r p (Finish ready) walker w = tt

-- it goes on
pub gone_to : {E : Type 0} (r : Runtime) (p : Plan) (result : Result Next E) (walker : KeptWalk) → IfOk result (IsNext r p) → OnOk result (IsAt r.roots p r.page.view walker) → IfOk result (λ next. IsNext r p next × IsWalk r p next (Begun walker))
gone_to r p (Ok next) walker n w = (n, stood r p next walker w)
gone_to r p (Err e) walker n w = tt
