-- A text that is kept for the plan under way: its tree, and its entry in the plan.
use Rattle.std.proofs.Common.{◌≡◌, ℕ, Bool, true, false, List, [], ◌∷◌, refl, ap, sym, ◌∙◌}
use Rattle.std.specs.Prelude.{cond, filter, if◌then◌else◌, is_none, is_some, OnOk, Option, Some, None, Result, Ok, Err}
use Rattle.std.specs.Option.{option_map}
use Rattle.std.specs.BTreeMap.{BTreeMap, is_at, UpdatesBy}
use Rattle.std.specs.Cmp.Lexicographic.{pointwise, slice_cmp, nat_list_eq_equiv}
use Rattle.std.specs.Map.{lookup}
use Rattle.std.specs.Ordering.{nat_cmp}
use Rattle.std.proofs.Math.Path.{subst}
use Rattle.std.proofs.lemmas.Bool.{false≢true}
use Rattle.std.proofs.lemmas.Option.{none-some, same_Some}
use Rattle.module_tree.specs.Tree.{module_of}
use Rattle.module_tree.specs.declared.tree.Module.{Module}
use Rattle.module_semantics.specs.ModuleText.{parsing}
use Rattle.update_msgs.specs.Writable.{IsVersion}
use Rattle.core_model.specs.Names.{Name, same_name, at, with_row}
use Rattle.core_model.proofs.Naming.{both_true, filtered_from, first_has, same_true, true_same}
use Rattle.core_model.specs.Sources.{Text}
use Rattle.core_model.specs.View.{Entry, imports_of}
use Rattle.core_model.specs.Page as page
use Rattle.core_model.specs.Page.{entry_at}
use Rattle.core_model.proofs.Tables.{at_with_row}
use Rattle.client_model.specs.Linking.{next_needed}
use Rattle.client_model.specs.Order.{fetch_order}
use Rattle.client_model.specs.Runtime.{Runtime}
use Rattle.module_graph.specs.Entries.{put_entry}
use Rattle.module_language.specs.ModuleLanguage.{module_in}
use Rattle.page_plan.specs.Plans.{IsSamePlan}
use Rattle.page_plan.proofs.Making.{at_put, staged_same}
use Rattle.page_plan.proofs.Numbering as numbering
use Rattle.page_plan.proofs.Same.{at_fetched}
use Rattle.module_graph.proofs.Sets.{compared_same}
use Rattle.client_plan.specs.Planned.{IsPlanned}
use Rattle.client_plan.specs.Staging.{HasStaged}
use Rattle.client_plan.specs.UnderWay.{HasTrees, IsNext, IsUnderWay, IsWalk, cause_of, plan_with, runtime_with}
use Rattle.client_plan.specs.Whole.{IsWalkFetched}
use Rattle.client_plan.specs.declared.fetching.Parsed.{Parsed}
use Rattle.client_plan.specs.declared.under_way.Next.{Next}
use Rattle.client_plan.specs.declared.under_way.Next.TheVariants.{Fetch, Finish}
use Rattle.client_plan.specs.declared.under_way.Walk.{Walk}
use Rattle.client_plan.specs.declared.under_way.Walk.TheVariants.{Begun, Spared}
use Rattle.client_plan.specs.declared.under_way.UnderWay.{UnderWay}

-- what a map has at a name, once it has a value in place of a name's own
pub at_inserted : {X : Type 0} (name key : Name) (x : X) (old new : BTreeMap Name X) → key ≡ name → UpdatesBy (slice_cmp nat_cmp) (slice_cmp nat_cmp key) old new (Some x)
    → (n : Name) → at new.entries n ≡ (if same_name name n then Some x else at old.entries n)
at_inserted name key x old new e updates n =
    let all : lookup (is_at (slice_cmp nat_cmp n)) new.entries ≡ cond (is_at (slice_cmp nat_cmp key) n) (Some x) (lookup (is_at (slice_cmp nat_cmp n)) old.entries) = updates.0 n in
    sym (numbering.found n new.entries) ∙ all ∙ ap (λ o. cond (is_at (slice_cmp nat_cmp key) n) (Some x) o) (numbering.found n old.entries)
    ∙ ap (λ b. cond b (Some x) (at old.entries n)) (compared_same key n ∙ nat_list_eq_equiv.symm n key ∙ ap (λ k. same_name k n) e)

text_step : (b : Bool) (t : Text) (tree : Module) (old : Option Text) (kept : Option Module) → module_in (parsing t) ≡ module_of tree → option_map (λ t. module_in (parsing t)) old ≡ option_map module_of kept
    → option_map (λ t. module_in (parsing t)) (if b then Some t else old) ≡ option_map module_of (if b then Some tree else kept)
text_step true t tree old kept e h = ap Some e
text_step false t tree old kept e h = h

-- the trees are what the texts read as, with one text more
trees_more : (r : Runtime) (name : Name) (t : Text) (tree : Module) (old new : List (Name × Module)) → ((n : Name) → at new n ≡ (if same_name name n then Some tree else at old n))
    → module_in (parsing t) ≡ module_of tree → HasTrees r old → HasTrees (record r { texts = with_row name t r.texts }) new
trees_more r name t tree old new more reads has n =
    ap (option_map (λ t. module_in (parsing t))) (at_with_row name t r.texts n) ∙ text_step (same_name name n) t tree (at r.texts n) (at old n) reads (has n)
    ∙ ap (option_map module_of) (sym (more n))

counted_step : (b : Bool) (e x : Entry) (old : Option Entry) → IsVersion e.version → (old ≡ Some x → IsVersion x.version) → (if b then Some e else old) ≡ Some x → IsVersion x.version
counted_step true e x old v f h = subst (λ (y : Entry). IsVersion y.version) (same_Some e x h) v
counted_step false e x old v f h = f h

kept_step : (b : Bool) (tree : Module) (e : Entry) (kept : Option Module) (old : Option Entry) → is_some kept ≡ is_some old → is_some (if b then Some tree else kept) ≡ is_some (if b then Some e else old)
kept_step true tree e kept old h = refl
kept_step false tree e kept old h = h

-- with a version of a counted edit it is planned well
pub more_planned : (loaded : Bool) (u v : UnderWay) (name : Name) (version : ℕ) (found : Parsed) → HasStaged name version found u.plan u.trees.entries v.plan v.trees.entries → IsVersion version → IsPlanned loaded u → IsPlanned loaded v
more_planned loaded u v name version found kept counted planned =
    let e : Entry = record { version = version; analysis = found.analysis } in
    let put : (n : Name) → at v.plan.staged n ≡ (if same_name name n then Some e else at u.plan.staged n) = λ n. ap (λ (p : page.Plan). at p.staged n) kept.plan ∙ at_put name e u.plan.staged n in
    record {
      staged = λ n x h. counted_step (same_name name n) e x (at u.plan.staged n) counted (planned.staged n x) (sym (put n) ∙ h);
      trees = λ n. ap is_some (kept.trees n) ∙ kept_step (same_name name n) found.tree e (at u.trees.entries n) (at u.plan.staged n) (planned.trees n) ∙ ap is_some (sym (put n));
      loads = λ h. planned.loads (sym (ap (λ (p : page.Plan). p.kind) kept.plan) ∙ h);
    }

-- The plan goes on with it.

nothing_there : (o : Option Entry) → is_none o ≡ true → o ≡ None
nothing_there None e = refl
nothing_there (Some x) e = absurd (false≢true e)

-- what is needed isn't there
pub needed_lacks : (p : page.Plan) (r : Runtime) (n : Name) → next_needed p r ≡ Some n → entry_at p r.page.view n ≡ None
needed_lacks p r n e = nothing_there (entry_at p r.page.view n)
    (filtered_from (λ k. is_none (entry_at p r.page.view k)) (fetch_order r.roots p r.page.view) n (first_has (filter (λ k. is_none (entry_at p r.page.view k)) (fetch_order r.roots p r.page.view)) n e)).0

row_here : (b : Bool) (e : Entry) (old : Option Entry) → b ≡ true → (if b then Some e else old) ≡ Some e
row_here true e old h = refl
row_here false e old h = absurd (false≢true h)

row_there : (b : Bool) (e : Entry) (old : Option Entry) → b ≡ false → (if b then Some e else old) ≡ old
row_there true e old h = absurd (false≢true (sym h))
row_there false e old h = refl

-- where the walk of the plan stood
pub walk_fetched : (r : Runtime) (p : page.Plan) (next : Next) (walk : Walk) (name : Name) (e : Entry) (keeps : Bool) → IsNext r p next → IsWalk r p next walk → next_needed p r ≡ Some name
    → (keeps ≡ true → e.analysis.imports ≡ imports_of (at r.page.view name)) → IsWalkFetched r.roots (plan_with p name e) r.page.view name keeps walk
walk_fetched r p (Finish ready) walk name e keeps i w needs same = absurd (none-some name (sym i.none_needed ∙ needs))
walk_fetched r p (Fetch n) (Begun walker) name e keeps i w needs same = at_fetched r.roots p r.page.view name e walker (needed_lacks p r name needs) w
walk_fetched r p (Fetch n) Spared name e keeps i w needs same =
    let is : n ≡ name = same_Some n name (sym i ∙ needs) in
    let here : at (plan_with p name e).staged name ≡ Some e = at_with_row name e p.staged name ∙ row_here (same_name name name) e (at p.staged name) (true_same name name refl) in
    record {
      kind = w.kind;
      replaced = λ m. w.replaced m ∙ ap (λ k. same_name k m) is;
      fetched = ap is_some here;
      alone = λ m apart. at_with_row name e p.staged m ∙ row_there (same_name name m) e (at p.staged m) apart ∙ w.staged m;
      there = ap (λ k. is_some (at r.page.view k)) (sym is) ∙ w.there;
      whole = w.whole;
      imports = λ k. ap imports_of here ∙ same k;
    }

-- and what is kept of it then
pub text_kept : (r : Runtime) (p : page.Plan) (u : UnderWay) (name : Name) (version : ℕ) (t : Text) (found : Parsed) (plan : page.Plan) (trees : BTreeMap Name Module) → IsUnderWay r p u
    → HasStaged name version found u.plan u.trees.entries plan trees.entries → module_in (parsing t) ≡ module_of found.tree
    → IsSamePlan (plan_with p name (record { version = version; analysis = found.analysis })) plan × HasTrees (runtime_with p name version t found.analysis r) trees.entries
text_kept r p u name version t found plan trees is kept reads =
    let e : Entry = record { version = version; analysis = found.analysis } in (
      subst (IsSamePlan (plan_with p name e)) (sym kept.plan) (staged_same p u.plan name e (put_entry name e u.plan.staged) is.plan refl),
      trees_more r name t found.tree u.trees.entries trees.entries kept.trees reads is.texts,
    )

-- the plan that has gone on
pub gone_on : (s : Runtime) (q : page.Plan) (u after : UnderWay) (plan : page.Plan) (trees : BTreeMap Name Module) → after ≡ record u { plan = plan; trees = trees; next = after.next; walk = after.walk } → IsSamePlan q plan → HasTrees s trees.entries
    → IsNext s q after.next × IsWalk s q after.next after.walk → s.pairs ≡ u.pairs.items → s.cause ≡ option_map cause_of u.cause → IsUnderWay s q after
gone_on s q u after plan trees is same texts on pairs cause = subst (IsUnderWay s q) (sym is) (record { plan = same; walk = on.1; next = on.0; texts = texts; pairs = pairs; cause = cause })

-- it is planned well, wherever its walk stands
pub still_planned : (loaded : Bool) (u after : UnderWay) (plan : page.Plan) (trees : BTreeMap Name Module) (next : Next) (walk : Walk) → after ≡ record u { plan = plan; trees = trees; next = next; walk = walk } → IsPlanned loaded (record u { plan = plan; trees = trees }) → IsPlanned loaded after
still_planned loaded u after plan trees next walk is planned = subst (IsPlanned loaded) (sym is) (record { staged = planned.staged; trees = planned.trees; loads = planned.loads })

-- what holds anyway holds where all went well
pub on_ok : {T E P : Type 0} (result : Result T E) → P → OnOk result P
on_ok (Ok x) h = h
on_ok (Err e) h = tt

-- lists that the test takes for the same
pub same_lists : (xs ys : List Name) → pointwise same_name xs ys ≡ true → xs ≡ ys
same_lists [] [] h = refl
same_lists [] (y ∷ ys) h = absurd (false≢true h)
same_lists (x ∷ xs) [] h = absurd (false≢true h)
same_lists (x ∷ xs) (y ∷ ys) h =
    let p = both_true (same_name x y) (pointwise same_name xs ys) h in
    ap (λ k. k ∷ xs) (same_true x y p.0) ∙ ap (λ l. y ∷ l) (same_lists xs ys p.1)
