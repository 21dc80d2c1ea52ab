-- A plan whose entries are all served: what it meets a fresh load reaches, and what it can't link the
-- fresh load can't link.
use Rattle.std.proofs.Common.{◌≡◌, ◌⊎◌, inl, inr, Bool, true, false, List, [], ◌∷◌, ◌++◌, refl, ap, sym, ◌∙◌}
use Rattle.std.specs.Prelude.{filter, map, flat_map, cond, not, Option, Some, None, is_some, is_none}
use Rattle.std.specs.List.{list_all}
use Rattle.std.specs.Option.{option_or}
use Prim.{⊥}
use Rattle.std.proofs.Math.Path.{subst}
use Rattle.std.proofs.lemmas.Bool.{false≢true}
use Rattle.hmr_types.specs.declared.words.PlanKind.{PlanKind}
use Rattle.hmr_types.specs.declared.words.PlanKind.TheVariants.{Load, Reload, Update}
use Rattle.core_model.specs.Names.{Name, same_name, has, at, sorted, first_of}
use Rattle.core_model.specs.Paths.{Reaches}
use Rattle.core_model.specs.Sources.{Sources, Serving, Text}
use Rattle.core_model.specs.FreshLoad as fresh
use Rattle.core_model.specs.FreshLoad.{Served, reached_by, linked_from, unlinked_edge, unlinked_module, imports_in}
use Rattle.core_model.specs.View.{View, Entry, imports_of}
use Rattle.core_model.specs.Page.{Plan, kept_or_staged, entry_at, plan_imports}
use Rattle.core_model.proofs.Naming.{true_same, same_true, or_left, or_right, both_true, or_cases, filtered_from, sorted_has, first_has, none_first}
use Rattle.core_model.proofs.Reaching.{reaches_within, reaches_on, reaches_start}
use Rattle.core_model.proofs.Loading.{reached_is}
use Rattle.core_laws.specs.Given.{entry_of}
use Rattle.core_laws.specs.Facts.{IsServed, KeptIsServed, PlanIsServed}
use Rattle.core_laws.proofs.Looking.{none_pass}
use Rattle.client_model.specs.Language.{Language, Binding, links_of, BindsImports}
use Rattle.client_model.specs.Runtime as causes
use Rattle.client_model.specs.Runtime.{Runtime, Cause}
use Rattle.client_model.specs.Linking.{next_needed, new_names, exports_of, is_unlinked, bindings_of, link_cause, is_kept}
use Rattle.client_model.specs.Order.{fetch_order, evaluation_order}
use Rattle.client_model.proofs.Walking.{walk_is, orders_agree}
use Rattle.world_model.specs.CaughtUp.{is_empty}
use Rattle.world_model.specs.Ties.{IsServedRight, AreServedRight}
use Rattle.world_laws.specs.Quiet.{IsServedWhole, IsMissing, CauseIs, IsServedText}
use Rattle.world_laws.proofs.CatchingUp.{none_is}

or_served : (kept new : Option Entry) (v : Option Serving) → IsServed kept v → IsServed new v → IsServed (option_or kept new) v
or_served None new v g h = h
or_served (Some e) new v g h = g

kept_served : (kind : PlanKind) (r : Bool) (replaced : List Name) (view : View) (served : Served) (n : Name) (new : Option Entry) → has replaced n ≡ r → KeptIsServed kind replaced view served → IsServed new (at served n) → IsServed (kept_or_staged kind r (at view n) new) (at served n)
kept_served Load r replaced view served n new e g h = h
kept_served Reload r replaced view served n new e g h = h
kept_served Update true replaced view served n new e g h = h
kept_served Update false replaced view served n new e g h = or_served (at view n) new (at served n) (g n e) h

served_edge : (o : Option Entry) (v : Option Serving) (m : Name) → IsServed o v → has (imports_of o) m ≡ true → has (imports_in v) m ≡ true
served_edge None v m g h = absurd (false≢true h)
served_edge (Some e) None m g h = absurd (false≢true (ap is_some g))
served_edge (Some e) (Some v) m g h = ap (λ o. has (imports_of o) m) g ∙ h

module _ (roots : List Name) (p : Plan) (view : View) (served : Served) (is : PlanIsServed (Some p) view served) where
  pub plan_served : (n : Name) → IsServed (entry_at p view n) (at served n)
  plan_served n = kept_served p.kind (has p.replaced n) p.replaced view served n (at p.staged n) refl is.1 (is.0 n)

  pub met_reached : (n : Name) → Reaches (plan_imports p view) roots n → Reaches (fresh.imports served) roots n
  met_reached = reaches_within (plan_imports p view) roots (Reaches (fresh.imports served) roots) (reaches_start (fresh.imports served) roots)
      (λ n m r by. reaches_on (fresh.imports served) roots n m r (served_edge (entry_at p view n) (at served n) m (plan_served n) by))

-- The next name to be fetched.

there_is : {X : Type 0} → (o : Option X) → is_none o ≡ false → is_some o ≡ true
there_is None h = sym h
there_is (Some x) h = refl

-- it is met and has no entry
pub needed_is : (p : Plan) (r : Runtime) (n : Name) → next_needed p r ≡ Some n → (entry_at p r.page.view n ≡ None) × Reaches (plan_imports p r.page.view) r.roots n
needed_is p r n e =
    let f = filtered_from (λ m. is_none (entry_at p r.page.view m)) (fetch_order r.roots p r.page.view) n (first_has _ n e) in
    (none_is (entry_at p r.page.view n) f.0, (walk_is r.roots p r.page.view n).0 f.1)

-- where none is needed, each met name has an entry
pub met_there : (p : Plan) (r : Runtime) → next_needed p r ≡ None → (n : Name) → Reaches (plan_imports p r.page.view) r.roots n → is_some (entry_at p r.page.view n) ≡ true
met_there p r e n m = there_is (entry_at p r.page.view n) (none_pass (λ k. is_none (entry_at p r.page.view k)) (fetch_order r.roots p r.page.view) (none_first _ e) n ((walk_is r.roots p r.page.view n).1 m))

-- A fresh load that is whole.

-- nothing missing is reached
pub whole_served : (language : Language) (roots : List Name) (s : Sources) (n : Name) → IsServedWhole language roots s → IsMissing roots s.served n → ⊥
whole_served language roots s n whole m = false≢true (sym (none_pass (λ k. not (is_some (at s.served k))) (reached_by s.served roots) whole.served n m.reached) ∙ ap (λ o. not (is_some o)) m.unserved)

-- and so no cause that a fetch found stands
pub cause_counts : (language : Language) (roots : List Name) (s : Sources) (cause : Cause) → CauseIs roots s.served (Some cause) → IsServedWhole language roots s → ⊥
cause_counts language roots s (causes.missing n) h whole = whole_served language roots s n whole h
cause_counts language roots s (causes.broken n) h whole = whole_served language roots s n whole h
cause_counts language roots s (causes.unlinked n m x) h whole = absurd h

append_left : {X : Type 0} → (xs ys : List X) → xs ++ ys ≡ [] → xs ≡ []
append_left [] ys e = refl
append_left (x ∷ xs) ys e = absurd (false≢true (ap is_empty e))

append_right : {X : Type 0} → (xs ys : List X) → xs ++ ys ≡ [] → ys ≡ []
append_right [] ys e = e
append_right (x ∷ xs) ys e = absurd (false≢true (ap is_empty e))

map_none : {X A : Type 0} → (f : X → A) (xs : List X) → map f xs ≡ [] → xs ≡ []
map_none f [] e = refl
map_none f (x ∷ xs) e = absurd (false≢true (ap is_empty e))

-- nothing comes of a name of a list from which nothing comes
flat_none : {A : Type 0} → (f : Name → List A) (names : List Name) → flat_map f names ≡ [] → (n : Name) → has names n ≡ true → f n ≡ []
flat_none f [] e n h = absurd (false≢true h)
flat_none f (m ∷ names) e n h = by_test (flat_none f names (append_right (f m) (flat_map f names) e) n) (or_cases (same_name m n) (has names n) h)
  where
    by_test : (has names n ≡ true → f n ≡ []) → (same_name m n ≡ true) ⊎ (has names n ≡ true) → f n ≡ []
    by_test later (inl t) = ap f (sym (same_true m n t)) ∙ append_left (f m) (flat_map f names) e
    by_test later (inr t) = later t

module _ (language : Language) (roots : List Name) (s : Sources) (whole : IsServedWhole language roots s) where
  edge_whole : (links : List (Name × Name)) (v : Serving) (n m x : Name) → unlinked_edge links (Some v) n m ≡ [] → has (linked_from links m) x ≡ true → has v.analysis.exports x ≡ true
  edge_whole links v n m x e h = by_test (has v.analysis.exports x) (none_pass (λ k. not (has v.analysis.exports k)) (linked_from links m) nothing x h)
    where
      open_names : List Name
      open_names = filter (λ k. not (has v.analysis.exports k)) (linked_from links m)

      empty_sorted : (names : List Name) → sorted names ≡ [] → names ≡ []
      empty_sorted [] h = refl
      empty_sorted (k ∷ names) h = absurd (false≢true (ap (λ l. has l k) (sym h) ∙ (sorted_has (k ∷ names) k ∙ or_left (same_name k k) _ (true_same k k refl))))

      nothing : open_names ≡ []
      nothing = empty_sorted open_names (map_none (λ k. (n, m, k)) (sorted open_names) e)

      by_test : (b : Bool) → not b ≡ false → b ≡ true
      by_test true h = refl
      by_test false h = sym h

  module_whole : (n : Name) (v : Serving) → has (reached_by s.served roots) n ≡ true → at s.served n ≡ Some v → (m x : Name) (u : Serving) → has v.analysis.imports m ≡ true → at s.served m ≡ Some u → has (linked_from (links_of language n v.text) m) x ≡ true → has u.analysis.exports x ≡ true
  module_whole n v reached e m x u imported g h =
      let all : unlinked_module (links_of language) s.served n (at s.served n) ≡ [] = flat_none (λ k. unlinked_module (links_of language) s.served k (at s.served k)) (reached_by s.served roots) whole.linked n reached in
      let mine : unlinked_module (links_of language) s.served n (Some v) ≡ [] = subst (λ o. unlinked_module (links_of language) s.served n o ≡ []) e all in
      let edge : unlinked_edge (links_of language n v.text) (at s.served m) n m ≡ [] = flat_none (λ k. unlinked_edge (links_of language n v.text) (at s.served k) n k) (sorted v.analysis.imports) mine m (sorted_has v.analysis.imports m ∙ imported) in
      edge_whole (links_of language n v.text) u n m x (subst (λ o. unlinked_edge (links_of language n v.text) o n m ≡ []) g edge) h

-- What can't be linked.

pair_of : Binding → Name × Name
pair_of b = (b.dependency, b.exported)

linked_step : (b : Bool) (x y : Name) (names : List (Name × Name)) (d : Name) → has (map (λ (link : Name × Name). link.1) names) x ≡ true → has (map (λ (link : Name × Name). link.1) (cond b ((d, y) ∷ names) names)) x ≡ true
linked_step true x y names d h = or_right (same_name y x) _ h
linked_step false x y names d h = h

linked_here : (b : Bool) (y : Name) (names : List (Name × Name)) (d : Name) → b ≡ true → has (map (λ (link : Name × Name). link.1) (cond b ((d, y) ∷ names) names)) y ≡ true
linked_here true y names d e = or_left (same_name y y) _ (true_same y y refl)
linked_here false y names d e = absurd (false≢true e)

none_unlinked : (p : Plan) (view : View) (imports : List Name) (bs : List Binding) → list_all (λ b. has imports b.dependency) bs ≡ true
    → ((d x : Name) → has imports d ≡ true → has (linked_from (map (λ b. (b.dependency, b.exported)) bs) d) x ≡ true → has (exports_of (entry_at p view d)) x ≡ true)
    → filter (is_unlinked p view) bs ≡ []
none_unlinked p view imports [] all f = refl
none_unlinked p view imports (b ∷ bs) all f =
    let here = both_true (has imports b.dependency) (list_all (λ k. has imports k.dependency) bs) all in
    let links : List (Name × Name) = map (λ k. (k.dependency, k.exported)) bs in
    let exported : has (exports_of (entry_at p view b.dependency)) b.exported ≡ true = f b.dependency b.exported here.0 (linked_here (same_name b.dependency b.dependency) b.exported (filter (λ link. same_name link.0 b.dependency) links) b.dependency (true_same b.dependency b.dependency refl)) in
    ap (λ c. cond (not c) (b ∷ filter (is_unlinked p view) bs) (filter (is_unlinked p view) bs)) exported
    ∙ none_unlinked p view imports bs here.1 (λ d x i h. f d x i (linked_step (same_name b.dependency d) x b.exported (filter (λ link. same_name link.0 d) links) b.dependency h))

flat_nothing : {A : Type 0} → (f : Name → List A) (names : List Name) → ((n : Name) → has names n ≡ true → f n ≡ []) → flat_map f names ≡ []
flat_nothing f [] h = refl
flat_nothing f (n ∷ names) h = ap (λ l. l ++ flat_map f names) (h n (or_left (same_name n n) _ (true_same n n refl))) ∙ flat_nothing f names (λ m k. h m (or_right (same_name n m) _ k))

served_as : (o : Option Entry) (v : Serving) → is_some o ≡ true → IsServed o (Some v) → o ≡ entry_of (Some v)
served_as None v h g = absurd (false≢true h)
served_as (Some e) v h g = sym g

unserved_none : (o : Option Entry) → is_some o ≡ true → IsServed o None → ⊥
unserved_none None h g = false≢true h
unserved_none (Some e) h g = false≢true (ap is_some g)

module _ (language : Language) (s : Sources) (p : Plan) (r : Runtime) (right : AreServedRight language s.served) (binds : BindsImports language) (whole : IsServedWhole language r.roots s) (is : PlanIsServed (Some p) r.page.view s.served) (texts : (n : Name) → IsServedText (at r.texts n) (at s.served n)) (all : next_needed p r ≡ None) where
  -- a met name, by what is served of it
  linked_at : (n : Name) → Reaches (plan_imports p r.page.view) r.roots n → (o : Option Text) (v : Option Serving) → at s.served n ≡ v → IsServedText o v → filter (is_unlinked p r.page.view) (bindings_of language n o) ≡ []
  linked_at n met None v e t = refl
  linked_at n met (Some t) None e h = absurd h
  linked_at n met (Some t) (Some v) e h = none_unlinked p r.page.view v.analysis.imports (language.bindings n t)
      (binds n t v.analysis (ap (λ k. language.transformed n k) (sym h) ∙ subst (IsServedRight language n) e (right n)))
      (λ d x imported linked. exported d x imported (ap (λ k. has (linked_from (links_of language n k) d) x) h ∙ linked) (at s.served d) refl)
    where
      entry : entry_at p r.page.view n ≡ entry_of (Some v)
      entry = served_as (entry_at p r.page.view n) v (met_there p r all n met) (subst (IsServed (entry_at p r.page.view n)) e (plan_served r.roots p r.page.view s.served is n))

      exported : (d x : Name) → has v.analysis.imports d ≡ true → has (linked_from (links_of language n v.text) d) x ≡ true → (u : Option Serving) → at s.served d ≡ u → has (exports_of (entry_at p r.page.view d)) x ≡ true
      exported d x imported linked u g =
          let on : Reaches (plan_imports p r.page.view) r.roots d = reaches_on (plan_imports p r.page.view) r.roots n d met (ap (λ o. has (imports_of o) d) entry ∙ imported) in
          by_served d x imported linked u g (met_there p r all d on) (subst (IsServed (entry_at p r.page.view d)) g (plan_served r.roots p r.page.view s.served is d))
        where
          by_served : (d x : Name) → has v.analysis.imports d ≡ true → has (linked_from (links_of language n v.text) d) x ≡ true → (u : Option Serving) → at s.served d ≡ u → is_some (entry_at p r.page.view d) ≡ true → IsServed (entry_at p r.page.view d) u → has (exports_of (entry_at p r.page.view d)) x ≡ true
          by_served d x imported linked None g there k = absurd (unserved_none (entry_at p r.page.view d) there k)
          by_served d x imported linked (Some u) g there k = ap (λ o. has (exports_of o) x) (served_as (entry_at p r.page.view d) u there k)
              ∙ module_whole language r.roots s whole n v ((reached_is s.served r.roots n).1 (met_reached r.roots p r.page.view s.served is n met)) e d x u imported g linked

  -- all is linked
  pub none_to_link : link_cause language p r ≡ None
  none_to_link = ap first_of (flat_nothing (λ n. map (λ b. _) (filter (is_unlinked p r.page.view) (bindings_of language n (at r.texts n)))) (new_names p r)
      (λ n h. ap (map _) (linked_at n ((walk_is r.roots p r.page.view n).0 (orders_agree r.roots p r.page.view n ∙ (filtered_from (λ k. not (is_kept p r.page.view k)) (evaluation_order r.roots p r.page.view) n h).1)) (at r.texts n) (at s.served n) refl (texts n))))
