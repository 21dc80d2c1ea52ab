-- An update that replaces one module of a page whose modules are exactly those that its roots reach: it needs
-- this module, and nothing else where the module keeps its imports.
use Rattle.std.proofs.Common.{◌≡◌, ◌⊎◌, inl, inr, Bool, true, false, List, [], ◌∷◌, refl, ap, sym, ◌∙◌}
use Rattle.std.specs.Prelude.{cond, filter, not, ◌||◌, Option, Some, None, is_none, is_some}
use Rattle.std.specs.Option.{option_or}
use Rattle.std.proofs.Math.Path.{subst}
use Rattle.std.proofs.lemmas.Bool.{false≢true}
use Prim.{⊥}
use Rattle.hmr_types.specs.declared.words.PlanKind.{PlanKind}
use Rattle.hmr_types.specs.declared.words.PlanKind.TheVariants.{Update}
use Rattle.core_model.specs.Names.{Name, at, first_of, has, same_name}
use Rattle.core_model.specs.Page.{Plan, entry_at, kept_or_staged, met_of, new_plan, new_view, plan_imports}
use Rattle.core_model.specs.Paths.{Reaches}
use Rattle.core_model.specs.View.{Entry, View, imports, imports_of}
use Rattle.core_model.proofs.Naming.{filtered_from, filtered_in, has_cases, head_has, no_names, or_left, same_true, true_same}
use Rattle.core_model.proofs.Planning.{met_is}
use Rattle.core_model.proofs.Reaching.{reaches_on, reaches_start, reaches_within}
use Rattle.client_model.specs.Linking.{is_kept, is_kept_kind, new_names, next_needed}
use Rattle.client_model.specs.Order.{evaluation_order, fetch_order}
use Rattle.client_model.specs.Runtime.{Runtime}
use Rattle.client_model.proofs.Walking.{walk_is}
use Rattle.client_plan.specs.Renewing.{IsRenewing}
use Rattle.client_plan.specs.Whole.{IsAlone, IsLone, IsLoneFetched, IsWhole}
use Rattle.client_plan.proofs.Orders.{Distinct, names_once}
use Rattle.client_plan.proofs.Paging.{met_left}
use Rattle.client_plan.proofs.Reached.{whole_stays}

-- Lists in which one name alone passes.

first_step : (pass : Name → Bool) (b : Bool) (x n : Name) (xs : List Name) → pass x ≡ b → (b ≡ true → x ≡ n) → (b ≡ false → first_of (filter pass xs) ≡ Some n) → first_of (cond b (x ∷ filter pass xs) (filter pass xs)) ≡ Some n
first_step pass true x n xs e f g = ap Some (f refl)
first_step pass false x n xs e f g = g refl

first_only : (pass : Name → Bool) (xs : List Name) (n : Name) → has xs n ≡ true → pass n ≡ true → ((m : Name) → has xs m ≡ true → pass m ≡ true → m ≡ n) → first_of (filter pass xs) ≡ Some n
first_only pass [] n h e only = absurd (false≢true h)
first_only pass (x ∷ xs) n h e only = first_step pass (pass x) x n xs refl (λ t. only x (head_has x xs) t)
    (λ f. first_only pass xs n (behind (has_cases x xs n h) f) e (λ m k t. only m (more m k) t))
  where
    behind : (x ≡ n) ⊎ (has xs n ≡ true) → pass x ≡ false → has xs n ≡ true
    behind (inl is) f = absurd (false≢true (sym f ∙ ap pass is ∙ e))
    behind (inr t) f = t

    more : (m : Name) → has xs m ≡ true → has (x ∷ xs) m ≡ true
    more m k = or_last (same_name x m) (has xs m) k
      where
        or_last : (a b : Bool) → b ≡ true → (a || b) ≡ true
        or_last true b t = refl
        or_last false b t = t

-- no name twice, and each is this one: it is the list of this name
single : (xs : List Name) (n : Name) → Distinct xs → has xs n ≡ true → ((m : Name) → has xs m ≡ true → n ≡ m) → xs ≡ n ∷ []
single [] n d h only = absurd (false≢true h)
single (x ∷ []) n d h only = ap (λ k. k ∷ []) (sym (only x (head_has x [])))
single (x ∷ (y ∷ ys)) n d h only =
    let same : x ≡ y = sym (only x (head_has x (y ∷ ys))) ∙ only y (second (same_name x y) (has (y ∷ ys) y) (head_has y ys)) in
    absurd (false≢true (sym d.0 ∙ or_left (same_name y x) (has ys x) (true_same y x (sym same))))
  where
    second : (a b : Bool) → b ≡ true → (a || b) ≡ true
    second true b t = refl
    second false b t = t

none_or : {X : Type 0} (o : Option X) → option_or o None ≡ o
none_or None = refl
none_or (Some x) = refl

by_test : {P : Type 0} (b : Bool) → (b ≡ true → P) → (b ≡ false → P) → P
by_test true f g = f refl
by_test false f g = g refl

lacks_none : {X : Type 0} (o : Option X) → is_some o ≡ true → is_none o ≡ true → false ≡ true
lacks_none None h e = h
lacks_none (Some x) h e = e

-- an update's entry of what it doesn't replace and doesn't stage is the page's
kept_entry : (k : PlanKind) (b : Bool) (old staged : Option Entry) → k ≡ Update → b ≡ false → staged ≡ None → kept_or_staged k b old staged ≡ old
kept_entry k b old staged is e none = ap (λ j. kept_or_staged j b old staged) is ∙ ap (λ c. kept_or_staged Update c old staged) e ∙ ap (option_or old) none ∙ none_or old

-- and of what it replaces what is staged
new_entry : (k : PlanKind) (b : Bool) (old staged : Option Entry) → k ≡ Update → b ≡ true → kept_or_staged k b old staged ≡ staged
new_entry k b old staged is e = ap (λ j. kept_or_staged j b old staged) is ∙ ap (λ c. kept_or_staged Update c old staged) e

-- Before its text is fetched the plan needs it.

module _ (r : Runtime) (p : Plan) (n : Name) (i : IsLone r.roots p r.page.view n) where
  others : (m : Name) → same_name n m ≡ false → entry_at p r.page.view m ≡ at r.page.view m
  others m apart = kept_entry p.kind (has p.replaced m) (at r.page.view m) (at p.staged m) i.kind (i.replaced m ∙ apart) (i.staged m)

  itself : entry_at p r.page.view n ≡ None
  itself = new_entry p.kind (has p.replaced n) (at r.page.view n) (at p.staged n) i.kind (i.replaced n ∙ true_same n n refl) ∙ i.staged n

  met_itself : Reaches (plan_imports p r.page.view) r.roots n
  met_itself = by (reaches_within (imports r.page.view) r.roots (λ m. Reaches (plan_imports p r.page.view) r.roots m ⊎ Reaches (plan_imports p r.page.view) r.roots n)
      (λ m c. inl (reaches_start (plan_imports p r.page.view) r.roots m c)) (λ k m s e. on k m e s) n (i.whole.reached n i.there))
    where
      on : (k m : Name) → imports r.page.view k m ≡ true → Reaches (plan_imports p r.page.view) r.roots k ⊎ Reaches (plan_imports p r.page.view) r.roots n → Reaches (plan_imports p r.page.view) r.roots m ⊎ Reaches (plan_imports p r.page.view) r.roots n
      on k m e (inr here) = inr here
      on k m e (inl came) = by_test (same_name n k) (λ s. inr (subst (Reaches (plan_imports p r.page.view) r.roots) (sym (same_true n k s)) came))
          (λ f. inl (reaches_on (plan_imports p r.page.view) r.roots k m came (ap (λ o. has (imports_of o) m) (others k f) ∙ e)))

      by : Reaches (plan_imports p r.page.view) r.roots n ⊎ Reaches (plan_imports p r.page.view) r.roots n → Reaches (plan_imports p r.page.view) r.roots n
      by (inl a) = a
      by (inr a) = a

  reached_paged : (m : Name) → Reaches (plan_imports p r.page.view) r.roots m → is_some (at r.page.view m) ≡ true
  reached_paged m reached = i.whole.there m (reaches_within (plan_imports p r.page.view) r.roots (Reaches (imports r.page.view) r.roots) (reaches_start (imports r.page.view) r.roots) on m reached)
    where
      on : (k m : Name) → Reaches (imports r.page.view) r.roots k → plan_imports p r.page.view k m ≡ true → Reaches (imports r.page.view) r.roots m
      on k m came e = by_test (same_name n k)
          (λ s. absurd (false≢true (sym (ap (λ o. has (imports_of o) m) itself) ∙ ap (λ j. plan_imports p r.page.view j m) (same_true n k s) ∙ e)))
          (λ f. reaches_on (imports r.page.view) r.roots k m came (ap (λ o. has (imports_of o) m) (sym (others k f)) ∙ e))

  pub lone_needs : next_needed p r ≡ Some n
  lone_needs = first_only (λ m. is_none (entry_at p r.page.view m)) (fetch_order r.roots p r.page.view) n ((walk_is r.roots p r.page.view n).1 met_itself) (ap is_none itself)
      (λ m h lacks. by_test (same_name n m) (λ s. sym (same_true n m s))
      (λ f. absurd (false≢true (lacks_none (at r.page.view m) (reached_paged m ((walk_is r.roots p r.page.view m).0 h)) (ap is_none (sym (others m f)) ∙ lacks)))))

-- Once its text is fetched, which keeps its imports, the plan needs nothing more.

module _ (r : Runtime) (p : Plan) (n : Name) (i : IsLoneFetched r.roots p r.page.view n true) where
  stays : (m : Name) → same_name n m ≡ false → entry_at p r.page.view m ≡ at r.page.view m
  stays m apart = kept_entry p.kind (has p.replaced m) (at r.page.view m) (at p.staged m) i.kind (i.replaced m ∙ apart) (i.alone m apart)

  fresh : entry_at p r.page.view n ≡ at p.staged n
  fresh = new_entry p.kind (has p.replaced n) (at r.page.view n) (at p.staged n) i.kind (i.replaced n ∙ true_same n n refl)

  same_imports : (m : Name) → imports_of (entry_at p r.page.view m) ≡ imports_of (at r.page.view m)
  same_imports m = by_test (same_name n m) (λ s. subst (λ k. imports_of (entry_at p r.page.view k) ≡ imports_of (at r.page.view k)) (same_true n m s) (ap imports_of fresh ∙ i.imports refl)) (λ f. ap imports_of (stays m f))

  in_page : (m : Name) → Reaches (plan_imports p r.page.view) r.roots m → Reaches (imports r.page.view) r.roots m
  in_page m reached = reaches_within (plan_imports p r.page.view) r.roots (Reaches (imports r.page.view) r.roots) (reaches_start (imports r.page.view) r.roots)
      (λ k j came e. reaches_on (imports r.page.view) r.roots k j came (ap (λ ns. has ns j) (sym (same_imports k)) ∙ e)) m reached

  in_plan : (m : Name) → Reaches (imports r.page.view) r.roots m → Reaches (plan_imports p r.page.view) r.roots m
  in_plan m reached = reaches_within (imports r.page.view) r.roots (Reaches (plan_imports p r.page.view) r.roots) (reaches_start (plan_imports p r.page.view) r.roots)
      (λ k j came e. reaches_on (plan_imports p r.page.view) r.roots k j came (ap (λ ns. has ns j) (same_imports k) ∙ e)) m reached

  all_met : (m : Name) → is_some (at r.page.view m) ≡ true → has (met_of r.roots p r.page.view) m ≡ true
  all_met m here = (met_is r.roots p r.page.view m).1 (in_plan m (i.whole.reached m here))

  there_in_plan : (m : Name) → is_some (at r.page.view m) ≡ true → is_some (entry_at p r.page.view m) ≡ true
  there_in_plan m here = by_test (same_name n m) (λ s. subst (λ k. is_some (entry_at p r.page.view k) ≡ true) (same_true n m s) (ap is_some fresh ∙ i.fetched)) (λ f. ap is_some (stays m f) ∙ here)

  pub lone_ends : next_needed p r ≡ None
  lone_ends = ap first_of (no_names (filter (λ m. is_none (entry_at p r.page.view m)) (fetch_order r.roots p r.page.view)) (λ m h. none m (filtered_from (λ m. is_none (entry_at p r.page.view m)) (fetch_order r.roots p r.page.view) m h)))
    where
      none : (m : Name) → (is_none (entry_at p r.page.view m) ≡ true) × (has (fetch_order r.roots p r.page.view) m ≡ true) → ⊥
      none m h = false≢true (lacks_none (entry_at p r.page.view m) (there_in_plan m (i.whole.there m (in_page m ((walk_is r.roots p r.page.view m).0 h.1)))) h.0)

  kept_all : (m : Name) → has (evaluation_order r.roots p r.page.view) m ≡ true → is_some (at r.page.view m) ≡ true
  kept_all m h = i.whole.there m (in_page m ((met_is r.roots p r.page.view m).0 (met_left r.roots p r.page.view m ∙ h)))

  is_fresh : (k : PlanKind) (b : Bool) (old : Option Entry) → k ≡ Update → b ≡ true → not (is_kept_kind k b old) ≡ true
  is_fresh k b old is e = ap (λ j. not (is_kept_kind j b old)) is ∙ ap (λ c. not (is_kept_kind Update c old)) e

  is_old : (k : PlanKind) (b : Bool) (old : Option Entry) → k ≡ Update → b ≡ false → is_some old ≡ true → not (is_kept_kind k b old) ≡ false
  is_old k b old is e here = ap (λ j. not (is_kept_kind j b old)) is ∙ ap (λ c. not (is_kept_kind Update c old)) e ∙ ap not here

  pub lone_names : new_names p r ≡ n ∷ []
  lone_names = single (new_names p r) n (names_once p r)
      (filtered_in (λ m. not (is_kept p r.page.view m)) (evaluation_order r.roots p r.page.view) n (is_fresh p.kind (has p.replaced n) (at r.page.view n) i.kind (i.replaced n ∙ true_same n n refl))
      (sym (met_left r.roots p r.page.view n) ∙ all_met n i.there))
      (λ m h. only m (filtered_from (λ m. not (is_kept p r.page.view m)) (evaluation_order r.roots p r.page.view) m h))
    where
      only : (m : Name) → (not (is_kept p r.page.view m) ≡ true) × (has (evaluation_order r.roots p r.page.view) m ≡ true) → n ≡ m
      only m h = by_test (same_name n m) (λ s. same_true n m s)
          (λ f. absurd (false≢true (sym (is_old p.kind (has p.replaced m) (at r.page.view m) i.kind (i.replaced m ∙ f) (kept_all m h.1)) ∙ h.0)))

  pub lone_renews : IsRenewing r p
  lone_renews = record { kind = i.kind; there = λ m h. kept_all m (filtered_from (λ m. not (is_kept p r.page.view m)) (evaluation_order r.roots p r.page.view) m h).1 }

  pub lone_whole : IsWhole r.roots (new_view r.roots p r.page.view)
  lone_whole = whole_stays r p lone_ends lone_renews all_met

or_false : (b : Bool) → (b || false) ≡ b
or_false true = refl
or_false false = refl

-- an update that begins and replaces one module of such a page
pub lone_begins : (r : Runtime) (roots : List Name) (view : View) (known : Bool) (names : List Name) (n : Name) → r.roots ≡ roots → r.page.view ≡ view → (known ≡ true → IsWhole roots view) → IsAlone view known names n
    → IsLone r.roots (new_plan Update names) r.page.view n
lone_begins r roots view known names n same v whole a = record {
  kind = refl;
  replaced = λ m. ap (λ ns. has ns m) a.replaced ∙ or_false (same_name n m);
  staged = λ m. refl;
  there = ap (λ (w : View). is_some (at w n)) v ∙ a.there;
  whole = subst (λ ns. IsWhole ns r.page.view) (sym same) (subst (IsWhole roots) (sym v) (whole a.whole));
}
