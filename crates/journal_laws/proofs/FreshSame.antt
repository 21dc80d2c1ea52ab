-- A live instance holds what a fresh load gives its module, where the ones that it is linked to hold what it
-- gives theirs.
use Rattle.std.proofs.Common.{◌≡◌, ◌⊎◌, inl, inr, ℕ, suc, ◌≤◌, ◌<◌, Bool, true, false, List, [], ◌∷◌, length, refl, ap, sym, ◌∙◌, arith, Contains}
use Rattle.std.specs.Prelude.{map, filter_map, cond, ◌==◌, ◌&&◌, ◌||◌, Option, Some, option_map, if◌then◌else◌}
use Rattle.std.specs.List.{list_any, list_all, cons_option}
use Rattle.std.proofs.Math.Path.{subst}
use Rattle.std.proofs.lemmas.Bool.{eqb-true, eq-eqb}
use Rattle.hmr_types.specs.declared.value.Slot.{Slot}
use Rattle.output_lines.specs.declared.words.InstanceStatus.{InstanceStatus}
use Rattle.output_lines.specs.declared.words.InstanceStatus.TheVariants.{Unrun}
use Rattle.core_model.specs.Names.{Name, has, at}
use Rattle.core_model.specs.Sources.{Serving}
use Rattle.core_model.proofs.Naming.{both_true, head_has, tail_has}
use Rattle.client_model.specs.Language.{Language, Slots, Bag, Binding, Evaluated}
use Rattle.client_model.specs.Instance.{Instance, numbered}
use Rattle.client_model.specs.Linking.{link_to}
use Rattle.client_model.specs.Making.{status_after}
use Rattle.world_laws.specs.Instances.{AreNumbered}
use Rattle.world_laws.proofs.Members.{in_cases, none_in}
use Rattle.journal_laws.specs.FreshValues.{Valued, export_of, is_failed, fresh_imports, valued, fresh_valued, IsWithoutBag}
use Rattle.journal_laws.proofs.FreshMade.{Gist, gist, gists, every, gist_at, is_failed_gist, failed_link, export_gist, export_over, slots_over, is_watched, are_watched, IsMade, IsMadeOf, AreMade, numbered_gist, whole_gist}
use Rattle.journal_laws.proofs.LeadingBack.{Linking, import_number}

-- Instances by number.

skipped : (x : Instance) (instances : List Instance) (k : ℕ) → k < x.number → numbered (x ∷ instances) k ≡ numbered instances k
skipped x instances k l = by (x.number == k) refl
  where
    by : (b : Bool) → (x.number == k) ≡ b → cond b (Some x) (numbered instances k) ≡ numbered instances k
    by true e = absurd (omega (arith, l, eqb-true x.number k e))
    by false e = refl

number_most : (instances : List Instance) → AreNumbered instances → (i : Instance) → Contains instances i → i.number ≤ length instances
number_most [] d i c = absurd (none_in i c)
number_most (x ∷ instances) d i c = by (number_most instances d.1 i) (in_cases x instances i c)
  where
    by : (Contains instances i → i.number ≤ length instances) → (x ≡ i) ⊎ Contains instances i → i.number ≤ suc (length instances)
    by rest (inl e) = omega (arith, d.0, ap (λ (j : Instance). j.number) e)
    by rest (inr t) = omega (arith, rest t)

pub number_found : (instances : List Instance) → AreNumbered instances → (i : Instance) → Contains instances i → numbered instances i.number ≡ Some i
number_found [] d i c = absurd (none_in i c)
number_found (x ∷ instances) d i c = by (number_found instances d.1 i) (in_cases x instances i c)
  where
    by : (Contains instances i → numbered instances i.number ≡ Some i) → (x ≡ i) ⊎ Contains instances i → numbered (x ∷ instances) i.number ≡ Some i
    by rest (inl e) = subst (λ j. numbered (x ∷ instances) j.number ≡ Some j) e (ap (λ b. cond b (Some x) (numbered instances x.number)) (eq-eqb x.number x.number refl))
    by rest (inr t) = skipped x instances i.number (omega (arith, d.0, number_most instances d.1 i t)) ∙ rest t

-- the older ones, over which an instance was made
pub record MadeOver (watched : ℕ → Bool) (language : Language) (instances : List Instance) (i : Instance) : Type 0 where
  pub older : List Instance
  pub made : IsMadeOf watched language (gists watched older) (gist watched i)
  pub same : (k : ℕ) → k < i.number → numbered older k ≡ numbered instances k

pub made_over : (watched : ℕ → Bool) (language : Language) (instances : List Instance) → AreNumbered instances → AreMade watched language (gists watched instances) → (i : Instance) → Contains instances i → MadeOver watched language instances i
made_over watched language [] d a i c = absurd (none_in i c)
made_over watched language (x ∷ instances) d a i c = by (made_over watched language instances d.1 a.1 i) (in_cases x instances i c)
  where
    by : (Contains instances i → MadeOver watched language instances i) → (x ≡ i) ⊎ Contains instances i → MadeOver watched language (x ∷ instances) i
    by rest (inl e) = subst (MadeOver watched language (x ∷ instances)) e (record { older = instances; made = a.0; same = λ k l. sym (skipped x instances k l) })
    by rest (inr t) =
        let m : MadeOver watched language instances i = rest t in
        record { older = m.older; made = m.made; same = λ k l. m.same k l ∙ sym (skipped x instances k (omega (arith, l, d.0, number_most instances d.1 i t))) }

-- What an instance holds.

abbrev pub valued_of : Instance → Valued
valued_of i = record { status = i.status; values = i.values }

-- the link to an import leads to an older instance that is watched, and this is what is done for the import
pub record IsDone (watched : ℕ → Bool) (older : List Instance) (links : List (Name × ℕ)) (done : List (Name × Valued)) (x : Name) : Type 0 where
  pub instance : Instance
  pub link : at links x ≡ Some instance.number
  pub seen : watched instance.number ≡ true
  pub found : numbered older instance.number ≡ Some instance
  pub value : at done x ≡ Some (valued_of instance)

module _ (watched : ℕ → Bool) (older : List Instance) (links : List (Name × ℕ)) (done : List (Name × Valued)) where
  gist_found : (x : Name) (d : IsDone watched older links done x) → gist_at (gists watched older) d.instance.number ≡ Some (gist every d.instance)
  gist_found x d = numbered_gist watched older d.instance.number ∙ ap (option_map (gist watched)) d.found ∙ ap {B = Option Gist} (λ g. Some g) (whole_gist watched d.instance d.seen)

  export_same : (x : Name) → IsDone watched older links done x → (y : Name) → export_over (at links x) (gists watched older) y ≡ export_of (at done x) y
  export_same x d y = ap (λ o. export_over o (gists watched older) y) d.link ∙ ap (λ o. export_gist o y) (gist_found x d) ∙ sym (ap (λ o. export_of o y) d.value)

  slots_same : (imports : List Name) → ((x : Name) → has imports x ≡ true → IsDone watched older links done x) → (bindings : List Binding) → list_all (λ b. has imports b.dependency) bindings ≡ true
      → map {B = Name × Slot} (λ b. (b.local, export_over (at links b.dependency) (gists watched older) b.exported)) bindings ≡ map {B = Name × Slot} (λ b. (b.local, export_of (at done b.dependency) b.exported)) bindings
  slots_same imports h [] all = refl
  slots_same imports h (b ∷ bindings) all =
      let parts = both_true (has imports b.dependency) (list_all (λ b. has imports b.dependency) bindings) all in
      ap (λ slot. (b.local, slot) ∷ map {B = Name × Slot} (λ b. (b.local, export_over (at links b.dependency) (gists watched older) b.exported)) bindings) (export_same b.dependency (h b.dependency parts.0) b.exported)
      ∙ ap (λ rows. (b.local, export_of (at done b.dependency) b.exported) ∷ rows) (slots_same imports h bindings parts.1)

  failed_same : (number : Name → Option ℕ) (imports : List Name) → ((x : Name) → has imports x ≡ true → IsDone watched older links done x) → ((x : Name) → has imports x ≡ true → number x ≡ at links x)
      → failed_link (gists watched older) (filter_map (λ m. link_to m (number m)) imports) ≡ list_any (λ m. is_failed (at done m)) imports
  failed_same number [] h e = refl
  failed_same number (m ∷ imports) h e =
      let d : IsDone watched older links done m = h m (head_has m imports) in
      ap (λ o. failed_link (gists watched older) (cons_option (link_to m o) (filter_map (λ m. link_to m (number m)) imports))) (e m (head_has m imports) ∙ d.link)
      ∙ ap (λ o. is_failed_gist o || failed_link (gists watched older) (filter_map (λ m. link_to m (number m)) imports)) (gist_found m d)
      ∙ ap (λ b. is_failed_gist (Some (gist every d.instance)) || b) (failed_same number imports (λ x t. h x (tail_has m imports x t)) (λ x t. e x (tail_has m imports x t)))
      ∙ sym (ap (λ o. is_failed o || list_any (λ m. is_failed (at done m)) imports) d.value)

same_valued : (a b : InstanceStatus) (x y : Slots) → a ≡ b → x ≡ y → ◌≡◌ {A = Valued} (record { status = a; values = x }) (record { status = b; values = y })
same_valued a b x y e h = ap (λ (c : InstanceStatus). record { status = c; values = x }) e ∙ ap (λ (z : Slots). record { status = b; values = z }) h

module _ (language : Language) (n : Name) (s : Serving) (i : Instance) (watched : ℕ → Bool) (older : List Instance) (done : List (Name × Valued)) (name : i.name ≡ n) (text : i.text ≡ s.text) (linking : Linking i.links s.analysis.imports)
    (dones : (x : Name) → has s.analysis.imports x ≡ true → IsDone watched older i.links done x) (binds : list_all (λ b. has s.analysis.imports b.dependency) (language.bindings n s.text) ≡ true) (bagless : IsWithoutBag language n s) where
  -- what it imports is watched
  pub imports_seen : are_watched watched language i.links i.name i.text ≡ true
  imports_seen = ap (λ k. are_watched watched language i.links k i.text) name ∙ ap (are_watched watched language i.links n) text ∙ by (language.bindings n s.text) binds
    where
      by : (bindings : List Binding) → list_all (λ b. has s.analysis.imports b.dependency) bindings ≡ true → list_all (λ b. is_watched watched (at i.links b.dependency)) bindings ≡ true
      by [] all = refl
      by (b ∷ bindings) all =
          let parts = both_true (has s.analysis.imports b.dependency) (list_all (λ b. has s.analysis.imports b.dependency) bindings) all in
          let d : IsDone watched older i.links done b.dependency = dones b.dependency parts.0 in
          ap (λ o. is_watched watched o && list_all (λ b. is_watched watched (at i.links b.dependency)) bindings) d.link
          ∙ ap (λ c. c && list_all (λ b. is_watched watched (at i.links b.dependency)) bindings) d.seen ∙ by bindings parts.1

  failed_is : failed_link (gists watched older) i.links ≡ list_any (λ m. is_failed (at done m)) s.analysis.imports
  failed_is = ap (failed_link (gists watched older)) linking.links_are ∙ failed_same watched older i.links done linking.number s.analysis.imports dones (λ x h. sym (import_number i.links s.analysis.imports linking x h))

  evaluated_is : (bag : Bag) → language.evaluated i.name i.text (slots_over language (gists watched older) i.links i.name i.text) bag ≡ language.evaluated n s.text (fresh_imports language done n s) bag
  evaluated_is bag = ap (λ k. language.evaluated k i.text (slots_over language (gists watched older) i.links k i.text) bag) name
      ∙ ap (λ t. language.evaluated n t (slots_over language (gists watched older) i.links n t) bag) text
      ∙ ap (λ slots. language.evaluated n s.text slots bag) (slots_same watched older i.links done s.analysis.imports dones (language.bindings n s.text) binds)

  value_by : (b : Bool) → IsMade b language (gists watched older) (gist every i) → (if b then record { status = Unrun; values = [] } else valued (language.evaluated n s.text (fresh_imports language done n s) [])) ≡ valued_of i
  value_by true m = same_valued Unrun i.status [] i.values (sym m.0) (sym m.1)
  value_by false m = same_valued (status_after (language.evaluated n s.text (fresh_imports language done n s) []).fault) i.status (language.evaluated n s.text (fresh_imports language done n s) []).vars i.values
      (sym (m.status ∙ ap (λ (e : Evaluated). status_after e.fault) (evaluated_is m.bag) ∙ ap status_after (bagless.fault (fresh_imports language done n s) m.bag)))
      (sym (m.values ∙ ap (λ (e : Evaluated). e.vars) (evaluated_is m.bag) ∙ bagless.vars (fresh_imports language done n s) m.bag))

  -- it holds what the fresh load gives its module
  pub value_is : watched i.number ≡ true → IsMadeOf watched language (gists watched older) (gist watched i) → fresh_valued language done n s ≡ valued_of i
  value_is seen m =
      value_by (list_any (λ m. is_failed (at done m)) s.analysis.imports)
      (subst (λ b. IsMade b language (gists watched older) (gist every i)) failed_is
      (subst (IsMade (failed_link (gists watched older) i.links) language (gists watched older)) (whole_gist watched i seen) (m seen imports_seen)))
