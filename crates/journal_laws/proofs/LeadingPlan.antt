-- A new instance of a plan is linked to older ones, to ones before it in the order of evaluation, or to one
-- from which links lead back to it.
use Rattle.std.proofs.Common.{◌≡◌, ◌⊎◌, inl, inr, ℕ, zero, suc, ◌≤◌, ◌<◌, Bool, true, false, List, [], ◌∷◌, ◌++◌, refl, ap, sym, ◌∙◌, arith}
use Rattle.std.specs.Prelude.{filter, cond, not, ◌||◌, if◌then◌else◌}
use Prim.{⊥}
use Rattle.std.proofs.Math.Path.{subst}
use Rattle.std.proofs.lemmas.Bool.{false≢true}
use Rattle.core_model.specs.Names.{Name, same_name, has}
use Rattle.core_model.specs.Paths.{Leads, IsPath, Reaches}
use Rattle.core_model.specs.View.{View, imported_of}
use Rattle.core_model.specs.Page.{Plan, plan_imports}
use Rattle.core_model.proofs.Naming.{has_is, or_left, or_right, same_true, true_same, has_append, filtered_from, has_cases}
use Rattle.core_model.proofs.Planning.{plan_over}
use Rattle.client_model.specs.Runtime.{Runtime}
use Rattle.client_model.specs.Order.{next_of, evaluation_order}
use Rattle.client_model.specs.Linking.{is_kept, new_names, place_of}
use Rattle.journal_laws.proofs.PostOrder.{IsPostOrder, leads_by, walk_ordered}

-- Places in a list that was filtered.

module _ (next : Name → List Name) (q : Name → Bool) where
  -- of two names that are left over, one that the other leads to stands before it, or leads back to it
  placed : (earlier order : List Name) → IsPostOrder next earlier order → (n m : Name) → has (filter q order) n ≡ true → has (filter q order) m ≡ true → has (next n) m ≡ true
      → (has earlier m ≡ true) ⊎ ((place_of (filter q order) m < place_of (filter q order) n) ⊎ Reaches (leads_by next) (m ∷ []) n)
  placed earlier [] p n m hn hm e = absurd (false≢true hn)
  placed earlier (x ∷ order) p n m hn hm e = by (q x) refl (λ s t. placed (x ∷ earlier) order p.1 n m s t e) hn hm
    where
      first : {A : Type 0} → (has earlier m ≡ true) ⊎ Reaches (leads_by next) (m ∷ []) n → (has earlier m ≡ true) ⊎ (A ⊎ Reaches (leads_by next) (m ∷ []) n)
      first (inl t) = inl t
      first (inr r) = inr (inr r)

      not_x : {A : Type 0} → (x ≡ m → ⊥) → (x ≡ m) ⊎ (has earlier m ≡ true) → (has earlier m ≡ true) ⊎ A
      not_x d (inl same) = absurd (d same)
      not_x d (inr t) = inl t

      further : (x ≡ m → ⊥) → (has (x ∷ earlier) m ≡ true) ⊎ ((place_of (filter q order) m < place_of (filter q order) n) ⊎ Reaches (leads_by next) (m ∷ []) n) → (has earlier m ≡ true) ⊎ ((suc (place_of (filter q order) m) < suc (place_of (filter q order) n)) ⊎ Reaches (leads_by next) (m ∷ []) n)
      further d (inl t) = not_x d (has_cases x earlier m t)
      further d (inr (inl l)) = inr (inl (omega (arith, l)))
      further d (inr (inr r)) = inr (inr r)

      unmoved : (x ≡ m → ⊥) → (has (x ∷ earlier) m ≡ true) ⊎ ((place_of (filter q order) m < place_of (filter q order) n) ⊎ Reaches (leads_by next) (m ∷ []) n) → (has earlier m ≡ true) ⊎ ((place_of (filter q order) m < place_of (filter q order) n) ⊎ Reaches (leads_by next) (m ∷ []) n)
      unmoved d (inl t) = not_x d (has_cases x earlier m t)
      unmoved d (inr c) = inr c

      here : (b c : Bool) → same_name x n ≡ b → same_name x m ≡ c → (has (filter q order) n ≡ true → has (filter q order) m ≡ true → (has (x ∷ earlier) m ≡ true) ⊎ ((place_of (filter q order) m < place_of (filter q order) n) ⊎ Reaches (leads_by next) (m ∷ []) n))
          → (b || has (filter q order) n) ≡ true → (c || has (filter q order) m) ≡ true → (has earlier m ≡ true) ⊎ (((if c then zero else suc (place_of (filter q order) m)) < (if b then zero else suc (place_of (filter q order) n))) ⊎ Reaches (leads_by next) (m ∷ []) n)
      here true c s u rest hn hm = first (subst (λ k. (has earlier m ≡ true) ⊎ Reaches (leads_by next) (m ∷ []) k) (same_true x n s) (p.0 m (subst (λ k. has (next k) m ≡ true) (sym (same_true x n s)) e)))
      here false true s u rest hn hm = inr (inl (omega arith))
      here false false s u rest hn hm = further (λ same. false≢true (sym u ∙ true_same x m same)) (rest hn hm)

      by : (b : Bool) → q x ≡ b → (has (filter q order) n ≡ true → has (filter q order) m ≡ true → (has (x ∷ earlier) m ≡ true) ⊎ ((place_of (filter q order) m < place_of (filter q order) n) ⊎ Reaches (leads_by next) (m ∷ []) n))
          → has (cond b (x ∷ filter q order) (filter q order)) n ≡ true → has (cond b (x ∷ filter q order) (filter q order)) m ≡ true
          → (has earlier m ≡ true) ⊎ ((place_of (cond b (x ∷ filter q order) (filter q order)) m < place_of (cond b (x ∷ filter q order) (filter q order)) n) ⊎ Reaches (leads_by next) (m ∷ []) n)
      by true f rest hn hm = here (same_name x n) (same_name x m) refl refl rest hn hm
      by false f rest hn hm = unmoved (λ same. false≢true (sym f ∙ ap q same ∙ (filtered_from q order m hm).0)) (rest hn hm)

pub same_place : (names : List Name) (n m : Name) → has names n ≡ true → has names m ≡ true → place_of names n ≡ place_of names m → n ≡ m
same_place [] n m hn hm e = absurd (false≢true hn)
same_place (x ∷ names) n m hn hm e = by (same_name x n) (same_name x m) (same_true x n) (same_true x m) (same_place names n m) hn hm e
  where
    by : (b c : Bool) → (b ≡ true → x ≡ n) → (c ≡ true → x ≡ m) → (has names n ≡ true → has names m ≡ true → place_of names n ≡ place_of names m → n ≡ m) → (b || has names n) ≡ true → (c || has names m) ≡ true
        → ◌≡◌ {A = ℕ} (if b then zero else suc (place_of names n)) (if c then zero else suc (place_of names m)) → n ≡ m
    by true true s u rest hn hm e = sym (s refl) ∙ u refl
    by true false s u rest hn hm e = absurd (omega (arith, e))
    by false true s u rest hn hm e = absurd (omega (arith, e))
    by false false s u rest hn hm e = rest hn hm (omega (arith, e))

-- a number is below another one, or the same
pub at_most : (j k : ℕ) → j ≤ k → (j ≡ k) ⊎ (j < k)
at_most zero zero l = inl refl
at_most zero (suc k) l = inr (omega arith)
at_most (suc j) zero l = absurd (omega (arith, l))
at_most (suc j) (suc k) l = by (at_most j k (omega (arith, l)))
  where
    by : (j ≡ k) ⊎ (j < k) → (suc j ≡ suc k) ⊎ (suc j < suc k)
    by (inl e) = inl (ap suc e)
    by (inr m) = inr (omega (arith, m))

-- a list of edges from the start
pub leads_from : (edge : Name → Name → Bool) (x n : Name) → Reaches edge (x ∷ []) n → (rest : List Name) × Leads edge x rest n
leads_from edge x n r = by r.path r.is
  where
    start : (y : Name) (rest : List Name) → Leads edge y rest n → (x ≡ y) ⊎ (has [] y ≡ true) → (rest : List Name) × Leads edge x rest n
    start y rest l (inl same) = (rest, subst (λ k. Leads edge k rest n) (sym same) l)
    start y rest l (inr t) = absurd (false≢true t)

    by : (path : List Name) → IsPath edge (x ∷ []) path n → (rest : List Name) × Leads edge x rest n
    by [] i = absurd i
    by (y ∷ rest) i = start y rest i.1 (has_cases x [] y ((has_is (x ∷ []) y).0 i.0))

-- the order of evaluation is one in which each module comes after what is first met through it
plan_ordered : (roots : List Name) (p : Plan) (view : View) → IsPostOrder (next_of p view) [] (evaluation_order roots p view)
plan_ordered roots p view = walk_ordered (next_of p view) (roots ++ (imported_of view ++ imported_of p.staged))
    (λ n m h. has_append roots _ m ∙ or_right (has roots m) _ (plan_over p view n m h)) roots (λ n h. has_append roots _ n ∙ or_left (has roots n) _ h)

pub new_placed : (p : Plan) (r : Runtime) (n m : Name) → has (new_names p r) n ≡ true → has (new_names p r) m ≡ true → plan_imports p r.page.view n m ≡ true → place_of (new_names p r) n ≤ place_of (new_names p r) m → (rest : List Name) × Leads (plan_imports p r.page.view) m rest n
new_placed p r n m hn hm e l = by (placed (next_of p r.page.view) (λ k. not (is_kept p r.page.view k)) [] (evaluation_order r.roots p r.page.view) (plan_ordered r.roots p r.page.view) n m hn hm e)
  where
    by_place : (place_of (new_names p r) m < place_of (new_names p r) n) ⊎ Reaches (plan_imports p r.page.view) (m ∷ []) n → (rest : List Name) × Leads (plan_imports p r.page.view) m rest n
    by_place (inl k) = absurd (omega (arith, k, l))
    by_place (inr b) = leads_from (plan_imports p r.page.view) m n b

    by : (has [] m ≡ true) ⊎ ((place_of (new_names p r) m < place_of (new_names p r) n) ⊎ Reaches (plan_imports p r.page.view) (m ∷ []) n) → (rest : List Name) × Leads (plan_imports p r.page.view) m rest n
    by (inl t) = absurd (false≢true t)
    by (inr c) = by_place c
