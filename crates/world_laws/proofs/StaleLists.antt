-- The stale edges, listed: what the list has, and that it rises.
use Rattle.std.proofs.Common.{◌≡◌, ◌↔◌, ◌⊎◌, inl, inr, ℕ, Bool, true, false, List, [], ◌∷◌, ◌++◌, refl, ap, sym, ◌∙◌, Contains}
use Rattle.std.specs.Prelude.{◌≢◌, filter, map, flat_map, cond, not, Option, Some, None, IsSome}
use Rattle.std.proofs.Math.Path.{subst}
use Rattle.std.proofs.lemmas.Bool.{false≢true, eqb-true, eq-eqb}
use Rattle.std.proofs.lemmas.List.Elements.{Contains-append_cases, Contains-append_left, Contains-append_right}
use Rattle.world_laws.proofs.Members.{head_in, tail_in, in_cases, none_in}
use Rattle.std.specs.Ordering.{nat_cmp, is_lt}
use Rattle.std.specs.Cmp.Lexicographic.{slice_cmp}
use Rattle.core_model.specs.Names.{Name, same_name, has, at, names_of, sorted, rising}
use Rattle.core_model.specs.View.{imports, imports_of}
use Rattle.core_model.proofs.Naming.{both_true, and_both, or_cases, or_left, or_right, not_true, not_from, same_true, true_same, filtered_in, filtered_from, sorted_has}
use Rattle.core_model.proofs.Views.{importer_named}
use Rattle.core_model.proofs.Rising.{sorted_rises, through, tail_rises}
use Rattle.core_model.proofs.Tables.{named}
use Rattle.core_model.specs.View.{is_in}
use Rattle.client_model.specs.Runtime.{Runtime}
use Rattle.client_model.specs.Instance.{live_at}
use Rattle.client_model.specs.Stale.{live_number, link_of, same_link, IsStale, stale_from, stale_of}
use Rattle.world_laws.specs.Edges.{edges_rise}

-- What the list has.

pub linked_same : (j k : Option ℕ) → same_link j k ≡ true → j ≡ k
linked_same None None h = refl
linked_same None (Some k) h = absurd (false≢true h)
linked_same (Some j) None h = absurd (false≢true h)
linked_same (Some j) (Some k) h = ap Some (eqb-true j k h)

pub same_linked : (j k : Option ℕ) → j ≡ k → same_link j k ≡ true
same_linked None k e = subst (λ o. same_link None o ≡ true) e refl
same_linked (Some j) k e = subst (λ o. same_link (Some j) o ≡ true) e (eq-eqb j j refl)

edge_in : (b : Name) (xs : List Name) (x : Name) → has xs x ≡ true → Contains {X = Name × Name} (map (λ y. (b, y)) xs) (b, x)
edge_in b [] x h = absurd (false≢true h)
edge_in b (y ∷ xs) x h = by (edge_in b xs x) (or_cases (same_name y x) (has xs x) h)
  where
    by : (has xs x ≡ true → Contains {X = Name × Name} (map (λ z. (b, z)) xs) (b, x)) → (same_name y x ≡ true) ⊎ (has xs x ≡ true) → Contains {X = Name × Name} (map (λ z. (b, z)) (y ∷ xs)) (b, x)
    by rest (inl s) = subst (λ z. Contains {X = Name × Name} ((b, y) ∷ map (λ k. (b, k)) xs) (b, z)) (same_true y x s) (head_in (b, y) (map (λ k. (b, k)) xs))
    by rest (inr t) = tail_in (b, y) (map (λ k. (b, k)) xs) (b, x) (rest t)

edge_from : (b : Name) (xs : List Name) (e : Name × Name) → Contains {X = Name × Name} (map (λ y. (b, y)) xs) e → (b ≡ e.0) × (has xs e.1 ≡ true)
edge_from b [] e c = absurd (none_in e c)
edge_from b (y ∷ xs) e c = by (edge_from b xs e) (in_cases (b, y) (map (λ k. (b, k)) xs) e c)
  where
    by : (Contains {X = Name × Name} (map (λ z. (b, z)) xs) e → (b ≡ e.0) × (has xs e.1 ≡ true)) → (◌≡◌ {A = Name × Name} (b, y) e) ⊎ Contains {X = Name × Name} (map (λ z. (b, z)) xs) e → (b ≡ e.0) × (has (y ∷ xs) e.1 ≡ true)
    by rest (inl s) = (ap (λ (p : Name × Name). p.0) s, or_left (same_name y e.1) _ (true_same y e.1 (ap (λ (p : Name × Name). p.1) s)))
    by rest (inr t) = ((rest t).0, or_right (same_name y e.1) _ (rest t).1)

module _ (f : Name → List (Name × Name)) where
  flat_in : (names : List Name) (b : Name) (e : Name × Name) → has names b ≡ true → Contains (f b) e → Contains (flat_map f names) e
  flat_in [] b e h c = absurd (false≢true h)
  flat_in (n ∷ names) b e h c = by (λ t. flat_in names b e t c) (or_cases (same_name n b) (has names b) h)
    where
      by : (has names b ≡ true → Contains (flat_map f names) e) → (same_name n b ≡ true) ⊎ (has names b ≡ true) → Contains (f n ++ flat_map f names) e
      by rest (inl s) = Contains-append_left (f n) (flat_map f names) e (subst (λ k. Contains (f k) e) (sym (same_true n b s)) c)
      by rest (inr t) = Contains-append_right (f n) (flat_map f names) e (rest t)

  -- the name of the list that gives an edge
  record Gives (names : List Name) (e : Name × Name) : Type 0 where
    by : Name
    there : has names by ≡ true
    gives : Contains (f by) e

  flat_from : (names : List Name) (e : Name × Name) → Contains (flat_map f names) e → Gives names e
  flat_from [] e c = absurd (none_in e c)
  flat_from (n ∷ names) e c = by_case (flat_from names e) (Contains-append_cases (f n) (flat_map f names) e c)
    where
      by_case : (Contains (flat_map f names) e → Gives names e) → Contains (f n) e ⊎ Contains (flat_map f names) e → Gives (n ∷ names) e
      by_case rest (inl a) = record { by = n; there = or_left (same_name n n) _ (true_same n n refl); gives = a }
      by_case rest (inr b) = let g : Gives names e = rest b in record { by = g.by; there = or_right (same_name n g.by) _ g.there; gives = g.gives }

module _ (r : Runtime) where
  abbrev older : Name → Name → Bool
  older b x = not (same_link (link_of r b x) (live_number r x))

  stale_in : (b x : Name) → imports r.page.view b x ≡ true → link_of r b x ≢ live_number r x → Contains (stale_of r) (b, x)
  stale_in b x h d = flat_in (stale_from r) (sorted (names_of r.page.view)) b (b, x) (sorted_has (names_of r.page.view) b ∙ importer_named r.page.view b x h)
      (edge_in b (filter (older b) (sorted (imports_of (at r.page.view b)))) x
      (filtered_in (older b) (sorted (imports_of (at r.page.view b))) x (not_from (same_link (link_of r b x) (live_number r x)) (λ s. d (linked_same (link_of r b x) (live_number r x) s))) (sorted_has (imports_of (at r.page.view b)) x ∙ h)))

  listed_by : (b x : Name) → Gives (stale_from r) (sorted (names_of r.page.view)) (b, x) → (imports r.page.view b x ≡ true) × (link_of r b x ≢ live_number r x)
  listed_by b x g =
      let e = edge_from g.by (filter (older g.by) (sorted (imports_of (at r.page.view g.by)))) (b, x) g.gives in
      let f = filtered_from (older g.by) (sorted (imports_of (at r.page.view g.by))) x e.1 in
      subst (λ k. (imports r.page.view k x ≡ true) × (link_of r k x ≢ live_number r x)) e.0 (
        sym (sorted_has (imports_of (at r.page.view g.by)) x) ∙ f.1,
        λ s. false≢true (sym (not_true _ f.0) ∙ same_linked (link_of r g.by x) (live_number r x) s),
      )

  stale_from_list : (b x : Name) → Contains (stale_of r) (b, x) → (imports r.page.view b x ≡ true) × (link_of r b x ≢ live_number r x)
  stale_from_list b x c = listed_by b x (flat_from (stale_from r) (sorted (names_of r.page.view)) (b, x) c)

  -- where each module of the page is live, the list has exactly the stale edges
  pub listed_are : ((n : Name) → is_in r.page.view n ≡ true → IsSome (live_at r.instances n)) → (b x : Name) → Contains (stale_of r) (b, x) ↔ IsStale r b x
  listed_are live b x = (
    (λ c. let k = stale_from_list b x c in record { live = live b (named r.page.view b ∙ importer_named r.page.view b x k.0); importing = k.0; older = k.1 }),
    (λ s. stale_in b x s.importing s.older),
  )

-- The list rises.

-- each name of the list is above k
abbrev AreAbove : Name → List Name → Type 0
AreAbove k names = (m : Name) → has names m ≡ true → is_lt (slice_cmp nat_cmp k m) ≡ true

all_above : (k : Name) (names : List Name) → rising (k ∷ names) ≡ true → AreAbove k names
all_above k [] r m h = absurd (false≢true h)
all_above k (n ∷ names) r m h = by (all_above n names parts.1 m) (or_cases (same_name n m) (has names m) h)
  where
    parts : (is_lt (slice_cmp nat_cmp k n) ≡ true) × (rising (n ∷ names) ≡ true)
    parts = both_true (is_lt (slice_cmp nat_cmp k n)) _ r

    by : (has names m ≡ true → is_lt (slice_cmp nat_cmp n m) ≡ true) → (same_name n m ≡ true) ⊎ (has names m ≡ true) → is_lt (slice_cmp nat_cmp k m) ≡ true
    by rest (inl s) = subst (λ j. is_lt (slice_cmp nat_cmp k j) ≡ true) (same_true n m s) parts.0
    by rest (inr t) = through k n m parts.0 (rest t)

head_first : (k : Name) (names : List Name) → AreAbove k names → rising names ≡ true → rising (k ∷ names) ≡ true
head_first k [] a r = refl
head_first k (n ∷ names) a r = and_both _ _ (a n (or_left (same_name n n) _ (true_same n n refl))) r

filter_rises : (p : Name → Bool) (names : List Name) → rising names ≡ true → rising (filter p names) ≡ true
filter_rises p [] r = refl
filter_rises p (n ∷ names) r = by (p n) (filter_rises p names (tail_rises n names r))
  where
    by : (b : Bool) → rising (filter p names) ≡ true → rising (cond b (n ∷ filter p names) (filter p names)) ≡ true
    by true h = head_first n (filter p names) (λ m t. all_above n names r m (filtered_from p names m t).1) h
    by false h = h

-- each edge of the list has an importer above k
abbrev EdgesAbove : Name → List (Name × Name) → Type 0
EdgesAbove k edges = (e : Name × Name) → Contains edges e → is_lt (slice_cmp nat_cmp k e.0) ≡ true

edges_joined : (b : Name) (xs : List Name) (edges : List (Name × Name)) → rising xs ≡ true → EdgesAbove b edges → edges_rise edges ≡ true → edges_rise (map (λ x. (b, x)) xs ++ edges) ≡ true
edges_joined b [] edges r a h = h
edges_joined b (x ∷ []) [] r a h = refl
edges_joined b (x ∷ []) (e ∷ edges) r a h = and_both _ _ (or_left (is_lt (slice_cmp nat_cmp b e.0)) _ (a e (head_in e edges))) h
edges_joined b (x ∷ (y ∷ xs)) edges r a h =
    let parts = both_true (is_lt (slice_cmp nat_cmp x y)) _ r in
    and_both _ _ (or_right (is_lt (slice_cmp nat_cmp b b)) _ (and_both _ _ (true_same b b refl) parts.0)) (edges_joined b (y ∷ xs) edges parts.1 a h)

module _ (r : Runtime) where
  listed_rise : (names : List Name) → rising names ≡ true → edges_rise (flat_map (stale_from r) names) ≡ true
  listed_rise [] h = refl
  listed_rise (n ∷ names) h = edges_joined n (filter (older r n) (sorted (imports_of (at r.page.view n)))) (flat_map (stale_from r) names)
      (filter_rises (older r n) (sorted (imports_of (at r.page.view n))) (sorted_rises (imports_of (at r.page.view n))))
      (λ e c. above e (flat_from (stale_from r) names e c))
      (listed_rise names (tail_rises n names h))
    where
      above : (e : Name × Name) → Gives (stale_from r) names e → is_lt (slice_cmp nat_cmp n e.0) ≡ true
      above e g = subst (λ k. is_lt (slice_cmp nat_cmp n k) ≡ true) (edge_from g.by (filter (older r g.by) (sorted (imports_of (at r.page.view g.by)))) e g.gives).0 (all_above n names h g.by g.there)

  pub stale_rises : edges_rise (stale_of r) ≡ true
  stale_rises = listed_rise (sorted (names_of r.page.view)) (sorted_rises (names_of r.page.view))
