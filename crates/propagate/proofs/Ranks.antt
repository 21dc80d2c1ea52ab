-- A search that meets names in the order of the least paths to them.
use Rattle.std.proofs.Common.{◌≡◌, ◌↔◌, ◌⊎◌, inl, inr, ℕ, zero, suc, ◌+◌, ◌<◌, ◌≤◌, Bool, true, false, List, [], ◌∷◌, ◌++◌, length, map, get_or, refl, ap, sym, ◌∙◌, arith, Contains}
use Rattle.std.specs.Prelude.{◌-◌, not, Option, Some, None}
use Rattle.std.specs.declared.cmp.Ordering.{Ordering}
use Rattle.std.specs.declared.cmp.Ordering.TheVariants.{Less, Equal, Greater}
use Rattle.std.specs.Ordering.{nat_cmp, is_gt, ordering_then}
use Rattle.std.specs.Cmp.{IsTotalOrder}
use Rattle.std.specs.Cmp.Lexicographic.{slice_cmp}
use Rattle.std.specs.List.{AllByRecursion}
use Rattle.std.specs.List.Sorted.{IsStrictlySortedBy}
use Rattle.std.proofs.Math.Path.{subst}
use Rattle.std.proofs.lemmas.Cmp.{nat_list_cmp_total, lists_total, tied_itself}
use Rattle.std.proofs.lemmas.List.{length-append, length-map, append_assoc, append-nil, get_or_append_left, get_or-append_right, get_or-append-add, get_or-map, get_or_default}
use Rattle.std.proofs.lemmas.List.Elements.{Contains-get_or}
use Rattle.std.proofs.lemmas.Bool.{false≢true}
use Rattle.core_model.specs.Names.{Name, has}
use Rattle.core_model.specs.Paths.{Leads, IsPath, Reaches}
use Rattle.core_model.specs.LeastPath.{path_cmp, AtMost, IsLeastPath}
use Rattle.core_model.proofs.Naming.{has_is, cases_bool, filtered_from, filtered_in}
use Rattle.core_model.proofs.Reaching.{path_on, reaches_within}
use Rattle.core_model.proofs.LeastPaths.{itself, through}
use Rattle.module_graph.proofs.Sorting.{IsRising}
use Rattle.propagate.specs.Trails.{unmet, IsTrail, AreTrails}

paths_total : IsTotalOrder path_cmp
paths_total = lists_total nat_list_cmp_total

-- p has fewer names than q, or as many and is less
abbrev pub Before : List Name → List Name → Type 0
Before p q = (length p < length q) ⊎ ((length p ≡ length q) × (path_cmp p q ≡ Less))

then_less : (o a b : Ordering) → ordering_then o a ≡ Less → (a ≡ Less → b ≡ Less) → ordering_then o b ≡ Less
then_less Less a b h f = refl
then_less Equal a b h f = f h
then_less Greater a b h f = absurd (cc)

-- with one more name at the end of each
less_on : (p q : List Name) (m k : Name) → length p ≡ length q → path_cmp p q ≡ Less → path_cmp (p ++ m ∷ []) (q ++ k ∷ []) ≡ Less
less_on [] [] m k h e = absurd (cc)
less_on [] (y ∷ q) m k h e = absurd (omega (arith, h))
less_on (x ∷ p) [] m k h e = absurd (omega (arith, h))
less_on (x ∷ p) (y ∷ q) m k h e = then_less (slice_cmp nat_cmp x y) (path_cmp p q) _ e (less_on p q m k (omega (arith, h)))

same_on : (p q : List Name) (m : Name) → length p ≡ length q → path_cmp (p ++ m ∷ []) (q ++ m ∷ []) ≡ path_cmp p q
same_on [] [] m h = ap (λ o. ordering_then o Equal) (tied_itself nat_list_cmp_total m)
same_on [] (y ∷ q) m h = absurd (omega (arith, h))
same_on (x ∷ p) [] m h = absurd (omega (arith, h))
same_on (x ∷ p) (y ∷ q) m h = ap (ordering_then (slice_cmp nat_cmp x y)) (same_on p q m (omega (arith, h)))

less_ends : (p : List Name) (m k : Name) → slice_cmp nat_cmp m k ≡ Less → path_cmp (p ++ m ∷ []) (p ++ k ∷ []) ≡ Less
less_ends [] m k h = ap (λ o. ordering_then o Equal) h
less_ends (x ∷ p) m k h = ap (λ o. ordering_then o (path_cmp (p ++ m ∷ []) (p ++ k ∷ []))) (tied_itself nat_list_cmp_total x) ∙ less_ends p m k h

longer : (p : List Name) (m : Name) → length (p ++ m ∷ []) ≡ length p + 1
longer p m = length-append p (m ∷ [])

before_on : (p q : List Name) (m k : Name) → Before p q → Before (p ++ m ∷ []) (q ++ k ∷ [])
before_on p q m k (inl h) = inl (omega (arith, h, longer p m, longer q k))
before_on p q m k (inr e) = inr (omega (arith, e.0, longer p m, longer q k), less_on p q m k e.0 e.1)

before_through : (p q r : List Name) → Before p q → Before q r → Before p r
before_through p q r (inl h) (inl g) = inl (omega (arith, h, g))
before_through p q r (inl h) (inr g) = inl (omega (arith, h, g.0))
before_through p q r (inr h) (inl g) = inl (omega (arith, h.0, g))
before_through p q r (inr h) (inr g) = inr (h.0 ∙ g.0, paths_total.trans p q r h.1 g.1)

before_ends : (p : List Name) (m k : Name) → slice_cmp nat_cmp m k ≡ Less → Before (p ++ m ∷ []) (p ++ k ∷ [])
before_ends p m k h = inr (longer p m ∙ sym (longer p k), less_ends p m k h)

at_most_if : (p q : List Name) → Before p q → AtMost p q
at_most_if p q (inl h) = inl h
at_most_if p q (inr e) = inr (e.0, ap is_gt e.1)

at_most_itself : (p : List Name) → AtMost p p
at_most_itself p = inr (refl, itself p)

at_most_through : (p q r : List Name) → AtMost p q → AtMost q r → AtMost p r
at_most_through p q r (inl h) (inl g) = inl (omega (arith, h, g))
at_most_through p q r (inl h) (inr g) = inl (omega (arith, h, g.0))
at_most_through p q r (inr h) (inl g) = inl (omega (arith, h.0, g))
at_most_through p q r (inr h) (inr g) = inr (h.0 ∙ g.0, through p q r h.1 g.1)

at_most_on : (p q : List Name) (m : Name) → AtMost p q → AtMost (p ++ m ∷ []) (q ++ m ∷ [])
at_most_on p q m (inl h) = inl (omega (arith, h, longer p m, longer q m))
at_most_on p q m (inr e) = inr (omega (arith, e.0, longer p m, longer q m), ap is_gt (same_on p q m e.0) ∙ e.1)

at_most_longer : (p q : List Name) (m : Name) → AtMost p q → AtMost p (q ++ m ∷ [])
at_most_longer p q m (inl h) = inl (omega (arith, h, longer q m))
at_most_longer p q m (inr e) = inl (omega (arith, e.0, longer q m))

-- names that rise, by their places
all_at : (P : Name → Type 0) (xs : List Name) (i : ℕ) → AllByRecursion P xs → i < length xs → P (get_or xs i [])
all_at P [] i a h = absurd (omega (arith, h))
all_at P (x ∷ xs) zero a h = a.0
all_at P (x ∷ xs) (suc i) a h = all_at P xs i a.1 (omega (arith, h))

pub rising_at : (xs : List Name) (i j : ℕ) → IsRising xs → i < j → j < length xs → slice_cmp nat_cmp (get_or xs i []) (get_or xs j []) ≡ Less
unfolding IsStrictlySortedBy
rising_at [] i j s l h = absurd (omega (arith, h))
rising_at (x ∷ xs) i zero s l h = absurd (omega (arith, l))
rising_at (x ∷ xs) zero (suc j) s l h = all_at (λ y. slice_cmp nat_cmp x y ≡ Less) xs j s.0 (omega (arith, h))
rising_at (x ∷ xs) (suc i) (suc j) s l h = rising_at xs i j s.1 (omega (arith, l)) (omega (arith, h))

-- m is met, by a path that isn't after q
pub record Stands (met : List Name) (paths : List (List Name)) (m : Name) (q : List Name) : Type 0 where
  pub place : ℕ
  pub within : place < length met
  pub same : get_or met place [] ≡ m
  pub low : AtMost (get_or paths place []) q

-- The paths to the names that are met come one after another, and each path that goes on from one of the first at places isn't before the one to its end.
pub record Ranked (edge : Name → Name → Bool) (starts met : List Name) (paths : List (List Name)) (at : ℕ) : Type 0 where
  pub within : at ≤ length met
  pub long : length paths ≡ length met
  pub sound : (i : ℕ) → i < length met → IsPath edge starts (get_or paths i []) (get_or met i [])
  pub ordered : (i j : ℕ) → i < j → j < length met → Before (get_or paths i []) (get_or paths j [])
  pub low : (i : ℕ) (y : Name) → at < length met → i < length met → Before (get_or paths i []) (get_or paths at [] ++ y ∷ [])
  pub begun : (s : Name) → Contains starts s → Stands met paths s (s ∷ [])
  pub covered : (i : ℕ) (m : Name) → i < at → edge (get_or met i []) m ≡ true → Stands met paths m (get_or paths i [] ++ m ∷ [])

below_or_not : (i n : ℕ) → (i < n) ⊎ (n ≤ i)
below_or_not i n = grind arith

-- Names that are met behind others, each by the path p and the name.
module _ (met fresh : List Name) (paths : List (List Name)) (p : List Name) (long : length paths ≡ length met) where
  abbrev on : Name → List Name
  on n = p ++ n ∷ []

  abbrev names : List Name
  names = met ++ fresh

  abbrev all : List (List Name)
  all = paths ++ map on fresh

  all_long : length all ≡ length names
  all_long = omega (arith, long, length-append paths (map on fresh), length-append met fresh, length-map fresh on)

  old_name : (i : ℕ) → i < length met → get_or names i [] ≡ get_or met i []
  old_name i h = get_or_append_left met fresh [] i h

  old_path : (i : ℕ) → i < length met → get_or all i [] ≡ get_or paths i []
  old_path i h = get_or_append_left paths (map on fresh) [] i (omega (arith, h, long))

  new_name : (i : ℕ) → length met ≤ i → get_or names i [] ≡ get_or fresh (i - length met) []
  new_name i h = get_or-append_right met fresh (length met) i [] refl h

  new_place : (i : ℕ) → length met ≤ i → i < length names → i - length met < length fresh
  new_place i h l = omega (arith, h, l, length-append met fresh)

  new_path : (i : ℕ) → length met ≤ i → i < length names → get_or all i [] ≡ p ++ get_or names i [] ∷ []
  new_path i h l = get_or-append_right paths (map on fresh) (length met) i [] long h ∙ get_or-map on fresh (i - length met) [] [] (new_place i h l) ∙ ap on (sym (new_name i h))

  stands_on : (m : Name) (q : List Name) → Stands met paths m q → Stands names all m q
  stands_on m q s = record {
    place = s.place;
    within = omega (arith, s.within, length-append met fresh);
    same = old_name s.place s.within ∙ s.same;
    low = subst (λ r. AtMost r q) (sym (old_path s.place s.within)) s.low;
  }

  stands_new : (m : Name) → Contains fresh m → Stands names all m (p ++ m ∷ [])
  stands_new m c =
      let i = length met + c.0 in
      let h : i < length names = omega (arith, c.1, length-append met fresh) in
      let e : get_or names i [] ≡ m = get_or-append-add met fresh c.0 [] ∙ get_or_default fresh c.0 [] m c.1 ∙ c.2 in
      record {
        place = i;
        within = h;
        same = e;
        low = subst (λ r. AtMost r (p ++ m ∷ [])) (sym (new_path i (omega arith) h ∙ ap on e)) (at_most_itself (p ++ m ∷ []));
      }

  -- where the new names are met from: they are starts, or the path goes on from the place
  abbrev pub IsFrom : Option ℕ → Type 0
  IsFrom None = p ≡ []
  IsFrom (Some k) = (k < length met) × (p ≡ get_or paths k [])

  trail_old : (i : ℕ) (o : Option ℕ) → i < length met → IsTrail met paths i o → IsTrail names all i o
  trail_old i None h t = old_path i h ∙ t ∙ ap (λ n. n ∷ []) (sym (old_name i h))
  trail_old i (Some k) h t = (t.0, old_path i h ∙ t.1 ∙ ap (λ q. q ++ get_or met i [] ∷ []) (sym (old_path k (omega (arith, t.0, h)))) ∙ ap (λ n. get_or all k [] ++ n ∷ []) (sym (old_name i h)))

  trail_new : (i : ℕ) (o : Option ℕ) → length met ≤ i → i < length names → IsFrom o → IsTrail names all i o
  trail_new i None h l f = new_path i h l ∙ ap (λ q. q ++ get_or names i [] ∷ []) f
  trail_new i (Some k) h l f = (omega (arith, f.0, h), new_path i h l ∙ ap (λ q. q ++ get_or names i [] ∷ []) (f.1 ∙ sym (old_path k f.0)))

  module _ (from : List (Option ℕ)) (o : Option ℕ) (is_from : IsFrom o) (trails : AreTrails met from paths) where
    abbrev places : List (Option ℕ)
    places = from ++ map (λ (n : Name). o) fresh

    each_by : (i : ℕ) → i < length names → (i < length met) ⊎ (length met ≤ i) → IsTrail names all i (get_or places i None)
    each_by i h (inl a) = subst (IsTrail names all i) (sym (get_or_append_left from (map (λ (n : Name). o) fresh) None i (omega (arith, a, trails.places)))) (trail_old i (get_or from i None) a (trails.each i a))
    each_by i h (inr a) = subst (IsTrail names all i) (sym (get_or-append_right from (map (λ (n : Name). o) fresh) (length met) i None trails.places a ∙ get_or-map (λ (n : Name). o) fresh (i - length met) [] None (new_place i a h))) (trail_new i o a h is_from)

    pub trails_on : AreTrails names places all
    trails_on = record {
      places = omega (arith, trails.places, length-append from (map (λ (n : Name). o) fresh), length-append met fresh, length-map fresh (λ (n : Name). o));
      long = all_long;
      each = λ i h. each_by i h (below_or_not i (length met));
    }

  module _ (rising : IsRising fresh) (ordered : (i j : ℕ) → i < j → j < length met → Before (get_or paths i []) (get_or paths j [])) (low : (i : ℕ) (y : Name) → i < length met → Before (get_or paths i []) (p ++ y ∷ [])) where
    ordered_by : (i j : ℕ) → i < j → j < length names → (i < length met) ⊎ (length met ≤ i) → (j < length met) ⊎ (length met ≤ j) → Before (get_or all i []) (get_or all j [])
    ordered_by i j l h (inl a) (inl b) = subst (λ q. Before q (get_or all j [])) (sym (old_path i a)) (subst (Before (get_or paths i [])) (sym (old_path j b)) (ordered i j l b))
    ordered_by i j l h (inl a) (inr b) = subst (λ q. Before q (get_or all j [])) (sym (old_path i a)) (subst (Before (get_or paths i [])) (sym (new_path j b h)) (low i (get_or names j []) a))
    ordered_by i j l h (inr a) (inl b) = absurd (omega (arith, a, b, l))
    ordered_by i j l h (inr a) (inr b) = subst (λ q. Before q (get_or all j [])) (sym (new_path i a (omega (arith, l, h)))) (subst (Before (p ++ get_or names i [] ∷ [])) (sym (new_path j b h))
        (before_ends p (get_or names i []) (get_or names j []) (ap (λ n. slice_cmp nat_cmp n (get_or names j [])) (new_name i a) ∙ ap (slice_cmp nat_cmp (get_or fresh (i - length met) [])) (new_name j b)
        ∙ rising_at fresh (i - length met) (j - length met) rising (omega (arith, a, b, l)) (new_place j b h))))

    ordered_on : (i j : ℕ) → i < j → j < length names → Before (get_or all i []) (get_or all j [])
    ordered_on i j l h = ordered_by i j l h (below_or_not i (length met)) (below_or_not j (length met))

-- The starts are met.
module _ (edge : Name → Name → Bool) (starts fresh : List Name) (rising : IsRising fresh) (are : (n : Name) → has fresh n ≡ has starts n) where
  abbrev alone : List (List Name)
  alone = map (λ n. n ∷ []) fresh

  alone_at : (i : ℕ) → i < length fresh → get_or alone i [] ≡ get_or fresh i [] ∷ []
  alone_at i h = get_or-map (λ n. n ∷ []) fresh i [] [] h

  start_at : (i : ℕ) → i < length fresh → Contains starts (get_or fresh i [])
  start_at i h = (has_is starts _).1 (sym (are _) ∙ (has_is fresh _).0 (Contains-get_or fresh i [] h))

  pub ranked_first : Ranked edge starts fresh alone 0
  ranked_first = record {
    within = omega arith;
    long = length-map fresh (λ n. n ∷ []);
    sound = λ i h. subst (λ q. IsPath edge starts q (get_or fresh i [])) (sym (alone_at i h)) (start_at i h, refl);
    ordered = ordered_on [] fresh [] [] refl rising (λ i j l h. absurd (omega (arith, h))) (λ i y h. absurd (omega (arith, h)));
    low = λ i y b h. inl (omega (arith, ap length (alone_at i h), ap length (alone_at 0 b), longer (get_or alone 0 []) y));
    begun = λ s c. stands_new [] fresh [] [] refl s ((has_is fresh s).1 (are s ∙ (has_is starts s).0 c));
    covered = λ i m l e. absurd (omega (arith, l));
  }

-- What the edges of the next name lead to is met.
module _ (edge : Name → Name → Bool) (starts met : List Name) (paths : List (List Name)) (at : ℕ) (next : List Name) (r : Ranked edge starts met paths at) (there : at < length met) (rising : IsRising (unmet met next)) (leads : (m : Name) → (has next m ≡ true) ↔ (edge (get_or met at []) m ≡ true)) where
  abbrev fresh : List Name
  fresh = unmet met next

  abbrev path : List Name
  path = get_or paths at []

  abbrev met_now : List Name
  met_now = met ++ fresh

  abbrev paths_now : List (List Name)
  paths_now = paths ++ map (λ n. path ++ n ∷ []) fresh

  in_next : (m : Name) → Contains fresh m → has next m ≡ true
  in_next m c = (filtered_from (λ n. not (has met n)) next m ((has_is fresh m).0 c)).1

  sound_by : (i : ℕ) → i < length met_now → (i < length met) ⊎ (length met ≤ i) → IsPath edge starts (get_or paths_now i []) (get_or met_now i [])
  sound_by i h (inl a) = subst (λ q. IsPath edge starts q (get_or met_now i [])) (sym (old_path met fresh paths path r.long i a)) (subst (IsPath edge starts (get_or paths i [])) (sym (old_name met fresh paths path r.long i a)) (r.sound i a))
  sound_by i h (inr a) =
      let m = get_or met_now i [] in
      let c : Contains fresh m = subst (Contains fresh) (sym (new_name met fresh paths path r.long i a)) (Contains-get_or fresh (i - length met) [] (new_place met fresh paths path r.long i a h)) in
      subst (λ q. IsPath edge starts q m) (sym (new_path met fresh paths path r.long i a h)) (path_on edge starts path (get_or met at []) m (r.sound at there) ((leads m).0 (in_next m c)))

  now_ordered : (i j : ℕ) → i < j → j < length met_now → Before (get_or paths_now i []) (get_or paths_now j [])
  now_ordered = ordered_on met fresh paths path r.long rising r.ordered (λ i y h. r.low i y there h)

  abbrev after : List Name
  after = get_or paths_now (at + 1) []

  next_after : (x y : Name) → at + 1 < length met_now → Before (path ++ x ∷ []) (after ++ y ∷ [])
  next_after x y b = before_on path after x y (subst (λ q. Before q after) (old_path met fresh paths path r.long at there) (now_ordered at (at + 1) (omega arith) b))

  low_by : (i : ℕ) (y : Name) → at + 1 < length met_now → i < length met_now → (i < length met) ⊎ (length met ≤ i) → Before (get_or paths_now i []) (after ++ y ∷ [])
  low_by i y b h (inl a) = subst (λ q. Before q (after ++ y ∷ [])) (sym (old_path met fresh paths path r.long i a)) (before_through (get_or paths i []) (path ++ y ∷ []) (after ++ y ∷ []) (r.low i y there a) (next_after y y b))
  low_by i y b h (inr a) = subst (λ q. Before q (after ++ y ∷ [])) (sym (new_path met fresh paths path r.long i a h)) (next_after (get_or met_now i []) y b)

  met_by : (m : Name) → has next m ≡ true → (has met m ≡ true) ⊎ (has met m ≡ false) → Stands met_now paths_now m (path ++ m ∷ [])
  met_by m h (inl t) =
      let c : Contains met m = (has_is met m).1 t in
      stands_on met fresh paths path r.long m (path ++ m ∷ []) (record {
        place = c.0;
        within = c.1;
        same = get_or_default met c.0 [] m c.1 ∙ c.2;
        low = at_most_if (get_or paths c.0 []) (path ++ m ∷ []) (r.low c.0 m there c.1);
      })
  met_by m h (inr f) = stands_new met fresh paths path r.long m ((has_is fresh m).1 (filtered_in (λ n. not (has met n)) next m (ap not f) h))

  covered_by : (i : ℕ) (m : Name) → edge (get_or met_now i []) m ≡ true → (i < at) ⊎ (i ≡ at) → Stands met_now paths_now m (get_or paths_now i [] ++ m ∷ [])
  covered_by i m e (inl l) =
      let a : i < length met = omega (arith, l, there) in
      subst (λ q. Stands met_now paths_now m (q ++ m ∷ [])) (sym (old_path met fresh paths path r.long i a))
      (stands_on met fresh paths path r.long m (get_or paths i [] ++ m ∷ []) (r.covered i m l (ap (λ n. edge n m) (sym (old_name met fresh paths path r.long i a)) ∙ e)))
  covered_by i m e (inr l) =
      let same : get_or met_now i [] ≡ get_or met at [] = ap (λ j. get_or met_now j []) l ∙ old_name met fresh paths path r.long at there in
      subst (λ q. Stands met_now paths_now m (q ++ m ∷ [])) (sym (ap (λ j. get_or paths_now j []) l ∙ old_path met fresh paths path r.long at there))
      (met_by m ((leads m).1 (ap (λ n. edge n m) (sym same) ∙ e)) (cases_bool (has met m)))

  below_or_at : (i : ℕ) → i < at + 1 → (i < at) ⊎ (i ≡ at)
  below_or_at i h = grind arith

  pub ranked_more : Ranked edge starts met_now paths_now (at + 1)
  ranked_more = record {
    within = omega (arith, there, length-append met fresh);
    long = all_long met fresh paths path r.long;
    sound = λ i h. sound_by i h (below_or_not i (length met));
    ordered = now_ordered;
    low = λ i y b h. low_by i y b h (below_or_not i (length met));
    begun = λ s c. stands_on met fresh paths path r.long s (s ∷ []) (r.begun s c);
    covered = λ i m l e. covered_by i m e (below_or_at i l);
  }

-- The first name that is met and looked for ends the least path.
module _ (edge : Name → Name → Bool) (starts met : List Name) (paths : List (List Name)) (bad : Name → Bool) (at : ℕ) (r : Ranked edge starts met paths at) (fine : (i : ℕ) → i < at → bad (get_or met i []) ≡ false) where
  -- n stands before the place at, or the path to that place isn't after q
  pub record Earlier (q : List Name) (n : Name) : Type 0 where
    pub place : ℕ
    pub early : place < at
    pub same : get_or met place [] ≡ n
    pub low : AtMost (get_or paths place []) q

  module _ (there : at < length met) where
    abbrev path_there : List Name
    path_there = get_or paths at []

    settled : (q : List Name) (n : Name) (s : Stands met paths n q) → (s.place < at) ⊎ ((s.place ≡ at) ⊎ (at < s.place)) → Earlier q n ⊎ AtMost path_there q
    settled q n s (inl l) = inl (record { place = s.place; early = l; same = s.same; low = s.low })
    settled q n s (inr (inl e)) = inr (subst (λ i. AtMost (get_or paths i []) q) e s.low)
    settled q n s (inr (inr l)) = inr (at_most_through path_there (get_or paths s.place []) q (at_most_if path_there (get_or paths s.place []) (r.ordered at s.place l s.within)) s.low)

    three : (i : ℕ) → (i < at) ⊎ ((i ≡ at) ⊎ (at < i))
    three i = grind arith

    settle : (q : List Name) (n : Name) → Stands met paths n q → Earlier q n ⊎ AtMost path_there q
    settle q n s = settled q n s (three s.place)

    weaken : (n : Name) (p q : List Name) → AtMost p q → Stands met paths n p → Stands met paths n q
    weaken n p q l s = record { place = s.place; within = s.within; same = s.same; low = at_most_through (get_or paths s.place []) p q s.low l }

    one_on : (q : List Name) (n k : Name) → edge n k ≡ true → Earlier q n ⊎ AtMost path_there q → Earlier (q ++ k ∷ []) k ⊎ AtMost path_there (q ++ k ∷ [])
    one_on q n k e (inl s) = settle (q ++ k ∷ []) k (weaken k (get_or paths s.place [] ++ k ∷ []) (q ++ k ∷ []) (at_most_on (get_or paths s.place []) q k s.low) (r.covered s.place k s.early (ap (λ j. edge j k) s.same ∙ e)))
    one_on q n k e (inr l) = inr (at_most_longer path_there q k l)

    along : (q : List Name) (n : Name) (rest : List Name) (m : Name) → Leads edge n rest m → Earlier q n ⊎ AtMost path_there q → Earlier (q ++ rest) m ⊎ AtMost path_there (q ++ rest)
    along q n [] m l s = subst (λ p. Earlier p m ⊎ AtMost path_there p) (sym (append-nil q)) (subst (λ k. Earlier q k ⊎ AtMost path_there q) l s)
    along q n (k ∷ rest) m l s = subst (λ p. Earlier p m ⊎ AtMost path_there p) (append_assoc q (k ∷ []) rest) (along (q ++ k ∷ []) k rest m l.1 (one_on q n k l.0 s))

    least_of : (q : List Name) (m : Name) → bad m ≡ true → Earlier q m ⊎ AtMost path_there q → AtMost path_there q
    least_of q m b (inl s) = absurd (false≢true (sym (ap bad (sym s.same) ∙ fine s.place s.early) ∙ b))
    least_of q m b (inr l) = l

    least_to : (q : List Name) (m : Name) → IsPath edge starts q m → bad m ≡ true → AtMost path_there q
    least_to [] m p b = absurd p
    least_to (n ∷ rest) m p b = least_of (n ∷ rest) m b (along (n ∷ []) n rest m p.1 (settle (n ∷ []) n (r.begun n p.0)))

    pub ranked_found : bad (get_or met at []) ≡ true → IsLeastPath edge starts bad path_there
    ranked_found b = record { end = get_or met at []; is = r.sound at there; badly = b; least = least_to }

  module _ (all_seen : length met ≤ at) where
    stands_has : (m : Name) (q : List Name) → Stands met paths m q → Contains met m
    stands_has m q s = (s.place, s.within, get_or_default met s.place m [] s.within ∙ s.same)

    pub ranked_none : (m : Name) → Reaches edge starts m → bad m ≡ false
    ranked_none m c =
        let k : Contains met m = reaches_within edge starts (Contains met) (λ n s. stands_has n (n ∷ []) (r.begun n s))
        (λ n j h e. stands_has j (get_or paths h.0 [] ++ j ∷ []) (r.covered h.0 j (omega (arith, h.1, all_seen)) (ap (λ i. edge i j) (get_or_default met h.0 [] n h.1 ∙ h.2) ∙ e))) m c in
        ap bad (sym (get_or_default met k.0 [] m k.1 ∙ k.2)) ∙ fine k.0 (omega (arith, k.1, all_seen))
