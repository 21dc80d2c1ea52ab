-- The computed path is the least, and there is only one.
use Rattle.std.proofs.Common.{◌≡◌, ◌⊎◌, inl, inr, ℕ, zero, suc, ◌+◌, ◌<◌, ◌≤◌, Bool, true, false, List, [], ◌∷◌, ◌++◌, length, refl, ap, sym, ◌∙◌, arith}
use Rattle.std.specs.Prelude.{filter, not, Option, Some, None, option_map, IfSome, IfNone, if◌then◌else◌}
use Prim.{⊥}
use Rattle.std.specs.declared.cmp.Ordering.{Ordering}
use Rattle.std.specs.declared.cmp.Ordering.TheVariants.{Less, Equal, Greater}
use Rattle.std.specs.Ordering.{nat_cmp, is_lt, is_gt, is_eq, ordering_then, ordering_reverse}
use Rattle.std.specs.Cmp.{IsTotalOrder}
use Rattle.std.specs.Cmp.Lexicographic.{slice_cmp}
use Rattle.std.proofs.Math.Path.{subst}
use Rattle.std.proofs.lemmas.Cmp.{nat_list_cmp_total, lists_total, tied_itself, upto}
use Rattle.std.proofs.lemmas.List.{length-append}
use Rattle.std.proofs.lemmas.Bool.{false≢true}
use Rattle.std.proofs.lemmas.Map.Lookups.{exact_bytes}
use Rattle.core_model.specs.Names.{Name, same_name, has}
use Rattle.core_model.specs.Paths.{Leads, IsPath, Reaches}
use Rattle.core_model.specs.Rounds.{touched, on_new, rounds, IsOver}
use Rattle.core_model.specs.LeastPath.{path_cmp, NotAfter, AtMost, IsLeastPath, lesser, least, least_from, or_next, shortest, least_path_of}
use Rattle.core_model.proofs.Naming.{same_true, has_is, filtered_has, both_true, and_both, or_cases, has_append, any_is, Found, head_has, tail_has}
use Rattle.core_model.proofs.Reaching.{path_on, rounds_are}

paths_total : IsTotalOrder path_cmp
paths_total = lists_total nat_list_cmp_total

pub itself : (p : List Name) → NotAfter p p
itself p = ap is_gt (tied_itself paths_total p)

pub through : (p q r : List Name) → NotAfter p q → NotAfter q r → NotAfter p r
through p q r = upto paths_total p q r

lt_not_gt : (o : Ordering) → is_lt o ≡ true → is_gt o ≡ false
lt_not_gt Less h = refl
lt_not_gt Equal h = refl
lt_not_gt Greater h = absurd (false≢true h)

not_lt_back : (o : Ordering) → is_lt o ≡ false → is_gt (ordering_reverse o) ≡ false
not_lt_back Less h = absurd (false≢true (sym h))
not_lt_back Equal h = refl
not_lt_back Greater h = refl

pub from_before : (p q : List Name) → is_lt (path_cmp p q) ≡ true → NotAfter p q
from_before p q h = lt_not_gt _ h

pub from_not_before : (p q : List Name) → is_lt (path_cmp p q) ≡ false → NotAfter q p
from_not_before p q h = ap is_gt (paths_total.antisymm q p) ∙ not_lt_back (path_cmp p q) h

-- the same with how many names the path has
pub record ReachesIn (edge : Name → Name → Bool) (starts : List Name) (most : ℕ) (m : Name) : Type 0 where
  pub path : List Name
  pub is : IsPath edge starts path m
  pub short : length path ≤ most

longer : (edge : Name → Name → Bool) (starts : List Name) (most : ℕ) (n m : Name) → ReachesIn edge starts most n → edge n m ≡ true → ReachesIn edge starts (suc most) m
longer edge starts most n m r by = record { path = r.path ++ m ∷ []; is = path_on edge starts r.path n m r.is by; short = omega (arith, r.short, length-append r.path (m ∷ [])) }

wider : (edge : Name → Name → Bool) (starts : List Name) (most more : ℕ) (m : Name) → most ≤ more → ReachesIn edge starts most m → ReachesIn edge starts more m
wider edge starts most more m h r = record { path = r.path; is = r.is; short = omega (arith, r.short, h) }

short_step : (edge : Name → Name → Bool) (starts left known : List Name) (j : ℕ) → ((m : Name) → has known m ≡ true → ReachesIn edge starts j m) → (m : Name) → (has known m ≡ true) ⊎ (has (filter (touched edge known) left) m ≡ true) → ReachesIn edge starts (suc j) m
short_step edge starts left known j f m (inl h) = wider edge starts j (suc j) m (omega arith) (f m h)
short_step edge starts left known j f m (inr h) =
    let t : Found (λ n. edge n m) known = any_is (λ n. edge n m) known (both_true (touched edge known m) (has left m) (sym (filtered_has (touched edge known) left m) ∙ h)).0 in
    longer edge starts j t.name m (f t.name ((has_is known t.name).0 t.there)) t.passing

short_on : (edge : Name → Name → Bool) (starts new known more : List Name) (j most : ℕ) → j ≤ most → ((m : Name) → has known m ≡ true → ReachesIn edge starts j m) → ((m : Name) → has more m ≡ true → ReachesIn edge starts most m) → (m : Name) → has (on_new new known more) m ≡ true → ReachesIn edge starts most m
short_on edge starts [] known more j most l f g m h = wider edge starts j most m l (f m h)
short_on edge starts (x ∷ xs) known more j most l f g m h = g m h

short : (edge : Name → Name → Bool) (starts : List Name) (k : ℕ) (left known : List Name) (j most : ℕ) → j + k ≤ most → ((m : Name) → has known m ≡ true → ReachesIn edge starts j m) → (m : Name) → has (rounds edge k left known) m ≡ true → ReachesIn edge starts most m
short edge starts zero left known j most l f m h = wider edge starts j most m (omega (arith, l)) (f m h)
short edge starts (suc k) left known j most l f m h = short_on edge starts (filter (touched edge known) left) known _ j most (omega (arith, l)) f
    (short edge starts k (filter (λ i. not (touched edge known i)) left) (known ++ filter (touched edge known) left) (suc j) most (omega (arith, l))
    (λ i g. short_step edge starts left known j f i (or_cases (has known i) _ (sym (has_append known _ i) ∙ g)))) m h

start_in : (edge : Name → Name → Bool) (starts : List Name) (m : Name) → has starts m ≡ true → ReachesIn edge starts 1 m
start_in edge starts m h = record { path = m ∷ []; is = ((has_is starts m).1 h, refl); short = omega arith }

-- what is reached at all is reached by a list of at most as many names as there are, and a start
pub in_few : (edge : Name → Name → Bool) (names starts : List Name) → IsOver edge names → (m : Name) → Reaches edge starts m → ReachesIn edge starts (1 + length names) m
in_few edge names starts over m r = short edge starts (length names) names starts 1 (1 + length names) (omega arith) (start_in edge starts) m ((rounds_are edge names starts over m).1 r)

-- p is a path from n of k + 1 names that ends badly
record IsFrom (edge : Name → Name → Bool) (bad : Name → Bool) (k : ℕ) (n : Name) (p : List Name) : Type 0 where
  rest : List Name
  end : Name
  whole : p ≡ n ∷ rest
  leads : Leads edge n rest end
  badly : bad end ≡ true
  len : length rest ≡ k

record IsFromOne (edge : Name → Name → Bool) (bad : Name → Bool) (k : ℕ) (ns p : List Name) : Type 0 where
  first : Name
  there : has ns first ≡ true
  is : IsFrom edge bad k first p

some_if : (P : List Name → Type 0) (b : Bool) (p : List Name) → (b ≡ true → P p) → IfSome (if b then Some p else None) P
some_if P true p f = f refl
some_if P false p f = tt

some_map : (P : List Name → Type 0) (n : Name) (o : Option (List Name)) → IfSome o (λ p. P (n ∷ p)) → IfSome (option_map (λ p. n ∷ p) o) P
some_map P n None h = h
some_map P n (Some p) h = h

some_pick : (P : List Name → Type 0) (b : Bool) (p q : List Name) → P p → P q → IfSome (if b then Some q else Some p) P
some_pick P true p q h k = k
some_pick P false p q h k = h

some_lesser : (P : List Name → Type 0) (x y : Option (List Name)) → IfSome x P → IfSome y P → IfSome (lesser x y) P
some_lesser P None y h k = k
some_lesser P (Some p) None h k = h
some_lesser P (Some p) (Some q) h k = some_pick P (is_lt (path_cmp q p)) p q h k

some_weaker : (P Q : List Name → Type 0) (o : Option (List Name)) → ((p : List Name) → P p → Q p) → IfSome o P → IfSome o Q
some_weaker P Q None f h = tt
some_weaker P Q (Some p) f h = f p h

some_least : (edge : Name → Name → Bool) (bad : Name → Bool) (k : ℕ) (f : Name → Option (List Name)) → ((n : Name) → IfSome (f n) (IsFrom edge bad k n)) → (ns : List Name) → IfSome (least f ns) (IsFromOne edge bad k ns)
some_least edge bad k f each [] = tt
some_least edge bad k f each (n ∷ ns) = some_lesser (IsFromOne edge bad k (n ∷ ns)) (f n) (least f ns)
    (some_weaker _ _ (f n) (λ p h. record { first = n; there = head_has n ns; is = h }) (each n))
    (some_weaker (IsFromOne edge bad k ns) _ (least f ns) (λ p h. record { first = h.first; there = tail_has n ns h.first h.there; is = h.is }) (some_least edge bad k f each ns))

from_more : (edge : Name → Name → Bool) (names : List Name) (bad : Name → Bool) (k : ℕ) (n : Name) (p : List Name) → IsFromOne edge bad k (filter (edge n) names) p → IsFrom edge bad (suc k) n (n ∷ p)
from_more edge names bad k n p h = record {
  rest = p;
  end = h.is.end;
  whole = refl;
  leads = subst (λ r. Leads edge n r h.is.end) (sym h.is.whole) ((both_true (edge n h.first) (has names h.first) (sym (filtered_has (edge n) names h.first) ∙ h.there)).0, h.is.leads);
  badly = h.is.badly;
  len = ap length h.is.whole ∙ ap suc h.is.len;
}

from_sound : (edge : Name → Name → Bool) (names : List Name) (bad : Name → Bool) (k : ℕ) (n : Name) → IfSome (least_from edge names bad k n) (IsFrom edge bad k n)
from_sound edge names bad zero n = some_if (IsFrom edge bad 0 n) (bad n) (n ∷ []) (λ h. record { rest = []; end = n; whole = refl; leads = refl; badly = h; len = refl })
from_sound edge names bad (suc k) n = some_map (IsFrom edge bad (suc k) n) n (least (least_from edge names bad k) (filter (edge n) names))
    (some_weaker _ _ (least (least_from edge names bad k) (filter (edge n) names)) (from_more edge names bad k n) (some_least edge bad k (least_from edge names bad k) (from_sound edge names bad k) (filter (edge n) names)))

-- o is there and isn't after p
abbrev Low : Option (List Name) → List Name → Type 0
Low None p = ⊥
Low (Some q) p = NotAfter q p

low_pick : (b : Bool) (x y p : List Name) → is_lt (path_cmp y x) ≡ b → NotAfter x p ⊎ NotAfter y p → Low (if b then Some y else Some x) p
low_pick true x y p e (inl h) = through y x p (from_before y x e) h
low_pick true x y p e (inr h) = h
low_pick false x y p e (inl h) = h
low_pick false x y p e (inr h) = through x y p (from_not_before y x e) h

low_left : (x y : Option (List Name)) (p : List Name) → Low x p → Low (lesser x y) p
low_left None y p h = absurd h
low_left (Some a) None p h = h
low_left (Some a) (Some b) p h = low_pick (is_lt (path_cmp b a)) a b p refl (inl h)

low_right : (x y : Option (List Name)) (p : List Name) → Low y p → Low (lesser x y) p
low_right None y p h = h
low_right (Some a) None p h = absurd h
low_right (Some a) (Some b) p h = low_pick (is_lt (path_cmp b a)) a b p refl (inr h)

low_step : (f : Name → Option (List Name)) (n : Name) (ns : List Name) (j : Name) (p : List Name) → Low (f j) p → (has ns j ≡ true → Low (least f ns) p) → (same_name n j ≡ true) ⊎ (has ns j ≡ true) → Low (least f (n ∷ ns)) p
low_step f n ns j p h g (inl e) = low_left (f n) (least f ns) p (subst (λ k. Low (f k) p) (sym (same_true n j e)) h)
low_step f n ns j p h g (inr e) = low_right (f n) (least f ns) p (g e)

low_least : (f : Name → Option (List Name)) (ns : List Name) (j : Name) (p : List Name) → Low (f j) p → has ns j ≡ true → Low (least f ns) p
low_least f [] j p h e = absurd (false≢true e)
low_least f (n ∷ ns) j p h e = low_step f n ns j p h (low_least f ns j p h) (or_cases (same_name n j) (has ns j) e)

low_map : (n : Name) (o : Option (List Name)) (p : List Name) → Low o p → Low (option_map (λ q. n ∷ q) o) (n ∷ p)
low_map n None p h = h
low_map n (Some q) p h = ap (λ c. is_gt (ordering_then c (path_cmp q p))) (tied_itself nat_list_cmp_total n) ∙ h

low_if : (b : Bool) (p : List Name) → b ≡ true → Low (if b then Some p else None) p
low_if true p h = itself p
low_if false p h = absurd (false≢true h)

from_low : (edge : Name → Name → Bool) (names : List Name) (bad : Name → Bool) → IsOver edge names → (k : ℕ) (n : Name) (rest : List Name) (m : Name) → Leads edge n rest m → bad m ≡ true → length rest ≡ k → Low (least_from edge names bad k n) (n ∷ rest)
from_low edge names bad over zero n [] m l b h = low_if (bad n) (n ∷ []) (ap bad l ∙ b)
from_low edge names bad over zero n (j ∷ rest) m l b h = absurd (omega (arith, h))
from_low edge names bad over (suc k) n [] m l b h = absurd (omega (arith, h))
from_low edge names bad over (suc k) n (j ∷ rest) m l b h = low_map n (least (least_from edge names bad k) (filter (edge n) names)) (j ∷ rest)
    (low_least (least_from edge names bad k) (filter (edge n) names) j (j ∷ rest) (from_low edge names bad over k j rest m l.1 b (omega (arith, h)))
    (filtered_has (edge n) names j ∙ and_both (edge n j) (has names j) l.0 (over n j l.0)))

start_low : (edge : Name → Name → Bool) (names starts : List Name) (bad : Name → Bool) → IsOver edge names → (k : ℕ) (q : List Name) (m : Name) → IsPath edge starts q m → bad m ≡ true → length q ≡ suc k → Low (least (least_from edge names bad k) starts) q
start_low edge names starts bad over k [] m p b h = absurd p
start_low edge names starts bad over k (n ∷ rest) m p b h = low_least (least_from edge names bad k) starts n (n ∷ rest) (from_low edge names bad over k n rest m p.1 b (omega (arith, h))) ((has_is starts n).0 p.0)

-- each path that ends badly has more than k names
abbrev AllLonger : (Name → Name → Bool) → List Name → (Name → Bool) → ℕ → Type 0
AllLonger edge starts bad k = (q : List Name) (m : Name) → IsPath edge starts q m → bad m ≡ true → k < length q

same_or_more : (k n : ℕ) → k < n → (n ≡ suc k) ⊎ (suc k < n)
same_or_more k n h = grind arith

found_least : (k : ℕ) (p q : List Name) → length p ≡ suc k → (length q ≡ suc k → NotAfter p q) → (length q ≡ suc k) ⊎ (suc k < length q) → AtMost p q
found_least k p q h f (inl e) = inr (h ∙ sym e, f e)
found_least k p q h f (inr l) = inl (omega (arith, h, l))

found_path : (edge : Name → Name → Bool) (starts : List Name) (bad : Name → Bool) (k : ℕ) (p : List Name) → IsFromOne edge bad k starts p → ((q : List Name) (m : Name) → IsPath edge starts q m → bad m ≡ true → length q ≡ suc k → NotAfter p q) → AllLonger edge starts bad k → IsLeastPath edge starts bad p
found_path edge starts bad k p s low all = record {
  end = s.is.end;
  is = subst (λ l. IsPath edge starts l s.is.end) (sym s.is.whole) ((has_is starts s.first).1 s.there, s.is.leads);
  badly = s.is.badly;
  least = λ q m i b. found_least k p q (ap length s.is.whole ∙ ap suc s.is.len) (low q m i b) (same_or_more k (length q) (all q m i b));
}

longer_step : (k n : ℕ) → k < n → (n ≡ suc k → ⊥) → suc k < n
longer_step k n h f = grind arith

-- what the search from k on finds
record IsSearch (edge : Name → Name → Bool) (starts : List Name) (bad : Name → Bool) (most : ℕ) (o : Option (List Name)) : Type 0 where
  some : IfSome o (IsLeastPath edge starts bad)
  none : IfNone o (AllLonger edge starts bad most)

search_next : (edge : Name → Name → Bool) (starts : List Name) (bad : Name → Bool) (k most : ℕ) (o : Option (List Name)) (next : Option (List Name)) → IfSome o (IsFromOne edge bad k starts) → ((q : List Name) (m : Name) → IsPath edge starts q m → bad m ≡ true → length q ≡ suc k → Low o q) → AllLonger edge starts bad k → (AllLonger edge starts bad (suc k) → IsSearch edge starts bad most next) → IsSearch edge starts bad most (or_next o next)
search_next edge starts bad k most None next s low all f = f (λ q m i b. longer_step k (length q) (all q m i b) (low q m i b))
search_next edge starts bad k most (Some p) next s low all f = record { some = found_path edge starts bad k p s low all; none = tt }

searches : (edge : Name → Name → Bool) (names starts : List Name) (bad : Name → Bool) → IsOver edge names → (more k most : ℕ) → most ≡ k + more → AllLonger edge starts bad k → IsSearch edge starts bad most (shortest (λ j. least (least_from edge names bad j) starts) k more)
searches edge names starts bad over zero k most e all = record { some = tt; none = λ q m i b. omega (arith, e, all q m i b) }
searches edge names starts bad over (suc more) k most e all = search_next edge starts bad k most (least (least_from edge names bad k) starts) _
    (some_least edge bad k (least_from edge names bad k) (from_sound edge names bad k) starts)
    (start_low edge names starts bad over k) all
    (λ longer. searches edge names starts bad over more (suc k) most (omega (arith, e)) longer)

at_least_one : (edge : Name → Name → Bool) (starts q : List Name) (m : Name) → IsPath edge starts q m → 0 < length q
at_least_one edge starts [] m p = absurd p
at_least_one edge starts (n ∷ rest) m p = omega arith

none_reached : (edge : Name → Name → Bool) (names starts : List Name) (bad : Name → Bool) → IsOver edge names → AllLonger edge starts bad (1 + length names) → (m : Name) → Reaches edge starts m → bad m ≡ true → ⊥
none_reached edge names starts bad over all m r b =
    let i : ReachesIn edge starts (1 + length names) m = in_few edge names starts over m r in
    omega (arith, all i.path m i.is b, i.short)

pub none_if : (P Q : Type 0) (o : Option (List Name)) → (P → Q) → IfNone o P → IfNone o Q
none_if P Q None f h = f h
none_if P Q (Some p) f h = tt

pub least_path_is : (edge : Name → Name → Bool) (names starts : List Name) (bad : Name → Bool) → IsOver edge names → IfSome (least_path_of edge names starts bad) (IsLeastPath edge starts bad) × IfNone (least_path_of edge names starts bad) ((m : Name) → Reaches edge starts m → bad m ≡ true → ⊥)
least_path_is edge names starts bad over =
    let s : IsSearch edge starts bad (1 + length names) (least_path_of edge names starts bad) = searches edge names starts bad over (1 + length names) 0 (1 + length names) (omega arith) (λ q m i b. at_least_one edge starts q m i) in
    (s.some, none_if _ _ (least_path_of edge names starts bad) (none_reached edge names starts bad over) s.none)

-- There is one least path.

both_same : (n m : Name) (p q : List Name) → n ≡ m → p ≡ q → n ∷ p ≡ m ∷ q
both_same n m p q e h = ap (λ k. k ∷ p) e ∙ ap (λ r. m ∷ r) h

head_equal : (o p : Ordering) → ordering_then o p ≡ Equal → o ≡ Equal
head_equal Less p h = h
head_equal Equal p h = refl
head_equal Greater p h = h

tail_equal : (o p : Ordering) → ordering_then o p ≡ Equal → p ≡ Equal
tail_equal Less p h = absurd (false≢true (ap is_eq h))
tail_equal Equal p h = h
tail_equal Greater p h = absurd (false≢true (ap is_eq h))

-- lists of names that neither comes before the other are the same
exact_paths : (p q : List Name) → path_cmp p q ≡ Equal → p ≡ q
exact_paths [] [] h = refl
exact_paths [] (m ∷ q) h = absurd (false≢true (ap is_eq h))
exact_paths (n ∷ p) [] h = absurd (false≢true (ap is_eq h))
exact_paths (n ∷ p) (m ∷ q) h = both_same n m p q (exact_bytes n m (head_equal (slice_cmp nat_cmp n m) (path_cmp p q) h)) (exact_paths p q (tail_equal (slice_cmp nat_cmp n m) (path_cmp p q) h))

tied : (o : Ordering) → is_gt o ≡ false → is_gt (ordering_reverse o) ≡ false → o ≡ Equal
tied Less h k = absurd (false≢true (sym k))
tied Equal h k = refl
tied Greater h k = absurd (false≢true (sym h))

same_path : (p q : List Name) → AtMost p q → AtMost q p → p ≡ q
same_path p q (inl h) (inl k) = absurd (omega (arith, h, k))
same_path p q (inl h) (inr k) = absurd (omega (arith, h, k.0))
same_path p q (inr h) (inl k) = absurd (omega (arith, h.0, k))
same_path p q (inr h) (inr k) = exact_paths p q (tied (path_cmp p q) h.1 (ap is_gt (sym (paths_total.antisymm q p)) ∙ k.1))

pub one_least : (edge : Name → Name → Bool) (starts : List Name) (bad : Name → Bool) (p q : List Name) → IsLeastPath edge starts bad p → IsLeastPath edge starts bad q → p ≡ q
one_least edge starts bad p q a b = same_path p q (a.least q b.end b.is b.badly) (b.least p a.end a.is a.badly)
