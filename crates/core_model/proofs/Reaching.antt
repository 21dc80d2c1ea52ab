-- Reached names: the search by rounds finds what some list of names reaches.
use Rattle.std.proofs.Common.{◌≡◌, ◌↔◌, ◌⊎◌, inl, inr, ℕ, zero, suc, ◌≤◌, Bool, true, false, List, [], ◌∷◌, ◌++◌, length, refl, ap, sym, ◌∙◌, arith, Contains}
use Rattle.std.specs.Prelude.{filter, not}
use Rattle.std.proofs.Math.Path.{subst}
use Rattle.std.proofs.lemmas.List.Filters.{length-filter_both}
use Rattle.std.proofs.lemmas.Bool.{false≢true}
use Rattle.core_model.specs.Names.{Name, has}
use Rattle.core_model.specs.Paths.{Leads, IsPath, Reaches}
use Rattle.core_model.specs.Rounds.{touched, on_new, rounds, reached_of, IsOver}
use Rattle.core_model.proofs.Naming.{has_is, cases_bool, both_true, or_cases, or_left, or_right, filtered_has, filtered_in, has_append, any_from, any_is, Found}

pub leads_on : (edge : Name → Name → Bool) (n : Name) (rest : List Name) (m k : Name) → Leads edge n rest m → edge m k ≡ true → Leads edge n (rest ++ k ∷ []) k
leads_on edge n [] m k p e = ((rw p e), refl)
leads_on edge n (j ∷ rest) m k p e = (p.0, leads_on edge j rest m k p.1 e)

pub path_on : (edge : Name → Name → Bool) (starts path : List Name) (m k : Name) → IsPath edge starts path m → edge m k ≡ true → IsPath edge starts (path ++ k ∷ []) k
path_on edge starts [] m k p e = absurd p
path_on edge starts (n ∷ rest) m k p e = (p.0, leads_on edge n rest m k p.1 e)

pub reaches_on : (edge : Name → Name → Bool) (starts : List Name) (m k : Name) → Reaches edge starts m → edge m k ≡ true → Reaches edge starts k
reaches_on edge starts m k r e = record { path = r.path ++ k ∷ []; is = path_on edge starts r.path m k r.is e }

pub reaches_start : (edge : Name → Name → Bool) (starts : List Name) (m : Name) → Contains starts m → Reaches edge starts m
reaches_start edge starts m h = record { path = m ∷ []; is = (h, refl) }

pub leads_within : (edge : Name → Name → Bool) (S : Name → Type 0) → ((n m : Name) → S n → edge n m ≡ true → S m) → (n : Name) (rest : List Name) (m : Name) → Leads edge n rest m → S n → S m
leads_within edge S closed n [] m p s = subst S p s
leads_within edge S closed n (j ∷ rest) m p s = leads_within edge S closed j rest m p.1 (closed n j s p.0)

pub path_within : (edge : Name → Name → Bool) (starts : List Name) (S : Name → Type 0) → ((n : Name) → Contains starts n → S n) → ((n m : Name) → S n → edge n m ≡ true → S m) → (path : List Name) (m : Name) → IsPath edge starts path m → S m
path_within edge starts S begun closed [] m p = absurd p
path_within edge starts S begun closed (n ∷ rest) m p = leads_within edge S closed n rest m p.1 (begun n p.0)

pub reaches_within : (edge : Name → Name → Bool) (starts : List Name) (S : Name → Type 0) → ((n : Name) → Contains starts n → S n) → ((n m : Name) → S n → edge n m ≡ true → S m) → (m : Name) → Reaches edge starts m → S m
reaches_within edge starts S begun closed m r = path_within edge starts S begun closed r.path m r.is

pub stays_on : (new known more : List Name) (m : Name) → has known m ≡ true → has more m ≡ true → has (on_new new known more) m ≡ true
stays_on [] known more m h g = h
stays_on (x ∷ xs) known more m h g = g

stays : (edge : Name → Name → Bool) (k : ℕ) (left known : List Name) (m : Name) → has known m ≡ true → has (rounds edge k left known) m ≡ true
stays edge zero left known m h = h
stays edge (suc k) left known m h = stays_on (filter (touched edge known) left) known _ m h
    (stays edge k (filter (λ j. not (touched edge known j)) left) (known ++ filter (touched edge known) left) m (has_append known _ m ∙ or_left (has known m) _ h))

pub sound_step : (edge : Name → Name → Bool) (starts left known : List Name) → ((m : Name) → has known m ≡ true → Reaches edge starts m) → (m : Name) → (has known m ≡ true) ⊎ (has (filter (touched edge known) left) m ≡ true) → Reaches edge starts m
sound_step edge starts left known f m (inl h) = f m h
sound_step edge starts left known f m (inr h) =
    let t : Found (λ n. edge n m) known = any_is (λ n. edge n m) known (both_true (touched edge known m) (has left m) (sym (filtered_has (touched edge known) left m) ∙ h)).0 in
    reaches_on edge starts t.name m (f t.name ((has_is known t.name).0 t.there)) t.passing

pub sound_on : (edge : Name → Name → Bool) (starts new known more : List Name) → ((m : Name) → has known m ≡ true → Reaches edge starts m) → ((m : Name) → has more m ≡ true → Reaches edge starts m) → (m : Name) → has (on_new new known more) m ≡ true → Reaches edge starts m
sound_on edge starts [] known more f g m h = f m h
sound_on edge starts (x ∷ xs) known more f g m h = g m h

pub sound : (edge : Name → Name → Bool) (starts : List Name) (k : ℕ) (left known : List Name) → ((m : Name) → has known m ≡ true → Reaches edge starts m) → (m : Name) → has (rounds edge k left known) m ≡ true → Reaches edge starts m
sound edge starts zero left known f m h = f m h
sound edge starts (suc k) left known f m h = sound_on edge starts (filter (touched edge known) left) known _ f
    (sound edge starts k (filter (λ j. not (touched edge known j)) left) (known ++ filter (touched edge known) left)
    (λ j g. sound_step edge starts left known f j (or_cases (has known j) _ (sym (has_append known _ j) ∙ g)))) m h

abbrev Within : (Name → Name → Bool) → List Name → List Name → Type 0
Within edge left known = (n m : Name) → edge n m ≡ true → (has left m ≡ true) ⊎ (has known m ≡ true)

abbrev Closed : (Name → Name → Bool) → List Name → Type 0
Closed edge known = (n m : Name) → has known n ≡ true → edge n m ≡ true → has known m ≡ true

pub within_go : (edge : Name → Name → Bool) (left known : List Name) (m : Name) → (touched edge known m ≡ true) ⊎ (touched edge known m ≡ false) → (has left m ≡ true) ⊎ (has known m ≡ true) → (has (filter (λ j. not (touched edge known j)) left) m ≡ true) ⊎ (has (known ++ filter (touched edge known) left) m ≡ true)
within_go edge left known m t (inr h) = inr (has_append known _ m ∙ or_left (has known m) _ h)
within_go edge left known m (inl t) (inl h) = inr (has_append known _ m ∙ or_right (has known m) _ (filtered_in (touched edge known) left m t h))
within_go edge left known m (inr t) (inl h) = inl (filtered_in (λ j. not (touched edge known j)) left m (ap not t) h)

pub stop_closed : (edge : Name → Name → Bool) (left known : List Name) → Within edge left known → [] ≡ filter (touched edge known) left → (n m : Name) → has known n ≡ true → edge n m ≡ true → (has left m ≡ true) ⊎ (has known m ≡ true) → has known m ≡ true
stop_closed edge left known w e n m k by (inr h) = h
stop_closed edge left known w e n m k by (inl h) = absurd (false≢true (ap (λ l. has l m) e ∙ filtered_in (touched edge known) left m (any_from (λ j. edge j m) known n k by) h))

pub closed_on : (edge : Name → Name → Bool) (new left known more : List Name) → Within edge left known → new ≡ filter (touched edge known) left → (1 ≤ length new → Closed edge more) → Closed edge (on_new new known more)
closed_on edge [] left known more w e f = λ n m k by. stop_closed edge left known w e n m k by (w n m by)
closed_on edge (x ∷ xs) left known more w e f = f (omega arith)

pub empty : (left : List Name) (m : Name) → length left ≤ 0 → has left m ≡ true → has [] m ≡ true
empty [] m l h = h
empty (x ∷ xs) m l h = absurd (omega (arith, l))

pub zero_closed : (left known : List Name) (m : Name) → length left ≤ 0 → (has left m ≡ true) ⊎ (has known m ≡ true) → has known m ≡ true
zero_closed left known m l (inl h) = absurd (false≢true (empty left m l h))
zero_closed left known m l (inr h) = h

pub closed : (edge : Name → Name → Bool) (k : ℕ) (left known : List Name) → length left ≤ k → Within edge left known → Closed edge (rounds edge k left known)
closed edge zero left known l w = λ n m h by. zero_closed left known m l (w n m by)
closed edge (suc k) left known l w = closed_on edge (filter (touched edge known) left) left known _ w refl
    (λ some. closed edge k (filter (λ j. not (touched edge known j)) left) (known ++ filter (touched edge known) left)
    (omega (arith, some, l, length-filter_both (touched edge known) (λ j. not (touched edge known j)) (λ j. refl) left))
    (λ n m by. within_go edge left known m (cases_bool (touched edge known m)) (w n m by)))

pub rounds_are : (edge : Name → Name → Bool) (names starts : List Name) → IsOver edge names → (m : Name) → (has (reached_of edge names starts) m ≡ true) ↔ Reaches edge starts m
rounds_are edge names starts over m = (
  sound edge starts (length names) names starts (λ j h. reaches_start edge starts j ((has_is starts j).1 h)) m,
  reaches_within edge starts (λ j. has (reached_of edge names starts) j ≡ true)
      (λ j c. stays edge (length names) names starts j ((has_is starts j).0 c))
      (closed edge (length names) names starts (omega arith) (λ n j by. inl (over n j by))) m,
)

-- some reached name has an edge to m
pub record ReachedBy (edge : Name → Name → Bool) (starts : List Name) (m : Name) : Type 0 where
  pub from : Name
  pub reached : Reaches edge starts from
  pub by : edge from m ≡ true

-- what is reached is a start, or is reached by a last edge
pub reaches_back : (edge : Name → Name → Bool) (starts : List Name) (m : Name) → Reaches edge starts m → Contains starts m ⊎ ReachedBy edge starts m
reaches_back edge starts m r = (reaches_within edge starts (λ k. Reaches edge starts k × (Contains starts k ⊎ ReachedBy edge starts k))
    (λ k c. (reaches_start edge starts k c, inl c))
    (λ j k s e. (reaches_on edge starts j k s.0 e, inr (record { from = j; reached = s.0; by = e }))) m r).1

back_along : (edge : Name → Name → Bool) (starts : List Name) (n k : Name) (rest : List Name) (m : Name) → Reaches edge starts n → Leads edge n (k ∷ rest) m → ReachedBy edge starts m
back_along edge starts n k [] m r p = record { from = n; reached = r; by = subst (λ j. edge n j ≡ true) p.1 p.0 }
back_along edge starts n k (j ∷ rest) m r p = back_along edge starts k j rest m (reaches_on edge starts n k r p.0) p.1

-- the end of a path of two names or more is reached by a last edge
pub long_back : (edge : Name → Name → Bool) (starts path : List Name) (m : Name) → IsPath edge starts path m → 2 ≤ length path → ReachedBy edge starts m
long_back edge starts [] m p l = absurd p
long_back edge starts (n ∷ []) m p l = absurd (omega (arith, l))
long_back edge starts (n ∷ (k ∷ rest)) m p l = back_along edge starts n k rest m (reaches_start edge starts n p.0) p.1
