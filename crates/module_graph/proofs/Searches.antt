-- A search that looks at each name once.
use Rattle.std.proofs.Common.{◌≡◌, ◌↔◌, ◌⊎◌, ℕ, ◌+◌, ◌<◌, ◌≤◌, Bool, true, false, List, [], ◌∷◌, ◌++◌, length, take, get_or, refl, ap, sym, ◌∙◌, arith, Contains, inl, inr}
use Rattle.std.specs.Prelude.{if◌then◌else◌}
use Rattle.std.proofs.Math.Path.{subst}
use Rattle.std.proofs.lemmas.List.{get_or_append_left, get_or_default, take_more, length-append, append_assoc, append-nil}
use Rattle.std.proofs.lemmas.List.Elements.{Contains-append_left, Contains-push, Contains-push_cases, Contains-get_or}
use Rattle.core_model.specs.Names.{Name, has}
use Rattle.core_model.specs.Paths.{Reaches}
use Rattle.core_model.specs.Roots.{are_distinct}
use Rattle.core_model.specs.Rounds.{IsOver}
use Rattle.core_model.proofs.Naming.{has_is, has_append, or_left, or_right}
use Rattle.core_model.proofs.Reaching.{reaches_on, reaches_start, reaches_within}
use Rattle.module_graph.specs.Paths.{Adds, with_new}
use Rattle.module_graph.proofs.Distinct.{at_most}

-- Each known name is reached, and is a start or one of the names that edges lead to; the starts are known, and where the edges of the first at names lead.
pub record Searched (edge : Name → Name → Bool) (starts among known : List Name) (at : ℕ) : Type 0 where
  pub within : at ≤ length known
  pub distinct : are_distinct known ≡ true
  pub sound : (m : Name) → Contains known m → Reaches edge starts m
  pub begun : (m : Name) → Contains starts m → Contains known m
  pub closed : (i : ℕ) (m : Name) → i < at → edge (get_or known i []) m ≡ true → Contains known m
  pub few : (m : Name) → has known m ≡ true → has (starts ++ among) m ≡ true

pub adds_none : (old : List Name) → Adds old [] old
adds_none old = record { front = record { more = []; whole = sym (append-nil old) }; all = λ n h. absurd (omega (arith, h.1)); only = λ n h. inl h }

new_only : (more : List Name) (m : Name) → Contains [] m ⊎ Contains more m → Contains more m
new_only more m (inl h) = absurd (omega (arith, h.1))
new_only more m (inr h) = h

below_or_at : (i at : ℕ) → i < at + 1 → (i < at) ⊎ (i ≡ at)
below_or_at i at h = grind arith

pub searched_first : (edge : Name → Name → Bool) (starts among known : List Name) → Adds [] starts known → are_distinct known ≡ true → Searched edge starts among known 0
searched_first edge starts among known a d = record {
  within = omega arith;
  distinct = d;
  sound = λ m h. reaches_start edge starts m (new_only starts m (a.only m h));
  begun = a.all;
  closed = λ i m h e. absurd (omega (arith, h));
  few = λ m h. has_append starts among m ∙ or_left (has starts m) _ ((has_is starts m).0 (new_only starts m (a.only m ((has_is known m).1 h))));
}

-- no more names are known than there are
pub searched_room : (edge : Name → Name → Bool) (starts among known : List Name) (at : ℕ) → Searched edge starts among known at → length known ≤ length (starts ++ among)
searched_room edge starts among known at s = at_most known (starts ++ among) s.distinct s.few

-- a name that is known stands at a place below the length
known_at : (edge : Name → Name → Bool) (starts among known : List Name) (at : ℕ) → Searched edge starts among known at → length known ≤ at → (n m : Name) → Contains known n → edge n m ≡ true → Contains known m
known_at edge starts among known at s h n m c e = s.closed c.0 m (omega (arith, c.1)) (ap (λ k. edge k m) (get_or_default known c.0 [] n c.1 ∙ c.2) ∙ e)

-- at the end the known names are those that are reached
pub searched_all : (edge : Name → Name → Bool) (starts among known : List Name) (at : ℕ) → Searched edge starts among known at → length known ≤ at → (m : Name) → Contains known m ↔ Reaches edge starts m
searched_all edge starts among known at s h m = (s.sound m, reaches_within edge starts (Contains known) s.begun (known_at edge starts among known at s h) m)

-- what is there stays there
pub contains_kept : (old more new : List Name) → Adds old more new → (m : Name) → Contains old m → Contains new m
contains_kept old more new a m h = subst (λ l. Contains l m) (sym a.front.whole) (Contains-append_left old a.front.more m h)

kept_at : (old more new : List Name) → Adds old more new → (i : ℕ) → i < length old → get_or new i [] ≡ get_or old i []
kept_at old more new a i h = ap (λ l. get_or l i []) a.front.whole ∙ get_or_append_left old a.front.more [] i h

longer : (old more new : List Name) → Adds old more new → length old ≤ length new
longer old more new a = omega (arith, ap length a.front.whole, length-append old a.front.more)

sound_more : (edge : Name → Name → Bool) (starts among known next new : List Name) (at : ℕ) (n : Name) → Searched edge starts among known at → at < length known → n ≡ get_or known at [] → ((m : Name) → Contains next m ↔ (edge n m ≡ true)) → (m : Name) → Contains known m ⊎ Contains next m → Reaches edge starts m
sound_more edge starts among known next new at n s h is leads m (inl c) = s.sound m c
sound_more edge starts among known next new at n s h is leads m (inr c) = reaches_on edge starts n m (s.sound n (subst (Contains known) (sym is) (Contains-get_or known at [] h))) ((leads m).0 c)

closed_more : (edge : Name → Name → Bool) (starts among known next new : List Name) (at : ℕ) (n : Name) → Searched edge starts among known at → at < length known → n ≡ get_or known at [] → ((m : Name) → Contains next m ↔ (edge n m ≡ true)) → Adds known next new → (i : ℕ) (m : Name) → (i < at) ⊎ (i ≡ at) → edge (get_or new i []) m ≡ true → Contains new m
closed_more edge starts among known next new at n s h is leads a i m (inl l) e = contains_kept known next new a m (s.closed i m l (ap (λ k. edge k m) (sym (kept_at known next new a i (omega arith))) ∙ e))
closed_more edge starts among known next new at n s h is leads a i m (inr l) e = a.all m ((leads m).1 (ap (λ k. edge k m) (is ∙ sym (ap (λ j. get_or new j []) l ∙ kept_at known next new a at h)) ∙ e))

few_more : (edge : Name → Name → Bool) (starts among known next : List Name) (at : ℕ) (n m : Name) → Searched edge starts among known at → IsOver edge among → ((m : Name) → Contains next m ↔ (edge n m ≡ true)) → Contains known m ⊎ Contains next m → has (starts ++ among) m ≡ true
few_more edge starts among known next at n m s over leads (inl c) = s.few m ((has_is known m).0 c)
few_more edge starts among known next at n m s over leads (inr c) = has_append starts among m ∙ or_right (has starts m) _ (over n m ((leads m).0 c))

-- one more name has been looked at
pub searched_more : (edge : Name → Name → Bool) (starts among known next new : List Name) (at : ℕ) (n : Name) → Searched edge starts among known at → at < length known → n ≡ get_or known at [] → ((m : Name) → Contains next m ↔ (edge n m ≡ true)) → IsOver edge among → Adds known next new → are_distinct new ≡ true → Searched edge starts among new (at + 1)
searched_more edge starts among known next new at n s h is leads over a d = record {
  within = omega (arith, longer known next new a);
  distinct = d;
  sound = λ m c. sound_more edge starts among known next new at n s h is leads m (a.only m c);
  begun = λ m c. contains_kept known next new a m (s.begun m c);
  closed = λ i m l e. closed_more edge starts among known next new at n s h is leads a i m (below_or_at i at l) e;
  few = λ m c. few_more edge starts among known next at n m s over leads (a.only m ((has_is new m).1 c));
}

kept_all : (cur xs : List Name) (x n : Name) → (Contains xs n → Contains cur n) → Contains cur x → Contains xs n ⊎ (x ≡ n) → Contains cur n
kept_all cur xs x n f c (inl h) = f h
kept_all cur xs x n f c (inr h) = subst (Contains cur) h c

kept_only : (old xs : List Name) (x : Name) (ys : List Name) (n : Name) → xs ++ x ∷ [] ≡ ys → Contains old n ⊎ Contains xs n → Contains old n ⊎ Contains ys n
kept_only old xs x ys n e (inl h) = inl h
kept_only old xs x ys n e (inr h) = inr (subst (λ l. Contains l n) e (Contains-append_left xs _ n h))

push_only : (old xs cur : List Name) (x : Name) (ys : List Name) (n : Name) → xs ++ x ∷ [] ≡ ys → (Contains cur n → Contains old n ⊎ Contains xs n) → Contains cur n ⊎ (x ≡ n) → Contains old n ⊎ Contains ys n
push_only old xs cur x ys n e f (inl h) = kept_only old xs x ys n e (f h)
push_only old xs cur x ys n e f (inr h) = inr (subst (λ l. Contains l n) e (subst (Contains (xs ++ x ∷ [])) h (Contains-push xs x)))

-- a name more to add, which is there already, or which is put at the end
adds_kept : (old xs cur : List Name) (i : ℕ) (d : Name) → i < length xs → Adds old (take i xs) cur → Contains cur (get_or xs i d) → Adds old (take (i + 1) xs) cur
adds_kept old xs cur i d h a c = record {
  front = a.front;
  all = λ n k. kept_all cur (take i xs) (get_or xs i d) n (a.all n) c (Contains-push_cases (take i xs) (get_or xs i d) n (subst (λ l. Contains l n) (take_more xs i d h) k));
  only = λ n k. kept_only old (take i xs) (get_or xs i d) (take (i + 1) xs) n (sym (take_more xs i d h)) (a.only n k);
}

adds_push : (old xs cur : List Name) (i : ℕ) (d : Name) → i < length xs → Adds old (take i xs) cur → Adds old (take (i + 1) xs) (cur ++ get_or xs i d ∷ [])
adds_push old xs cur i d h a = record {
  front = record { more = a.front.more ++ get_or xs i d ∷ []; whole = ap (λ l. l ++ get_or xs i d ∷ []) a.front.whole ∙ append_assoc old a.front.more (get_or xs i d ∷ []) };
  all = λ n k. kept_all (cur ++ get_or xs i d ∷ []) (take i xs) (get_or xs i d) n (λ q. Contains-append_left cur _ n (a.all n q)) (Contains-push cur (get_or xs i d)) (Contains-push_cases (take i xs) (get_or xs i d) n (subst (λ l. Contains l n) (take_more xs i d h) k));
  only = λ n k. push_only old (take i xs) cur (get_or xs i d) (take (i + 1) xs) n (sym (take_more xs i d h)) (a.only n) (Contains-push_cases cur (get_or xs i d) n k);
}

adds_if : (old xs cur : List Name) (i : ℕ) (x : Name) → i < length xs → x ≡ get_or xs i x → Adds old (take i xs) cur → (b : Bool) → has cur x ≡ b → Adds old (take (i + 1) xs) (if b then cur else cur ++ x ∷ [])
adds_if old xs cur i x h is a true e = adds_kept old xs cur i x h a (subst (Contains cur) is ((has_is cur x).1 e))
adds_if old xs cur i x h is a false e = subst (λ k. Adds old (take (i + 1) xs) (cur ++ k ∷ [])) (sym is) (adds_push old xs cur i x h a)

pub adds_more : (old xs cur : List Name) (i : ℕ) (x : Name) → i < length xs → x ≡ get_or xs i x → Adds old (take i xs) cur → Adds old (take (i + 1) xs) (with_new cur x)
adds_more old xs cur i x h is a = adds_if old xs cur i x h is a (has cur x) refl

-- a list in the place of an equal one
pub has_same : (xs ys : List Name) → xs ≡ ys → (x : Name) → Contains xs x ↔ (has ys x ≡ true)
has_same xs ys e x = subst (λ l. Contains l x ↔ (has ys x ≡ true)) (sym e) (has_is ys x)
