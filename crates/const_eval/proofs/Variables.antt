-- Variables, with what they were given by their places.
use Rattle.std.proofs.Common.{◌≡◌, ◌<◌, ◌≤◌, ℕ, zero, suc, Bool, true, false, if◌then◌else◌, cond, List, [], ◌∷◌, ◌++◌, length, get_or, Option, Some, None, refl, ap, sym, ◌∙◌, arith}
use Rattle.std.specs.Prelude.{bytes_eq, slice_get, slice_set, IsSome}
use Rattle.std.specs.Option.{option_map}
use Rattle.std.specs.BTreeMap.{BTreeMap, is_at, get, UpdatesBy}
use Rattle.std.specs.Cmp.Lexicographic.{same_text}
use Rattle.std.specs.Ordering.{nat_cmp}
use Rattle.std.proofs.lemmas.Bool.Decides.{nat_tests}
use Rattle.std.proofs.lemmas.Option.{slice_get-get_or}
use Rattle.hmr_types.specs.declared.value.Slot.{Slot}
use Rattle.hmr_types.specs.declared.value.Slot.TheVariants.{Val}
use Rattle.hmr_types.specs.declared.value.Value.{Value}
use Rattle.module_semantics.specs.Bodies.{State, assign, assign_slot}
use Rattle.module_semantics.specs.Entries.{entry_at, with_entry}
use Rattle.const_eval.specs.Places.{held_in, now_held, place_among, variables, with_later}
use Rattle.const_eval.proofs.Lookups.{found_at}

within : (es : List (List ℕ × Slot)) (p : ℕ) → p < length es → IsSome (held_in es (Some p))
unfolding held_in
within [] p lt = absurd (omega arith)
within (e ∷ es) zero lt = refl
within (e ∷ es) (suc p) lt = within es p (omega arith)

given_held : (o : Option Slot) (s : Slot) (later : Option Slot) → IsSome o → later ≡ Some s → option_map (λ first. now_held first later) o ≡ Some s
given_held (Some first) s later there is = rw is refl
given_held None s later there is = cc

-- what is held now at a place
pub later_at : (later : ℕ → Option Slot) (es : List (List ℕ × Slot)) (p : ℕ) → held_in (with_later later es) (Some p) ≡ option_map (λ s. now_held s (later p)) (held_in es (Some p))
unfolding with_later held_in
later_at later [] p = refl
later_at later (e ∷ es) zero = refl
later_at later (e ∷ es) (suc p) = later_at (λ i. later (suc i)) es p

-- where something was given at a place, and where nothing was
pub later_some : (es : List (List ℕ × Slot)) (given : BTreeMap ℕ Slot) (p : ℕ) (s : Slot) → p < length es → Some s ≡ get nat_cmp given p → held_in (variables es given) (Some p) ≡ Some s
unfolding variables
later_some es given p s lt is =
    let some : IsSome (held_in es (Some p)) = within es p lt in
    later_at (get nat_cmp given) es p ∙ given_held (held_in es (Some p)) s (get nat_cmp given p) some (sym is)

pub later_none : (es : List (List ℕ × Slot)) (given : BTreeMap ℕ Slot) (p : ℕ) (s : Slot) → held_in es (Some p) ≡ Some s → None ≡ get nat_cmp given p
    → held_in (variables es given) (Some p) ≡ Some s
unfolding variables
later_none es given p s held none =
    later_at (get nat_cmp given) es p ∙ ap (λ o. option_map (λ s. now_held s o) (held_in es (Some p))) (sym none) ∙ ap (option_map (λ s. now_held s None)) held

-- names keep their places
pub same_places : (n : List ℕ) (later : ℕ → Option Slot) (es : List (List ℕ × Slot)) → place_among n (with_later later es) ≡ place_among n es
unfolding place_among with_later
same_places n later [] = refl
same_places n later (e ∷ es) = ap (λ o. if bytes_eq e.0 n then Some 0 else option_map suc o) (same_places n (λ i. later (suc i)) es)

-- a name holds what is held now at its place
pub found_later : (n : List ℕ) (es : List (List ℕ × Slot)) (given : BTreeMap ℕ Slot) → entry_at n (variables es given) ≡ held_in (variables es given) (place_among n es)
unfolding variables
found_later n es given = found_at n (variables es given) ∙ ap (held_in (variables es given)) (same_places n (get nat_cmp given) es)

-- what is found of a name that has a place, and of one that has none
pub found_now : (n : List ℕ) (es : List (List ℕ × Slot)) (given : BTreeMap ℕ Slot) (p : ℕ) (s : Slot) → Some p ≡ place_among n es → held_in (variables es given) (Some p) ≡ Some s
    → Some s ≡ entry_at n (variables es given)
found_now n es given p s there is = sym (found_later n es given ∙ (ap (held_in (variables es given)) (sym there) ∙ is))

pub none_now : (n : List ℕ) (es : List (List ℕ × Slot)) (given : BTreeMap ℕ Slot) → None ≡ place_among n es → None ≡ entry_at n (variables es given)
unfolding held_in
none_now n es given there = sym (found_later n es given ∙ ap (held_in (variables es given)) (sym there))

-- where nothing was given, variables hold what they held at first
pub none_later : (later : ℕ → Option Slot) (es : List (List ℕ × Slot)) → ((p : ℕ) → p < length es → later p ≡ None) → with_later later es ≡ es
unfolding with_later
none_later later [] none = refl
none_later later (e ∷ es) none =
    let head : later 0 ≡ None = none 0 (omega arith) in
    let rest : with_later (λ i. later (suc i)) es ≡ es = none_later (λ i. later (suc i)) es (λ p h. none (suc p) (omega arith)) in
    rw (head, rest) refl

-- it is so at first
pub at_first : (es : List (List ℕ × Slot)) (given : BTreeMap ℕ Slot) → given.entries ≡ [] → variables es given ≡ es
unfolding variables
at_first es given empty = none_later (get nat_cmp given) es (λ p h. rw empty refl)

-- only what is given counts
pub same_later : (later more : ℕ → Option Slot) (es : List (List ℕ × Slot)) → ((p : ℕ) → later p ≡ more p) → with_later later es ≡ with_later more es
unfolding with_later
same_later later more [] same = refl
same_later later more (e ∷ es) same =
    let rest : with_later (λ i. later (suc i)) es ≡ with_later (λ i. more (suc i)) es = same_later (λ i. later (suc i)) (λ i. more (suc i)) es (λ p. same (suc p)) in
    rw (same 0, rest) refl

apart : (p q : ℕ) → (q ≡ p → ⊥) → is_at (nat_cmp p) q ≡ false
apart p q other = grind (arith, nat_tests)

together : (p q : ℕ) → is_at (nat_cmp p) q ≡ true → q ≡ p
together p q same = grind (arith, nat_tests)

both_none : (b : Bool) (before : Option Slot) → before ≡ None → cond b None before ≡ None
both_none true before none = refl
both_none false before none = none

put_step : (n : List ℕ) (slot : Slot) (later more : ℕ → Option Slot) (e : List ℕ × Slot) (es : List (List ℕ × Slot)) (p : ℕ) (b : Bool) (o : Option ℕ)
    → bytes_eq e.0 n ≡ b → o ≡ place_among n es → (if b then Some 0 else option_map suc o) ≡ Some p
    → more p ≡ Some slot → ((q : ℕ) → (q ≡ p → ⊥) → more q ≡ later q)
    → ((r : ℕ) → place_among n es ≡ Some r → more (suc r) ≡ Some slot → ((q : ℕ) → (q ≡ r → ⊥) → more (suc q) ≡ later (suc q))
    → with_later (λ i. more (suc i)) es ≡ with_entry n slot (with_later (λ i. later (suc i)) es))
    → (e.0, now_held e.1 (more 0)) ∷ with_later (λ i. more (suc i)) es
    ≡ (if b then (n, slot) ∷ with_later (λ i. later (suc i)) es else (e.0, now_held e.1 (later 0)) ∷ with_entry n slot (with_later (λ i. later (suc i)) es))
put_step n slot later more e es p true o same there at put others rest =
    let zeroth : p ≡ 0 = cc in
    let first : more 0 ≡ Some slot = rw zeroth at put in
    let name : e.0 ≡ n = same_text e.0 n (sym same) in
    let others_same : with_later (λ i. more (suc i)) es ≡ with_later (λ i. later (suc i)) es =
    same_later (λ i. more (suc i)) (λ i. later (suc i)) es (λ q. others (suc q) (λ is. absurd (omega (arith, zeroth, is)))) in
    rw (first, name, others_same) refl
put_step n slot later more e es p false None same there at put others rest = cc
put_step n slot later more e es p false (Some r) same there at put others rest =
    let next : p ≡ suc r = cc in
    let first : more 0 ≡ later 0 = others 0 (λ is. absurd (omega (arith, next, is))) in
    let behind : with_later (λ i. more (suc i)) es ≡ with_entry n slot (with_later (λ i. later (suc i)) es) =
    rest r (sym there) (rw next at put) (λ q other. others (suc q) (λ is. other (omega (arith, next, is)))) in
    rw (first, behind) refl

-- what is given at the place of a name is put at the name
put_later : (n : List ℕ) (slot : Slot) (later more : ℕ → Option Slot) (es : List (List ℕ × Slot)) (p : ℕ) → place_among n es ≡ Some p
    → more p ≡ Some slot → ((q : ℕ) → (q ≡ p → ⊥) → more q ≡ later q) → with_later more es ≡ with_entry n slot (with_later later es)
unfolding place_among with_later with_entry
put_later n slot later more [] p at put others = cc
put_later n slot later more (e ∷ es) p at put others =
    put_step n slot later more e es p (bytes_eq e.0 n) (place_among n es) refl refl at put others
    (λ r there put_next others_next. put_later n slot (λ i. later (suc i)) (λ i. more (suc i)) es r there put_next others_next)

pub given_later : (n : List ℕ) (slot : Slot) (es : List (List ℕ × Slot)) (before after : BTreeMap ℕ Slot) (p : ℕ) → Some p ≡ place_among n es
    → UpdatesBy nat_cmp (nat_cmp p) before after (Some slot) → variables es after ≡ with_entry n slot (variables es before)
unfolding variables
given_later n slot es before after p at updates =
    put_later n slot (get nat_cmp before) (get nat_cmp after) es p (sym at) updates.1 (λ q other. updates.2 q (apart p q other))

-- what was given at a place is put there
put_back : (slot : Slot) (x : List ℕ × Slot) (later more : ℕ → Option Slot) (es : List (List ℕ × Slot)) (p : ℕ) → slice_get es p ≡ Some x
    → later p ≡ Some slot → more p ≡ None → ((q : ℕ) → (q ≡ p → ⊥) → more q ≡ later q) → with_later more (slice_set es p (x.0, slot)) ≡ with_later later es
unfolding with_later
put_back slot x later more [] p there was gone others = cc
put_back slot x later more (e ∷ es) zero there was gone others =
    let is : e ≡ x = cc in
    let behind : with_later (λ i. more (suc i)) es ≡ with_later (λ i. later (suc i)) es =
    same_later (λ i. more (suc i)) (λ i. later (suc i)) es (λ q. others (suc q) (λ is. absurd (omega arith))) in
    rw (gone, was, behind, is) refl
put_back slot x later more (e ∷ es) (suc p) there was gone others =
    let first : more 0 ≡ later 0 = others 0 (λ is. absurd (omega arith)) in
    let behind : with_later (λ i. more (suc i)) (slice_set es p (x.0, slot)) ≡ with_later (λ i. later (suc i)) es =
    put_back slot x (λ i. later (suc i)) (λ i. more (suc i)) es p there was gone (λ q other. others (suc q) (λ is. other (omega (arith, is)))) in
    rw (first, behind) refl

pub settled : (slot : Slot) (x : List ℕ × Slot) (es : List (List ℕ × Slot)) (before after : BTreeMap ℕ Slot) (p : ℕ) → p < length es → x ≡ get_or es p x
    → Some slot ≡ get nat_cmp before p → UpdatesBy nat_cmp (nat_cmp p) before after None → variables (slice_set es p (x.0, slot)) after ≡ variables es before
unfolding variables
settled slot x es before after p lt is was updates =
    let there : slice_get es p ≡ Some x = slice_get-get_or es p x lt ∙ ap Some (sym is) in
    put_back slot x (get nat_cmp before) (get nat_cmp after) es p there (sym was) updates.1 (λ q other. updates.2 q (apart p q other))

none_step : (b : Bool) (before after : Option Slot) → after ≡ cond b None before → (b ≡ true → before ≡ None) → after ≡ before
none_step true before after is none = is ∙ sym (none refl)
none_step false before after is none = is

-- where nothing was given at a place, taking it changes nothing
pub none_taken : (es : List (List ℕ × Slot)) (before after : BTreeMap ℕ Slot) (p : ℕ) → None ≡ get nat_cmp before p → UpdatesBy nat_cmp (nat_cmp p) before after None
    → variables es after ≡ variables es before
unfolding variables
none_taken es before after p none updates =
    same_later (get nat_cmp after) (get nat_cmp before) es
    (λ q. none_step (is_at (nat_cmp p) q) (get nat_cmp before q) (get nat_cmp after q) (updates.0 q) (λ same. ap (get nat_cmp before) (together p q same) ∙ sym none))

-- what is taken at a place leaves nothing there, and nothing where nothing was
pub still_none : (before after : BTreeMap ℕ Slot) (p : ℕ) → UpdatesBy nat_cmp (nat_cmp p) before after None → (q : ℕ) → get nat_cmp before q ≡ None → get nat_cmp after q ≡ None
still_none before after p updates q none = updates.0 q ∙ both_none (is_at (nat_cmp p) q) (get nat_cmp before q) none

-- where nothing is left of what was given, the variables hold it
pub all_settled : (es : List (List ℕ × Slot)) (given : BTreeMap ℕ Slot) (n : ℕ) → length es ≤ n → ((p : ℕ) → p < n → get nat_cmp given p ≡ None) → variables es given ≡ es
unfolding variables
all_settled es given n all none = none_later (get nat_cmp given) es (λ p h. none p (omega arith))

-- a variable that has a value is assigned
pub assigned : (n : List ℕ) (s : State) (v old : Value) → Some (Val old) ≡ entry_at n s.vars
    → assign n s v ≡ (record s { vars = with_entry n (Val v) s.vars; changes = s.changes ++ (n, v) ∷ [] }, None)
assigned n s v old is = ap (assign_slot n s v) (sym is)
