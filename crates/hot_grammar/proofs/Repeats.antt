-- The turns of a loop that reads a part as many times as it stands there.
use Rattle.std.proofs.Common.{◌≡◌, ℕ, zero, suc, List, [], ◌∷◌, ◌++◌, append_assoc, true, false, Result, Ok, Err, refl, sym, ap, ◌∙◌}
use Rattle.std.proofs.lemmas.List.{append-nil}
use Rattle.module_semantics.specs.Steps.{◌>>=◌}
use Rattle.module_semantics.specs.Token.{LineToken}
use Rattle.module_semantics.specs.Kinds.{COMMA}
use Rattle.module_semantics.specs.Readers.{Reader, next_in, many_from, many, mark, separated, ◌▷◌}
use Rattle.module_semantics.specs.Readers as plain
use Rattle.hot_grammar.specs.declared.grammar_fault.GrammarFault.{GrammarFault}
use Rattle.hot_grammar.specs.declared.grammar_fault.GrammarFault.TheVariants as faults
use Rattle.hot_grammar.specs.Reads.{Stops}
use Rattle.hot_grammar.proofs.Chains.{bind_stops}

abbrev pub Many : Type 0 → Type 0
Many A = Result (List A × List LineToken) plain.GrammarFault

-- what is read after these
abbrev pub after : {A : Type 0} → List A → Many A → Many A
after xs r = r >>= λ y. Ok (xs ++ y.0, y.1)

pub after_none : {A : Type 0} (r : Many A) → after [] r ≡ r
after_none (Ok y) = refl
after_none (Err e) = refl

pub regroup : {A : Type 0} (xs ys : List A) (x : A) (r : Many A) → ys ≡ xs ++ (x ∷ []) → after ys r ≡ after xs (r >>= λ y. Ok (x ∷ y.0, y.1))
regroup xs ys x (Ok y) is = rw is (ap (λ l. Ok (l, y.1)) (append_assoc xs (x ∷ []) y.0))
regroup xs ys x (Err e) is = refl

pub one_turned : {A : Type 0} (fs : List ℕ) (f : Reader A) (k n : ℕ) (ts r : List LineToken) (x : A) → k ≡ suc n → next_in fs ts ≡ true → f ts ≡ Ok (x, r)
    → many_from fs f k ts ≡ (many_from fs f n r >>= λ y. Ok (x ∷ y.0, y.1))
unfolding many_from
one_turned fs f k n ts r x is go read = rw (is, go, read) refl

-- a turn that goes on
pub turned : {A : Type 0} (fs : List ℕ) (f : Reader A) (k n : ℕ) (ts r : List LineToken) (x : A) (xs ys : List A) (z : Many A) → k ≡ suc n → next_in fs ts ≡ true → f ts ≡ Ok (x, r) → ys ≡ xs ++ (x ∷ [])
    → after xs (many_from fs f k ts) ≡ z → after ys (many_from fs f n r) ≡ z
turned fs f k n ts r x xs ys z is go read more so_far = regroup xs ys x (many_from fs f n r) more ∙ sym (ap (after xs) (one_turned fs f k n ts r x is go read)) ∙ so_far

pub after_stops : {A : Type 0} (e : GrammarFault) (xs : List A) (r z : Many A) → Stops e r → after xs r ≡ z → Stops e z
after_stops faults.NoMemory xs r z h so_far = tt
after_stops (faults.Unexpected m) xs r z h so_far = sym so_far ∙ ap (after xs) h
after_stops (faults.TooDeep m) xs r z h so_far = sym so_far ∙ ap (after xs) h

pub turn_stops : {A : Type 0} (fs : List ℕ) (f : Reader A) (k n : ℕ) (ts : List LineToken) (e : GrammarFault) → k ≡ suc n → next_in fs ts ≡ true → Stops e (f ts) → Stops e (many_from fs f k ts)
unfolding many_from
turn_stops fs f k n ts e is go h = rw (is, go) (bind_stops e (f ts) _ h)

-- a turn that ends with a fault
pub failed : {A : Type 0} (fs : List ℕ) (f : Reader A) (k n : ℕ) (ts : List LineToken) (xs : List A) (z : Many A) (e : GrammarFault) → k ≡ suc n → next_in fs ts ≡ true → Stops e (f ts)
    → after xs (many_from fs f k ts) ≡ z → Stops e z
failed fs f k n ts xs z e is go h so_far = after_stops e xs (many_from fs f k ts) z (turn_stops fs f k n ts e is go h) so_far

pub none_next : {A : Type 0} (fs : List ℕ) (f : Reader A) (k : ℕ) (ts : List LineToken) → next_in fs ts ≡ false → many_from fs f k ts ≡ Ok ([], ts)
unfolding many_from
none_next fs f zero ts stop = refl
none_next fs f (suc k) ts stop = rw stop refl

pub no_turns : {A : Type 0} (fs : List ℕ) (f : Reader A) (k : ℕ) (ts : List LineToken) → k ≡ 0 → many_from fs f k ts ≡ Ok ([], ts)
unfolding many_from
no_turns fs f k ts is = rw is refl

pub ended : {A : Type 0} (xs : List A) (ts : List LineToken) (r z : Many A) → r ≡ Ok ([], ts) → after xs r ≡ z → z ≡ Ok (xs, ts)
ended xs ts r z is so_far = sym so_far ∙ ap (after xs) is ∙ ap (λ l. Ok (l, ts)) (append-nil xs)

-- no more of them stands there
pub stopped : {A : Type 0} (fs : List ℕ) (f : Reader A) (k : ℕ) (ts : List LineToken) (xs : List A) (z : Many A) → next_in fs ts ≡ false → after xs (many_from fs f k ts) ≡ z → z ≡ Ok (xs, ts)
stopped fs f k ts xs z stop so_far = ended xs ts (many_from fs f k ts) z (none_next fs f k ts stop) so_far

-- no token is left for more of them
pub spent : {A : Type 0} (fs : List ℕ) (f : Reader A) (k : ℕ) (ts : List LineToken) (xs : List A) (z : Many A) → k ≡ 0 → after xs (many_from fs f k ts) ≡ z → z ≡ Ok (xs, ts)
spent fs f k ts xs z is so_far = ended xs ts (many_from fs f k ts) z (no_turns fs f k ts is) so_far

abbrev with_first : {A : Type 0} → A → List A × List LineToken → Result ((A × List A) × List LineToken) plain.GrammarFault
with_first x y = Ok ((x, y.0), y.1)

abbrev as_list : {A : Type 0} → (A × List A) × List LineToken → Many A
as_list z = Ok (z.0.0 ∷ z.0.1, z.1)

begun : {A : Type 0} (x : A) (r : Many A) → ((r >>= with_first x) >>= as_list) ≡ after (x ∷ []) r
begun x (Ok y) = refl
begun x (Err e) = refl

-- the first of what stands with commas between
pub separated_begins : {A : Type 0} (fs : List ℕ) (f : Reader A) (ts r : List LineToken) (x : A) → next_in fs ts ≡ true → f ts ≡ Ok (x, r) → after (x ∷ []) (many (COMMA ∷ []) (mark COMMA ▷ f) r) ≡ separated fs f ts
separated_begins fs f ts r x go read = sym (rw (go, read) (begun x (many (COMMA ∷ []) (mark COMMA ▷ f) r)))
