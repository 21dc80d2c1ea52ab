-- The turns of a loop that reads parts with a comma between each two, and perhaps one after the last.
use Rattle.std.proofs.Common.{◌≡◌, ℕ, zero, suc, List, [], ◌∷◌, ◌++◌, true, false, Ok, refl, sym, ap, ◌∙◌}
use Rattle.module_semantics.specs.Steps.{◌>>=◌}
use Rattle.module_semantics.specs.Token.{LineToken}
use Rattle.module_semantics.specs.Kinds.{COMMA}
use Rattle.module_semantics.specs.Readers.{Reader, next_in, listed_from, mark}
use Rattle.hot_grammar.specs.declared.grammar_fault.GrammarFault.{GrammarFault}
use Rattle.hot_grammar.specs.Reads.{Stops, past}
use Rattle.hot_grammar.proofs.Chains.{bind_stops}
use Rattle.hot_grammar.proofs.Repeats.{Many, after, ended, regroup, after_stops}

one_listed : {A : Type 0} (fs : List ℕ) (f : Reader A) (k n : ℕ) (ts r s : List LineToken) (x : A) → k ≡ suc n → next_in fs ts ≡ true → f ts ≡ Ok (x, r) → next_in (COMMA ∷ []) r ≡ true → mark COMMA r ≡ Ok (past s)
    → listed_from fs f k ts ≡ (listed_from fs f n s >>= λ y. Ok (x ∷ y.0, y.1))
unfolding listed_from
one_listed fs f k n ts r s x is go read comma taken = rw (is, go, read, comma, taken) refl

-- a turn that goes on
pub listed_turned : {A : Type 0} (fs : List ℕ) (f : Reader A) (k n : ℕ) (ts r s : List LineToken) (x : A) (xs ys : List A) (z : Many A) → k ≡ suc n → next_in fs ts ≡ true → f ts ≡ Ok (x, r) → next_in (COMMA ∷ []) r ≡ true → mark COMMA r ≡ Ok (past s) → ys ≡ xs ++ (x ∷ [])
    → after xs (listed_from fs f k ts) ≡ z → after ys (listed_from fs f n s) ≡ z
listed_turned fs f k n ts r s x xs ys z is go read comma taken more so_far = regroup xs ys x (listed_from fs f n s) more ∙ sym (ap (after xs) (one_listed fs f k n ts r s x is go read comma taken)) ∙ so_far

last_listed : {A : Type 0} (fs : List ℕ) (f : Reader A) (k n : ℕ) (ts r : List LineToken) (x : A) → k ≡ suc n → next_in fs ts ≡ true → f ts ≡ Ok (x, r) → next_in (COMMA ∷ []) r ≡ false → listed_from fs f k ts ≡ Ok (x ∷ [], r)
unfolding listed_from
last_listed fs f k n ts r x is go read comma = rw (is, go, read, comma) refl

-- the last, with no comma after it
pub listed_last : {A : Type 0} (fs : List ℕ) (f : Reader A) (k n : ℕ) (ts r : List LineToken) (x : A) (xs ys : List A) (z : Many A) → k ≡ suc n → next_in fs ts ≡ true → f ts ≡ Ok (x, r) → next_in (COMMA ∷ []) r ≡ false → ys ≡ xs ++ (x ∷ [])
    → after xs (listed_from fs f k ts) ≡ z → z ≡ Ok (ys, r)
listed_last fs f k n ts r x xs ys z is go read comma more so_far = sym so_far ∙ ap (after xs) (last_listed fs f k n ts r x is go read comma) ∙ ap (λ l. Ok (l, r)) (sym more)

one_failed : {A : Type 0} (fs : List ℕ) (f : Reader A) (k n : ℕ) (ts : List LineToken) (e : GrammarFault) → k ≡ suc n → next_in fs ts ≡ true → Stops e (f ts) → Stops e (listed_from fs f k ts)
unfolding listed_from
one_failed fs f k n ts e is go h = rw (is, go) (bind_stops e (f ts) _ h)

-- a turn that ends with a fault
pub listed_failed : {A : Type 0} (fs : List ℕ) (f : Reader A) (k n : ℕ) (ts : List LineToken) (xs : List A) (z : Many A) (e : GrammarFault) → k ≡ suc n → next_in fs ts ≡ true → Stops e (f ts)
    → after xs (listed_from fs f k ts) ≡ z → Stops e z
listed_failed fs f k n ts xs z e is go h so_far = after_stops e xs (listed_from fs f k ts) z (one_failed fs f k n ts e is go h) so_far

comma_failed : {A : Type 0} (fs : List ℕ) (f : Reader A) (k n : ℕ) (ts r : List LineToken) (x : A) (e : GrammarFault) → k ≡ suc n → next_in fs ts ≡ true → f ts ≡ Ok (x, r) → next_in (COMMA ∷ []) r ≡ true → Stops e (mark COMMA r) → Stops e (listed_from fs f k ts)
unfolding listed_from
comma_failed fs f k n ts r x e is go read comma h = rw (is, go, read, comma) (bind_stops e (mark COMMA r) _ h)

pub listed_comma_failed : {A : Type 0} (fs : List ℕ) (f : Reader A) (k n : ℕ) (ts r : List LineToken) (x : A) (xs : List A) (z : Many A) (e : GrammarFault) → k ≡ suc n → next_in fs ts ≡ true → f ts ≡ Ok (x, r) → next_in (COMMA ∷ []) r ≡ true → Stops e (mark COMMA r)
    → after xs (listed_from fs f k ts) ≡ z → Stops e z
listed_comma_failed fs f k n ts r x xs z e is go read comma h so_far = after_stops e xs (listed_from fs f k ts) z (comma_failed fs f k n ts r x e is go read comma h) so_far

none_next : {A : Type 0} (fs : List ℕ) (f : Reader A) (k : ℕ) (ts : List LineToken) → next_in fs ts ≡ false → listed_from fs f k ts ≡ Ok ([], ts)
unfolding listed_from
none_next fs f zero ts stop = refl
none_next fs f (suc k) ts stop = rw stop refl

no_turns : {A : Type 0} (fs : List ℕ) (f : Reader A) (k : ℕ) (ts : List LineToken) → k ≡ 0 → listed_from fs f k ts ≡ Ok ([], ts)
unfolding listed_from
no_turns fs f k ts is = rw is refl

-- no more of them stands there
pub listed_stopped : {A : Type 0} (fs : List ℕ) (f : Reader A) (k : ℕ) (ts : List LineToken) (xs : List A) (z : Many A) → next_in fs ts ≡ false → after xs (listed_from fs f k ts) ≡ z → z ≡ Ok (xs, ts)
listed_stopped fs f k ts xs z stop so_far = ended xs ts (listed_from fs f k ts) z (none_next fs f k ts stop) so_far

-- no token is left for more of them
pub listed_spent : {A : Type 0} (fs : List ℕ) (f : Reader A) (k : ℕ) (ts : List LineToken) (xs : List A) (z : Many A) → k ≡ 0 → after xs (listed_from fs f k ts) ≡ z → z ≡ Ok (xs, ts)
listed_spent fs f k ts xs z is so_far = ended xs ts (listed_from fs f k ts) z (no_turns fs f k ts is) so_far
