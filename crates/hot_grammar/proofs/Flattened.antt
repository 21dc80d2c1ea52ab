-- The turns of the loop over the items of a module, each of which is a list.
use Rattle.std.proofs.Common.{◌≡◌, ℕ, suc, List, [], ◌∷◌, ◌++◌, append_assoc, true, false, Ok, Err, refl, sym, ap, ◌∙◌}
use Rattle.std.proofs.lemmas.List.{append-nil}
use Rattle.module_semantics.specs.Steps.{◌>>=◌}
use Rattle.module_semantics.specs.Token.{LineToken}
use Rattle.module_semantics.specs.Readers.{Reader, next_in, many_from}
use Rattle.module_semantics.specs.Reading.{flat}
use Rattle.hot_grammar.specs.declared.grammar_fault.GrammarFault.{GrammarFault}
use Rattle.hot_grammar.specs.declared.grammar_fault.GrammarFault.TheVariants as faults
use Rattle.hot_grammar.specs.Reads.{Stops}
use Rattle.hot_grammar.proofs.Repeats.{Many, one_turned, none_next, no_turns, turn_stops}

-- what is read after these, one list after another
abbrev pub after_flat : {A : Type 0} → List A → Many (List A) → Many A
after_flat xs r = r >>= λ y. Ok (xs ++ flat y.0, y.1)

regroup : {A : Type 0} (xs ys x : List A) (r : Many (List A)) → ys ≡ xs ++ x → after_flat ys r ≡ after_flat xs (r >>= λ y. Ok (x ∷ y.0, y.1))
regroup xs ys x (Ok y) is = rw is (ap (λ l. Ok (l, y.1)) (append_assoc xs x (flat y.0)))
regroup xs ys x (Err e) is = refl

-- a turn that goes on
pub flat_turned : {A : Type 0} (fs : List ℕ) (f : Reader (List A)) (k n : ℕ) (ts r : List LineToken) (x xs ys : List A) (z : Many A) → k ≡ suc n → next_in fs ts ≡ true → f ts ≡ Ok (x, r) → ys ≡ xs ++ x
    → after_flat xs (many_from fs f k ts) ≡ z → after_flat ys (many_from fs f n r) ≡ z
flat_turned fs f k n ts r x xs ys z is go read more so_far = regroup xs ys x (many_from fs f n r) more ∙ sym (ap (after_flat xs) (one_turned fs f k n ts r x is go read)) ∙ so_far

flat_ended : {A : Type 0} (xs : List A) (ts : List LineToken) (r : Many (List A)) (z : Many A) → r ≡ Ok ([], ts) → after_flat xs r ≡ z → z ≡ Ok (xs, ts)
flat_ended xs ts r z is so_far = sym so_far ∙ ap (after_flat xs) is ∙ ap (λ l. Ok (l, ts)) (append-nil xs)

-- no more of them stands there
pub flat_stopped : {A : Type 0} (fs : List ℕ) (f : Reader (List A)) (k : ℕ) (ts : List LineToken) (xs : List A) (z : Many A) → next_in fs ts ≡ false → after_flat xs (many_from fs f k ts) ≡ z → z ≡ Ok (xs, ts)
flat_stopped fs f k ts xs z stop so_far = flat_ended xs ts (many_from fs f k ts) z (none_next fs f k ts stop) so_far

-- no token is left for more of them
pub flat_spent : {A : Type 0} (fs : List ℕ) (f : Reader (List A)) (k : ℕ) (ts : List LineToken) (xs : List A) (z : Many A) → k ≡ 0 → after_flat xs (many_from fs f k ts) ≡ z → z ≡ Ok (xs, ts)
flat_spent fs f k ts xs z is so_far = flat_ended xs ts (many_from fs f k ts) z (no_turns fs f k ts is) so_far

after_stops : {A : Type 0} (e : GrammarFault) (xs : List A) (r : Many (List A)) (z : Many A) → Stops e r → after_flat xs r ≡ z → Stops e z
after_stops faults.NoMemory xs r z h so_far = tt
after_stops (faults.Unexpected m) xs r z h so_far = sym so_far ∙ ap (after_flat xs) h
after_stops (faults.TooDeep m) xs r z h so_far = sym so_far ∙ ap (after_flat xs) h

-- a turn that ends with a fault
pub flat_failed : {A : Type 0} (fs : List ℕ) (f : Reader (List A)) (k n : ℕ) (ts : List LineToken) (xs : List A) (z : Many A) (e : GrammarFault) → k ≡ suc n → next_in fs ts ≡ true → Stops e (f ts)
    → after_flat xs (many_from fs f k ts) ≡ z → Stops e z
flat_failed fs f k n ts xs z e is go h so_far = after_stops e xs (many_from fs f k ts) z (turn_stops fs f k n ts e is go h) so_far
