-- Readers one after another, taken apart.
use Rattle.std.proofs.Common.{◌≡◌, List, Result, Ok, Err, refl, sym, ap, ◌∙◌, subst}
use Rattle.module_semantics.specs.Steps.{◌>>=◌}
use Rattle.module_semantics.specs.Token.{LineToken}
use Rattle.module_semantics.specs.Kinds.{DOT, META, HOT}
use Rattle.module_semantics.specs.Readers.{Reader, ◌▷◌, mark}
use Rattle.module_semantics.specs.Readers as plain
use Rattle.module_semantics.specs.Reading.{hot}
use Rattle.hot_grammar.specs.declared.grammar_fault.GrammarFault.{GrammarFault}
use Rattle.hot_grammar.specs.declared.grammar_fault.GrammarFault.TheVariants as faults
use Rattle.hot_grammar.specs.Parts.{hot_front}
use Rattle.hot_grammar.specs.Reads.{Stops, past}

-- a fault of the first step is one of both
pub bind_stops : {A B : Type 0} (e : GrammarFault) (r : Result A plain.GrammarFault) (f : A → Result B plain.GrammarFault) → Stops e r → Stops e (r >>= f)
bind_stops faults.NoMemory r f h = tt
bind_stops (faults.Unexpected n) r f h = rw h refl
bind_stops (faults.TooDeep n) r f h = rw h refl

-- a fault of another step is one of the whole
pub later_stops : {A B : Type 0} (e : GrammarFault) (x : A) (r : Result A plain.GrammarFault) (f : A → Result B plain.GrammarFault) → r ≡ Ok x → Stops e (f x) → Stops e (r >>= f)
later_stops e x r f is h = subst (Stops e) (sym (ap (λ q. q >>= f) is)) h

abbrev paired : {B : Type 0} → Unit {0} → B × List LineToken → Result ((Unit {0} × B) × List LineToken) plain.GrammarFault
paired u y = Ok ((u, y.0), y.1)

abbrev second : {B : Type 0} → (Unit {0} × B) × List LineToken → Result (B × List LineToken) plain.GrammarFault
second z = Ok (z.0.1, z.1)

-- a reading after what is told nothing of
abbrev kept : {B : Type 0} → Unit {0} → Result (B × List LineToken) plain.GrammarFault → Result (B × List LineToken) plain.GrammarFault
kept u x = (x >>= paired u) >>= second

again : {B : Type 0} (u : Unit {0}) (x : Result (B × List LineToken) plain.GrammarFault) → kept u x ≡ x
again u (Ok y) = refl
again u (Err e) = refl

-- after what is told nothing of, the rest is what is read
pub goes : {B : Type 0} (f : Reader (Unit {0})) (g : Reader B) (ts r : List LineToken) → f ts ≡ Ok (past r) → (f ▷ g) ts ≡ g r
goes f g ts r h = rw h (again tt (g r))

pub goes_stops : {B : Type 0} (e : GrammarFault) (f : Reader (Unit {0})) (g : Reader B) (ts : List LineToken) → Stops e (f ts) → Stops e ((f ▷ g) ts)
goes_stops e f g ts h = bind_stops e _ _ (bind_stops e (f ts) _ h)

under : {B : Type 0} (a : Reader (Unit {0})) (g h : Reader B) (ts : List LineToken) → ((r : List LineToken) → g r ≡ h r) → (x : Result (Unit {0} × List LineToken) plain.GrammarFault) → a ts ≡ x → (a ▷ g) ts ≡ (a ▷ h) ts
under a g h ts same (Ok y) is = rw is (ap (kept y.0) (same y.1))
under a g h ts same (Err e) is = rw is refl

three : {C : Type 0} (u v : Unit {0}) (x : Result (C × List LineToken) plain.GrammarFault) → kept u (kept v x) ≡ kept v x
three u v (Ok y) = refl
three u v (Err e) = refl

two_steps : {C : Type 0} (a b : Reader (Unit {0})) (f : Reader C) (ts : List LineToken) (u : Unit {0}) (r : List LineToken) (y : Result (Unit {0} × List LineToken) plain.GrammarFault) → a ts ≡ Ok (u, r) → b r ≡ y → (a ▷ (b ▷ f)) ts ≡ ((a ▷ b) ▷ f) ts
two_steps a b f ts u r (Ok y) is so = rw (is, so) (three u y.0 (f y.1))
two_steps a b f ts u r (Err e) is so = rw (is, so) refl

joined : {C : Type 0} (a b : Reader (Unit {0})) (f : Reader C) (ts : List LineToken) (x : Result (Unit {0} × List LineToken) plain.GrammarFault) → a ts ≡ x → (a ▷ (b ▷ f)) ts ≡ ((a ▷ b) ▷ f) ts
joined a b f ts (Ok y) is = two_steps a b f ts y.0 y.1 (b y.1) is refl
joined a b f ts (Err e) is = rw is refl

-- two steps of which nothing is told are one
regroup : {C : Type 0} (a b : Reader (Unit {0})) (f : Reader C) (ts : List LineToken) → (a ▷ (b ▷ f)) ts ≡ ((a ▷ b) ▷ f) ts
regroup a b f ts = joined a b f ts (a ts) refl

more : {C : Type 0} (a b : Reader (Unit {0})) (f g : Reader C) (ts : List LineToken) → ((r : List LineToken) → g r ≡ (b ▷ f) r) → (a ▷ g) ts ≡ ((a ▷ b) ▷ f) ts
more a b f g ts same = under a g (b ▷ f) ts same (a ts) refl ∙ regroup a b f ts

hot_is : {A : Type 0} (f : Reader A) (ts : List LineToken) → hot f ts ≡ (hot_front ▷ f) ts
hot_is f ts = more (mark DOT) (mark META ▷ mark DOT ▷ mark HOT ▷ mark DOT) f (mark META ▷ mark DOT ▷ mark HOT ▷ mark DOT ▷ f) ts
    (λ r. more (mark META) (mark DOT ▷ mark HOT ▷ mark DOT) f (mark DOT ▷ mark HOT ▷ mark DOT ▷ f) r
    (λ q. more (mark DOT) (mark HOT ▷ mark DOT) f (mark HOT ▷ mark DOT ▷ f) q (λ p. regroup (mark HOT) (mark DOT) f p)))

-- after `import.meta.hot.`
pub hot_goes : {A : Type 0} (f : Reader A) (ts r : List LineToken) → hot_front ts ≡ Ok (past r) → hot f ts ≡ f r
hot_goes f ts r h = hot_is f ts ∙ goes hot_front f ts r h

pub hot_stops : {A : Type 0} (e : GrammarFault) (f : Reader A) (ts : List LineToken) → Stops e (hot_front ts) → Stops e (hot f ts)
hot_stops e f ts h = subst (Stops e) (sym (hot_is f ts)) (goes_stops e hot_front f ts h)
