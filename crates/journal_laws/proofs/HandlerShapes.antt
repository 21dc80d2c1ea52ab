-- What of an instance the laws of its handlers speak of, and what the journal tells of it. What a client
-- does to the instance of one number, and tells of it, one act after another.
use Rattle.std.proofs.Common.{◌≡◌, ℕ, Bool, true, false, List, [], ◌∷◌, ◌++◌, refl, ap, sym, ◌∙◌}
use Rattle.std.specs.Prelude.{cond, flat_map, ◌==◌, Option, Some, None, option_map, if◌then◌else◌}
use Rattle.std.proofs.Math.Path.{subst}
use Rattle.std.proofs.lemmas.Bool.{eqb-true, eq-eqb}
use Rattle.std.proofs.lemmas.Grind.{flat_map-append}
use Rattle.std.proofs.lemmas.List.{append_assoc, append-nil}
use Rattle.output_lines.specs.declared.words.FaultPlace.{FaultPlace}
use Rattle.output_lines.specs.declared.words.InstanceFate.{InstanceFate}
use Rattle.core_model.specs.Names.{Name}
use Rattle.client_model.specs.Instance.{Instance, Handler, numbered, with_change}
use Rattle.client_model.specs.Journal.{Happening, Journal, made, evaluated, not_run, registered, no_host, ran, dropped, ended, gave_up, gave_up_all, told}
use Rattle.client_model.specs.Runtime.{Runtime, Did, and_then, for_each}

pub record Shape : Type 0 where
  pub name : Name
  pub fate : InstanceFate
  pub handlers : List Handler

abbrev pub shape : Instance → Shape
shape i = record { name = i.name; fate = i.fate; handlers = i.handlers }

-- the shape of the instance of number k
abbrev pub seen : List Instance → ℕ → Option Shape
seen is k = option_map shape (numbered is k)

-- what is told of one instance: a handler is registered, run at a place, or dropped; its fate
pub data Word : Type 0 where
  gained : Handler → Word
  used : ℕ → Name → FaultPlace → Word
  lost : ℕ → Word
  fell : InstanceFate → Word

abbrev pub word_of : ℕ → Happening → List Word
word_of k (made i) = []
word_of k (evaluated j n bag e) = []
word_of k (not_run j n) = []
word_of k (registered j h) = if j == k then gained h ∷ [] else []
word_of k (no_host j n label) = []
word_of k (ran j spot n at bag left) = if j == k then used spot n at ∷ [] else []
word_of k (dropped j spot) = if j == k then lost spot ∷ [] else []
word_of k (ended j n fate) = if j == k then fell fate ∷ [] else []
word_of k (gave_up n) = []
word_of k gave_up_all = []
word_of k (told l) = []

-- what a journal tells of the instance of number k
abbrev pub words : ℕ → Journal → List Word
words k journal = flat_map (word_of k) journal

-- Lists of instances.

pub itself : (k : ℕ) → (k == k) ≡ true
itself k = eq-eqb k k refl

module _ (f : Instance → Instance) (same : (i : Instance) → (f i).number ≡ i.number) (k : ℕ) where
  changed_here : (is : List Instance) → numbered (with_change k f is) k ≡ option_map f (numbered is k)
  changed_here [] = refl
  changed_here (i ∷ is) = by (i.number == k) refl (changed_here is)
    where
      by : (b : Bool) → (i.number == k) ≡ b → numbered (with_change k f is) k ≡ option_map f (numbered is k)
          → cond ((if b then f i else i).number == k) (Some (if b then f i else i)) (numbered (with_change k f is) k) ≡ option_map f (cond b (Some i) (numbered is k))
      by true e rest = ap (λ c. cond c (Some (f i)) (numbered (with_change k f is) k)) (ap (λ j. j == k) (same i) ∙ e)
      by false e rest = ap (λ c. cond c (Some i) (numbered (with_change k f is) k)) e ∙ rest

  changed_elsewhere : (m : ℕ) → (m == k) ≡ false → (is : List Instance) → numbered (with_change m f is) k ≡ numbered is k
  changed_elsewhere m other [] = refl
  changed_elsewhere m other (i ∷ is) = by (i.number == m) refl (changed_elsewhere m other is)
    where
      by : (b : Bool) → (i.number == m) ≡ b → numbered (with_change m f is) k ≡ numbered is k
          → cond ((if b then f i else i).number == k) (Some (if b then f i else i)) (numbered (with_change m f is) k) ≡ cond (i.number == k) (Some i) (numbered is k)
      by true e rest =
          let apart : (i.number == k) ≡ false = ap (λ j. j == k) (eqb-true i.number m e) ∙ other in
          ap (λ c. cond c (Some (f i)) (numbered (with_change m f is) k)) (ap (λ j. j == k) (same i) ∙ apart) ∙ rest ∙ ap (λ c. cond c (Some i) (numbered is k)) (sym apart)
      by false e rest = ap (cond (i.number == k) (Some i)) rest

  pub seen_here : (g : Shape → Shape) → ((i : Instance) → shape (f i) ≡ g (shape i)) → (is : List Instance) → seen (with_change k f is) k ≡ option_map g (seen is k)
  seen_here g shapes is = ap (option_map shape) (changed_here is) ∙ by (numbered is k)
    where
      by : (o : Option Instance) → option_map shape (option_map f o) ≡ option_map g (option_map shape o)
      by None = refl
      by (Some i) = ap Some (shapes i)

  pub seen_elsewhere : (m : ℕ) → (m == k) ≡ false → (is : List Instance) → seen (with_change m f is) k ≡ seen is k
  seen_elsewhere m other is = ap (option_map shape) (changed_elsewhere m other is)

-- What is done to the instance of number k.

abbrev pub words_of : (Shape → List Word) → Option Shape → List Word
words_of w None = []
words_of w (Some x) = w x

-- nothing, and nothing is told of it
pub record Quiet (k : ℕ) (r : Runtime) (did : Did) : Type 0 where
  pub shapes : seen did.0.instances k ≡ seen r.instances k
  pub words : words k did.1 ≡ []

-- it becomes f of what it was, and w of it is told
pub record Does (k : ℕ) (f : Shape → Shape) (w : Shape → List Word) (r : Runtime) (did : Did) : Type 0 where
  pub shapes : seen did.0.instances k ≡ option_map f (seen r.instances k)
  pub words : words k did.1 ≡ words_of w (seen r.instances k)

-- it is x now, and this was told of it
pub record Leaves (k : ℕ) (x : Shape) (ws : List Word) (did : Did) : Type 0 where
  pub shapes : seen did.0.instances k ≡ Some x
  pub words : words k did.1 ≡ ws

-- it becomes y where it is x, and this is told of it
abbrev pub Becomes : ℕ → Shape → Shape → List Word → Runtime → Did → Type 0
Becomes k x y ws r did = seen r.instances k ≡ Some x → Leaves k y ws did

pub words_then : (k : ℕ) (a b : Journal) → words k (a ++ b) ≡ words k a ++ words k b
words_then k a b = flat_map-append (word_of k) a b

-- of one that isn't there nothing was told
abbrev pub At : (Shape → List Word → Type 0) → Option Shape → List Word → Type 0
At A None ws = ws ≡ []
At A (Some x) ws = A x ws

-- what is known of the instance before
abbrev pub Known : Option Shape → (Option Shape → List Word → Type 0) → Option Shape → List Word → Type 0
Known o A now ws = (now ≡ o) × A now ws

module _ (k : ℕ) where
  pub quiet_then : (r : Runtime) (did : Did) (next : Runtime → Did) → Quiet k r did → ((s : Runtime) → Quiet k s (next s)) → Quiet k r (and_then did next)
  quiet_then r did next h g = record {
    shapes = (g did.0).shapes ∙ h.shapes;
    words = words_then k did.1 (next did.0).1 ∙ ap (λ ws. ws ++ words k (next did.0).1) h.words ∙ (g did.0).words;
  }

  pub quiet_each : {X : Type 0} (act : X → Runtime → Did) → ((x : X) (s : Runtime) → Quiet k s (act x s)) → (xs : List X) (r : Runtime) → Quiet k r (for_each act xs r)
  quiet_each act f [] r = record { shapes = refl; words = refl }
  quiet_each act f (x ∷ xs) r = quiet_then r (act x r) (for_each act xs) (f x r) (quiet_each act f xs)

  -- What is known of the instance, and of what was told, before and after.

  abbrev pub Takes : (Option Shape → List Word → Type 0) → (Option Shape → List Word → Type 0) → Runtime → Did → Type 0
  Takes Before After r did = (ws : List Word) → Before (seen r.instances k) ws → After (seen did.0.instances k) (ws ++ words k did.1)

  pub takes_then : (A B C : Option Shape → List Word → Type 0) (r : Runtime) (did : Did) (next : Runtime → Did) → Takes A B r did → ((s : Runtime) → Takes B C s (next s)) → Takes A C r (and_then did next)
  takes_then A B C r did next h n ws a = subst (C (seen (next did.0).0.instances k)) (append_assoc ws (words k did.1) (words k (next did.0).1) ∙ ap (λ vs. ws ++ vs) (sym (words_then k did.1 (next did.0).1))) (n did.0 (ws ++ words k did.1) (h ws a))

  pub takes_each : {X : Type 0} (A : Option Shape → List Word → Type 0) (act : X → Runtime → Did) → ((x : X) (s : Runtime) → Takes A A s (act x s)) → (xs : List X) (r : Runtime) → Takes A A r (for_each act xs r)
  takes_each A act f [] r = λ ws a. subst (A (seen r.instances k)) (sym (append-nil ws)) a
  takes_each A act f (x ∷ xs) r = takes_then A A A r (act x r) (for_each act xs) (f x r) (takes_each A act f xs)

  pub quiet_takes : (A : Option Shape → List Word → Type 0) (r : Runtime) (did : Did) → Quiet k r did → Takes A A r did
  quiet_takes A r did q ws a = subst (λ o. A o (ws ++ words k did.1)) (sym q.shapes) (subst (A (seen r.instances k)) (sym (append-nil ws) ∙ ap (λ vs. ws ++ vs) (sym q.words)) a)

  pub does_takes : (A B : Shape → List Word → Type 0) (f : Shape → Shape) (w : Shape → List Word) (r : Runtime) (did : Did) → Does k f w r did → ((x : Shape) (ws : List Word) → A x ws → B (f x) (ws ++ w x)) → Takes (At A) (At B) r did
  does_takes A B f w r did d keeps ws a = subst (λ o. At B o (ws ++ words k did.1)) (sym d.shapes) (subst (λ vs. At B (option_map f (seen r.instances k)) (ws ++ vs)) (sym d.words) (by (seen r.instances k) a))
    where
      by : (o : Option Shape) → At A o ws → At B (option_map f o) (ws ++ words_of w o)
      by None e = append-nil ws ∙ e
      by (Some x) a = keeps x ws a

  -- It is there.

  pub becomes_then : (x y z : Shape) (vs ws : List Word) (r : Runtime) (did : Did) (next : Runtime → Did) → Becomes k x y vs r did → ((s : Runtime) → Becomes k y z ws s (next s)) → Becomes k x z (vs ++ ws) r (and_then did next)
  becomes_then x y z vs ws r did next h n e =
      let first : Leaves k y vs did = h e in
      let second : Leaves k z ws (next did.0) = n did.0 first.shapes in
      record { shapes = second.shapes; words = words_then k did.1 (next did.0).1 ∙ ap (λ us. us ++ words k (next did.0).1) first.words ∙ ap (λ us. vs ++ us) second.words }

  pub does_becomes : (x : Shape) (f : Shape → Shape) (w : Shape → List Word) (r : Runtime) (did : Did) → Does k f w r did → Becomes k x (f x) (w x) r did
  does_becomes x f w r did d e = record { shapes = d.shapes ∙ ap (option_map f) e; words = d.words ∙ ap (words_of w) e }

  pub quiet_becomes : (x : Shape) (r : Runtime) (did : Did) → Quiet k r did → Becomes k x x [] r did
  quiet_becomes x r did q e = record { shapes = q.shapes ∙ e; words = q.words }

  pub known_takes : (A B : Option Shape → List Word → Type 0) (o : Option Shape) (r : Runtime) (did : Did) → seen r.instances k ≡ o → Takes (Known o A) B r did → Takes A B r did
  known_takes A B o r did e t ws a = t ws (e, a)

  pub becomes_takes : (A B : Shape → List Word → Type 0) (x y : Shape) (vs : List Word) (r : Runtime) (did : Did) → Becomes k x y vs r did → ((ws : List Word) → A x ws → B y (ws ++ vs)) → Takes (Known (Some x) (At A)) (At B) r did
  becomes_takes A B x y vs r did b keeps ws a =
      let after : Leaves k y vs did = b a.0 in
      subst (λ o. At B o (ws ++ words k did.1)) (sym after.shapes) (subst (λ us. B y (ws ++ us)) (sym after.words) (keeps ws (subst (λ o. At A o ws) a.0 a.1)))

  pub forgets : (A : Option Shape → List Word → Type 0) (o : Option Shape) (r : Runtime) (did : Did) → Quiet k r did → Takes (Known o A) A r did
  forgets A o r did q ws a = quiet_takes A r did q ws a.1
