-- Steps of readers and of spellings, taken apart.
use Rattle.std.proofs.Common.{◌≡◌, ℕ, suc, ◌≤◌, List, [], ◌∷◌, ◌++◌, length, Bool, true, false, cond, ◌⊎◌, inl, inr, Option, Some, None, Result, Ok, Err, refl, ap, arith}
use Rattle.std.proofs.lemmas.List.{length-append}
use Rattle.module_semantics.specs.Steps.{◌>>=◌}
use Rattle.module_semantics.specs.Token.{LineToken}
use Rattle.module_semantics.specs.Readers.{GrammarFault, unexpected, too_deep}
use Rattle.module_semantics.specs.Spelling.{Spell, ◌>>◌}

pub ok_parts : {A : Type 0} (x y : A) (ts r : List LineToken) → ◌≡◌ {A = Result (A × List LineToken) GrammarFault} (Ok (x, ts)) (Ok (y, r)) → (ts ≡ r) × (x ≡ y)
ok_parts {A} x y ts r h = let e : ◌≡◌ {A = A × List LineToken} (x, ts) (y, r) = cc in (ap (λ v. v.1) e, ap (λ v. v.0) e)

pub bind_ok : {A B : Type 0} (r : Result A GrammarFault) (f : A → Result B GrammarFault) (y : B) → (r >>= f) ≡ Ok y → (x : A) × (r ≡ Ok x) × (f x ≡ Ok y)
bind_ok (Ok x) f y h = (x, refl, h)
bind_ok (Err e) f y h = cc

-- a fault stands in the first of two, or in the second
pub bind_err : {A B : Type 0} (r : Result A GrammarFault) (f : A → Result B GrammarFault) (n : GrammarFault) → (r >>= f) ≡ Err n → (r ≡ Err n) ⊎ ((x : A) × (r ≡ Ok x) × (f x ≡ Err n))
bind_err (Ok x) f n h = inr (x, refl, h)
bind_err (Err e) f n h = inl (cc)

pub bound : {A B : Type 0} (r : Result A GrammarFault) (f : A → Result B GrammarFault) (x : A) (z : Result B GrammarFault) → r ≡ Ok x → f x ≡ z → (r >>= f) ≡ z
bound r f x z h k = rw h k

pub bound_err : {A B : Type 0} (r : Result A GrammarFault) (f : A → Result B GrammarFault) (e : GrammarFault) → r ≡ Err e → (r >>= f) ≡ Err e
bound_err r f e h = rw h refl

-- which way a test went
pub went : {A : Type 0} (b : Bool) (x y z : Result A GrammarFault) → cond b x y ≡ z → ((b ≡ true) × (x ≡ z)) ⊎ ((b ≡ false) × (y ≡ z))
went true x y z h = inl (refl, h)
went false x y z h = inr (refl, h)

pub if_true : {A : Type 0} (b : Bool) (x y z : A) → b ≡ true → x ≡ z → cond b x y ≡ z
if_true b x y z h k = rw h k

pub if_false : {A : Type 0} (b : Bool) (x y z : A) → b ≡ false → y ≡ z → cond b x y ≡ z
if_false b x y z h k = rw h k

pub bind_some : (o : Option (List LineToken)) (f : Spell) (r : List LineToken) → (o >> f) ≡ Some r → (x : List LineToken) × (o ≡ Some x) × (f x ≡ Some r)
bind_some (Some x) f r h = (x, refl, h)
bind_some None f r h = cc

pub bound_some : (o : Option (List LineToken)) (f : Spell) (x : List LineToken) (z : Option (List LineToken)) → o ≡ Some x → f x ≡ z → (o >> f) ≡ z
bound_some o f x z h k = rw h k

pub regroup : (o : Option (List LineToken)) (f g : Spell) → ((o >> f) >> g) ≡ (o >> λ k. f k >> g)
regroup (Some x) f g = refl
regroup None f g = refl

pub some_same : (r s : List LineToken) → ◌≡◌ {A = Option (List LineToken)} (Some r) (Some s) → r ≡ s
some_same r s h = cc

pub unexpected_at : {n m : ℕ} → ◌≡◌ {A = GrammarFault} (unexpected n) (unexpected m) → n ≡ m
unexpected_at h = cc

-- the next token
abbrev pub next : List LineToken → Option LineToken
next [] = None
next (t ∷ ts) = Some t

pub next_after : (b r s : List LineToken) → next s ≡ next r → next (b ++ s) ≡ next (b ++ r)
next_after [] r s h = h
next_after (t ∷ b) r s h = refl

pub no_tokens : (s : List LineToken) → next s ≡ None → s ≡ []
no_tokens [] h = refl
no_tokens (t ∷ s) h = absurd cc

-- a part that is longer than what is left of it stands before each other rest
pub grown : (a r s : List LineToken) → suc (length r) ≤ length (a ++ r) → suc (length s) ≤ length (a ++ s)
grown a r s h = omega (arith, h, length-append a r, length-append a s)

pub split_length : (ts b r : List LineToken) → ts ≡ b ++ r → length r ≤ length ts
split_length ts b r h = omega (arith, ap length h, length-append b r)

-- two splits with as many tokens left are one
pub same_split : (b r b' r' : List LineToken) → b ++ r ≡ b' ++ r' → length r ≡ length r' → (b ≡ b') × (r ≡ r')
same_split [] r [] r' h len = (refl, h)
same_split [] r (t ∷ b') r' h len = absurd (omega (arith, len, ap length h, length-append b' r'))
same_split (t ∷ b) r [] r' h len = absurd (omega (arith, len, ap length h, length-append b r))
same_split (t ∷ b) r (u ∷ b') r' h len =
    let first : t ≡ u = cc in
    let rest : b ++ r ≡ b' ++ r' = cc in
    let w = same_split b r b' r' rest len in
    (rw (first, w.0) refl, w.1)

pub too_deep_at : {n m : ℕ} → ◌≡◌ {A = GrammarFault} (too_deep n) (too_deep m) → n ≡ m
too_deep_at h = cc
