-- A reader and the part of the grammar that it reads, with all that is known of the two: each combinator of readers keeps it.
use Rattle.std.proofs.Common.{◌≡◌, ℕ, suc, ◌≤◌, List, [], ◌∷◌, ◌++◌, length, Bool, true, false, ◌⊎◌, inl, inr, Some, Ok, Err, refl, ap, arith}
use Rattle.std.proofs.lemmas.List.{length-append}
use Rattle.module_semantics.specs.Token.{LineToken}
use Rattle.module_semantics.specs.Kinds.{kind, within, SEMICOLON, ERROR}
use Rattle.module_semantics.specs.Readers.{unexpected, too_deep, Reader, next_in}
use Rattle.module_semantics.specs.Spelling.{Spell, one}
use Rattle.module_semantics.proofs.Steps.{next}
use Rattle.module_semantics.proofs.KindLists.{none_next}

-- a rest that begins a line, with no semicolon and not with `Error`
abbrev pub Fresh : List LineToken → Type 0
Fresh [] = Unit {0}
Fresh (t ∷ ts) = (t.later ≡ true) × (within (SEMICOLON ∷ ERROR ∷ []) (kind t.token) ≡ false)

-- s may stand in place of the rest r: its first token is the same, or it is fresh
abbrev pub Near : List LineToken → List LineToken → Type 0
Near s r = (next s ≡ next r) ⊎ Fresh s

pub near_after : (b r s : List LineToken) → Near s r → Near (b ++ s) (b ++ r)
near_after [] r s h = h
near_after (t ∷ b) r s h = inl refl

pub fresh_more : (a b : List LineToken) → Fresh a → Fresh b → Fresh (a ++ b)
fresh_more [] b h k = k
fresh_more (t ∷ a) b h k = h

-- what is spelled so stands before each rest that is near
abbrev pub Free : Spell → Type 0
Free f = (ts r : List LineToken) → f ts ≡ Some r → (b : List LineToken) × (ts ≡ b ++ r) × ((s : List LineToken) → Near s r → f (b ++ s) ≡ Some s)

-- what f reads up to a rest, g reads too, before each rest that begins so; and so with an unexpected token
pub record Stable {A : Type 0} (f g : Reader A) : Type 0 where
  pub reads : (ts : List LineToken) (x : A) (r : List LineToken) → f ts ≡ Ok (x, r) → (b : List LineToken) × (ts ≡ b ++ r) × ((s : List LineToken) → next s ≡ next r → g (b ++ s) ≡ Ok (x, s))
  pub faults : (ts : List LineToken) (n : ℕ) → f ts ≡ Err (unexpected n)
      → (b : List LineToken) × (r : List LineToken) × (ts ≡ b ++ r) × (length r ≡ n) × ((s : List LineToken) → next s ≡ next r → g (b ++ s) ≡ Err (unexpected (length s)))

-- a part of the grammar: how a derivation is spelled, what it says, and how deep it is
pub record Part (D A : Type 0) : Type 0 where
  pub spelt : D → Spell
  pub value : D → A
  pub depth : D → ℕ

-- the tokens before an unexpected one begin a text of the part
pub record Begun {D A : Type 0} (P : Part D A) (ts : List LineToken) (n : ℕ) : Type 0 where
  pub before : List LineToken
  pub rest : List LineToken
  pub more : List LineToken
  pub by : D
  pub split : ts ≡ before ++ rest
  pub left : length rest ≡ n
  pub fresh : Fresh more
  pub spells : (s : List LineToken) → Fresh s → P.spelt by (before ++ (more ++ s)) ≡ Some s

-- the tokens up to one that is too deep begin a text of the part, but the reader reads none that begins so
pub record Sunk {D A : Type 0} (P : Part D A) (f : Reader A) (ts : List LineToken) (n : ℕ) : Type 0 where
  pub before : List LineToken
  pub at : LineToken
  pub rest : List LineToken
  pub more : List LineToken
  pub by : D
  pub split : ts ≡ before ++ (at ∷ rest)
  pub left : suc (length rest) ≡ n
  pub fresh : Fresh more
  pub spells : (s : List LineToken) → Fresh s → P.spelt by (before ++ (at ∷ (more ++ s))) ≡ Some s
  pub never : (s : List LineToken) (x : A) (q : List LineToken) → f (before ++ (at ∷ s)) ≡ Ok (x, q) → ⊥

-- some text of the part, which begins a line
pub record Default {D : Type 0} (spelt : D → Spell) : Type 0 where
  pub by : D
  pub text : List LineToken
  pub fresh : Fresh text
  pub spells : (s : List LineToken) → Fresh s → spelt by (text ++ s) ≡ Some s

-- how a text of the part begins, where it may be nothing or not
abbrev pub Starts : List ℕ → Bool → List LineToken → List LineToken → Type 0
Starts fs true ts r = (next_in fs ts ≡ true) ⊎ (ts ≡ r)
Starts fs false ts r = next_in fs ts ≡ true

-- f reads the part where what is inside it is at most n deep; g is the same reader where it may be deeper. A text of the
-- part begins with a token of fs, unless it is nothing; the reader goes on at a token of ks
pub record Reads {D A : Type 0} (fs : List ℕ) (null : Bool) (ks : List ℕ) (n : ℕ) (P : Part D A) (f g : Reader A) : Type 0 where
  pub whole : (ts : List LineToken) (x : A) (r : List LineToken) → f ts ≡ Ok (x, r) → (d : D) × (P.spelt d ts ≡ Some r) × (P.value d ≡ x) × (P.depth d ≤ n)
  pub comp : (d : D) (ts r : List LineToken) → P.depth d ≤ n → P.spelt d ts ≡ Some r → next_in ks r ≡ false → f ts ≡ Ok (P.value d, r)
  pub begun : (ts : List LineToken) (m : ℕ) → f ts ≡ Err (unexpected m) → Begun P ts m
  pub starts : (d : D) (ts r : List LineToken) → P.depth d ≤ n → P.spelt d ts ≡ Some r → Starts fs null ts r
  pub free : (d : D) → P.depth d ≤ n → Free (P.spelt d)
  pub some : Default P.spelt
  pub stable : Stable f g
  pub self : Stable f f
  pub sunk : (ts : List LineToken) (m : ℕ) → f ts ≡ Err (too_deep m) → Sunk P f ts m

shorter_by : {D A : Type 0} (fs ks : List ℕ) (n : ℕ) (P : Part D A) (f g : Reader A) → Reads fs false ks n P f g → (d : D) (ts r : List LineToken) → P.depth d ≤ n
    → (b : List LineToken) → ts ≡ b ++ r → ((s : List LineToken) → Near s r → P.spelt d (b ++ s) ≡ Some s) → suc (length r) ≤ length ts
shorter_by fs ks n P f g a d ts r few [] split spells = let w = a.starts d [] [] few (spells [] (inr tt)) in let e = none_next fs in absurd cc
shorter_by fs ks n P f g a d ts r few (t ∷ b) split spells = omega (arith, ap length split, length-append b r)

-- a text of a part that is never nothing is shorter after it
pub shorter : {D A : Type 0} (fs ks : List ℕ) (n : ℕ) (P : Part D A) (f g : Reader A) → Reads fs false ks n P f g → (d : D) (ts r : List LineToken) → P.depth d ≤ n → P.spelt d ts ≡ Some r → suc (length r) ≤ length ts
shorter fs ks n P f g a d ts r few h =
    let w = a.free d few ts r h in
    shorter_by fs ks n P f g a d ts r few w.0 w.1 w.2

-- a token of some kinds
abbrev pub leaf : {A : Type 0} → List ℕ → (LineToken → A) → (A → A → Bool) → Part A A
leaf ks v same = record { spelt = λ x. one ks (λ t. same x (v t)); value = λ x. x; depth = λ x. 0 }
