-- Readers of tokens that look one token ahead, and how larger ones are made of smaller ones.
use Rattle.std.specs.Prelude.{ℕ, zero, suc, List, [], ◌∷◌, length, Bool, true, false, ◌&&◌, not}
use Rattle.std.specs.Prelude.{if◌then◌else◌, Result, Ok, Err}
use Rattle.module_semantics.specs.Steps.{◌>>=◌}
use Rattle.module_semantics.specs.Token.{LineToken}
use Rattle.module_semantics.specs.Kinds.{kind, within, COMMA, SEMICOLON, CLOSE_BRACE}

-- a fault of the grammar stands at the first of the tokens left, of which there are this many
pub data GrammarFault : Type 0 where
  unexpected : ℕ → GrammarFault
  too_deep : ℕ → GrammarFault

-- what is read, and the tokens that are left
abbrev pub Reader : Type 0 → Type 0
Reader A = List LineToken → Result (A × List LineToken) GrammarFault

-- the next token is of one of these kinds
unfoldable pub next_in : List ℕ → List LineToken → Bool
next_in ks [] = false
next_in ks (t ∷ ts) = within ks (kind t.token)

-- an unexpected token
abbrev pub failed : {A : Type 0} → Reader A
failed ts = Err (unexpected (length ts))

-- a token of one of these kinds, of which v tells something
unfoldable pub taken : {A : Type 0} → List ℕ → (LineToken → A) → Reader A
taken ks v [] = Err (unexpected 0)
taken ks v (t ∷ ts) = if within ks (kind t.token) then Ok (v t, ts) else Err (unexpected (suc (length ts)))

-- a token of this kind
abbrev pub mark : ℕ → Reader (Unit {0})
mark k = taken (k ∷ []) (λ t. tt)

-- nothing
abbrev pub given : {A : Type 0} → A → Reader A
given x ts = Ok (x, ts)

infixr 20 ◌&◌
infixr 20 ◌▷◌
infixl 25 ◌◁◌
-- one, and then another
abbrev pub ◌&◌ : {A B : Type 0} → Reader A → Reader B → Reader (A × B)
(f & g) ts = f ts >>= λ x. g x.1 >>= λ y. Ok ((x.0, y.0), y.1)

-- what the reader reads, seen by h
abbrev pub mapped : {A B : Type 0} → (A → B) → Reader A → Reader B
mapped h f ts = f ts >>= λ x. Ok (h x.0, x.1)

-- the second counts
abbrev pub ◌▷◌ : {B : Type 0} → Reader (Unit {0}) → Reader B → Reader B
f ▷ g = mapped (λ v. v.1) (f & g)

-- the first counts
abbrev pub ◌◁◌ : {A : Type 0} → Reader A → Reader (Unit {0}) → Reader A
f ◁ g = mapped (λ v. v.0) (f & g)

-- by the next token
abbrev pub choice : {A : Type 0} → List ℕ → Reader A → Reader A → Reader A
choice ks f g ts = if next_in ks ts then f ts else g ts

-- as many as stand there, at most n
unfoldable pub many_from : {A : Type 0} → List ℕ → Reader A → ℕ → Reader (List A)
many_from ks f zero ts = Ok ([], ts)
many_from ks f (suc n) ts =
    if next_in ks ts then (f ts >>= λ x. many_from ks f n x.1 >>= λ y. Ok (x.0 ∷ y.0, y.1)) else Ok ([], ts)

-- as many as stand there
abbrev pub many : {A : Type 0} → List ℕ → Reader A → Reader (List A)
many ks f ts = many_from ks f (length ts) ts

-- the same with a comma between each two, and perhaps one after the last
unfoldable pub listed_from : {A : Type 0} → List ℕ → Reader A → ℕ → Reader (List A)
listed_from ks f zero ts = Ok ([], ts)
listed_from ks f (suc n) ts =
    if next_in ks ts
    then (f ts >>= λ x. if next_in (COMMA ∷ []) x.1
    then (mark COMMA x.1 >>= λ c. listed_from ks f n c.1 >>= λ y. Ok (x.0 ∷ y.0, y.1))
    else Ok (x.0 ∷ [], x.1))
    else Ok ([], ts)

-- as many as stand there, with commas
abbrev pub listed : {A : Type 0} → List ℕ → Reader A → Reader (List A)
listed ks f ts = listed_from ks f (length ts) ts

-- with a comma between each two
abbrev pub separated : {A : Type 0} → List ℕ → Reader A → Reader (List A)
separated ks f = choice ks (mapped (λ v. v.0 ∷ v.1) (f & many (COMMA ∷ []) (mark COMMA ▷ f))) (given [])

-- a statement may end before these tokens with nothing: they are none, or begin with `}`, or begin a line
unfoldable pub ends : List LineToken → Bool
ends [] = true
ends (t ∷ ts) = not (within (SEMICOLON ∷ []) (kind t.token))
    && (if within (CLOSE_BRACE ∷ []) (kind t.token) then true else t.later)

-- the end of a statement: a semicolon, which is taken where it stands, or nothing
unfoldable pub end : Reader (Unit {0})
end ts = if next_in (SEMICOLON ∷ []) ts then mark SEMICOLON ts
    else (if ends ts then Ok (tt, ts) else failed ts)

-- where no deeper part may stand: one that begins there is too deep
unfoldable pub deep : {A : Type 0} → List ℕ → Reader A
deep ks ts = if next_in ks ts then Err (too_deep (length ts)) else Err (unexpected (length ts))

-- the next two tokens are of these kinds
unfoldable pub next_two : ℕ → ℕ → List LineToken → Bool
next_two j k [] = false
next_two j k (t ∷ ts) = within (j ∷ []) (kind t.token) && next_in (k ∷ []) ts
