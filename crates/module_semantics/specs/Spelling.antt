-- How tokens spell a part of a text: what is left of them after the part, where they begin with it.
use Rattle.std.specs.Prelude.{ℕ, List, [], ◌∷◌, Bool, true, ◌&&◌, ◌==◌, if◌then◌else◌, Option, Some, None}
use Rattle.std.specs.Str.{bytes_eq}
use Rattle.module_semantics.specs.Token.{LineToken}
use Rattle.module_semantics.specs.Kinds.{kind, within, COMMA, SEMICOLON, NUMBER, TEXT, free_names, all_names}
use Rattle.module_semantics.specs.Kinds.{bytes_of, value_of, NameAt, name_at, same_name}
use Rattle.module_semantics.specs.Readers.{next_in, ends}

-- what is left of tokens after a part, where they begin with it
abbrev pub Spell : Type 0
Spell = List LineToken → Option (List LineToken)

infixl 10 ◌>>◌
infixr 15 ◌▸◌
-- what is left after one more part
abbrev pub ◌>>◌ : Option (List LineToken) → Spell → Option (List LineToken)
(Some r) >> f = f r
None >> f = None

-- one part, and then another
abbrev pub ◌▸◌ : Spell → Spell → Spell
(f ▸ g) ts = f ts >> g

-- a token of one of these kinds that passes the test
unfoldable pub one : List ℕ → (LineToken → Bool) → Spell
one ks test [] = None
one ks test (t ∷ ts) = if within ks (kind t.token) && test t then Some ts else None

-- no test
abbrev pub any_token : LineToken → Bool
any_token t = true

-- a token of this kind
abbrev pub mark : ℕ → Spell
mark k = one (k ∷ []) any_token

-- this name, of these kinds
abbrev pub name_of : List ℕ → NameAt → Spell
name_of ks n = one ks (λ t. same_name n (name_at t))

-- a name that is none of the reserved words
abbrev pub free_name : NameAt → Spell
free_name n = name_of free_names n

-- a name after a dot
abbrev pub key : List ℕ → Spell
key k = one all_names (λ t. bytes_eq k (bytes_of t.token))

-- a text, by the bytes that it stands for
abbrev pub text_token : List ℕ → Spell
text_token s = one (TEXT ∷ []) (λ t. bytes_eq s (bytes_of t.token))

-- a number, by its value
abbrev pub number_token : ℕ → Spell
number_token n = one (NUMBER ∷ []) (λ t. n == value_of t.token)

-- a token of this kind at this place
abbrev pub mark_at : ℕ → ℕ → Spell
mark_at k at = one (k ∷ []) (λ t. at == t.at)

-- the end of a statement: a semicolon, which is taken where it stands, or nothing
unfoldable pub end : Spell
end ts = if next_in (SEMICOLON ∷ []) ts then mark SEMICOLON ts else (if ends ts then Some ts else None)

-- as many as the list has
unfoldable pub many : {D : Type 0} → (D → Spell) → List D → Spell
many f [] ts = Some ts
many f (d ∷ ds) ts = f d ts >> many f ds

-- with a comma between each two
unfoldable pub separated : {D : Type 0} → (D → Spell) → List D → Spell
separated f [] ts = Some ts
separated f (d ∷ ds) ts = f d ts >> many (λ e. mark COMMA ▸ f e) ds

-- with a comma between each two, and perhaps one after the last
pub data Listed (D : Type 0) : Type 0 where
  none : Listed D
  last : D → Listed D
  more : D → Listed D → Listed D

-- as many as stand there, with commas
unfoldable pub listed : {D : Type 0} → (D → Spell) → Listed D → Spell
listed f none ts = Some ts
listed f (last d) ts = f d ts
listed f (more d ds) ts = f d ts >> (mark COMMA ▸ listed f ds)

-- the parts alone
abbrev pub items_of : {D : Type 0} → Listed D → List D
items_of none = []
items_of (last d) = d ∷ []
items_of (more d ds) = d ∷ items_of ds

-- perhaps
abbrev pub maybe : {D : Type 0} → (D → Spell) → Option D → Spell
maybe f None ts = Some ts
maybe f (Some d) ts = f d ts
