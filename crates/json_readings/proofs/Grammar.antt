-- A value that is read has no more bytes in its keys and strings than the tokens that it took.
use Rattle.std.proofs.Common.{◌≡◌, ℕ, zero, suc, ◌+◌, ◌≤◌, List, [], ◌∷◌, length, Option, Some, None, option_and_then, refl, subst, arith}
use Rattle.std.specs.Prelude.{⊤}
use Rattle.json.specs.Token.{Token}
use Rattle.json.specs.Json.{Json, null, boolean, number, string, array, object, Items, no_items, item, Members, no_members, member, Parse, parse_map, after_end_array, read_key, items_step, members_step, items, members, value_with, value}
use Rattle.json_readings.proofs.Lexed.{tokens_size}

abbrev mutual
  pub json_size : Json → ℕ
  json_size null = 0
  json_size (boolean b) = 0
  json_size (number s) = 0
  json_size (string s) = length s
  json_size (array js) = items_size js
  json_size (object ms) = members_size ms

  pub items_size : Items → ℕ
  items_size no_items = 0
  items_size (item j js) = json_size j + items_size js

  pub members_size : Members → ℕ
  members_size no_members = 0
  members_size (member k j ms) = length k + (json_size j + members_size ms)

-- what was read and what is left are together no larger than n
abbrev AtMost : {A : Type 0} → (A → ℕ) → ℕ → Option (A × List Token) → Type 0
AtMost f n None = ⊤
AtMost f n (Some p) = f p.0 + tokens_size p.1 ≤ n

abbrev Within : {A : Type 0} → (A → ℕ) → Parse A → Type 0
Within f p = (ts : List Token) → AtMost f (tokens_size ts) (p ts)

mapped : {A B : Type 0} (f : A → ℕ) (g : B → ℕ) (m n : ℕ) (h : A → B) → ((a : A) (r : ℕ) → f a + r ≤ m → g (h a) + r ≤ n) → (o : Option (A × List Token)) → AtMost f m o → AtMost g n (parse_map h o)
mapped f g m n h k None x = tt
mapped f g m n h k (Some p) x = k p.0 (tokens_size p.1) x

and_more : {B : Type 0} (g : B → ℕ) (c n : ℕ) (h : Json → B → B) → ((j : Json) (b : B) → g (h j b) ≡ c + (json_size j + g b)) → (more : Parse B) → Within g more
    → (o : Option (Json × List Token)) → AtMost json_size n o → AtMost g (c + n) (option_and_then (λ q. parse_map (h q.0) (more q.1)) o)
and_more g c n h is more within None x = tt
and_more g c n h is more within (Some q) x = mapped g g (tokens_size q.1) (c + n) (h q.0) (λ b r y. omega (arith, is q.0 b, x, y)) _ (within q.1)

abbrev RestWithin : ℕ → Option (List Token) → Type 0
RestWithin n None = ⊤
RestWithin n (Some r) = tokens_size r ≤ n

closing : (ts : List Token) → RestWithin (tokens_size ts) (after_end_array ts)
closing [] = tt
closing (Token.begin_object ∷ ts) = tt
closing (Token.end_object ∷ ts) = tt
closing (Token.begin_array ∷ ts) = tt
closing (Token.end_array ∷ ts) = omega arith
closing (Token.key s ∷ ts) = tt
closing (Token.string s ∷ ts) = tt
closing (Token.number s ∷ ts) = tt
closing (Token.boolean b ∷ ts) = tt
closing (Token.null ∷ ts) = tt
closing (Token.bad ∷ ts) = tt

abbrev key_size : Option (List ℕ) → ℕ
key_size None = 0
key_size (Some k) = length k

naming : Within key_size read_key
naming [] = tt
naming (Token.begin_object ∷ ts) = tt
naming (Token.end_object ∷ ts) = omega arith
naming (Token.begin_array ∷ ts) = tt
naming (Token.end_array ∷ ts) = tt
naming (Token.key s ∷ ts) = omega arith
naming (Token.string s ∷ ts) = tt
naming (Token.number s ∷ ts) = tt
naming (Token.boolean b ∷ ts) = tt
naming (Token.null ∷ ts) = tt
naming (Token.bad ∷ ts) = tt

more_room : {A : Type 0} (f : A → ℕ) (m n : ℕ) (o : Option (A × List Token)) → m ≤ n → AtMost f m o → AtMost f n o
more_room f m n None le x = tt
more_room f m n (Some p) le x = omega (arith, le, x)

module _ (p : Parse Json) (within : Within json_size p) where
  item_turn : (more : Parse Items) → Within items_size more → (ts : List Token) (o : Option (List Token)) → RestWithin (tokens_size ts) o → AtMost items_size (tokens_size ts) (items_step p more ts o)
  item_turn more again ts (Some r) h = omega (arith, h)
  item_turn more again ts None h = more_room items_size (0 + tokens_size ts) (tokens_size ts) _ (omega arith) (and_more items_size 0 (tokens_size ts) item (λ j b. omega arith) more again (p ts) (within ts))

  Within-items : (n : ℕ) → Within items_size (items p n)
  unfolding items
  Within-items zero ts = tt
  Within-items (suc n) ts = item_turn (items p n) (Within-items n) ts (after_end_array ts) (closing ts)

  member_turn : (more : Parse Members) → Within members_size more → (n : ℕ) (o : Option (Option (List ℕ) × List Token)) → AtMost key_size n o
      → AtMost members_size n (option_and_then (λ q. members_step p more q.0 q.1) o)
  member_turn more again n None h = tt
  member_turn more again n (Some (None, s)) h = omega (arith, h)
  member_turn more again n (Some (Some k, s)) h =
      more_room members_size (length k + tokens_size s) n _ h (and_more members_size (length k) (tokens_size s) (member k) (λ j b. refl) more again (p s) (within s))

  Within-members : (n : ℕ) → Within members_size (members p n)
  unfolding members
  Within-members zero ts = tt
  Within-members (suc n) ts = member_turn (members p n) (Within-members n) (tokens_size ts) (read_key ts) (naming ts)

one_level : (a : Parse Items) (o : Parse Members) → Within items_size a → Within members_size o → Within json_size (value_with a o)
one_level a o p q [] = tt
one_level a o p q (Token.begin_object ∷ ts) = mapped members_size json_size (tokens_size ts) _ object (λ ms r x. omega (arith, x)) _ (q ts)
one_level a o p q (Token.end_object ∷ ts) = tt
one_level a o p q (Token.begin_array ∷ ts) = mapped items_size json_size (tokens_size ts) _ array (λ js r x. omega (arith, x)) _ (p ts)
one_level a o p q (Token.end_array ∷ ts) = tt
one_level a o p q (Token.key s ∷ ts) = tt
one_level a o p q (Token.string s ∷ ts) = omega arith
one_level a o p q (Token.number s ∷ ts) = omega arith
one_level a o p q (Token.boolean b ∷ ts) = omega arith
one_level a o p q (Token.null ∷ ts) = omega arith
one_level a o p q (Token.bad ∷ ts) = tt

pub value_size : (d : ℕ) → Within json_size (value d)
unfolding value
value_size zero = one_level (λ ts. None) (λ ts. None) (λ ts. tt) (λ ts. tt)
value_size (suc d) =
    one_level (λ ts. items (value d) (length ts) ts) (λ ts. members (value d) (length ts) ts)
    (λ ts. Within-items (value d) (value_size d) (length ts) ts) (λ ts. Within-members (value d) (value_size d) (length ts) ts)

pub value-size : (d : ℕ) (ts r : List Token) (j : Json) → value d ts ≡ Some (j, r) → json_size j ≤ tokens_size ts
value-size d ts r j e = omega (arith, subst (AtMost json_size (tokens_size ts)) e (value_size d ts))
