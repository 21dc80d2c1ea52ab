-- A reading has no more bytes in its keys and strings than its text.
use Rattle.std.proofs.Common.{◌≡◌, ℕ, ◌+◌, ◌≤◌, List, [], ◌∷◌, length, Option, Some, None, option_map, option_and_then, Ordering, Less, Equal, Greater, refl, subst, arith}
use Rattle.std.specs.Prelude.{⊤}
use Rattle.std.specs.Ordering.{match_ordering}
use Rattle.json.specs.Token.{Token}
use Rattle.json.specs.Lex.{tokens}
use Rattle.json.specs.Json as json
use Rattle.serde_json.specs.Data.{Data, number, array, object, item, Members, no_members, member, put}
use Rattle.serde_json.specs.Read.{number_of, of_json, of_items, of_members, max_depth, read}
use Rattle.json_readings.specs.Size.{size, items_size, members_size}
use Rattle.json_readings.proofs.Lexed.{tokens_size-tokens}
use Rattle.json_readings.proofs.Grammar.{json_size, items_size as json_items_size, members_size as json_members_size, value-size}

abbrev AtMost : {A : Type 0} → (A → ℕ) → ℕ → Option A → Type 0
AtMost f n None = ⊤
AtMost f n (Some a) = f a ≤ n

AtMost-map : {A B : Type 0} (f : A → ℕ) (g : B → ℕ) (m n : ℕ) (h : A → B) → ((a : A) → f a ≤ m → g (h a) ≤ n) → (o : Option A) → AtMost f m o → AtMost g n (option_map h o)
AtMost-map f g m n h k None x = tt
AtMost-map f g m n h k (Some a) x = k a x

AtMost-and_then : {A B : Type 0} (f : A → ℕ) (g : B → ℕ) (m n : ℕ) (h : A → Option B) → ((a : A) → f a ≤ m → AtMost g n (h a)) → (o : Option A) → AtMost f m o → AtMost g n (option_and_then h o)
AtMost-and_then f g m n h k None x = tt
AtMost-and_then f g m n h k (Some a) x = k a x

flat : {A : Type 0} (o : Option A) → AtMost (λ _. 0) 0 o
flat None = tt
flat (Some a) = omega arith

one_of : (o : Ordering) (a b c : Members) (n : ℕ) → members_size a ≤ n → members_size b ≤ n → members_size c ≤ n → members_size (match_ordering o a b c) ≤ n
one_of Less a b c n p q r = p
one_of Equal a b c n p q r = q
one_of Greater a b c n p q r = r

-- where the key was there, its old value is gone
members_size-put : (k : List ℕ) (d : Data) (ms : Members) → members_size (put k d ms) ≤ length k + (size d + members_size ms)
members_size-put k d no_members = omega arith
members_size-put k d (member l e ms) =
    one_of _ (member k d (member l e ms)) (member l d ms) (member l e (put k d ms)) _ (omega arith) (omega arith) (omega (arith, members_size-put k d ms))

mutual
  size-of_json : (j : json.Json) → AtMost size (json_size j) (of_json j)
  size-of_json json.null = omega arith
  size-of_json (json.boolean b) = omega arith
  size-of_json (json.number s) = AtMost-map (λ _. 0) size 0 0 number (λ a x. omega arith) (number_of s) (flat _)
  size-of_json (json.string s) = omega arith
  size-of_json (json.array js) = AtMost-map items_size size (json_items_size js) _ array (λ a x. x) _ (size-of_items js)
  size-of_json (json.object ms) = AtMost-map members_size size (json_members_size ms) _ object (λ a x. x) _ (size-of_members ms no_members _ (omega arith))

  size-of_items : (js : json.Items) → AtMost items_size (json_items_size js) (of_items js)
  size-of_items json.no_items = omega arith
  size-of_items (json.item j js) =
      AtMost-and_then size items_size (json_size j) _ _ (λ d x. AtMost-map items_size items_size (json_items_size js) _ (item d) (λ ds y. omega (arith, x, y)) _ (size-of_items js)) _ (size-of_json j)

  size-of_members : (ms : json.Members) (found : Members) (n : ℕ) → json_members_size ms + members_size found ≤ n → AtMost members_size n (of_members ms found)
  size-of_members json.no_members found n h = omega (arith, h)
  size-of_members (json.member k j ms) found n h =
      AtMost-and_then size members_size (json_size j) n _ (λ d x. size-of_members ms (put k d found) n (omega (arith, h, x, members_size-put k d found))) _ (size-of_json j)

last_within : (o : Option (json.Json × List Token)) (n : ℕ) → ((j : json.Json) (r : List Token) → o ≡ Some (j, r) → json_size j ≤ n) → AtMost json_size n (option_and_then (λ p. json.if_last p.0 p.1) o)
last_within None n h = tt
last_within (Some (j, [])) n h = h j [] refl
last_within (Some (j, t ∷ r)) n h = tt

fewer : (m n : ℕ) (o : Option Data) → m ≤ n → AtMost size m o → AtMost size n o
fewer m n None le x = tt
fewer m n (Some d) le x = omega (arith, le, x)

pub size-read : (text : List ℕ) (d : Data) → read text ≡ Some d → size d ≤ length text
size-read text d e =
    subst (AtMost size (length text)) e
    (AtMost-and_then json_size size (length text) (length text) of_json (λ j x. fewer (json_size j) (length text) (of_json j) x (size-of_json j)) _
    (last_within _ (length text) (λ j r (f : json.value max_depth (tokens text) ≡ Some (j, r)). omega (arith, value-size max_depth (tokens text) r j f, tokens_size-tokens text))))
