-- A reading has its keys in order, at any depth.
use Rattle.std.proofs.Common.{◌≡◌, ℕ, List, Option, Some, None, option_map, option_and_then, Ordering, Less, Equal, Greater, refl, ap, ◌∙◌, subst, nat_cmp}
use Rattle.std.proofs.lemmas.Cmp.{nat_list_cmp_total}
use Rattle.std.specs.Prelude.{⊤}
use Rattle.std.specs.Cmp.Lexicographic.{slice_cmp}
use Rattle.std.specs.Ordering.{match_ordering, ordering_reverse}
use Rattle.json.specs.Lex.{tokens}
use Rattle.json.specs.Json as json
use Rattle.serde_json.specs.Data.{Data, number, array, object, item, Members, no_members, member, put}
use Rattle.serde_json.specs.Read.{number_of, of_json, of_items, of_members, max_depth, read}
use Rattle.json_readings.specs.Ordered.{IsAbove, IsInOrder, IsOrdered, AreItemsOrdered, AreMembersOrdered}

abbrev Holds : {A : Type 0} → (A → Type 0) → Option A → Type 0
Holds P None = ⊤
Holds P (Some a) = P a

Holds-map : {A B : Type 0} (P : A → Type 0) (Q : B → Type 0) (h : A → B) → ((a : A) → P a → Q (h a)) → (o : Option A) → Holds P o → Holds Q (option_map h o)
Holds-map P Q h k None x = tt
Holds-map P Q h k (Some a) x = k a x

Holds-and_then : {A B : Type 0} (P : A → Type 0) (Q : B → Type 0) (h : A → Option B) → ((a : A) → P a → Holds Q (h a)) → (o : Option A) → Holds P o → Holds Q (option_and_then h o)
Holds-and_then P Q h k None x = tt
Holds-and_then P Q h k (Some a) x = k a x

always : {A : Type 0} (o : Option A) → Holds (λ _. ⊤) o
always None = tt
always (Some a) = tt

one_of : (P : Members → Type 0) (o : Ordering) (a b c : Members) → P a → P b → P c → P (match_ordering o a b c)
one_of P Less a b c p q r = p
one_of P Equal a b c p q r = q
one_of P Greater a b c p q r = r

pub lifted : (k l : List ℕ) (ms : Members) → slice_cmp nat_cmp k l ≡ Less → IsAbove l ms → IsAbove k ms
lifted k l no_members h a = tt
lifted k l (member m d ms) h a = (nat_list_cmp_total.trans k l m h a.0, lifted k l ms h a.1)

above_put : (l k : List ℕ) (d : Data) (ms : Members) → slice_cmp nat_cmp l k ≡ Less → IsAbove l ms → IsAbove l (put k d ms)
above_put l k d no_members h a = (h, tt)
above_put l k d (member m e ms) h a =
    one_of (IsAbove l) (slice_cmp nat_cmp k m) (member k d (member m e ms)) (member m d ms) (member m e (put k d ms)) (h, a) a (a.0, above_put l k d ms h a.1)

at_key : (k l : List ℕ) (d e : Data) (ms : Members) → IsInOrder (member l e ms) → IsInOrder (put k d ms) → (o : Ordering) → slice_cmp nat_cmp k l ≡ o
    → IsInOrder (match_ordering o (member k d (member l e ms)) (member l d ms) (member l e (put k d ms)))
at_key k l d e ms a b Less is = ((is, lifted k l ms is a.0), a)
at_key k l d e ms a b Equal is = a
at_key k l d e ms a b Greater is = (above_put l k d ms (nat_list_cmp_total.antisymm l k ∙ ap ordering_reverse is) a.0, b)

in_order_put : (k : List ℕ) (d : Data) (ms : Members) → IsInOrder ms → IsInOrder (put k d ms)
in_order_put k d no_members a = (tt, tt)
in_order_put k d (member l e ms) a = at_key k l d e ms a (in_order_put k d ms a.1) _ refl

values_put : (k : List ℕ) (d : Data) (ms : Members) → IsOrdered d → AreMembersOrdered ms → AreMembersOrdered (put k d ms)
values_put k d no_members x a = (x, tt)
values_put k d (member l e ms) x a =
    one_of AreMembersOrdered (slice_cmp nat_cmp k l) (member k d (member l e ms)) (member l d ms) (member l e (put k d ms)) (x, a) (x, a.1) (a.0, values_put k d ms x a.1)

mutual
  ordered-of_json : (j : json.Json) → Holds IsOrdered (of_json j)
  ordered-of_json json.null = tt
  ordered-of_json (json.boolean b) = tt
  ordered-of_json (json.number s) = Holds-map (λ _. ⊤) IsOrdered number (λ a x. tt) (number_of s) (always _)
  ordered-of_json (json.string s) = tt
  ordered-of_json (json.array js) = Holds-map AreItemsOrdered IsOrdered array (λ a x. x) _ (ordered-of_items js)
  ordered-of_json (json.object ms) = Holds-map (λ ms. IsOrdered (object ms)) IsOrdered object (λ a x. x) _ (ordered-of_members ms no_members (tt, tt))

  ordered-of_items : (js : json.Items) → Holds AreItemsOrdered (of_items js)
  ordered-of_items json.no_items = tt
  ordered-of_items (json.item j js) =
      Holds-and_then IsOrdered AreItemsOrdered _ (λ d x. Holds-map AreItemsOrdered AreItemsOrdered (item d) (λ ds y. (x, y)) _ (ordered-of_items js)) _ (ordered-of_json j)

  ordered-of_members : (ms : json.Members) (found : Members) → IsOrdered (object found) → Holds (λ ms. IsOrdered (object ms)) (of_members ms found)
  ordered-of_members json.no_members found h = h
  ordered-of_members (json.member k j ms) found h =
      Holds-and_then IsOrdered (λ ms. IsOrdered (object ms)) _ (λ d x. ordered-of_members ms (put k d found) (in_order_put k d found h.0, values_put k d found x h.1)) _ (ordered-of_json j)

of_any : (o : Option json.Json) → Holds IsOrdered (option_and_then of_json o)
of_any None = tt
of_any (Some j) = ordered-of_json j

pub ordered-read : (text : List ℕ) (d : Data) → read text ≡ Some d → IsOrdered d
ordered-read text d e = subst (Holds IsOrdered) e (of_any (option_and_then (λ p. json.if_last p.0 p.1) (json.value max_depth (tokens text))))
