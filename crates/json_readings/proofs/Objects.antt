-- Objects in order that answer alike are equal, and an object that has exactly these keys with these values is this object.
use Rattle.std.proofs.Common.{◌≡◌, ℕ, List, [], ◌∷◌, Bool, true, false, cond, ◌&&◌, ◌||◌, Option, Some, None, Ordering, Less, Equal, Greater, nat_cmp, refl, sym, ap, ◌∙◌, subst, true≢false, bytes_eq}
use Rattle.std.proofs.lemmas.Cmp.{nat_list_cmp_total, tied_itself}
use Rattle.std.proofs.lemmas.Map.Lookups.{exact_bytes}
use Rattle.std.proofs.lemmas.Slice.Eq.{bytes_eq-Decides}
use Rattle.std.specs.Cmp.Lexicographic.{slice_cmp}
use Rattle.std.specs.Ordering.{match_ordering, ordering_reverse}
use Rattle.serde_json.specs.Data.{Data, null, boolean, number, string, array, object, Members, no_members, member}
use Rattle.serde_json.specs.Find.{get, get_member}
use Rattle.json_readings.specs.Ordered.{IsAbove, IsInOrder, IsOrdered, AreMembersOrdered}
use Rattle.json_readings.specs.Object.{KeyValue, first_member, members_of, keys, rises_from, rises, HasMembers, one_of, further_member}
use Rattle.json_readings.proofs.Ordered.{lifted}

pub here : (k : List ℕ) (d : Data) (ms : Members) → get_member k (member k d ms) ≡ Some d
here k d ms = rw (tied_itself nat_list_cmp_total k) refl

later_at : (o : Ordering) (q k : List ℕ) (d : Data) (r : Option Data) → slice_cmp nat_cmp q k ≡ o → (q ≡ k → ⊥) → match_ordering o r (Some d) r ≡ r
later_at Less q k d r is apart = refl
later_at Equal q k d r is apart = absurd (apart (exact_bytes q k is))
later_at Greater q k d r is apart = refl

pub later : (q k : List ℕ) (d : Data) (ms : Members) → (q ≡ k → ⊥) → get_member q (member k d ms) ≡ get_member q ms
later q k d ms apart = later_at _ q k d (get_member q ms) refl apart

-- nothing is found below the first key
pub below : (k : List ℕ) (ms : Members) → IsAbove k ms → get_member k ms ≡ None
below k no_members h = refl
below k (member l d ms) h = rw h.0 (below k ms h.1)

-- the tails answer alike, below one key
tails : (k : List ℕ) (d e : Data) (ms ns : Members) → IsAbove k ms → IsAbove k ns → ((q : List ℕ) → get_member q (member k d ms) ≡ get_member q (member k e ns)) → (q : List ℕ) (o : Ordering) → slice_cmp nat_cmp q k ≡ o → get_member q ms ≡ get_member q ns
tails k d e ms ns a b h q Less is = let both = h q in rw is at both
tails k d e ms ns a b h q Equal is = let same : q ≡ k = exact_bytes q k is in rw same (below k ms a ∙ sym (below k ns b))
tails k d e ms ns a b h q Greater is = let both = h q in rw is at both

same_heads : (ms ns : Members) (k l : List ℕ) (d e : Data) → (((q : List ℕ) → get_member q ms ≡ get_member q ns) → ms ≡ ns) → IsInOrder (member k d ms) → IsInOrder (member l e ns)
    → ((q : List ℕ) → get_member q (member k d ms) ≡ get_member q (member l e ns)) → (o : Ordering) → slice_cmp nat_cmp k l ≡ o → member k d ms ≡ member l e ns
same_heads ms ns k l d e rest a b h Less is =
    let none = below k (member l e ns) (is, lifted k l ns is b.0) in
    let bad : Some d ≡ None = sym (here k d ms) ∙ h k ∙ none in cc
same_heads ms ns k l d e rest a b h Equal is =
    let same : k ≡ l = exact_bytes k l is in
    let alike = subst (λ (m : List ℕ). (q : List ℕ) → get_member q (member k d ms) ≡ get_member q (member m e ns)) (sym same) h in
    let over = subst (λ (m : List ℕ). IsAbove m ns) (sym same) b.0 in
    let datum : Some d ≡ Some e = sym (here k d ms) ∙ alike k ∙ here k e ns in
    let tail = rest (λ q. tails k d e ms ns a.0 over alike q _ refl) in cc
same_heads ms ns k l d e rest a b h Greater is =
    let turned : slice_cmp nat_cmp l k ≡ Less = nat_list_cmp_total.antisymm l k ∙ ap ordering_reverse is in
    let none = below l (member k d ms) (turned, lifted l k ms turned a.0) in
    let bad : None ≡ Some e = sym none ∙ h l ∙ here l e ns in cc

-- objects in order that answer alike are equal
pub same_members : (ms ns : Members) → IsInOrder ms → IsInOrder ns → ((q : List ℕ) → get_member q ms ≡ get_member q ns) → ms ≡ ns
same_members no_members no_members a b h = refl
same_members no_members (member k e ns) a b h = let bad : None ≡ Some e = h k ∙ here k e ns in cc
same_members (member k d ms) no_members a b h = let bad : Some d ≡ None = sym (here k d ms) ∙ h k in cc
same_members (member k d ms) (member l e ns) a b h = same_heads ms ns k l d e (λ t. same_members ms ns a.1 b.1 t) a b h _ refl

-- ---- a list of keys that rises, by a test that computes

less_of : (o : Ordering) (b : Bool) → (match_ordering o true false false && b) ≡ true → (o ≡ Less) × (b ≡ true)
less_of Less b h = (refl, h)
less_of Equal b h = cc
less_of Greater b h = cc

above_first : (k l : List ℕ) (o : Option Data) (ms : Members) → slice_cmp nat_cmp k l ≡ Less → IsAbove l ms → IsAbove k (first_member l o ms)
above_first k l None ms h a = lifted k l ms h a
above_first k l (Some d) ms h a = (h, lifted k l ms h a)

order_first : (l : List ℕ) (o : Option Data) (ms : Members) → IsAbove l ms → IsInOrder ms → IsInOrder (first_member l o ms)
order_first l None ms a h = h
order_first l (Some d) ms a h = (a, h)

rising : (k : List ℕ) (es : List KeyValue) → rises_from k (keys es) ≡ true → IsAbove k (members_of es) × IsInOrder (members_of es)
rising k [] h = (tt, tt)
rising k (e ∷ es) h =
    let first = less_of _ _ h in
    let rest = rising e.0 es first.1 in
    (above_first k e.0 e.1 (members_of es) first.0 rest.0, order_first e.0 e.1 (members_of es) rest.0 rest.1)

pub in_order_of : (es : List KeyValue) → rises (keys es) ≡ true → IsInOrder (members_of es)
in_order_of [] h = tt
in_order_of (e ∷ es) h = let r = rising e.0 es h in order_first e.0 e.1 (members_of es) r.0 r.1

-- ---- exactly these members

known_if : (known : List ℕ → Bool) (k : List ℕ) (b : Bool) (ms : Members) → known k ≡ b → cond b (further_member known ms) (Some k) ≡ None → (known k ≡ true) × (further_member known ms ≡ None)
known_if known k true ms is h = (is, h)
known_if known k false ms is h = cc

-- a key that isn't known isn't there
unknown_absent : (known : List ℕ → Bool) (ms : Members) (q : List ℕ) → further_member known ms ≡ None → known q ≡ false → get_member q ms ≡ None
unfolding further_member
unknown_absent known no_members q h u = refl
unknown_absent known (member k d ms) q h u =
    let first = known_if known k _ ms refl h in
    later q k d ms (λ (same : q ≡ k). let bad : true ≡ false = sym first.0 ∙ ap known (sym same) ∙ u in cc) ∙ unknown_absent known ms q first.1 u

-- what a look-up gives, where it gives nothing at other keys
turn : (k q : List ℕ) (o : Option Data) (es : List KeyValue) (ms : Members) (b : Bool) → bytes_eq k q ≡ b → IsAbove k (members_of es) → get_member k ms ≡ o
    → ((one_of (keys es) q ≡ false → get_member q ms ≡ None) → get_member q ms ≡ get_member q (members_of es))
    → (one_of (k ∷ keys es) q ≡ false → get_member q ms ≡ None) → get_member q ms ≡ get_member q (first_member k o (members_of es))
turn k q None es ms true is above found rest none =
    let same : q ≡ k = sym ((bytes_eq-Decides k q).0 is) in
    ap (λ r. get_member r ms) same ∙ found ∙ sym (below k (members_of es) above) ∙ ap (λ r. get_member r (members_of es)) (sym same)
turn k q (Some x) es ms true is above found rest none =
    let same : q ≡ k = sym ((bytes_eq-Decides k q).0 is) in
    ap (λ r. get_member r ms) same ∙ found ∙ sym (here k x (members_of es)) ∙ ap (λ r. get_member r (member k x (members_of es))) (sym same)
turn k q None es ms false is above found rest none = rest (λ u. none (ap (λ b. b || one_of (keys es) q) is ∙ u))
turn k q (Some x) es ms false is above found rest none =
    let apart = λ (e : q ≡ k). let bad : true ≡ false = sym ((bytes_eq-Decides k q).1 (sym e)) ∙ is in absurd (true≢false bad) in
    rest (λ u. none (ap (λ b. b || one_of (keys es) q) is ∙ u)) ∙ sym (later q k x (members_of es) apart)

-- the keys after the first rise too
rises_after : (k : List ℕ) (es : List KeyValue) → rises_from k (keys es) ≡ true → rises (keys es) ≡ true
rises_after k [] h = refl
rises_after k (e ∷ es) h = (less_of _ _ h).1

answers : (es : List KeyValue) (ms : Members) (q : List ℕ) → rises (keys es) ≡ true → HasMembers es (object ms) → (one_of (keys es) q ≡ false → get_member q ms ≡ None)
    → get_member q ms ≡ get_member q (members_of es)
answers [] ms q rise found none = none refl
answers (e ∷ es) ms q rise found none = turn e.0 q e.1 es ms _ refl (rising e.0 es rise).0 found.0 (answers es ms q (rises_after e.0 es rise) found.1) none

-- An object in order whose keys are among these, and which has at each this value or nothing, is this object.
pub same_object : (es : List KeyValue) (ms : Members) → rises (keys es) ≡ true → IsInOrder ms → HasMembers es (object ms) → further_member (one_of (keys es)) ms ≡ None → ms ≡ members_of es
same_object es ms rise order found none =
    same_members ms (members_of es) order (in_order_of es rise) (λ q. answers es ms q rise found (λ u. unknown_absent (one_of (keys es)) ms q none u))

-- ---- values inside

inside : (q k : List ℕ) (e : Data) (ms : Members) (d : Data) (o : Ordering) → IsOrdered e → (get_member q ms ≡ Some d → IsOrdered d) → match_ordering o (get_member q ms) (Some e) (get_member q ms) ≡ Some d → IsOrdered d
inside q k e ms d Less x rest h = rest h
inside q k e ms d Equal x rest h = let same : e ≡ d = cc in subst IsOrdered same x
inside q k e ms d Greater x rest h = rest h

ordered_member : (q : List ℕ) (ms : Members) (d : Data) → AreMembersOrdered ms → get_member q ms ≡ Some d → IsOrdered d
ordered_member q no_members d a h = let bad : None ≡ Some d = h in cc
ordered_member q (member k e ms) d a h = inside q k e ms d (slice_cmp nat_cmp q k) a.0 (ordered_member q ms d a.1) h

pub ordered_get : (q : List ℕ) (v d : Data) → IsOrdered v → get q v ≡ Some d → IsOrdered d
ordered_get q null d a h = let bad : None ≡ Some d = h in cc
ordered_get q (boolean b) d a h = let bad : None ≡ Some d = h in cc
ordered_get q (number n) d a h = let bad : None ≡ Some d = h in cc
ordered_get q (string s) d a h = let bad : None ≡ Some d = h in cc
ordered_get q (array ds) d a h = let bad : None ≡ Some d = h in cc
ordered_get q (object ms) d a h = ordered_member q ms d a.1 h
