-- The module of an event, and the event of a module.
use Rattle.std.proofs.Common.{ℕ, ◌+◌, ◌<◌, List, [], ◌∷◌, ◌++◌, length, get_or, drop, Bool, true, false, cond, if◌then◌else◌, nat_eq, nat_le, ◌≡◌, refl, sym, ap, ◌∙◌, arith, Some, None, IsUtf8, codes}
use Rattle.std.specs.Prelude.{◌==◌}
use Rattle.std.proofs.lemmas.Bool.{and_parts, and_from, eqb-true}
use Rattle.std.proofs.lemmas.Bool.Decides.{Decides-eqb, nat_tests}
use Rattle.std.proofs.lemmas.List.{append_assoc, append-nil, at_drop_more, at_drop_all, length-map}
use Rattle.std.proofs.lemmas.Slice.Eq.{starts_is}
use Rattle.std.proofs.lemmas.Str.{IsUtf8-from_ascii}
use Rattle.std.specs.List.{list_all, onto_first, slice_split, starts_with}
use Rattle.hmr_types.specs.Event.{are_joined, colon, event_module, event_of, front, is_event, is_event_module, with_mark}
use Rattle.hmr_types.specs.ModName.{is_name, is_segment, is_segment_byte, slash}
use Rattle.hmr_types.specs.Specifier.{spelled}
use Rattle.hmr_types.specs.declared.limits.TheConstants.{EVENT_BYTES}
use Rattle.hmr_types.proofs.Names.{has_segment_bytes, weaker, first_byte, ascii}

-- the parts between these marks
abbrev pub between_marks : ℕ → List ℕ → List (List ℕ)
between_marks mark = slice_split (λ b. b == mark)

spelled_byte : (t : Bool) (b : ℕ) (ps : List (List ℕ)) (r : List ℕ) → spelled ps ≡ slash ∷ r
    → spelled (cond t ([] ∷ ps) (onto_first b ps)) ≡ slash ∷ ((if t then slash else b) ∷ r)
spelled_byte true b ps r h = ap (λ v. slash ∷ v) h
spelled_byte false b [] r h = absurd cc
spelled_byte false b (p ∷ ps) r h =
    let same : p ++ spelled ps ≡ r = cc in
    ap (λ v. slash ∷ (b ∷ v)) same

-- a slash before each part is a slash in place of each mark, behind one more
pub spelled_between : (mark : ℕ) (bs : List ℕ) → spelled (between_marks mark bs) ≡ slash ∷ with_mark mark slash bs
spelled_between mark [] = refl
spelled_between mark (b ∷ bs) = spelled_byte (b == mark) b (between_marks mark bs) (with_mark mark slash bs) (spelled_between mark bs)

-- a slash and the next part are put
pub part_put : (old put new : List ℕ) (ps : List (List ℕ)) (n : ℕ) (part whole : List ℕ) → (n < length ps) × (part ≡ get_or ps n part)
    → put ≡ old ++ (slash ∷ []) → new ≡ put ++ part → old ++ spelled (drop n ps) ≡ whole → new ++ spelled (drop (n + 1) ps) ≡ whole
part_put old put new ps n part whole turn mark rest h =
    let left : List ℕ = spelled (drop (n + 1) ps) in
    let next : spelled (drop n ps) ≡ slash ∷ (part ++ left) = at_drop_more spelled ps n part turn.0 ∙ ap (λ p. spelled (p ∷ drop (n + 1) ps)) (sym turn.1) in
    ap (λ v. v ++ left) (rest ∙ ap (λ v. v ++ part) mark)
    ∙ (append_assoc (old ++ (slash ∷ [])) part left ∙ (append_assoc old (slash ∷ []) (part ++ left) ∙ (ap (λ v. old ++ v) (sym next) ∙ h)))

-- with no part left, all is written
pub parts_put : (old whole : List ℕ) (ps : List (List ℕ)) (n : ℕ) → n ≡ length ps → old ++ spelled (drop n ps) ≡ whole → old ≡ whole
parts_put old whole ps n all h = sym (append-nil old) ∙ (sym (at_drop_all (λ p. old ++ spelled p) ps n (omega (arith, all))) ∙ h)

-- a byte of a segment isn't a byte that no segment has
other_byte : (x b : ℕ) (t : Bool) → (x == b) ≡ t → is_segment_byte x ≡ true → is_segment_byte b ≡ false → t ≡ false
other_byte x b true e segment other = let same : is_segment_byte b ≡ true = ap is_segment_byte (sym (eqb-true x b e)) ∙ segment in absurd cc
other_byte x b false e segment other = refl

abbrev Swapped : ℕ → ℕ → List ℕ → Type 0
Swapped a b bs = (between_marks b (with_mark a b bs) ≡ between_marks a bs) × (with_mark b a (with_mark a b bs) ≡ bs)

same_byte : (b : ℕ) → (b == b) ≡ true
same_byte b = search arith

swapped_byte : (a b x : ℕ) (t : Bool) (bs : List ℕ) → (x == a) ≡ t → is_segment_byte b ≡ false
    → list_all has_segment_bytes (cond t ([] ∷ between_marks a bs) (onto_first x (between_marks a bs))) ≡ true
    → (list_all has_segment_bytes (between_marks a bs) ≡ true → Swapped a b bs) → Swapped a b (x ∷ bs)
swapped_byte a b x true bs e apart h rest =
    let r = rest h in
    let is : x ≡ a = eqb-true x a e in
    (rw (e, same_byte b) (ap (λ v. [] ∷ v) r.0), rw (e, same_byte b) (ap (λ v. a ∷ v) r.1 ∙ ap (λ v. v ∷ bs) (sym is)))
swapped_byte a b x false bs e apart h rest =
    let first = first_byte x (between_marks a bs) h in
    let r = rest first.1 in
    let other : (x == b) ≡ false = other_byte x b (x == b) refl first.0 apart in
    (rw (e, other) (ap (onto_first x) r.0), rw (e, other) (ap (λ v. x ∷ v) r.1))

-- with another mark the parts are the same, and the mark can be put back
swapped : (a b : ℕ) (bs : List ℕ) → is_segment_byte b ≡ false → list_all has_segment_bytes (between_marks a bs) ≡ true → Swapped a b bs
swapped a b [] apart h = (refl, refl)
swapped a b (x ∷ bs) apart h = swapped_byte a b x (x == a) bs refl apart h (λ k. swapped a b bs apart k)

-- segments with one mark between are such with another
joined_other : (a b : ℕ) (bs : List ℕ) → is_segment_byte b ≡ false → are_joined a bs ≡ true → (are_joined b (with_mark a b bs) ≡ true) × (with_mark b a (with_mark a b bs) ≡ bs)
joined_other a b bs apart h =
    let t = and_parts (nat_le (length bs) EVENT_BYTES) (list_all is_segment (between_marks a bs)) h in
    let s = swapped a b bs apart (weaker (between_marks a bs) t.1) in
    let few : nat_le (length (with_mark a b bs)) EVENT_BYTES ≡ true = ap (λ n. nat_le n EVENT_BYTES) (length-map bs _) ∙ t.0 in
    (and_from _ _ few (ap (list_all is_segment) s.0 ∙ t.1), s.1)

no_colon : is_segment_byte colon ≡ false
unfolding is_segment_byte
no_colon = refl

no_slash : is_segment_byte slash ≡ false
unfolding is_segment_byte
no_slash = refl

-- the module of an event stands for it
pub event_of-event_module : (event : List ℕ) → is_event event ≡ true → event_of (event_module event) ≡ Some event
event_of-event_module event h =
    let t = joined_other colon slash event no_slash h in
    rw (t.0, t.1) refl

stands_for : (name event : List ℕ) (t : Bool) → is_event_module name ≡ t → cond t (Some (with_mark slash colon (drop 7 name))) None ≡ Some event → (event_module event ≡ name) × (is_event event ≡ true)
stands_for name event false is h = absurd cc
stands_for name event true is h =
    let same : with_mark slash colon (drop 7 name) ≡ event = cc in
    let begins = and_parts (starts_with nat_eq name front) (are_joined slash (drop 7 name)) is in
    let t = joined_other slash colon (drop 7 name) no_colon begins.1 in
    let whole : name ≡ front ++ drop 7 name = (starts_is Decides-eqb name front (starts_with nat_eq name front) refl).0 begins.0 in
    (ap event_module (sym same) ∙ ap (λ v. front ++ v) t.1 ∙ sym whole, ap is_event (sym same) ∙ t.0)

-- a module that stands for an event is that of its name
pub event_of-is : (name event : List ℕ) → event_of name ≡ Some event → (event_module event ≡ name) × (is_event event ≡ true)
event_of-is name event h = stands_for name event (is_event_module name) refl h

-- the name of an event is a text
pub is_event-IsUtf8 : (event : List ℕ) → is_event event ≡ true → IsUtf8 event
is_event-IsUtf8 event h =
    let t = and_parts (nat_le (length event) EVENT_BYTES) (list_all is_segment (between_marks colon event)) h in
    IsUtf8-from_ascii event (ascii colon event (omega arith) (weaker (between_marks colon event) t.1))

event_is_segment : is_segment (codes "event") ≡ true
unfolding is_segment_byte
event_is_segment = refl

small : (n m : ℕ) → m ≡ 7 + n → nat_le n EVENT_BYTES ≡ true → nat_le m 255 ≡ true
small n m is h = grind (arith, nat_tests)

-- the module of an event is named as modules are
pub event_module-is_name : (event : List ℕ) → is_event event ≡ true → is_name (event_module event) ≡ true
event_module-is_name event h =
    let path : List ℕ = with_mark colon slash event in
    let t = and_parts (nat_le (length path) EVENT_BYTES) (list_all is_segment (between_marks slash path)) (joined_other colon slash event no_slash h).0 in
    and_from _ _ (small (length path) (length (event_module event)) (omega arith) t.0) (and_from _ _ event_is_segment t.1)
