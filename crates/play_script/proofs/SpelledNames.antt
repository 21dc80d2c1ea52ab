-- No space and no LF stands in a name, or in an event.
use Rattle.std.proofs.Common.{ℕ, List, [], ◌∷◌, drop, Bool, true, false, cond, ◌≡◌, refl, sym, ap, subst, ◌∙◌, arith}
use Rattle.std.specs.Prelude.{◌==◌, ◌||◌, not}
use Rattle.std.proofs.lemmas.Bool.{and_parts, and_from}
use Rattle.std.proofs.lemmas.Bool.Decides.{nat_tests}
use Rattle.std.proofs.lemmas.List.Elements.{All-cons}
use Rattle.std.specs.List.{All, list_all, onto_first}
use Rattle.hmr_types.specs.Event.{are_joined, colon, is_event_module, with_mark}
use Rattle.hmr_types.specs.ModName.{is_name, is_segment, is_segment_byte, parts, slash}
use Rattle.play_script.specs.Texts.{event_text}
use Rattle.play_script.specs.Script.{is_line_end}
use Rattle.hmr_types.proofs.Names.{has_segment_bytes, segment_bytes}

-- a byte of a name
abbrev is_name_byte : ℕ → Bool
is_name_byte b = (b == slash) || is_segment_byte b

weaker : (ps : List (List ℕ)) → list_all is_segment ps ≡ true → list_all has_segment_bytes ps ≡ true
weaker [] h = refl
weaker (p ∷ ps) h =
    let here = and_parts (is_segment p) (list_all is_segment ps) h in
    and_from _ _ (segment_bytes p here.0) (weaker ps here.1)

first_byte : (b : ℕ) (ps : List (List ℕ)) → list_all has_segment_bytes (onto_first b ps) ≡ true
    → (is_segment_byte b ≡ true) × (list_all has_segment_bytes ps ≡ true)
first_byte b [] h = ((and_parts _ true (and_parts _ true h).0).0, refl)
first_byte b (p ∷ ps) h =
    let here = and_parts (has_segment_bytes (b ∷ p)) (list_all has_segment_bytes ps) h in
    let bytes = and_parts (is_segment_byte b) (has_segment_bytes p) here.0 in
    (bytes.0, and_from _ _ bytes.1 here.1)

at_byte : (b : ℕ) (bs : List ℕ) (t : Bool) → (b == slash) ≡ t → list_all has_segment_bytes (cond t ([] ∷ parts bs) (onto_first b (parts bs))) ≡ true
    → (is_name_byte b ≡ true) × (list_all has_segment_bytes (parts bs) ≡ true)
at_byte b bs true e h = (rw e refl, h)
at_byte b bs false e h =
    let first = first_byte b (parts bs) h in
    (rw (e, first.0) refl, first.1)

name_bytes : (bs : List ℕ) → list_all has_segment_bytes (parts bs) ≡ true → list_all is_name_byte bs ≡ true
name_bytes [] h = refl
name_bytes (b ∷ bs) h =
    let here = at_byte b bs (b == slash) refl h in
    and_from _ _ here.0 (name_bytes bs here.1)

bytes_of : (name : List ℕ) → is_name name ≡ true → list_all is_name_byte name ≡ true
bytes_of [] h = absurd (cc)
bytes_of (b ∷ bs) h =
    let tests = and_parts _ (list_all is_segment (parts bs)) h in
    let begins = and_parts (b == slash) _ tests.0 in
    and_from _ _ (rw begins.0 refl) (name_bytes bs (weaker (parts bs) tests.1))

not_space : (b : ℕ) → is_name_byte b ≡ true → (b == 32) ≡ false
unfolding is_segment_byte
not_space b h = grind (arith, nat_tests)

-- no byte of the text is LF
abbrev pub has_no_lf : List ℕ → Bool
has_no_lf = list_all (λ b. not (is_line_end b))

not_line_end : (b : ℕ) → is_name_byte b ≡ true → (b == 10) ≡ false
unfolding is_segment_byte
not_line_end b h = grind (arith, nat_tests)

no_spaces : (bs : List ℕ) → list_all is_name_byte bs ≡ true → All (λ b. (b == 32) ≡ false) bs
no_spaces [] h = λ k d lt. absurd (omega arith)
no_spaces (b ∷ bs) h =
    let here = and_parts (is_name_byte b) (list_all is_name_byte bs) h in
    All-cons (λ x. (x == 32) ≡ false) b bs (not_space b here.0) (no_spaces bs here.1)

no_line_ends : (bs : List ℕ) → list_all is_name_byte bs ≡ true → has_no_lf bs ≡ true
no_line_ends [] h = refl
no_line_ends (b ∷ bs) h =
    let here = and_parts (is_name_byte b) (list_all is_name_byte bs) h in
    let other = not_line_end b here.0 in
    and_from _ _ (rw other refl) (no_line_ends bs here.1)

pub no_space-name : (name : List ℕ) → is_name name ≡ true → All (λ b. (b == 32) ≡ false) name
no_space-name name h = no_spaces name (bytes_of name h)

pub has_no_lf-name : (name : List ℕ) → is_name name ≡ true → has_no_lf name ≡ true
has_no_lf-name name h = no_line_ends name (bytes_of name h)

joined_bytes : (path : List ℕ) → are_joined slash path ≡ true → list_all is_name_byte path ≡ true
joined_bytes path h = name_bytes path (weaker (parts path) (and_parts _ (list_all is_segment (parts path)) h).1)

event_text_is : (name : List ℕ) → is_event_module name ≡ true → event_text name ≡ with_mark slash colon (drop 7 name)
event_text_is name h = rw h refl

path_bytes : (name : List ℕ) → is_event_module name ≡ true → list_all is_name_byte (drop 7 name) ≡ true
path_bytes name h = joined_bytes (drop 7 name) (and_parts _ (are_joined slash (drop 7 name)) h).1

space_marked : (b : ℕ) (t : Bool) → is_name_byte b ≡ true → (cond t colon b == 32) ≡ false
space_marked b true h = refl
space_marked b false h = not_space b h

spaces_marked : (path : List ℕ) → list_all is_name_byte path ≡ true → All (λ b. (b == 32) ≡ false) (with_mark slash colon path)
spaces_marked [] h = λ k d lt. absurd (omega arith)
spaces_marked (b ∷ bs) h =
    let here = and_parts (is_name_byte b) (list_all is_name_byte bs) h in
    All-cons (λ x. (x == 32) ≡ false) (cond (b == slash) colon b) (with_mark slash colon bs) (space_marked b (b == slash) here.0) (spaces_marked bs here.1)

line_end_marked : (b : ℕ) (t : Bool) → is_name_byte b ≡ true → is_line_end (cond t colon b) ≡ false
line_end_marked b true h = refl
line_end_marked b false h = not_line_end b h

line_ends_marked : (path : List ℕ) → list_all is_name_byte path ≡ true → has_no_lf (with_mark slash colon path) ≡ true
line_ends_marked [] h = refl
line_ends_marked (b ∷ bs) h =
    let here = and_parts (is_name_byte b) (list_all is_name_byte bs) h in
    and_from _ _ (ap not (line_end_marked b (b == slash) here.0)) (line_ends_marked bs here.1)

pub no_space-event : (name : List ℕ) → is_event_module name ≡ true → All (λ b. (b == 32) ≡ false) (event_text name)
no_space-event name h =
    subst (All (λ b. (b == 32) ≡ false)) (sym (event_text_is name h)) (spaces_marked (drop 7 name) (path_bytes name h))

pub has_no_lf-event : (name : List ℕ) → is_event_module name ≡ true → has_no_lf (event_text name) ≡ true
has_no_lf-event name h = ap has_no_lf (event_text_is name h) ∙ line_ends_marked (drop 7 name) (path_bytes name h)
