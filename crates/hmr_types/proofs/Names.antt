-- A name is ASCII, so that its bytes are a text.
use Rattle.std.proofs.Common.{ℕ, ◌<◌, List, [], ◌∷◌, Bool, true, false, cond, ◌≡◌, refl, arith}
use Rattle.std.specs.Prelude.{◌==◌}
use Rattle.std.proofs.lemmas.Bool.{and_parts}
use Rattle.std.proofs.lemmas.Bool.Decides.{nat_tests}
use Rattle.std.proofs.lemmas.Str.{IsUtf8-from_ascii}
use Rattle.std.proofs.lemmas.Str.Ascii.{IsAscii-cons, IsAscii-nil}
use Rattle.std.specs.List.{list_all, onto_first, slice_split}
use Rattle.std.specs.Str.{IsAscii, IsUtf8}
use Rattle.hmr_types.specs.ModName.{is_name, is_segment, is_segment_byte, parts, slash}

-- each byte of the text is a segment's
abbrev pub has_segment_bytes : List ℕ → Bool
has_segment_bytes = list_all is_segment_byte

pub segment_bytes : (part : List ℕ) → is_segment part ≡ true → has_segment_bytes part ≡ true
segment_bytes part h = (and_parts _ (has_segment_bytes part) h).1

segment_byte_ascii : (b : ℕ) → is_segment_byte b ≡ true → b < 128
unfolding is_segment_byte
segment_byte_ascii b h = grind (arith, nat_tests)

pub weaker : (ps : List (List ℕ)) → list_all is_segment ps ≡ true → list_all has_segment_bytes ps ≡ true
weaker [] h = refl
weaker (p ∷ ps) h =
    let here = and_parts (is_segment p) (list_all is_segment ps) h in
    rw (segment_bytes p here.0, weaker ps here.1) refl

pub first_byte : (b : ℕ) (ps : List (List ℕ)) → list_all has_segment_bytes (onto_first b ps) ≡ true
    → (is_segment_byte b ≡ true) × (list_all has_segment_bytes ps ≡ true)
first_byte b [] h = ((and_parts _ true (and_parts _ true h).0).0, refl)
first_byte b (p ∷ ps) h =
    let here = and_parts (has_segment_bytes (b ∷ p)) (list_all has_segment_bytes ps) h in
    let bytes = and_parts (is_segment_byte b) (has_segment_bytes p) here.0 in
    (bytes.0, rw (bytes.1, here.1) refl)

at_byte : (mark b : ℕ) (bs : List ℕ) (t : Bool) → mark < 128 → (b == mark) ≡ t
    → list_all has_segment_bytes (cond t ([] ∷ slice_split (λ x. x == mark) bs) (onto_first b (slice_split (λ x. x == mark) bs))) ≡ true
    → (b < 128) × (list_all has_segment_bytes (slice_split (λ x. x == mark) bs) ≡ true)
at_byte mark b bs true low e h = (grind (arith, nat_tests), h)
at_byte mark b bs false low e h =
    let first = first_byte b (slice_split (λ x. x == mark) bs) h in
    (segment_byte_ascii b first.0, first.1)

-- segments with an ASCII mark between each two are ASCII
pub ascii : (mark : ℕ) (bs : List ℕ) → mark < 128 → list_all has_segment_bytes (slice_split (λ x. x == mark) bs) ≡ true → IsAscii bs
ascii mark [] low h = IsAscii-nil
ascii mark (b ∷ bs) low h =
    let here = at_byte mark b bs (b == mark) low refl h in
    IsAscii-cons b bs here.0 (ascii mark bs low here.1)

-- the bytes of a name are a text
pub is_name-IsUtf8 : (text : List ℕ) → is_name text ≡ true → IsUtf8 text
is_name-IsUtf8 [] h = absurd (cc)
is_name-IsUtf8 (b ∷ bs) h =
    let tests = and_parts _ (list_all is_segment (parts bs)) h in
    let begins = and_parts (b == slash) _ tests.0 in
    IsUtf8-from_ascii _ (IsAscii-cons b bs (grind (arith, nat_tests)) (ascii slash bs (omega arith) (weaker (parts bs) tests.1)))
