-- The escapes of names are read as they were written.
use Rattle.std.proofs.Common.{◌≡◌, ℕ, ◌+◌, ◌*◌, ◌/◌, ◌%◌, ◌<◌, ◌≤◌, Bool, true, false, List, [], ◌∷◌, ◌++◌, length, get_or, drop, All, append_assoc, refl, sym, ap, ◌∙◌, arith}
use Rattle.std.specs.Prelude.{not, ◌&&◌, ◌||◌, ◌==◌}
use Rattle.std.specs.Char.{digit_value}
use Rattle.std.specs.Fmt.{digit_glyph}
use Rattle.std.proofs.lemmas.Bool.{cond-true, cond-false, and_from, eq-eqb, lt-ltb}
use Rattle.std.proofs.lemmas.Bool.Decides.{nat_tests}
use Rattle.std.proofs.lemmas.List.{append-nil, at_drop_all, at_drop_more}
use Rattle.std.proofs.lemmas.List.Elements.{All-head, All-tail}
use Rattle.hmr_types.specs.ModName.{is_segment_byte}
use Rattle.file_names.specs.FileNames.{IsPlain, KeepsFirst, begins_dash, decoded, encoded, encoded_byte, escape, is_escape, stands}

no_escape : (a b high low : ℕ) → (a ≡ 46 → b ≡ 45 → digit_value high < 16 → digit_value low < 16 → ⊥) → is_escape a b high low ≡ false
no_escape a b high low never = grind (arith, nat_tests)

-- a text that begins with no escape keeps its first byte
pub KeepsFirst_from_no_escape : (bs : List ℕ) → (4 ≤ length bs → get_or bs 0 0 ≡ 46 → get_or bs 1 0 ≡ 45 → digit_value (get_or bs 2 0) < 16 → digit_value (get_or bs 3 0) < 16 → ⊥) → KeepsFirst bs
unfolding decoded
KeepsFirst_from_no_escape [] never = tt
KeepsFirst_from_no_escape (a ∷ []) never = refl
KeepsFirst_from_no_escape (a ∷ b ∷ []) never = refl
KeepsFirst_from_no_escape (a ∷ b ∷ c ∷ []) never = refl
KeepsFirst_from_no_escape (a ∷ b ∷ high ∷ low ∷ rest) never = cond-false _ _ _ (no_escape a b high low (never (omega arith)))

decoded_escape : (a b high low : ℕ) (rest : List ℕ) → a ≡ 46 → b ≡ 45 → digit_value high < 16 → digit_value low < 16 → decoded (a ∷ b ∷ high ∷ low ∷ rest) ≡ (16 * digit_value high + digit_value low) ∷ decoded rest
unfolding decoded
decoded_escape a b high low rest is_dot is_dash hex_high hex_low =
    cond-true _ _ _ (and_from _ _ (and_from _ _ (and_from _ _ (eq-eqb a 46 is_dot) (eq-eqb b 45 is_dash)) (lt-ltb _ 16 hex_high)) (lt-ltb _ 16 hex_low))

-- the same by the places of the bytes
pub decoded_at_escape : (bs : List ℕ) → 4 ≤ length bs → get_or bs 0 0 ≡ 46 → get_or bs 1 0 ≡ 45 → digit_value (get_or bs 2 0) < 16 → digit_value (get_or bs 3 0) < 16 → decoded bs ≡ (16 * digit_value (get_or bs 2 0) + digit_value (get_or bs 3 0)) ∷ decoded (drop 4 bs)
decoded_at_escape [] long = absurd (omega arith)
decoded_at_escape (a ∷ []) long = absurd (omega arith)
decoded_at_escape (a ∷ b ∷ []) long = absurd (omega arith)
decoded_at_escape (a ∷ b ∷ c ∷ []) long = absurd (omega arith)
decoded_at_escape (a ∷ b ∷ high ∷ low ∷ rest) long = decoded_escape a b high low rest

pub decoded-nil : decoded [] ≡ []
unfolding decoded
decoded-nil = refl

pub encoded-nil : encoded [] ≡ []
unfolding encoded
encoded-nil = refl

encoded_standing : (b : ℕ) (bs : List ℕ) → stands b bs ≡ true → encoded (b ∷ bs) ≡ b ∷ encoded bs
unfolding encoded
encoded_standing b bs h = ap (λ l. l ++ encoded bs) (cond-true (stands b bs) (b ∷ []) (escape b) h)

encoded_escaped : (b : ℕ) (bs : List ℕ) → stands b bs ≡ false → encoded (b ∷ bs) ≡ escape b ++ encoded bs
unfolding encoded
encoded_escaped b bs h = ap (λ l. l ++ encoded bs) (cond-false (stands b bs) (b ∷ []) (escape b) h)

-- of what is left of a path, the next byte goes first
pub encoded_on : (path done next : List ℕ) (i : ℕ) → i < length path → done ++ encoded (drop i path) ≡ encoded path → next ≡ done ++ encoded_byte (get_or path i 0) (drop (i + 1) path)
    → next ++ encoded (drop (i + 1) path) ≡ encoded path
unfolding encoded
encoded_on path done next i inside before is =
    let piece = encoded_byte (get_or path i 0) (drop (i + 1) path) in
    ap (λ l. l ++ encoded (drop (i + 1) path)) is ∙ append_assoc done piece (encoded (drop (i + 1) path))
    ∙ ap (λ l. done ++ l) (sym (at_drop_more encoded path i 0 inside)) ∙ before

-- nothing is left
pub encoded_ends : (path done : List ℕ) (i : ℕ) → length path ≤ i → done ++ encoded (drop i path) ≡ encoded path → done ≡ encoded path
unfolding encoded
encoded_ends path done i all before = sym (ap (λ l. done ++ l) (at_drop_all encoded path i all) ∙ append-nil done) ∙ before

pub decoded_ends : (done rest whole : List ℕ) → rest ≡ [] → done ++ decoded rest ≡ decoded whole → done ≡ decoded whole
decoded_ends done rest whole none before = sym (ap (λ l. done ++ decoded l) none ∙ ap (λ l. done ++ l) decoded-nil ∙ append-nil done) ∙ before

-- what is written begins with a dash only where the path does
first_dash : (b : ℕ) (bs : List ℕ) (t : Bool) → stands b bs ≡ t → get_or (encoded (b ∷ bs)) 0 0 ≡ 45 → b ≡ 45
first_dash b bs true is h = sym (ap (λ l. get_or l 0 0) (encoded_standing b bs is)) ∙ h
first_dash b bs false is h =
    let dot : ◌≡◌ {A = ℕ} 46 45 = sym (ap (λ l. get_or l 0 0) (encoded_escaped b bs is)) ∙ h in
    absurd (omega arith)

begins : (bs : List ℕ) → get_or (encoded bs) 0 0 ≡ 45 → begins_dash bs ≡ true
unfolding encoded
begins [] h = absurd (omega arith)
begins (b ∷ bs) h = let is = first_dash b bs (stands b bs) refl h in grind (arith, nat_tests)

barred : (a s d e : Bool) → a ≡ false → d ≡ true → e ≡ true → (a || (s && not (d && e))) ≡ true → ⊥
barred true s d e ha hd he h = cc
barred false true true true ha hd he h = cc
barred false true true false ha hd he h = cc
barred false true false e ha hd he h = cc
barred false false d e ha hd he h = cc

never_dot : (b : ℕ) (bs : List ℕ) → stands b bs ≡ true → b ≡ 46 → get_or (encoded bs) 0 0 ≡ 45 → ⊥
never_dot b bs h is dash =
    barred (b == 47) (is_segment_byte b) (b == 46) (begins_dash bs) (grind (arith, nat_tests)) (eq-eqb b 46 is) (begins bs dash) h

keeps : (b : ℕ) (bs : List ℕ) → stands b bs ≡ true → decoded (b ∷ encoded bs) ≡ b ∷ decoded (encoded bs)
keeps b bs h = KeepsFirst_from_no_escape (b ∷ encoded bs) (λ long is dash high low. never_dot b bs h is dash)

glyph_value : (d : ℕ) → d < 16 → digit_value (digit_glyph true d) ≡ d
glyph_value d small = grind (arith, nat_tests)

read_escape : (b : ℕ) (rest : List ℕ) → b < 256 → decoded (escape b ++ rest) ≡ b ∷ decoded rest
read_escape b rest small =
    let high = glyph_value (b / 16) (omega arith) in
    let low = glyph_value (b % 16) (omega arith) in
    let value : 16 * digit_value (digit_glyph true (b / 16)) + digit_value (digit_glyph true (b % 16)) ≡ b = rw (high, low) (omega arith) in
    decoded_escape 46 45 _ _ rest refl refl (rw high (omega arith)) (rw low (omega arith)) ∙ ap (λ x. x ∷ decoded rest) value

abbrev IsByte : ℕ → Type 0
IsByte b = b < 256

step : (b : ℕ) (bs : List ℕ) (t : Bool) → stands b bs ≡ t → b < 256 → decoded (encoded bs) ≡ bs → decoded (encoded (b ∷ bs)) ≡ b ∷ bs
step b bs true is small more = ap decoded (encoded_standing b bs is) ∙ keeps b bs is ∙ ap (λ l. b ∷ l) more
step b bs false is small more = ap decoded (encoded_escaped b bs is) ∙ read_escape b (encoded bs) small ∙ ap (λ l. b ∷ l) more

-- what is encoded is decoded as it was
pub back : (path : List ℕ) → All (λ b. b < 256) path → decoded (encoded path) ≡ path
back [] small = ap decoded encoded-nil ∙ decoded-nil
back (b ∷ bs) small = step b bs (stands b bs) refl (All-head IsByte b bs small) (back bs (All-tail IsByte b bs small))

pub apart : (path other : List ℕ) → All (λ b. b < 256) path → All (λ b. b < 256) other → encoded path ≡ encoded other → path ≡ other
apart path other small few same = sym (back path small) ∙ ap decoded same ∙ back other few

-- a path of which each byte stands for itself is its own name
pub plain : (path : List ℕ) → IsPlain path → encoded path ≡ path
plain [] h = encoded-nil
plain (b ∷ bs) h = encoded_standing b bs h.0 ∙ ap (λ l. b ∷ l) (plain bs h.1)
