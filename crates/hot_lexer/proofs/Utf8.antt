-- Parts of a text are UTF-8, since each byte of ASCII is a character of its own.
use Rattle.std.proofs.Common.{◌≡◌, ℕ, suc, ◌+◌, ◌-◌, ◌<◌, List, [], ◌∷◌, ◌++◌, drop, take, length, get_or, Bool, true, false, cond, refl, sym, arith, append_assoc, length-append, length-drop, add-zero, ap, ◌∙◌, subst}
use Rattle.std.proofs.lemmas.List.{get_or-drop}
use Rattle.std.proofs.Math.Seq.{drop-cons, take-append_seam, drop-append-add, get_or-append_seam}
use Rattle.std.proofs.lemmas.Str.{IsUtf8-take, IsUtf8-drop, IsUtf8-append, IsUtf8-from_ascii, IsCharBoundary-before_ascii, IsCharBoundary-after_ascii}
use Rattle.std.proofs.lemmas.Str.Ascii.{IsAscii-nil, IsAscii-cons}
use Rattle.std.specs.Str.{IsCharBoundary, IsUtf8}
use Rattle.hot_lexer.proofs.Runs.{few}
use Rattle.module_semantics.specs.Bytes.{is_digit, is_name_start, is_name_byte, is_quote, is_escape, unescape, span}

name_start_small : (b : ℕ) → is_name_start b ≡ true → b < 128
unfolding is_name_start
name_start_small b h = grind arith

name_byte_small : (b : ℕ) → is_name_byte b ≡ true → b < 128
unfolding is_name_byte is_name_start is_digit
name_byte_small b h = grind arith

-- what a quote is
pub quote_small : (b : ℕ) → is_quote b ≡ true → b < 128
unfolding is_quote
quote_small b h = grind arith

-- what an escape is, and what it stands for
pub escape_small : (b : ℕ) → is_escape b ≡ true → (b < 128) × (unescape b < 128)
unfolding is_escape unescape
escape_small b h = (grind arith, grind arith)

last_one : (b c : ℕ) (bs : List ℕ) (t : Bool) → is_name_byte c ≡ t → b < 128 → (c < 128 → get_or (c ∷ bs) (span is_name_byte bs) 0 < 128)
    → get_or (b ∷ c ∷ bs) (cond t (suc (span is_name_byte bs)) 0) 0 < 128
last_one b c bs true h small rest = rest (name_byte_small c h)
last_one b c bs false h small rest = small

-- the last byte of a name
last_small : (b : ℕ) (bs : List ℕ) → b < 128 → get_or (b ∷ bs) (span is_name_byte bs) 0 < 128
unfolding span
last_small b [] small = small
last_small b (c ∷ bs) small = last_one b c bs (is_name_byte c) refl small (last_small c bs)

-- a name begins and ends between characters
pub name_bounds : (text : List ℕ) (at first : ℕ) (rest : List ℕ) → IsUtf8 text → drop at text ≡ first ∷ rest → is_name_start first ≡ true
    → IsCharBoundary text at × IsCharBoundary text (at + span is_name_byte rest + 1)
name_bounds text at first rest u stands start =
    let long : length (drop at text) ≡ suc (length rest) = ap length stands in
    let n = span is_name_byte rest in
    let here : get_or text at 0 ≡ first = ap (λ i. get_or text i 0) (sym (add-zero at)) ∙ sym (get_or-drop at text 0 0) ∙ ap (λ l. get_or l 0 0) stands in
    let last : get_or text (at + n) 0 ≡ get_or (first ∷ rest) n 0 = sym (get_or-drop at text n 0) ∙ ap (λ l. get_or l n 0) stands in (
      IsCharBoundary-before_ascii text at (omega (arith, long, length-drop at text)) (omega (arith, here, name_start_small first start)),
      IsCharBoundary-after_ascii text (at + n) u (omega (arith, long, length-drop at text, few is_name_byte rest)) (omega (arith, last, last_small first rest (name_start_small first start))),
    )

-- the characters of a name, as the code cuts them
pub name_cut : (text : List ℕ) (at first n : ℕ) (rest : List ℕ) → drop at text ≡ first ∷ rest → take (at + n + 1 - at) (drop at text) ≡ first ∷ take n rest
name_cut text at first n rest stands =
    let long : at + n + 1 - at ≡ suc n = omega arith in
    ap (λ k. take k (drop at text)) long ∙ ap (take (suc n)) stands

-- what follows a byte of ASCII
pub after_ascii : (bs : List ℕ) (i : ℕ) → IsUtf8 bs → i < length bs → get_or bs i 0 < 128 → IsUtf8 (drop (suc i) bs)
after_ascii bs i u l h =
    let next : suc i ≡ i + 1 = omega arith in
    rw next (IsUtf8-drop bs (i + 1) u (IsCharBoundary-after_ascii bs i u l h))

-- what stands on both sides of a byte of ASCII
split_ascii : (xs : List ℕ) (b : ℕ) (ys : List ℕ) → b < 128 → IsUtf8 (xs ++ (b ∷ ys)) → IsUtf8 xs × IsUtf8 ys
split_ascii xs b ys h u =
    let bs = xs ++ (b ∷ ys) in
    let i = length xs in
    let at : get_or bs i 0 ≡ b = get_or-append_seam xs b ys 0 in
    let small : get_or bs i 0 < 128 = omega (arith, at, h) in
    let inside : i < length bs = omega (arith, length-append xs (b ∷ ys)) in (
      subst IsUtf8 (take-append_seam xs (b ∷ ys)) (IsUtf8-take bs i u (IsCharBoundary-before_ascii bs i inside small)),
      subst IsUtf8 (drop-append-add xs (b ∷ ys) 1) (IsUtf8-drop bs (i + 1) u (IsCharBoundary-after_ascii bs i u inside small)),
    )

-- What a text stands for so far, together with the bytes that are left, is UTF-8. At its place the byte b is next.
at_place : (out : List ℕ) (i : ℕ) (bs : List ℕ) → i < length bs → IsUtf8 (out ++ drop i bs) → IsUtf8 (out ++ (get_or bs i 0 ∷ drop (i + 1) bs))
at_place out i bs l u =
    let next : i + 1 ≡ suc i = omega arith in
    rw next (subst (λ r. IsUtf8 (out ++ r)) (drop-cons bs i 0 l) u)

-- before a byte of ASCII, as the closing quote
pub closed_utf8 : (out : List ℕ) (i : ℕ) (bs : List ℕ) → i < length bs → get_or bs i 0 < 128 → IsUtf8 (out ++ drop i bs) → IsUtf8 out
closed_utf8 out i bs l h u = (split_ascii out (get_or bs i 0) (drop (i + 1) bs) h (at_place out i bs l u)).0

-- with a byte left out
pub backslash_utf8 : (out : List ℕ) (i : ℕ) (bs : List ℕ) → i < length bs → get_or bs i 0 < 128 → IsUtf8 (out ++ drop i bs) → IsUtf8 (out ++ drop (i + 1) bs)
backslash_utf8 out i bs l h u =
    let sides = split_ascii out (get_or bs i 0) (drop (i + 1) bs) h (at_place out i bs l u) in
    IsUtf8-append out (drop (i + 1) bs) sides.0 sides.1

-- with a byte taken as it is
pub plain_utf8 : (out : List ℕ) (i : ℕ) (bs new : List ℕ) → i < length bs → new ≡ out ++ (get_or bs i 0 ∷ []) → IsUtf8 (out ++ drop i bs) → IsUtf8 (new ++ drop (i + 1) bs)
plain_utf8 out i bs new l is u = rw (is, append_assoc out (get_or bs i 0 ∷ []) (drop (i + 1) bs)) (at_place out i bs l u)

-- with another byte of ASCII in its place
pub escape_utf8 : (out : List ℕ) (i c : ℕ) (bs new : List ℕ) → i < length bs → get_or bs i 0 < 128 → c < 128 → new ≡ out ++ (c ∷ []) → IsUtf8 (out ++ drop i bs) → IsUtf8 (new ++ drop (i + 1) bs)
escape_utf8 out i c bs new l h small is u =
    let sides = split_ascii out (get_or bs i 0) (drop (i + 1) bs) h (at_place out i bs l u) in
    let one = IsUtf8-from_ascii (c ∷ []) (IsAscii-cons c [] small IsAscii-nil) in
    rw (is, append_assoc out (c ∷ []) (drop (i + 1) bs)) (IsUtf8-append out _ sides.0 (IsUtf8-append (c ∷ []) _ one sides.1))
