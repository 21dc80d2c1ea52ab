-- The turns of the loop over the bytes of a text.
use Rattle.std.proofs.Common.{◌≡◌, ℕ, zero, suc, ◌+◌, ◌-◌, ◌<◌, ◌≤◌, List, [], ◌∷◌, ◌++◌, take, drop, length, get_or, Bool, true, false, not, cond, Some, None, position, Ok, Err, refl, sym, ap, ◌∙◌, arith, ◌==◌, append_assoc, take-append-drop, length-drop, subst, ◌≤◌}
use Rattle.std.proofs.Math.Seq.{drop-cons}
use Rattle.std.proofs.lemmas.List.{append-nil, drop-drop, drop_all}
use Rattle.std.proofs.lemmas.Bool.{eq-eqb, ne_eqb}
use Rattle.std.specs.List.{position_or_len}
use Rattle.std.specs.Str.{IsUtf8}
use Rattle.byte_lanes.specs.Classes.{is_quoting, stops_string}
use Rattle.module_semantics.specs.Bytes.{is_escape, is_line_end, is_quote, unescape}
use Rattle.module_semantics.specs.Lexing.{lex_fault, text_from}
use Rattle.module_semantics.specs.declared.tokens.LexKind.TheVariants.{BadEscape, OpenString}
use Rattle.hot_lexer.proofs.Runs.{found, not_found}
use Rattle.hot_lexer.proofs.Utf8.{backslash_utf8, escape_small, escape_utf8}

-- a byte of a run of plain bytes is no quote, no backslash and no line's end
plain_byte : (q b : ℕ) → is_quote q ≡ true → stops_string b ≡ false → ((b == q) ≡ false) × (is_line_end b ≡ false) × ((b == 92) ≡ false)
unfolding stops_string is_quoting is_quote is_line_end
plain_byte q b quote plain = (grind arith, grind arith, grind arith)

plain_read : (at q : ℕ) (out : List ℕ) (n b : ℕ) (bs : List ℕ) → is_quote q ≡ true → stops_string b ≡ false
    → text_from at q out n false (b ∷ bs) ≡ text_from at q (out ++ (b ∷ [])) (suc n) false bs
unfolding text_from
plain_read at q out n b bs quote plain = let byte = plain_byte q b quote plain in rw (byte.0, byte.1, byte.2) refl

run_goes_on : (b : Bool) (k m : ℕ) → suc k ≤ cond (not b) (1 + m) 0 → (b ≡ false) × (k ≤ m)
run_goes_on true k m h = absurd (omega (arith, h))
run_goes_on false k m h = (refl, omega (arith, h))

-- so these bytes stand for themselves
to_stop : (at q : ℕ) (out : List ℕ) (n k : ℕ) (bs : List ℕ) → is_quote q ≡ true → k ≤ position_or_len stops_string bs
    → text_from at q out n false bs ≡ text_from at q (out ++ take k bs) (n + k) false (drop k bs)
to_stop at q out n zero bs quote h = ap (λ l. text_from at q l n false bs) (sym (append-nil out)) ∙ ap (λ i. text_from at q (out ++ []) i false bs) (omega arith)
to_stop at q out n (suc k) [] quote h = absurd (omega (arith, h))
to_stop at q out n (suc k) (b ∷ bs) quote h =
    let plain = run_goes_on (stops_string b) k (position_or_len stops_string bs) h in
    let more : suc n + k ≡ n + suc k = omega arith in
    plain_read at q out n b bs quote plain.0 ∙ to_stop at q (out ++ (b ∷ [])) (suc n) k bs quote plain.1
    ∙ ap (λ l. text_from at q l (suc n + k) false (drop k bs)) (append_assoc out (b ∷ []) (take k bs))
    ∙ ap (λ i. text_from at q (out ++ (b ∷ take k bs)) i false (drop k bs)) more

-- at the end of a run of plain bytes, where `read` is out with them
pub record AtStop (at q : ℕ) (out : List ℕ) (start stop : ℕ) (bs read : List ℕ) : Type 0 where
  pub inside : stop < length bs
  pub same : text_from at q out start false (drop start bs) ≡ text_from at q read stop false (drop stop bs)
  pub whole : read ++ drop stop bs ≡ out ++ drop start bs

pub at_stop : (at q : ℕ) (out : List ℕ) (start plain : ℕ) (bs read : List ℕ) → is_quote q ≡ true → position stops_string (drop start bs) ≡ Some plain
    → read ≡ out ++ take (start + plain - start) (drop start bs) → AtStop at q out start (start + plain) bs read
at_stop at q out start plain bs read quote some more =
    let long : start + plain - start ≡ plain = omega arith in
    let is : read ≡ out ++ take plain (drop start bs) = more ∙ ap (λ n. out ++ take n (drop start bs)) long in
    let there = found stops_string (drop start bs) plain some in
    let left = drop-drop plain start bs in
    record {
      inside = omega (arith, there.0, length-drop start bs);
      same = to_stop at q out start plain (drop start bs) quote (omega (arith, there.2))
          ∙ ap (λ l. text_from at q l (start + plain) false (drop plain (drop start bs))) (sym is)
          ∙ ap (text_from at q read (start + plain) false) left;
      whole = ap (λ l. l ++ drop (start + plain) bs) is ∙ append_assoc out (take plain (drop start bs)) (drop (start + plain) bs)
          ∙ ap (λ l. out ++ (take plain (drop start bs) ++ l)) (sym left) ∙ ap (λ l. out ++ l) (take-append-drop plain (drop start bs));
    }

-- no quote ends the text
pub unclosed : (at q : ℕ) (out : List ℕ) (start : ℕ) (bs : List ℕ) → is_quote q ≡ true → position stops_string (drop start bs) ≡ None
    → text_from at q out start false (drop start bs) ≡ Err (lex_fault OpenString at)
unfolding text_from
unclosed at q out start bs quote none =
    let rest = drop start bs in
    to_stop at q out start (length rest) rest quote (omega (arith, not_found stops_string rest none))
    ∙ ap (text_from at q (out ++ take (length rest) rest) (start + length rest) false) (drop_all (length rest) rest (omega arith))

-- what the byte at the end of a run of plain bytes does
module _ {at q : ℕ} {out : List ℕ} {start stop : ℕ} {bs read : List ℕ} (s : AtStop at q out start stop bs read) where
  pub closing_quote : get_or bs stop 0 ≡ q → text_from at q out start false (drop start bs) ≡ Ok (read, stop + 2)
  unfolding text_from
  closing_quote is =
      let long : suc (suc stop) ≡ stop + 2 = omega arith in
      s.same ∙ rw (drop-cons bs stop 0 s.inside, eq-eqb (get_or bs stop 0) q is) (ap (λ n. Ok (read, n)) long)

  pub line_ended : (get_or bs stop 0 ≡ q → ⊥) → is_line_end (get_or bs stop 0) ≡ true → text_from at q out start false (drop start bs) ≡ Err (lex_fault OpenString at)
  unfolding text_from
  line_ended differ b = s.same ∙ rw (drop-cons bs stop 0 s.inside, ne_eqb (get_or bs stop 0) q differ, b) refl

  pub other_quote : (new : List ℕ) → (get_or bs stop 0 ≡ q → ⊥) → is_line_end (get_or bs stop 0) ≡ false → (get_or bs stop 0 ≡ 92 → ⊥) → new ≡ read ++ (get_or bs stop 0 ∷ [])
      → text_from at q out start false (drop start bs) ≡ text_from at q new (stop + 1) false (drop (stop + 1) bs)
  unfolding text_from
  other_quote new differ b plain is =
      let next : stop + 1 ≡ suc stop = omega arith in
      s.same ∙ rw (next, drop-cons bs stop 0 s.inside, ne_eqb (get_or bs stop 0) q differ, b, ne_eqb (get_or bs stop 0) 92 plain, is) refl

  pub backslash_turned : (get_or bs stop 0 ≡ q → ⊥) → is_line_end (get_or bs stop 0) ≡ false → get_or bs stop 0 ≡ 92
      → text_from at q out start false (drop start bs) ≡ text_from at q read (stop + 1) true (drop (stop + 1) bs)
  unfolding text_from
  backslash_turned differ b is =
      let next : stop + 1 ≡ suc stop = omega arith in
      s.same ∙ rw (next, drop-cons bs stop 0 s.inside, ne_eqb (get_or bs stop 0) q differ, b, eq-eqb (get_or bs stop 0) 92 is) refl

  pub no_escape : (stop + 1 ≡ length bs → ⊥) → is_escape (get_or bs (stop + 1) 0) ≡ false → text_from at q read (stop + 1) true (drop (stop + 1) bs) ≡ Err (lex_fault BadEscape (at + stop + 1))
  unfolding text_from
  no_escape more e =
      let place : at + (stop + 1) ≡ at + stop + 1 = omega arith in
      rw (drop-cons bs (stop + 1) 0 (omega (arith, s.inside, more)), e) (ap (λ n. Err (lex_fault BadEscape n)) place)

  escape_read : (new : List ℕ) → stop + 1 < length bs → is_escape (get_or bs (stop + 1) 0) ≡ true → new ≡ read ++ (unescape (get_or bs (stop + 1) 0) ∷ [])
      → text_from at q read (stop + 1) true (drop (stop + 1) bs) ≡ text_from at q new (stop + 2) false (drop (stop + 2) bs)
  unfolding text_from
  escape_read new more e is =
      let next : stop + 2 ≡ suc (stop + 1) = omega arith in
      rw (next, drop-cons bs (stop + 1) 0 more, e, is) refl

  pub escape_turned : (new : List ℕ) → (stop + 1 ≡ length bs → ⊥) → get_or bs stop 0 ≡ 92 → is_escape (get_or bs (stop + 1) 0) ≡ true → new ≡ read ++ (unescape (get_or bs (stop + 1) 0) ∷ [])
      → (text_from at q read (stop + 1) true (drop (stop + 1) bs) ≡ text_from at q new (stop + 2) false (drop (stop + 2) bs))
      × (IsUtf8 (read ++ drop stop bs) → IsUtf8 (new ++ drop (stop + 2) bs)) × (stop + 2 ≤ length bs)
  escape_turned new more slash e is =
      let inside : stop + 1 < length bs = omega (arith, s.inside, more) in
      let next : stop + 1 + 1 ≡ stop + 2 = omega arith in
      let small = escape_small (get_or bs (stop + 1) 0) e in (
        escape_read new inside e is,
        λ u. subst (λ i. IsUtf8 (new ++ drop i bs)) next (escape_utf8 read (stop + 1) (unescape (get_or bs (stop + 1) 0)) bs new inside small.0 small.1 is (backslash_utf8 read stop bs s.inside (omega (arith, slash)) u)),
        omega (arith, inside),
      )

pub ends_escaped : (at q : ℕ) (out : List ℕ) (stop : ℕ) (bs : List ℕ) → stop + 1 ≡ length bs → text_from at q out (stop + 1) true (drop (stop + 1) bs) ≡ Err (lex_fault BadEscape (at + stop + 1))
unfolding text_from
ends_escaped at q out stop bs h =
    let place : at + (stop + 1) ≡ at + stop + 1 = omega arith in
    ap (text_from at q out (stop + 1) true) (drop_all (stop + 1) bs (omega (arith, h))) ∙ ap (λ n. Err (lex_fault BadEscape n)) place
