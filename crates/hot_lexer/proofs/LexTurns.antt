-- The turns of the loop over the pieces of a text.
use Rattle.std.proofs.Common.{◌≡◌, ℕ, zero, suc, ◌+◌, ◌-◌, ◌<◌, ◌≤◌, List, [], ◌∷◌, drop, take, length-drop, length, get_or, Bool, true, false, ◌||◌, length-take-le, Some, Result, Ok, Err, refl, arith, sym, ap, subst, ◌∙◌}
use Rattle.std.proofs.Math.Seq.{drop-cons}
use Rattle.std.proofs.lemmas.Bool.{ne_eqb}
use Rattle.std.proofs.lemmas.List.{drop-drop, drop_all, take_all}
use Rattle.module_semantics.specs.Token.{Lexeme, name}
use Rattle.module_semantics.specs.Bytes.{is_blank, is_digit, is_name_byte, is_name_start, span}
use Rattle.module_semantics.specs.Lexing.{added, after_token, barred, front, lex_from, lexing, step}
use Rattle.module_semantics.specs.declared.tokens.After.{After}
use Rattle.module_semantics.specs.declared.tokens.After.TheVariants.{Other, Number, Plus, Minus}
use Rattle.module_semantics.specs.declared.tokens.LexFault.{LexFault}
use Rattle.module_semantics.proofs.PiecesLex.{size_pos}
use Rattle.module_semantics.proofs.LexedPieces.{front_made, step_ok}
use Rattle.hot_lexer.proofs.Runs.{few, run_begins}
use Rattle.hot_lexer.specs.Stop.{Stops}
use Rattle.hot_lexer.specs.declared.stop.Stop.{Stop}
use Rattle.hot_lexer.specs.declared.stop.Stop.TheVariants as stops

-- with enough turns, lexing from a place of the text gives what lexing the whole gives
pub record Going (at : ℕ) (last : After) (done : List Lexeme) (bs : List ℕ) : Type 0 where
  pub turns : ℕ
  pub enough : length bs ≤ at + turns
  pub same : lex_from turns at last done (drop at bs) ≡ lexing bs

-- before the first byte
pub started : (bs : List ℕ) → Going 0 Other [] bs
unfolding lexing
started bs = record { turns = length bs; enough = omega arith; same = refl }

no_bytes : (k at : ℕ) (last : After) (done : List Lexeme) → lex_from k at last done [] ≡ Ok done
unfolding lex_from
no_bytes zero at last done = refl
no_bytes (suc k) at last done = refl

-- after the last byte
pub ended : (at : ℕ) (last : After) (done : List Lexeme) (bs : List ℕ) → Going at last done bs → length bs ≤ at → lexing bs ≡ Ok done
ended at last done bs g h = sym g.same ∙ ap (lex_from g.turns at last done) (drop_all at bs h) ∙ no_bytes g.turns at last done

-- the bytes after one, as the code cuts them
pub tail : (bs : List ℕ) (i : ℕ) → take (length bs - (i + 1)) (drop (i + 1) bs) ≡ drop (suc i) bs
tail bs i =
    let next : i + 1 ≡ suc i = omega arith in
    rw next (take_all (length bs - suc i) (drop (suc i) bs) (omega (arith, length-drop (suc i) bs)))

one_stopped : (k n at : ℕ) (last : After) (done : List Lexeme) (bs : List ℕ) (f : LexFault) → k ≡ suc n → at < length bs → step at last done (get_or bs at 0) (drop (suc at) bs) ≡ Err f → lex_from k at last done (drop at bs) ≡ Err f
unfolding lex_from
one_stopped k n at last done bs f is h e = rw (is, drop-cons bs at 0 h, e) refl

one_turned : (k n at : ℕ) (last : After) (done : List Lexeme) (bs : List ℕ) (s : ℕ × (After × List Lexeme)) → k ≡ suc n → at < length bs → step at last done (get_or bs at 0) (drop (suc at) bs) ≡ Ok s
    → lex_from n (at + s.0) s.1.0 s.1.1 (drop (at + s.0) bs) ≡ lex_from k at last done (drop at bs)
unfolding lex_from
one_turned k n at last done bs s is h e =
    let moved : drop (at + s.0) bs ≡ drop s.0 (get_or bs at 0 ∷ drop (suc at) bs) = sym (drop-drop s.0 at bs) ∙ ap (drop s.0) (drop-cons bs at 0 h) in
    rw (is, drop-cons bs at 0 h, e) (ap (lex_from n (at + s.0) s.1.0 s.1.1) moved)

-- each piece has a byte or more
pub some_bytes : (at : ℕ) (last : After) (done : List Lexeme) (b : ℕ) (bs : List ℕ) (s : ℕ × (After × List Lexeme)) → step at last done b bs ≡ Ok s → 1 ≤ s.0
some_bytes at last done b bs s h =
    let o = step_ok at last done b bs s h in
    let m = front_made at b bs o.0 o.2 in
    omega (arith, size_pos m.0, m.5, o.4)

-- a turn that ends with a fault
pub stopped : (at : ℕ) (last : After) (done : List Lexeme) (bs rest : List ℕ) (f : LexFault) → Going at last done bs → at < length bs → rest ≡ drop (suc at) bs → step at last done (get_or bs at 0) rest ≡ Err f → lexing bs ≡ Err f
stopped at last done bs rest f g h next e =
    let e' : step at last done (get_or bs at 0) (drop (suc at) bs) ≡ Err f = rw (← next) e in
    sym g.same ∙ one_stopped g.turns (g.turns - 1) at last done bs f (omega (arith, g.enough, h)) h e'

-- a turn that goes on
pub turned : (at : ℕ) (last : After) (done : List Lexeme) (bs rest : List ℕ) (s : ℕ × (After × List Lexeme)) → Going at last done bs → at < length bs → rest ≡ drop (suc at) bs → step at last done (get_or bs at 0) rest ≡ Ok s → Going (at + s.0) s.1.0 s.1.1 bs
turned at last done bs rest s g h next e =
    let e' : step at last done (get_or bs at 0) (drop (suc at) bs) ≡ Ok s = rw (← next) e in
    record {
      turns = g.turns - 1;
      enough = omega (arith, g.enough, h, some_bytes at last done (get_or bs at 0) rest s e);
      same = one_turned g.turns (g.turns - 1) at last done bs s (omega (arith, g.enough, h)) h e' ∙ g.same;
    }

blank_low : (b : ℕ) → is_blank b ≡ true → b < 36
unfolding is_blank
blank_low b h = grind arith

start_high : (b : ℕ) → is_name_start b ≡ true → 35 < b
unfolding is_name_start
start_high b h = grind arith

digit_high : (b : ℕ) → is_digit b ≡ true → 35 < b
unfolding is_digit
digit_high b h = grind arith

no_name_byte : (s d : Bool) → (s ≡ true → ⊥) → (d ≡ true → ⊥) → (s || d) ≡ false
no_name_byte true d start digit = absurd (start refl)
no_name_byte false true start digit = absurd (digit refl)
no_name_byte false false start digit = refl

-- nothing bars a blank
blank_after : (last : After) (b : ℕ) → is_blank b ≡ true → barred last b ≡ false
unfolding barred is_name_byte
blank_after Other b h = refl
blank_after Number b h = no_name_byte (is_name_start b) (is_digit b) (λ s. omega (arith, start_high b s, blank_low b h)) (λ d. omega (arith, digit_high b d, blank_low b h))
blank_after Plus b h = ne_eqb b 43 (λ (is : b ≡ 43). omega (arith, blank_low b h))
blank_after Minus b h = ne_eqb b 45 (λ (is : b ≡ 45). omega (arith, blank_low b h))

blank_step : (at : ℕ) (last : After) (done : List Lexeme) (b : ℕ) (bs : List ℕ) → is_blank b ≡ true → step at last done b bs ≡ Ok (1, (Other, done))
unfolding step front added after_token
blank_step at last done b bs h = rw (blank_after last b h, h) refl

blank_turned : (at : ℕ) (last : After) (done : List Lexeme) (bs : List ℕ) → Going at last done bs → at < length bs → is_blank (get_or bs at 0) ≡ true → Going (at + 1) Other done bs
blank_turned at last done bs g h b = turned at last done bs (drop (suc at) bs) (1, (Other, done)) g h refl (blank_step at last done (get_or bs at 0) (drop (suc at) bs) b)

more_blanks : (n at : ℕ) (done : List Lexeme) (bs : List ℕ) → Going at Other done bs → n ≤ span is_blank (drop at bs) → Going (at + n) Other done bs
more_blanks zero at done bs g h = subst (λ m. Going m Other done bs) (omega arith) g
more_blanks (suc n) at done bs g h =
    let first = run_begins is_blank at bs (omega (arith, h)) in
    let next : suc at ≡ at + 1 = omega arith in
    let left : n ≤ span is_blank (drop (at + 1) bs) = omega (arith, h, first.2, ap (λ m. span is_blank (drop m bs)) next) in
    subst (λ m. Going m Other done bs) (omega arith) (more_blanks n (at + 1) done bs (blank_turned at Other done bs g first.0 first.1) left)

-- the turns of a run of blanks
pub blanks_turned : (n at : ℕ) (last : After) (done : List Lexeme) (bs rest : List ℕ) → Going at last done bs → at < length bs → is_blank (get_or bs at 0) ≡ true → rest ≡ drop (suc at) bs → n ≡ span is_blank rest → Going (at + (1 + n)) Other done bs
blanks_turned n at last done bs rest g h b is count =
    let next : suc at ≡ at + 1 = omega arith in
    let few : n ≤ span is_blank (drop (at + 1) bs) = omega (arith, count, ap (span is_blank) is, ap (λ m. span is_blank (drop m bs)) next) in
    subst (λ m. Going m Other done bs) (omega arith) (more_blanks n (at + 1) done bs (blank_turned at last done bs g h b) few)

-- the piece of a name
pub name_front : (at b : ℕ) (bs named : List ℕ) → is_blank b ≡ false → is_name_start b ≡ true → named ≡ b ∷ take (span is_name_byte bs) bs → front at b bs ≡ Ok (Some (name named), length named)
unfolding front
name_front at b bs named blank start is =
    let long : suc (span is_name_byte bs) ≡ length (b ∷ take (span is_name_byte bs) bs) = ap suc (sym (length-take-le (span is_name_byte bs) bs (few is_name_byte bs))) in
    rw (blank, start, is) (ap (λ n. Ok (Some (name (b ∷ take (span is_name_byte bs) bs)), n)) long)

-- a fault of one reading that is one of another
pub passed : {A B : Type 0} (e : Stop) (r : Result A LexFault) (s : Result B LexFault) → Stops e r → ((f : LexFault) → r ≡ Err f → s ≡ Err f) → Stops e s
passed (stops.Fault f) r s h k = k f h
passed stops.NoMemory r s h k = h
