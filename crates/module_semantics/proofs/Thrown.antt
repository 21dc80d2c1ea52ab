-- What is thrown: the one choice by two tokens. Both ways take the first of the two, so no fault at it hangs on the second.
use Rattle.module_semantics.specs.Steps.{◌>>=◌}
use Rattle.std.proofs.Common.{◌≡◌, ℕ, ◌≤◌, List, [], ◌∷◌, ◌++◌, length, Bool, true, false, cond, ◌&&◌, ◌⊎◌, inl, inr, Some, None, Result, Ok, Err, refl, sym, ap, ◌∙◌, arith, suc}
use Rattle.std.proofs.lemmas.List.{length-append}
use Rattle.module_semantics.specs.Token.{LineToken}
use Rattle.module_semantics.specs.Kinds.{NEW, ERROR, OPEN, CLOSE, THROW, SEMICOLON, within, kind}
use Rattle.module_semantics.specs.Raw.{RawExpr}
use Rattle.module_semantics.specs.Readers.{GrammarFault, unexpected, Reader, next_in, next_two, mark, ◌▷◌, ◌◁◌, too_deep, ◌&◌}
use Rattle.module_semantics.specs.Reading as reading
use Rattle.module_semantics.specs.Reading.{expr_firsts}
use Rattle.module_semantics.specs.Spelling as spell
use Rattle.module_semantics.specs.Spelling.{Spell, ◌>>◌, ◌▸◌}
use Rattle.module_semantics.specs.Grammar as grammar
use Rattle.module_semantics.specs.Grammar.{ExprD, ThrowD, expr_spelt, expr_raw, expr_depth, throw_spelt, throw_raw, throw_depth, not_error}
use Rattle.module_semantics.proofs.PiecesLex.{both}
use Rattle.module_semantics.proofs.Steps.{went, if_true, if_false, bind_some, bound_some, next, bind_ok}
use Rattle.module_semantics.proofs.KindLists.{disjoint, subset, within_neither, next_more, next_in_looks}
use Rattle.module_semantics.proofs.Parts.{shorter, Fresh, Near, fresh_more, Free, Stable, Part, Begun, Default, Reads, Sunk}
use Rattle.module_semantics.proofs.Leaves.{one_ok, one_is, one_next, one_free, taken_is}
use Rattle.module_semantics.proofs.Sequences.{then_free}
use Rattle.module_semantics.proofs.Choices.{as_reads, after, after_reads, before, before_reads, first_way, second_way}
use Rattle.module_semantics.proofs.Lists.{turn_takes}
use Rattle.module_semantics.proofs.Ends.{chose, next_fewer}
use Rattle.module_semantics.proofs.Marks.{mark_part, open_mark, close_mark, throw_mark}
use Rattle.module_semantics.proofs.Expressions.{ExprReads, expr_part, expr_follow, expr_default}
use Rattle.module_semantics.proofs.Laters.{Later, Bottom}

-- an expression in parentheses, after `new Error`
abbrev parens : Reader RawExpr → Reader RawExpr
parens e = mark OPEN ▷ e ◁ mark CLOSE

abbrev parens_part : Part ExprD RawExpr
parens_part = after (mark_part OPEN) (before expr_part (mark_part CLOSE))

abbrev error_form : Reader RawExpr → Reader RawExpr
error_form e = mark NEW ▷ mark ERROR ▷ parens e

abbrev error_spelt : ExprD → Spell
error_spelt e = spell.mark NEW ▸ spell.mark ERROR ▸ parens_part.spelt e

abbrev form : Reader RawExpr → Reader RawExpr
form e ts = cond (next_two NEW ERROR ts) (error_form e ts) (e ts)

abbrev form_spelt : ExprD ⊎ ExprD → Spell
form_spelt (inl e) = error_spelt e
form_spelt (inr e) = not_error (expr_spelt e)

abbrev form_raw : ExprD ⊎ ExprD → RawExpr
form_raw (inl e) = expr_raw e
form_raw (inr e) = expr_raw e

abbrev form_depth : ExprD ⊎ ExprD → ℕ
form_depth (inl e) = expr_depth e
form_depth (inr e) = expr_depth e

abbrev form_part : Part (ExprD ⊎ ExprD) RawExpr
form_part = record { spelt = form_spelt; value = form_raw; depth = form_depth }

-- a mark that stands there is taken
after_mark : {B : Type 0} (k : ℕ) (f : Reader B) (t : LineToken) (ts : List LineToken) (z : Result (B × List LineToken) GrammarFault) → within (k ∷ []) (kind t.token) ≡ true → f ts ≡ z → (mark k ▷ f) (t ∷ ts) ≡ z
after_mark k f t ts (Ok y) h g = let e : mark k (t ∷ ts) ≡ Ok (tt, ts) = taken_is (k ∷ []) (λ u. tt) t ts h in rw (e, g) refl
after_mark k f t ts (Err x) h g = let e : mark k (t ∷ ts) ≡ Ok (tt, ts) = taken_is (k ∷ []) (λ u. tt) t ts h in rw (e, g) refl

record Two (ts : List LineToken) : Type 0 where
  t : LineToken
  u : LineToken
  rest : List LineToken
  is : ts ≡ t ∷ (u ∷ rest)
  new : within (NEW ∷ []) (kind t.token) ≡ true
  error : within (ERROR ∷ []) (kind u.token) ≡ true

two_of : (t : LineToken) (ts : List LineToken) → within (NEW ∷ []) (kind t.token) ≡ true → next_in (ERROR ∷ []) ts ≡ true → Two (t ∷ ts)
unfolding next_in
two_of t [] h k = absurd cc
two_of t (u ∷ ts) h k = record { t = t; u = u; rest = ts; is = refl; new = h; error = k }

two_ok : (ts : List LineToken) → next_two NEW ERROR ts ≡ true → Two ts
unfolding next_two
two_ok [] h = absurd cc
two_ok (t ∷ ts) h = let w = both (within (NEW ∷ []) (kind t.token)) (next_in (ERROR ∷ []) ts) h in two_of t ts w.0 w.1

two_is : (t u : LineToken) (s : List LineToken) → within (NEW ∷ []) (kind t.token) ≡ true → within (ERROR ∷ []) (kind u.token) ≡ true → next_two NEW ERROR (t ∷ (u ∷ s)) ≡ true
unfolding next_two next_in
two_is t u s h k = rw (h, k) refl

two_apart : (ts : List LineToken) → next_in (NEW ∷ []) ts ≡ false → next_two NEW ERROR ts ≡ false
unfolding next_two next_in
two_apart [] h = refl
two_apart (t ∷ ts) h = rw h refl

and_false : (a b : Bool) → b ≡ false → (a && b) ≡ false
and_false true b h = h
and_false false b h = refl

two_ends : (t : LineToken) (s : List LineToken) → next_in (ERROR ∷ []) s ≡ false → next_two NEW ERROR (t ∷ s) ≡ false
unfolding next_two
two_ends t s h = and_false (within (NEW ∷ []) (kind t.token)) _ h

two_far : (t u : LineToken) (x y : List LineToken) → next_two NEW ERROR (t ∷ (u ∷ x)) ≡ next_two NEW ERROR (t ∷ (u ∷ y))
unfolding next_two next_in
two_far t u x y = refl

fresh_no_error : (s : List LineToken) → Fresh s → next_in (ERROR ∷ []) s ≡ false
unfolding next_in
fresh_no_error [] h = refl
fresh_no_error (t ∷ s) h = (within_neither (SEMICOLON ∷ []) (ERROR ∷ []) (kind t.token) h.1).1

same_and : (a b c : Bool) → b ≡ c → (a && c) ≡ false → (a && b) ≡ false
same_and true b c h k = h ∙ k
same_and false b c h k = refl

same_two : (t : LineToken) (r s : List LineToken) → next_in (ERROR ∷ []) s ≡ next_in (ERROR ∷ []) r → next_two NEW ERROR (t ∷ r) ≡ false → next_two NEW ERROR (t ∷ s) ≡ false
unfolding next_two
same_two t r s h k = same_and (within (NEW ∷ []) (kind t.token)) _ _ h k

nothing_next : (r : List LineToken) → next_in [] r ≡ false
unfolding next_in within
nothing_next [] = refl
nothing_next (t ∷ r) = refl

-- the choice stays the same before another rest, unless nothing is taken
same_choice : (b r s : List LineToken) → Near s r → 1 ≤ length b → next_two NEW ERROR (b ++ r) ≡ false → next_two NEW ERROR (b ++ s) ≡ false
same_choice [] r s near some h = absurd (omega (arith, some))
same_choice (t ∷ []) r s (inl same) some h = same_two t r s (next_in_looks (ERROR ∷ []) s r same) h
same_choice (t ∷ []) r s (inr fresh) some h = two_ends t s (fresh_no_error s fresh)
same_choice (t ∷ u ∷ b) r s near some h = two_far t u (b ++ s) (b ++ r) ∙ h

error_reads : (e : Reader RawExpr) (w : LineToken) (u : LineToken) (s : List LineToken) (z : Result (RawExpr × List LineToken) GrammarFault) → within (NEW ∷ []) (kind w.token) ≡ true → within (ERROR ∷ []) (kind u.token) ≡ true → parens e s ≡ z → form e (w ∷ (u ∷ s)) ≡ z
error_reads e w u s z new error h = if_true (next_two NEW ERROR (w ∷ (u ∷ s))) _ _ _ (two_is w u s new error) (after_mark NEW (mark ERROR ▷ parens e) w (u ∷ s) z new (after_mark ERROR (parens e) u s z error h))

error_spells : (d : ExprD) (w u : LineToken) (s : List LineToken) (r : List LineToken) → within (NEW ∷ []) (kind w.token) ≡ true → within (ERROR ∷ []) (kind u.token) ≡ true → parens_part.spelt d s ≡ Some r → error_spelt d (w ∷ (u ∷ s)) ≡ Some r
error_spells d w u s r new error h = bound_some (spell.mark NEW (w ∷ (u ∷ s))) (spell.mark ERROR ▸ parens_part.spelt d) (u ∷ s) (Some r) (one_is (NEW ∷ []) spell.any_token w (u ∷ s) new refl)
    (bound_some (spell.mark ERROR (u ∷ s)) (parens_part.spelt d) s (Some r) (one_is (ERROR ∷ []) spell.any_token u s error refl) h)

-- what a form in its place reads, from what follows `new Error`
error_read : (e : Reader RawExpr) (ts : List LineToken) (z : Result (RawExpr × List LineToken) GrammarFault) (w : Two ts) → error_form e ts ≡ z → parens e w.rest ≡ z
error_read e ts z w h = sym (after_mark NEW (mark ERROR ▷ parens e) w.t (w.u ∷ w.rest) (parens e w.rest) w.new (after_mark ERROR (parens e) w.u w.rest (parens e w.rest) w.error refl)) ∙ sym (ap (error_form e) w.is) ∙ h

abbrev ParensReads : ℕ → Reader RawExpr → Reader RawExpr → Type 0
ParensReads n e e' = Reads (OPEN ∷ []) false [] n parens_part (parens e) (parens e')

parens_reads : (n : ℕ) (e e' : Reader RawExpr) → ExprReads n e e' → ParensReads n e e'
unfolding disjoint within
parens_reads n e e' a = after_reads _ _ _ _ _ _ n _ _ _ _ _ _ refl refl (open_mark n) (before_reads _ _ _ _ _ _ n _ _ _ _ _ _ refl refl a (close_mark n))

form_whole : (n : ℕ) (e e' : Reader RawExpr) → ExprReads n e e' → ParensReads n e e' → (ts : List LineToken) (x : RawExpr) (r : List LineToken) → form e ts ≡ Ok (x, r) → (d : ExprD ⊎ ExprD) × (form_spelt d ts ≡ Some r) × (form_raw d ≡ x) × (form_depth d ≤ n)
form_whole n e e' a p ts x r h = elim (went (next_two NEW ERROR ts) (error_form e ts) (e ts) (Ok (x, r)) h) [
  | inl w ↦
      let two = two_ok ts w.0 in
      let d = p.whole two.rest x r (error_read e ts (Ok (x, r)) two w.1) in
      (inl d.0, ap (error_spelt d.0) two.is ∙ error_spells d.0 two.t two.u two.rest r two.new two.error d.1, d.2, d.3)
  | inr w ↦
      let d = a.whole ts x r w.1 in
      (inr d.0, if_false (next_two NEW ERROR ts) _ _ _ w.0 d.1, d.2, d.3)
]

-- a text of the form with an error begins with its two words
error_two : (d : ExprD) (ts r : List LineToken) → error_spelt d ts ≡ Some r → (w : Two ts) × (parens_part.spelt d w.rest ≡ Some r)
error_two d ts r h =
    let m = bind_some (spell.mark NEW ts) (spell.mark ERROR ▸ parens_part.spelt d) r h in
    let k = bind_some (spell.mark ERROR m.0) (parens_part.spelt d) r m.2 in
    let t = one_ok (NEW ∷ []) spell.any_token ts m.0 m.1 in
    let u = one_ok (ERROR ∷ []) spell.any_token m.0 k.0 k.1 in
    (record { t = t.0; u = u.0; rest = k.0; is = t.1 ∙ ap (λ v. t.0 ∷ v) u.1; new = t.2; error = u.2 }, k.2)

plain_spelt : (d : ExprD) (ts r : List LineToken) → not_error (expr_spelt d) ts ≡ Some r → (next_two NEW ERROR ts ≡ false) × (expr_spelt d ts ≡ Some r)
plain_spelt d ts r h = elim (chose (next_two NEW ERROR ts) None (expr_spelt d ts) (Some r) h) [ inl w ↦ absurd cc | inr w ↦ w ]

form_comp : (n : ℕ) (e e' : Reader RawExpr) → ExprReads n e e' → ParensReads n e e' → (d : ExprD ⊎ ExprD) (ts r : List LineToken) → form_depth d ≤ n → form_spelt d ts ≡ Some r → next_in expr_follow r ≡ false → form e ts ≡ Ok (form_raw d, r)
form_comp n e e' a p (inl d) ts r few h stop =
    let w = error_two d ts r h in
    ap (form e) w.0.is ∙ error_reads e w.0.t w.0.u w.0.rest (Ok (expr_raw d, r)) w.0.new w.0.error (p.comp d w.0.rest r few w.1 (nothing_next r))
form_comp n e e' a p (inr d) ts r few h stop = let w = plain_spelt d ts r h in if_false (next_two NEW ERROR ts) _ _ _ w.0 (a.comp d ts r few w.1 stop)

default_two : (s : List LineToken) → next_two NEW ERROR (expr_default.text ++ s) ≡ false
unfolding next_two within
default_two s = refl

plain_default : Default form_spelt
plain_default = record { by = inr expr_default.by; text = expr_default.text; fresh = expr_default.fresh; spells = λ s fresh. if_false (next_two NEW ERROR (expr_default.text ++ s)) _ _ _ (default_two s) (expr_default.spells s fresh) }

plain_begun : (ts : List LineToken) (m : ℕ) → next_two NEW ERROR ts ≡ false → (b r more : List LineToken) → (d : ExprD) → ts ≡ b ++ r → length r ≡ m → Fresh more → ((s : List LineToken) → Fresh s → expr_spelt d (b ++ (more ++ s)) ≡ Some s) → Begun form_part ts m
plain_begun ts m no_two [] r more d split left fresh spells =
    record { before = []; rest = r; more = plain_default.text; by = plain_default.by; split = split; left = left; fresh = plain_default.fresh; spells = plain_default.spells }
plain_begun ts m no_two (t ∷ b) r more d split left fresh spells = record {
  before = t ∷ b;
  rest = r;
  more = more;
  by = inr d;
  split = split;
  left = left;
  fresh = fresh;
  spells = λ s fr. if_false (next_two NEW ERROR ((t ∷ b) ++ (more ++ s))) _ _ _ (same_choice (t ∷ b) r (more ++ s) (inr (fresh_more more s fresh fr)) (omega arith) (sym (ap (next_two NEW ERROR) split) ∙ no_two)) (spells s fr);
}

error_begun : (ts : List LineToken) (m : ℕ) → (w : Two ts) → Begun parens_part w.rest m → Begun form_part ts m
error_begun ts m w d = record {
  before = w.t ∷ (w.u ∷ d.before);
  rest = d.rest;
  more = d.more;
  by = inl d.by;
  split = w.is ∙ ap (λ v. w.t ∷ (w.u ∷ v)) d.split;
  left = d.left;
  fresh = d.fresh;
  spells = λ s fresh. error_spells d.by w.t w.u (d.before ++ (d.more ++ s)) s w.new w.error (d.spells s fresh);
}

form_begun : (n : ℕ) (e e' : Reader RawExpr) → ExprReads n e e' → ParensReads n e e' → (ts : List LineToken) (m : ℕ) → form e ts ≡ Err (unexpected m) → Begun form_part ts m
form_begun n e e' a p ts m h = elim (went (next_two NEW ERROR ts) (error_form e ts) (e ts) (Err (unexpected m)) h) [
  | inl w ↦ let two = two_ok ts w.0 in error_begun ts m two (p.begun two.rest m (error_read e ts (Err (unexpected m)) two w.1))
  | inr w ↦ let d = a.begun ts m w.1 in plain_begun ts m w.0 d.before d.rest d.more d.by d.split d.left d.fresh d.spells
]

new_first : subset (NEW ∷ []) expr_firsts ≡ true
unfolding subset within
new_first = refl

form_starts : (n : ℕ) (e e' : Reader RawExpr) → ExprReads n e e' → (d : ExprD ⊎ ExprD) (ts r : List LineToken) → form_depth d ≤ n → form_spelt d ts ≡ Some r → next_in expr_firsts ts ≡ true
form_starts n e e' a (inl d) ts r few h = let m = bind_some (spell.mark NEW ts) (spell.mark ERROR ▸ parens_part.spelt d) r h in next_more (NEW ∷ []) expr_firsts ts new_first (one_next (NEW ∷ []) spell.any_token ts m.0 m.1)
form_starts n e e' a (inr d) ts r few h = a.starts d ts r few (plain_spelt d ts r h).1

form_free : (n : ℕ) (e e' : Reader RawExpr) → ExprReads n e e' → ParensReads n e e' → (d : ExprD ⊎ ExprD) → form_depth d ≤ n → Free (form_spelt d)
form_free n e e' a p (inl d) few ts r h = then_free (spell.mark NEW) (spell.mark ERROR ▸ parens_part.spelt d) (one_free (NEW ∷ []) spell.any_token) (then_free (spell.mark ERROR) (parens_part.spelt d) (one_free (ERROR ∷ []) spell.any_token) (p.free d few)) ts r h
form_free n e e' a p (inr d) few ts r h =
    let w = plain_spelt d ts r h in
    let v = a.free d few ts r w.1 in
    let some : 1 ≤ length v.0 = omega (arith, shorter _ _ n expr_part e e' a d ts r few w.1, ap length v.1, length-append v.0 r) in
    (v.0, v.1, λ s near. if_false (next_two NEW ERROR (v.0 ++ s)) _ _ _ (same_choice v.0 r s near some (sym (ap (next_two NEW ERROR) v.1) ∙ w.0)) (v.2 s near))

at_first : (e : Reader RawExpr) → Later unexpected expr_firsts e → (ts : List LineToken) (m : ℕ) (b : Bool) → next_in expr_firsts ts ≡ b → e ts ≡ Err (unexpected m) → length ts ≡ m → next_in (NEW ∷ []) ts ≡ false
at_first e later ts m true is h left = absurd (omega (arith, later ts m is h, left))
at_first e later ts m false is h left = next_fewer (NEW ∷ []) expr_firsts ts (next_in (NEW ∷ []) ts) refl new_first is

-- before a rest that begins alike, at the place of a fault
stays : (e : Reader RawExpr) → Later unexpected expr_firsts e → (ts : List LineToken) (m : ℕ) → next_two NEW ERROR ts ≡ false → e ts ≡ Err (unexpected m) → (b r s : List LineToken) → ts ≡ b ++ r → length r ≡ m → next s ≡ next r → next_two NEW ERROR (b ++ s) ≡ false
stays e later ts m no_two h [] r s split left same = two_apart s (next_in_looks (NEW ∷ []) s r same ∙ ap (next_in (NEW ∷ [])) (sym split) ∙ at_first e later ts m (next_in expr_firsts ts) refl h (ap length split ∙ left))
stays e later ts m no_two h (t ∷ b) r s split left same = same_choice (t ∷ b) r s (inl same) (omega arith) (sym (ap (next_two NEW ERROR) split) ∙ no_two)

form_stands : (n : ℕ) (e e' u : Reader RawExpr) → ExprReads n e e' → Stable e u → Stable (parens e) (parens u) → Later unexpected expr_firsts e → Stable (form e) (form u)
form_stands n e e' u a st pst later = record {
  reads = λ ts x r h. elim (went (next_two NEW ERROR ts) (error_form e ts) (e ts) (Ok (x, r)) h) [
    | inl w ↦
        let two = two_ok ts w.0 in
        let k = pst.reads two.rest x r (error_read e ts (Ok (x, r)) two w.1) in
        (two.t ∷ (two.u ∷ k.0), two.is ∙ ap (λ v. two.t ∷ (two.u ∷ v)) k.1, λ s same. error_reads u two.t two.u (k.0 ++ s) (Ok (x, s)) two.new two.error (k.2 s same))
    | inr w ↦
        let k = st.reads ts x r w.1 in
        let some : 1 ≤ length k.0 = omega (arith, turn_takes _ _ n expr_part e e' a ts x r w.1, ap length k.1, length-append k.0 r) in
        (k.0, k.1, λ s same. if_false (next_two NEW ERROR (k.0 ++ s)) _ _ _ (same_choice k.0 r s (inl same) some (sym (ap (next_two NEW ERROR) k.1) ∙ w.0)) (k.2 s same))
  ];
  faults = λ ts m h. elim (went (next_two NEW ERROR ts) (error_form e ts) (e ts) (Err (unexpected m)) h) [
    | inl w ↦
        let two = two_ok ts w.0 in
        let k = pst.faults two.rest m (error_read e ts (Err (unexpected m)) two w.1) in
        (two.t ∷ (two.u ∷ k.0), k.1, two.is ∙ ap (λ v. two.t ∷ (two.u ∷ v)) k.2, k.3, λ s same. error_reads u two.t two.u (k.0 ++ s) (Err (unexpected (length s))) two.new two.error (k.4 s same))
    | inr w ↦
        let k = st.faults ts m w.1 in
        (k.0, k.1, k.2, k.3, λ s same. if_false (next_two NEW ERROR (k.0 ++ s)) _ _ _ (stays e later ts m w.0 w.1 k.0 k.1 s k.2 k.3 same) (k.4 s same))
  ];
}

form_stable : (n : ℕ) (e e' : Reader RawExpr) → ExprReads n e e' → ParensReads n e e' → Later unexpected expr_firsts e → Stable (form e) (form e')
form_stable n e e' a p later = form_stands n e e' e' a a.stable p.stable later

form_self : (n : ℕ) (e e' : Reader RawExpr) → ExprReads n e e' → ParensReads n e e' → Later unexpected expr_firsts e → Stable (form e) (form e)
form_self n e e' a p later = form_stands n e e' e a a.self p.self later

error_sunk : (e : Reader RawExpr) (ts : List LineToken) (m : ℕ) (w : Two ts) → Sunk parens_part (parens e) w.rest m → Sunk form_part (form e) ts m
error_sunk e ts m w d = record {
  before = w.t ∷ (w.u ∷ d.before);
  at = d.at;
  rest = d.rest;
  more = d.more;
  by = inl d.by;
  split = w.is ∙ ap (λ v. w.t ∷ (w.u ∷ v)) d.split;
  left = d.left;
  fresh = d.fresh;
  spells = λ s fresh. error_spells d.by w.t w.u (d.before ++ (d.at ∷ (d.more ++ s))) s w.new w.error (d.spells s fresh);
  never = λ s x q h.
      let tail : List LineToken = d.before ++ (d.at ∷ s) in
      let inner = first_way (next_two NEW ERROR (w.t ∷ (w.u ∷ tail))) _ _ (Ok (x, q)) (two_is w.t w.u tail w.new w.error) h in
      d.never s x q (error_read e (w.t ∷ (w.u ∷ tail)) (Ok (x, q)) (record { t = w.t; u = w.u; rest = tail; is = refl; new = w.new; error = w.error }) inner);
}

-- the next two tokens stay the same, where one of them is the token at the place or stands before it
two_stays : (t : LineToken) (b : List LineToken) (at : LineToken) (r s : List LineToken) → next_two NEW ERROR ((t ∷ b) ++ (at ∷ r)) ≡ false → next_two NEW ERROR ((t ∷ b) ++ (at ∷ s)) ≡ false
two_stays t [] at r s h = two_far t at s r ∙ h
two_stays t (u ∷ b) at r s h = two_far t u (b ++ (at ∷ s)) (b ++ (at ∷ r)) ∙ h

error_needs : (e : Reader RawExpr) (ts : List LineToken) (x : RawExpr) (q : List LineToken) → parens e ts ≡ Ok (x, q) → (us : List LineToken) × (y : RawExpr) × (r : List LineToken) × (e us ≡ Ok (y, r))
error_needs e ts x q h =
    let a = bind_ok ((mark OPEN & (e ◁ mark CLOSE)) ts) (λ v. Ok (v.0.1, v.1)) (x, q) h in
    let b = bind_ok (mark OPEN ts) (λ v. (e ◁ mark CLOSE) v.1 >>= λ y. Ok ((v.0, y.0), y.1)) a.0 a.1 in
    let c = bind_ok ((e ◁ mark CLOSE) b.0.1) (λ y. Ok ((b.0.0, y.0), y.1)) a.0 b.2 in
    let d = bind_ok ((e & mark CLOSE) b.0.1) (λ v. Ok (v.0.0, v.1)) c.0 c.1 in
    let f = bind_ok (e b.0.1) (λ v. mark CLOSE v.1 >>= λ y. Ok ((v.0, y.0), y.1)) d.0 d.1 in
    (b.0.1, f.0.0, f.0.1, f.1)

-- where nothing is ever read by e, nothing is read by the form
form_never : (e : Reader RawExpr) → ((us : List LineToken) (x : RawExpr) (q : List LineToken) → e us ≡ Ok (x, q) → ⊥) → (ts : List LineToken) (x : RawExpr) (q : List LineToken) → form e ts ≡ Ok (x, q) → ⊥
form_never e none ts x q h = elim (went (next_two NEW ERROR ts) (error_form e ts) (e ts) (Ok (x, q)) h) [
  | inl w ↦ let two = two_ok ts w.0 in let v = error_needs e two.rest x q (error_read e ts (Ok (x, q)) two w.1) in none v.0 v.1 v.2 v.3
  | inr w ↦ none ts x q w.1
]

plain_sunk : (e : Reader RawExpr) → Bottom e → (ts : List LineToken) (m : ℕ) → next_two NEW ERROR ts ≡ false → e ts ≡ Err (too_deep m) → (b : List LineToken) (at : LineToken) (r more : List LineToken) (d : ExprD) → ts ≡ b ++ (at ∷ r) → suc (length r) ≡ m → Fresh more
    → ((s : List LineToken) → Fresh s → expr_spelt d (b ++ (at ∷ (more ++ s))) ≡ Some s) → ((s : List LineToken) (x : RawExpr) (q : List LineToken) → e (b ++ (at ∷ s)) ≡ Ok (x, q) → ⊥) → Sunk form_part (form e) ts m
plain_sunk e bottom ts m no_two h [] at r more d split left fresh spells never = record {
  before = [];
  at = at;
  rest = r;
  more = more;
  by = inr d;
  split = split;
  left = left;
  fresh = fresh;
  spells = λ s fr. if_false (next_two NEW ERROR (at ∷ (more ++ s))) _ _ _ (two_ends at (more ++ s) (fresh_no_error (more ++ s) (fresh_more more s fresh fr))) (spells s fr);
  never = λ s x q is. form_never e (bottom ts m h (ap length split ∙ left)) (at ∷ s) x q is;
}
plain_sunk e bottom ts m no_two h (t ∷ b) at r more d split left fresh spells never = record {
  before = t ∷ b;
  at = at;
  rest = r;
  more = more;
  by = inr d;
  split = split;
  left = left;
  fresh = fresh;
  spells = λ s fr. if_false (next_two NEW ERROR ((t ∷ b) ++ (at ∷ (more ++ s)))) _ _ _ (two_stays t b at r (more ++ s) (sym (ap (next_two NEW ERROR) split) ∙ no_two)) (spells s fr);
  never = λ s x q is. never s x q (second_way (next_two NEW ERROR ((t ∷ b) ++ (at ∷ s))) _ _ (Ok (x, q)) (two_stays t b at r s (sym (ap (next_two NEW ERROR) split) ∙ no_two)) is);
}

form_sunk : (n : ℕ) (e e' : Reader RawExpr) → ExprReads n e e' → ParensReads n e e' → Bottom e → (ts : List LineToken) (m : ℕ) → form e ts ≡ Err (too_deep m) → Sunk form_part (form e) ts m
form_sunk n e e' a p bottom ts m h = elim (went (next_two NEW ERROR ts) (error_form e ts) (e ts) (Err (too_deep m)) h) [
  | inl w ↦ let two = two_ok ts w.0 in error_sunk e ts m two (p.sunk two.rest m (error_read e ts (Err (too_deep m)) two w.1))
  | inr w ↦ let d = a.sunk ts m w.1 in plain_sunk e bottom ts m w.0 w.1 d.before d.at d.rest d.more d.by d.split d.left d.fresh d.spells d.never
]

form_reads : (n : ℕ) (e e' : Reader RawExpr) → ExprReads n e e' → Later unexpected expr_firsts e → Bottom e → Reads expr_firsts false expr_follow n form_part (form e) (form e')
form_reads n e e' a later bottom =
    let p = parens_reads n e e' a in
    record {
      whole = form_whole n e e' a p;
      comp = form_comp n e e' a p;
      begun = form_begun n e e' a p;
      starts = form_starts n e e' a;
      free = form_free n e e' a p;
      some = plain_default;
      stable = form_stable n e e' a p later;
      self = form_self n e e' a p later;
      sunk = form_sunk n e e' a p bottom;
    }

abbrev pub throw_part : Part ThrowD RawExpr
throw_part = record { spelt = throw_spelt; value = throw_raw; depth = throw_depth }

abbrev to_throw : ExprD ⊎ ExprD → ThrowD
to_throw (inl e) = grammar.new_error e
to_throw (inr e) = grammar.thrown e

throw_spells : (d : ExprD ⊎ ExprD) (ts r : List LineToken) → (after (mark_part THROW) form_part).spelt d ts ≡ Some r → throw_spelt (to_throw d) ts ≡ Some r
throw_spells (inl e) ts r h = h
throw_spells (inr e) ts r h = h

throw_from : (e : ThrowD) (ts r : List LineToken) → throw_spelt e ts ≡ Some r → (d : ExprD ⊎ ExprD) × (to_throw d ≡ e) × ((after (mark_part THROW) form_part).spelt d ts ≡ Some r)
throw_from (grammar.new_error e) ts r h = (inl e, refl, h)
throw_from (grammar.thrown e) ts r h = (inr e, refl, h)

throw_value : (d : ExprD ⊎ ExprD) → throw_raw (to_throw d) ≡ form_raw d
throw_value (inl e) = refl
throw_value (inr e) = refl

throw_same : (d : ExprD ⊎ ExprD) → throw_depth (to_throw d) ≡ form_depth d
throw_same (inl e) = refl
throw_same (inr e) = refl

-- `throw` and what is thrown
pub throw_reads : (n : ℕ) (e e' : Reader RawExpr) → ExprReads n e e' → Later unexpected expr_firsts e → Bottom e → Reads (THROW ∷ []) false expr_follow n throw_part (reading.thrown e) (reading.thrown e')
unfolding reading.thrown disjoint subset within
throw_reads n e e' a later bottom =
    as_reads _ _ (THROW ∷ []) expr_follow _ n n (after (mark_part THROW) form_part) throw_part _ _ refl refl
    (record { to = to_throw; spells = throw_spells; from = throw_from; value = throw_value; deeper = λ d h. omega (arith, h, throw_same d); lower = λ d h. omega (arith, h, throw_same d) })
    (after_reads _ _ _ _ _ _ n _ _ _ _ _ _ refl refl (throw_mark n) (form_reads n e e' a later bottom))
