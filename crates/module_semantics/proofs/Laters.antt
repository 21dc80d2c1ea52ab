-- A reader that takes the token at which its part begins: no fault stands at that token.
use Rattle.std.proofs.Common.{◌≡◌, ℕ, zero, suc, ◌≤◌, List, [], ◌∷◌, ◌++◌, length, Bool, true, false, inl, inr, Some, None, Ok, Err, refl, ap, arith}
use Rattle.module_tree.specs.declared.tree.Op.TheVariants as ops
use Rattle.module_semantics.specs.Steps.{◌>>=◌}
use Rattle.module_semantics.specs.Token.{LineToken}
use Rattle.module_semantics.specs.Kinds.{QUESTION, PLUS, IMPORT, UNDEFINED, NUMBER, TEXT, OPEN, MINUS, within, free_names}
use Rattle.module_semantics.specs.Raw as raw
use Rattle.module_semantics.specs.Raw.{RawExpr}
use Rattle.module_semantics.specs.Readers.{unexpected, Reader, next_in, taken, mark, ◌&◌, ◌▷◌, mapped, choice, deep, too_deep, GrammarFault}
use Rattle.module_semantics.specs.Reading as reading
use Rattle.module_semantics.specs.Reading.{access, accessed, grouped, chosen, expr_firsts, expr_over}
use Rattle.module_semantics.proofs.Steps.{bind_err, went, split_length}
use Rattle.module_semantics.proofs.KindLists.{disjoint, subset, next_more, next_either}
use Rattle.module_semantics.proofs.Parts.{Part, Reads}
use Rattle.module_semantics.proofs.Leaves.{taken_ok, taken_err, taken_shallow}
use Rattle.module_semantics.proofs.Sequences.{seq_reads}
use Rattle.module_semantics.proofs.Choices.{choice_reads, mapped_reads, given_reads, after_reads, before_reads}
use Rattle.module_semantics.proofs.Marks.{data_mark, dot_mark, close_mark, times_mark, plus_mark, minus_mark, nullish_mark, question_mark, colon_mark, key_reads}
use Rattle.module_semantics.proofs.Lists.{many_reads, Takes, turn_takes}
use Rattle.module_semantics.proofs.Ends.{deep_err, deep_ok}
use Rattle.module_semantics.proofs.Expressions.{hot_reads, access_reads, ExprReads, prim_firsts, prim_reads, unary_reads, prod_reads, sum_reads, null_reads, expr_reads, expr_refuses}

-- a kind of fault that no token of the right kinds is, and that stands within the tokens
record FaultKind (c : ℕ → GrammarFault) : Type 1 where
  taken : {A : Type 0} (ks : List ℕ) (v : LineToken → A) (ts : List LineToken) (m : ℕ) → next_in ks ts ≡ true → taken ks v ts ≡ Err (c m) → ⊥
  inside : {D A : Type 0} (fs ks : List ℕ) (null : Bool) (n : ℕ) (P : Part D A) (f g : Reader A) → Reads fs null ks n P f g → (ts : List LineToken) (m : ℕ) → f ts ≡ Err (c m) → m ≤ length ts

abbrev pub Later : {A : Type 0} → (ℕ → GrammarFault) → List ℕ → Reader A → Type 0
Later {A} c fs f = (ts : List LineToken) (m : ℕ) → next_in fs ts ≡ true → f ts ≡ Err (c m) → suc m ≤ length ts

-- a fault stands within the tokens
abbrev Inside : {A : Type 0} → (ℕ → GrammarFault) → Reader A → Type 0
Inside {A} c f = (ts : List LineToken) (m : ℕ) → f ts ≡ Err (c m) → m ≤ length ts

unexpected_kind : FaultKind unexpected
unexpected_kind = record {
  taken = λ ks v ts m go h. let w = taken_err ks v ts m h in absurd cc;
  inside = λ fs ks null n P f g a ts m h. let d = a.begun ts m h in omega (arith, split_length ts d.before d.rest d.split, d.left);
}

too_deep_kind : FaultKind too_deep
too_deep_kind = record {
  taken = λ ks v ts m go h. taken_shallow ks v ts m h;
  inside = λ fs ks null n P f g a ts m h. let d = a.sunk ts m h in omega (arith, split_length ts d.before (d.at ∷ d.rest) d.split, d.left);
}

taken_later : {A : Type 0} (c : ℕ → GrammarFault) → FaultKind c → (ks : List ℕ) (v : LineToken → A) → Later c ks (taken ks v)
taken_later c k ks v ts m go h = absurd (k.taken ks v ts m go h)

mapped_later : {A B : Type 0} (c : ℕ → GrammarFault) (fs : List ℕ) (f : Reader A) (h : A → B) → Later c fs f → Later c fs (mapped h f)
mapped_later c fs f h a ts m go is = elim (bind_err (f ts) (λ x. Ok (h x.0, x.1)) (c m) is) [ inl w ↦ a ts m go w | inr w ↦ absurd cc ]

then_later : {A B : Type 0} (c : ℕ → GrammarFault) (fs : List ℕ) (f : Reader A) (g : Reader B) → Later c fs f → Takes f → Inside c g → Later c fs (f & g)
then_later c fs f g a takes in_ ts m go h = elim (bind_err (f ts) (λ x. g x.1 >>= λ y. Ok ((x.0, y.0), y.1)) (c m) h) [
  | inl w ↦ a ts m go w
  | inr one ↦ elim (bind_err (g one.0.1) (λ y. Ok ((one.0.0, y.0), y.1)) (c m) one.2) [
    | inl w ↦ omega (arith, takes ts one.0.0 one.0.1 one.1, in_ one.0.1 m w)
    | inr w ↦ absurd cc
  ]
]

other_way : (hs fs gs : List ℕ) (ts : List LineToken) → subset fs (hs ++ gs) ≡ true → next_in fs ts ≡ true → next_in hs ts ≡ false → next_in gs ts ≡ true
other_way hs fs gs ts sub go not_ = elim (next_either hs gs ts (next_more fs (hs ++ gs) ts sub go)) [ inl w ↦ absurd cc | inr w ↦ w ]

choice_later : {A : Type 0} (c : ℕ → GrammarFault) (fs hs gs : List ℕ) (f g : Reader A) → subset fs (hs ++ gs) ≡ true → Later c hs f → Later c gs g → Later c fs (choice hs f g)
choice_later c fs hs gs f g sub a b ts m go h = elim (went (next_in hs ts) (f ts) (g ts) (Err (c m)) h) [
  | inl w ↦ a ts m w.0 w.1
  | inr w ↦ b ts m (other_way hs fs gs ts sub go w.0) w.1
]

taken_takes : {A : Type 0} (ks : List ℕ) (v : LineToken → A) → Takes (taken ks v)
taken_takes ks v ts x r h = let w = taken_ok ks v ts x r h in omega (arith, ap length w.1)

within_of : {D A : Type 0} {fs : List ℕ} {null : Bool} {ks : List ℕ} {n : ℕ} {P : Part D A} {f g : Reader A} (c : ℕ → GrammarFault) → FaultKind c → Reads fs null ks n P f g → Inside c f
within_of {fs = fs} {null = null} {ks = ks} {n = n} {P = P} {f = f} {g = g} c k a ts m h = k.inside fs ks null n P f g a ts m h

mark_later : {B : Type 0} (c : ℕ → GrammarFault) → FaultKind c → (k : ℕ) (g : Reader B) → Inside c g → Later c (k ∷ []) (mark k ▷ g)
mark_later c kind k g in_ = mapped_later c (k ∷ []) (mark k & g) (λ v. v.1) (then_later c (k ∷ []) (mark k) g (taken_later c kind (k ∷ []) (λ t. tt)) (taken_takes (k ∷ []) (λ t. tt)) in_)

prim_later : (c : ℕ → GrammarFault) → FaultKind c → (n : ℕ) (e e' : Reader RawExpr) → ExprReads n e e' → Later c prim_firsts (reading.prim e)
unfolding reading.prim disjoint subset within
prim_later c k n e e' a =
    choice_later c prim_firsts (NUMBER ∷ []) (TEXT ∷ UNDEFINED ∷ IMPORT ∷ OPEN ∷ free_names) _ _ refl (mapped_later c _ _ raw.num (taken_later c k (NUMBER ∷ []) _))
    (choice_later c (TEXT ∷ UNDEFINED ∷ IMPORT ∷ OPEN ∷ free_names) (TEXT ∷ []) (UNDEFINED ∷ IMPORT ∷ OPEN ∷ free_names) _ _ refl (mapped_later c _ _ raw.text (taken_later c k (TEXT ∷ []) _))
    (choice_later c (UNDEFINED ∷ IMPORT ∷ OPEN ∷ free_names) (UNDEFINED ∷ []) (IMPORT ∷ OPEN ∷ free_names) _ _ refl (mapped_later c _ _ (λ u. raw.undefined) (taken_later c k (UNDEFINED ∷ []) _))
    (choice_later c (IMPORT ∷ OPEN ∷ free_names) (IMPORT ∷ []) (OPEN ∷ free_names) _ _ refl (mapped_later c _ _ raw.bag (mark_later c k IMPORT _ (within_of c k (hot_reads _ _ _ n _ _ _ (after_reads _ _ _ _ _ _ n _ _ _ _ _ _ refl refl (data_mark n) (after_reads _ _ _ _ _ _ n _ _ _ _ _ _ refl refl (dot_mark n) (key_reads n)))))))
    (choice_later c (OPEN ∷ free_names) (OPEN ∷ []) free_names _ _ refl (mark_later c k OPEN _ (within_of c k (before_reads _ _ _ _ _ _ n _ _ _ _ _ _ refl refl a (close_mark n))))
    (mapped_later c _ _ accessed (then_later c free_names _ access (taken_later c k free_names _) (taken_takes free_names _) (within_of c k (access_reads n))))))))

unary_later : (c : ℕ → GrammarFault) → FaultKind c → (n : ℕ) (e e' : Reader RawExpr) → ExprReads n e e' → Later c (MINUS ∷ prim_firsts) (reading.unary e)
unfolding reading.unary subset within
unary_later c k n e e' a = choice_later c (MINUS ∷ prim_firsts) (MINUS ∷ []) prim_firsts _ _ refl (mapped_later c _ _ raw.neg (mark_later c k MINUS _ (within_of c k (prim_reads n e e' a)))) (prim_later c k n e e' a)

prod_later : (c : ℕ → GrammarFault) → FaultKind c → (n : ℕ) (e e' : Reader RawExpr) → ExprReads n e e' → Later c (MINUS ∷ prim_firsts) (reading.prod e)
unfolding reading.prod disjoint subset within
prod_later c k n e e' a = mapped_later c _ _ (λ v. grouped v.0 v.1) (then_later c _ (reading.unary e) _ (unary_later c k n e e' a) (turn_takes _ _ n _ _ _ (unary_reads n e e' a)) (within_of c k (many_reads _ _ n _ _ _ refl (mapped_reads _ _ _ n _ _ _ (λ b. (ops.Mul, b)) (after_reads _ _ _ _ _ _ n _ _ _ _ _ _ refl refl (times_mark n) (unary_reads n e e' a))))))

sum_later : (c : ℕ → GrammarFault) → FaultKind c → (n : ℕ) (e e' : Reader RawExpr) → ExprReads n e e' → Later c (MINUS ∷ prim_firsts) (reading.sum e)
unfolding reading.sum disjoint subset within
sum_later c k n e e' a = mapped_later c _ _ (λ v. grouped v.0 v.1) (then_later c _ (reading.prod e) _ (prod_later c k n e e' a) (turn_takes _ _ n _ _ _ (prod_reads n e e' a))
    (within_of c k (many_reads _ _ n _ _ _ refl (choice_reads (PLUS ∷ []) _ _ _ _ _ n _ _ _ _ _ _ refl refl (mapped_reads _ _ _ n _ _ _ (λ b. (ops.Add, b)) (after_reads _ _ _ _ _ _ n _ _ _ _ _ _ refl refl (plus_mark n) (prod_reads n e e' a))) (mapped_reads _ _ _ n _ _ _ (λ b. (ops.Sub, b)) (after_reads _ _ _ _ _ _ n _ _ _ _ _ _ refl refl (minus_mark n) (prod_reads n e e' a)))))))

null_later : (c : ℕ → GrammarFault) → FaultKind c → (n : ℕ) (e e' : Reader RawExpr) → ExprReads n e e' → Later c (MINUS ∷ prim_firsts) (reading.null e)
unfolding reading.null disjoint subset within
null_later c k n e e' a = mapped_later c _ _ (λ v. grouped v.0 v.1) (then_later c _ (reading.sum e) _ (sum_later c k n e e' a) (turn_takes _ _ n _ _ _ (sum_reads n e e' a)) (within_of c k (many_reads _ _ n _ _ _ refl (mapped_reads _ _ _ n _ _ _ (λ b. (ops.Null, b)) (after_reads _ _ _ _ _ _ n _ _ _ _ _ _ refl refl (nullish_mark n) (sum_reads n e e' a))))))

more_later : {A : Type 0} (c : ℕ → GrammarFault) (fs gs : List ℕ) (f : Reader A) → subset gs fs ≡ true → Later c fs f → Later c gs f
more_later c fs gs f sub a ts m go h = a ts m (next_more gs fs ts sub go) h

over_later : (c : ℕ → GrammarFault) → FaultKind c → (n : ℕ) (e e' : Reader RawExpr) → ExprReads n e e' → Later c expr_firsts (expr_over e)
unfolding expr_over disjoint subset within
over_later c k n e e' a = mapped_later c _ _ chosen (then_later c _ (reading.null e) _ (more_later c (MINUS ∷ prim_firsts) expr_firsts _ refl (null_later c k n e e' a)) (turn_takes _ _ n _ _ _ (null_reads n e e' a))
    (within_of c k (choice_reads (QUESTION ∷ []) _ _ _ _ _ n _ _ _ _ _ _ refl refl (mapped_reads _ _ _ n _ _ _ (Some) (after_reads _ _ _ _ _ _ n _ _ _ _ _ _ refl refl (question_mark n) (seq_reads _ _ _ _ _ _ n _ _ _ _ _ _ refl (before_reads _ _ _ _ _ _ n _ _ _ _ _ _ refl refl a (colon_mark n)) a))) (given_reads n None))))

deep_later : {A : Type 0} (fs : List ℕ) → Later {A = A} unexpected fs (deep fs)
deep_later {A} fs ts m go h = let w = deep_err {A = A} fs ts m h in absurd cc

pub expr_later : (n : ℕ) → Later unexpected expr_firsts (reading.expr n)
unfolding reading.expr
expr_later zero = deep_later expr_firsts
expr_later (suc n) = over_later unexpected unexpected_kind n (reading.expr n) (reading.expr n) (expr_reads 0 n n (omega arith))

-- where the first token is too deep, nothing is ever read
abbrev pub Bottom : {A : Type 0} → Reader A → Type 0
Bottom {A} f = (ts : List LineToken) (m : ℕ) → f ts ≡ Err (too_deep m) → length ts ≡ m → (us : List LineToken) (x : A) (q : List LineToken) → f us ≡ Ok (x, q) → ⊥

not_at_first : (n : ℕ) (ts : List LineToken) (m : ℕ) (b : Bool) → next_in expr_firsts ts ≡ b → reading.expr (suc n) ts ≡ Err (too_deep m) → length ts ≡ m → ⊥
unfolding reading.expr
not_at_first n ts m true go h left = absurd (omega (arith, over_later too_deep too_deep_kind n (reading.expr n) (reading.expr n) (expr_reads 0 n n (omega arith)) ts m go h, left))
not_at_first n ts m false go h left = let w = expr_refuses (suc n) ts go in absurd cc

pub expr_bottom : (n : ℕ) → Bottom (reading.expr n)
unfolding reading.expr
expr_bottom zero ts m h left us x q is = deep_ok expr_firsts us x q is
expr_bottom (suc n) ts m h left us x q is = not_at_first n ts m (next_in expr_firsts ts) refl h left
