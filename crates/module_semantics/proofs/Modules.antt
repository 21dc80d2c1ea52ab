-- Whole modules: the reader is the grammar, and its faults stand first.
use Rattle.std.proofs.Common.{◌≡◌, ℕ, ◌+◌, ◌-◌, ◌≤◌, max, List, [], ◌∷◌, ◌++◌, length, true, Some, Result, Ok, Err, refl, sym, ap, ◌∙◌, subst, inl, inr, arith, ◌<◌}
use Rattle.std.proofs.lemmas.Bool.{cases_lt}
use Rattle.std.proofs.lemmas.List.{append-nil, append_assoc, length-append}
use Rattle.module_semantics.specs.Steps.{◌>>=◌}
use Rattle.module_semantics.specs.Token.{LineToken}
use Rattle.module_semantics.specs.Kinds.{within}
use Rattle.module_semantics.specs.Raw.{RawItem}
use Rattle.module_semantics.specs.Readers.{GrammarFault, unexpected, Reader, mapped, many, ◌&◌, too_deep}
use Rattle.module_semantics.specs.Reading.{flat, item, item_firsts, inner, finished, module_reader, reading}
use Rattle.module_semantics.specs.Grammar.{ModuleD, module_spelt, module_raw, module_depth}
use Rattle.module_semantics.specs.ModuleTokens.{IsModule, Says, Continues, Stops, FirstUnexpected, TooDeepAt}
use Rattle.module_semantics.proofs.Steps.{ok_parts, bind_ok, bind_err, bound, unexpected_at, next, no_tokens, same_split}
use Rattle.module_semantics.proofs.KindLists.{disjoint, none_next}
use Rattle.module_semantics.proofs.Parts.{Stable, Part, Begun, Reads}
use Rattle.module_semantics.proofs.Sequences.{then_stable, ok_stable}
use Rattle.module_semantics.proofs.Choices.{mapped_reads}
use Rattle.module_semantics.proofs.Lists.{list_part, many_reads}
use Rattle.module_semantics.proofs.Expressions.{expr_follow}
use Rattle.module_semantics.proofs.Statements.{inner_reads}
use Rattle.module_semantics.proofs.Items.{item_part, item_reads}

abbrev module_part : Part ModuleD (List RawItem)
module_part = record { spelt = module_spelt; value = module_raw; depth = module_depth }

abbrev items : ℕ → Reader (List RawItem)
items n = mapped flat (many item_firsts (item (inner n)))

-- the items of a module, with a gap between two depths
items_reads : (gap less more : ℕ) → more ≡ gap + less → Reads item_firsts true (item_firsts ++ expr_follow) less module_part (items less) (items more)
unfolding disjoint within
items_reads gap less more h = mapped_reads _ _ _ less (list_part item_part) _ _ flat (many_reads item_firsts expr_follow less item_part _ _ refl (item_reads less (inner less) (inner more) (inner_reads gap less more h)))

items_at : (n : ℕ) → Reads item_firsts true (item_firsts ++ expr_follow) n module_part (items n) (items n)
items_at n = items_reads 0 n n (omega arith)

finished_ok : (ts : List LineToken) (r : List LineToken) (x : Unit {0}) → finished ts ≡ Ok (x, r) → (ts ≡ []) × (r ≡ [])
unfolding finished
finished_ok [] r x h = let w = ok_parts tt x [] r h in (refl, sym w.0)
finished_ok (t ∷ ts) r x h = absurd cc

finished_err : (ts : List LineToken) (m : ℕ) → finished ts ≡ Err (unexpected m) → length ts ≡ m
unfolding finished
finished_err [] m h = absurd cc
finished_err (t ∷ ts) m h = unexpected_at cc

finished_again : (ts s : List LineToken) (m : ℕ) → finished ts ≡ Err (unexpected m) → next s ≡ next ts → finished s ≡ Err (unexpected (length s))
unfolding finished
finished_again [] s m h same = absurd cc
finished_again (t ∷ ts) [] m h same = absurd cc
finished_again (t ∷ ts) (u ∷ s) m h same = refl

finished_none : finished [] ≡ Ok (tt, [])
unfolding finished
finished_none = refl

finished_stable : Stable finished finished
finished_stable = record {
  reads = λ ts x r h.
      let w = finished_ok ts r x h in
      ([], w.0 ∙ sym w.1, λ s same. let e : s ≡ [] = no_tokens s (same ∙ ap next w.1) in subst (λ u. finished u ≡ Ok (x, u)) (sym e) finished_none);
  faults = λ ts m h. ([], ts, refl, finished_err ts m h, λ s same. finished_again ts s m h same);
}

-- a whole module is read
module_read : (n : ℕ) (d : ModuleD) (ts : List LineToken) → module_depth d ≤ n → module_spelt d ts ≡ Some [] → module_reader n ts ≡ Ok (module_raw d, [])
unfolding module_reader
module_read n d ts few h =
    let e : items n ts ≡ Ok (module_raw d, []) = (items_at n).comp d ts [] few h (none_next _) in
    rw (e, finished_none) refl

ok_same : {A : Type 0} (x y : A) (r s : List LineToken) → x ≡ y → r ≡ s → ◌≡◌ {A = Result (A × List LineToken) GrammarFault} (Ok (x, r)) (Ok (y, s))
ok_same x y r s h k = rw (h, k) refl

module_ok : (n : ℕ) (ts : List LineToken) (x : List RawItem) (r : List LineToken) → module_reader n ts ≡ Ok (x, r) → (items n ts ≡ Ok (x, [])) × (r ≡ [])
unfolding module_reader
module_ok n ts x r h =
    let a = bind_ok ((items n & finished) ts) (λ v. Ok (v.0.0, v.1)) (x, r) h in
    let b = bind_ok (items n ts) (λ v. finished v.1 >>= λ y. Ok ((v.0, y.0), y.1)) a.0 a.1 in
    let c = bind_ok (finished b.0.1) (λ y. Ok ((b.0.0, y.0), y.1)) a.0 b.2 in
    let f = finished_ok b.0.1 c.0.1 c.0.0 c.1 in
    let same = ok_parts a.0.0.0 x a.0.1 r a.2 in
    let inner_same = ok_parts (b.0.0, c.0.0) a.0.0 c.0.1 a.0.1 c.2 in
    let value : b.0.0 ≡ x = ap (λ v. v.0) inner_same.1 ∙ same.1 in
    let end : r ≡ [] = sym same.0 ∙ sym inner_same.0 ∙ f.1 in
    (b.1 ∙ ok_same b.0.0 x b.0.1 [] value f.0, end)

pub is_read : (n : ℕ) (ts : List LineToken) (x : List RawItem) → Says n ts x → reading n ts ≡ Ok x
unfolding reading
is_read n ts x a = bound (module_reader n ts) (λ v. Ok v.0) (module_raw a.by, []) (Ok x) (module_read n a.by ts a.shallow a.spelt) (ap Ok a.says)

pub was_read : (n : ℕ) (ts : List LineToken) (x : List RawItem) → reading n ts ≡ Ok x → Says n ts x
unfolding reading
was_read n ts x h =
    let a = bind_ok (module_reader n ts) (λ v. Ok v.0) x h in
    let b = module_ok n ts a.0.0 a.0.1 a.1 in
    let d = (items_at n).whole ts a.0.0 [] b.0 in
    let same : a.0.0 ≡ x = cc in
    record { by = d.0; spelt = d.1; says = d.2 ∙ same; shallow = d.3 }

pub one_module : (n : ℕ) (ts : List LineToken) (x y : List RawItem) → Says n ts x → Says n ts y → x ≡ y
one_module n ts x y a b = let one = is_read n ts x a in let other = is_read n ts y b in cc

module_stable : (less more : ℕ) → less ≤ more → Stable (module_reader less) (module_reader more)
unfolding module_reader
module_stable less more h =
    then_stable (items less & finished) (items more & finished) (λ x ts. Ok (x.0, ts)) (λ x ts. Ok (x.0, ts))
    (then_stable (items less) (items more) (λ x ts. finished ts >>= λ y. Ok ((x, y.0), y.1)) (λ x ts. finished ts >>= λ y. Ok ((x, y.0), y.1)) (items_reads (more - less) less more (omega (arith, h))).stable
    (λ x. then_stable finished finished (λ y ts. Ok ((x, y), ts)) (λ y ts. Ok ((x, y), ts)) finished_stable (λ y. ok_stable (x, y))))
    (λ x. ok_stable x.0)

reading_err : (n : ℕ) (ts : List LineToken) (m : ℕ) → reading n ts ≡ Err (unexpected m) → module_reader n ts ≡ Err (unexpected m)
unfolding reading
reading_err n ts m h = elim (bind_err (module_reader n ts) (λ v. Ok v.0) (unexpected m) h) [ inl w ↦ w | inr w ↦ absurd cc ]

no_module : (most : ℕ) (ts : List LineToken) (m : ℕ) → module_reader most ts ≡ Err (unexpected m) → (b r : List LineToken) → ts ≡ b ++ r → length r ≡ m → (d : ModuleD) (s : List LineToken) → next s ≡ next r → module_spelt d (b ++ s) ≡ Some [] → ⊥
no_module most ts m h b r split len d s nexts spelt =
    let deeper : ℕ = max most (module_depth d) in
    let st = (module_stable most deeper (omega arith)).faults ts m h in
    let same = same_split st.0 st.1 b r (sym st.2 ∙ split) (st.3 ∙ sym len) in
    let bad : module_reader deeper (b ++ s) ≡ Err (unexpected (length s)) = subst (λ k. module_reader deeper (k ++ s) ≡ Err (unexpected (length s))) same.0 (st.4 s (nexts ∙ ap next (sym same.1))) in
    let good : module_reader deeper (b ++ s) ≡ Ok (module_raw d, []) = module_read deeper d (b ++ s) (omega arith) spelt in
    absurd cc

stops_at : (most : ℕ) (ts : List LineToken) (m : ℕ) → module_reader most ts ≡ Err (unexpected m) → (b r : List LineToken) → ts ≡ b ++ r → length r ≡ m → Stops b r
stops_at most ts m h b [] split len = λ t. no_module most ts m h b [] split len t.by [] refl (subst (λ k. module_spelt t.by k ≡ Some []) (sym (append-nil b)) t.spelt)
stops_at most ts m h b (t ∷ r) split len = λ c. no_module most ts m h b (t ∷ r) split len c.whole.by (t ∷ c.more) refl (subst (λ k. module_spelt c.whole.by k ≡ Some []) (append_assoc b (t ∷ []) c.more) c.whole.spelt)

begun_continues : (ts : List LineToken) (m : ℕ) (d : Begun module_part ts m) → Continues d.before
begun_continues ts m d = record { more = d.more; whole = record { by = d.by; spelt = subst (λ k. module_spelt d.by (d.before ++ k) ≡ Some []) (append-nil d.more) (d.spells [] tt) } }

-- where the reader stops, and what stands before it continues
abbrev Place : List LineToken → ℕ → Type 0
Place ts m = (b : List LineToken) × (r : List LineToken) × (ts ≡ b ++ r) × (length r ≡ m) × Continues b

module_begun : (n : ℕ) (ts : List LineToken) (m : ℕ) → module_reader n ts ≡ Err (unexpected m) → Place ts m
unfolding module_reader
module_begun n ts m h = elim (bind_err ((items n & finished) ts) (λ v. Ok (v.0.0, v.1)) (unexpected m) h) [
  | inl w ↦ elim (bind_err (items n ts) (λ v. finished v.1 >>= λ y. Ok ((v.0, y.0), y.1)) (unexpected m) w) [
    | inl v ↦ let d = (items_at n).begun ts m v in (d.before, d.rest, d.split, d.left, begun_continues ts m d)
    | inr one ↦ elim (bind_err (finished one.0.1) (λ y. Ok ((one.0.0, y.0), y.1)) (unexpected m) one.2) [
      | inl u ↦
          let d = (items_at n).whole ts one.0.0 one.0.1 one.1 in
          let f = (items_at n).free d.0 d.3 ts one.0.1 d.1 in
          (f.0, one.0.1, f.1, finished_err one.0.1 m u, record { more = []; whole = record { by = d.0; spelt = f.2 [] (inr tt) } })
      | inr u ↦ absurd cc
    ]
  ]
  | inr w ↦ absurd cc
]

pub stands_first : (most : ℕ) (ts : List LineToken) (m : ℕ) → reading most ts ≡ Err (unexpected m) → FirstUnexpected ts m
stands_first most ts m h =
    let k = reading_err most ts m h in
    let g = module_begun most ts m k in
    record { before = g.0; after = g.1; split = g.2; left = g.3; begins = g.4; stops = stops_at most ts m k g.0 g.1 g.2 g.3 }

-- one place alone is a first fault: where the text continues past a place it doesn't stop there
cons_same : (t u : LineToken) (b c : List LineToken) → t ≡ u → b ≡ c → t ∷ b ≡ u ∷ c
cons_same t u b c h k = cc

later : (b r b' r' : List LineToken) → b ++ r ≡ b' ++ r' → length r' ≤ length r → (w : List LineToken) × (b' ≡ b ++ w) × (r ≡ w ++ r')
later [] r b' r' h len = (b', refl, h)
later (t ∷ b) r [] r' h len = absurd (omega (arith, len, ap length h, length-append b r))
later (t ∷ b) r (u ∷ b') r' h len =
    let first : t ≡ u = cc in
    let rest : b ++ r ≡ b' ++ r' = cc in
    let w = later b r b' r' rest len in
    (w.0, cons_same u t b' (b ++ w.0) (sym first) w.1, w.2)

not_past : (b r w r' : List LineToken) → r ≡ w ++ r' → Stops b r → Continues (b ++ w) → length r ≡ length r'
not_past b r [] r' is stops go = ap length is
not_past b [] (t ∷ w) r' is stops go = absurd cc
not_past b (u ∷ r) (t ∷ w) r' is stops go =
    let same : t ≡ u = cc in
    let other : Continues ((b ++ (t ∷ [])) ++ w) = subst Continues (sym (append_assoc b (t ∷ []) w)) go in
    absurd (stops (record { more = w ++ other.more; whole = subst IsModule (append_assoc (b ++ (u ∷ [])) w other.more) (subst (λ v. IsModule (((b ++ (v ∷ [])) ++ w) ++ other.more)) same other.whole) }))

no_earlier : (ts : List LineToken) (n m : ℕ) → FirstUnexpected ts n → FirstUnexpected ts m → m ≤ n → n ≡ m
no_earlier ts n m a b less =
    let w = later a.before a.after b.before b.after (sym a.split ∙ b.split) (omega (arith, a.left, b.left, less)) in
    let same = not_past a.before a.after w.0 b.after w.2 a.stops (subst Continues w.1 b.begins) in
    sym a.left ∙ same ∙ b.left

pub one_place : (ts : List LineToken) (n m : ℕ) → FirstUnexpected ts n → FirstUnexpected ts m → n ≡ m
one_place ts n m a b = elim (cases_lt n m) [
  | inl w ↦ sym (no_earlier ts m n b a (omega (arith, w)))
  | inr w ↦ no_earlier ts n m a b w
]

finished_shallow : (ts : List LineToken) (m : ℕ) → finished ts ≡ Err (too_deep m) → ⊥
unfolding finished
finished_shallow [] m h = absurd cc
finished_shallow (t ∷ ts) m h = absurd cc

items_deep : (n : ℕ) (ts : List LineToken) (m : ℕ) → module_reader n ts ≡ Err (too_deep m) → items n ts ≡ Err (too_deep m)
unfolding module_reader
items_deep n ts m h = elim (bind_err ((items n & finished) ts) (λ v. Ok (v.0.0, v.1)) (too_deep m) h) [
  | inl w ↦ elim (bind_err (items n ts) (λ v. finished v.1 >>= λ y. Ok ((v.0, y.0), y.1)) (too_deep m) w) [
    | inl v ↦ v
    | inr one ↦ elim (bind_err (finished one.0.1) (λ y. Ok ((one.0.0, y.0), y.1)) (too_deep m) one.2) [ inl u ↦ absurd (finished_shallow one.0.1 m u) | inr u ↦ absurd cc ]
  ]
  | inr w ↦ absurd cc
]

reading_deep : (n : ℕ) (ts : List LineToken) (m : ℕ) → reading n ts ≡ Err (too_deep m) → module_reader n ts ≡ Err (too_deep m)
unfolding reading
reading_deep n ts m h = elim (bind_err (module_reader n ts) (λ v. Ok v.0) (too_deep m) h) [ inl w ↦ w | inr w ↦ absurd cc ]

not_shallow : (most : ℕ) (d : ModuleD) (ts : List LineToken) → ((x : List RawItem) (q : List LineToken) → items most ts ≡ Ok (x, q) → ⊥) → module_spelt d ts ≡ Some [] → most < module_depth d
not_shallow most d ts never h = elim (cases_lt most (module_depth d)) [
  | inl w ↦ w
  | inr w ↦ absurd (never (module_raw d) [] ((items_at most).comp d ts [] w h (none_next _)))
]

pub sinks_there : (most : ℕ) (ts : List LineToken) (m : ℕ) → reading most ts ≡ Err (too_deep m) → TooDeepAt most ts m
sinks_there most ts m h =
    let d = (items_at most).sunk ts m (items_deep most ts m (reading_deep most ts m h)) in
    record {
      before = d.before;
      at = d.at;
      after = d.rest;
      split = d.split;
      left = d.left;
      begins = record { more = d.more; whole = record { by = d.by; spelt = subst (λ k. module_spelt d.by k ≡ Some []) (ap (λ k. d.before ++ (d.at ∷ k)) (append-nil d.more) ∙ sym (append_assoc d.before (d.at ∷ []) d.more)) (d.spells [] tt) } };
      deep = λ e more is. not_shallow most e (d.before ++ (d.at ∷ more)) (d.never more) is;
    }

-- what is too deep stands before what is unexpected
pub sinks_first : (most : ℕ) (ts : List LineToken) (n m : ℕ) → TooDeepAt most ts m → FirstUnexpected ts n → n < m
sinks_first most ts n m a b = elim (cases_lt n (length a.after)) [
  | inl w ↦ omega (arith, a.left, w)
  | inr w ↦
      let split : b.before ++ b.after ≡ (a.before ++ (a.at ∷ [])) ++ a.after = sym b.split ∙ a.split ∙ sym (append_assoc a.before (a.at ∷ []) a.after) in
      let k = later b.before b.after (a.before ++ (a.at ∷ [])) a.after split (omega (arith, b.left, w)) in
      let same = not_past b.before b.after k.0 a.after k.2 b.stops (subst Continues k.1 a.begins) in
      omega (arith, same, b.left, a.left)
]
