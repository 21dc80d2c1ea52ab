-- What came to a client, what it took and what waits, after each kind of call.
use Rattle.std.proofs.Common.{◌≡◌, ◌≤◌, ℕ, suc, ◌+◌, ◌-◌, ◌==◌, Bool, true, false, cond, List, [], ◌∷◌, ◌++◌, drop, take, length, get_or, refl, sym, ap, ◌∙◌, arith}
use Rattle.std.specs.Prelude.{◌&&◌, nat_le, nat_lt, None}
use Rattle.std.proofs.lemmas.Bool.Decides.{nat_tests}
use Rattle.std.proofs.lemmas.List.{drop-append-le, drop-drop, drop_all, drop_more, length-append, length-drop, take-append-le, take_more}
use Rattle.hmr_types.specs.declared.value.Value.{Value}
use Rattle.hmr_types.specs.declared.value.Value.TheVariants.{Undef}
use Rattle.hot_events.specs.Calls.{Call, Event, and_then, came, emits, enters, first_of, given, heard, is_present, leaves, taken, takes, waiting}
use Rattle.hot_events.specs.Rows.{added_to}
use Rattle.hot_events.proofs.Rows.{turned}

enters_within : (t : Bool) (n : ℕ) (es : List Event) → n ≤ length es → cond t 0 n ≤ length (cond t [] es)
enters_within true n es h = omega arith
enters_within false n es h = h

emits_within : (t : Bool) (n : ℕ) (es : List Event) (e : Event) → n ≤ length es → n ≤ length (cond t (es ++ e ∷ []) es)
emits_within true n es e h = omega (arith, h, length-append es (e ∷ []))
emits_within false n es e h = h

takes_within : (b t : Bool) (n m : ℕ) → nat_lt n m ≡ t → n ≤ m → cond (b && t) (n + 1) n ≤ m
takes_within true true n m e h = grind (arith, nat_tests, e)
takes_within true false n m e h = h
takes_within false true n m e h = h
takes_within false false n m e h = h

-- no more was taken than came
pub taken_within : (past : List Call) (i : ℕ) → taken past i ≤ length (came past i)
taken_within [] i = omega arith
taken_within (enters j ∷ past) i = enters_within (j == i) (taken past i) (came past i) (taken_within past i)
taken_within (leaves j ∷ past) i = taken_within past i
taken_within (emits n v ∷ past) i = emits_within (is_present past i && nat_lt (length (came past i) - taken past i) 1024) (taken past i) (came past i) (n, v) (taken_within past i)
taken_within (takes j ∷ past) i = takes_within ((j == i) && is_present past i) (nat_lt (taken past i) (length (came past i))) (taken past i) (length (came past i)) refl (taken_within past i)

-- a client that comes
pub entered_waits : (past : List Call) (i : ℕ) → waiting (enters i ∷ past) i ≡ []
entered_waits past i = let same : (i == i) ≡ true = grind (arith, nat_tests) in rw same refl

pub others_enter : (past : List Call) (i j : ℕ) → (j == i) ≡ false → waiting past j ≡ waiting (enters i ∷ past) j
others_enter past i j other = let away = turned i j other in rw away refl

-- an event that is emitted
emit_at : (t : ℕ) (es : List Event) (e : Event) (b : Bool) → t ≤ length es → nat_lt (length es - t) 1024 ≡ b → drop t (cond b (es ++ e ∷ []) es) ≡ added_to e (drop t es)
emit_at t es e true h k =
    let few : nat_le 1024 (length (drop t es)) ≡ false = let l = length-drop t es in grind (arith, nat_tests, l, k) in
    rw few (drop-append-le t es (e ∷ []) h)
emit_at t es e false h k =
    let many : nat_le 1024 (length (drop t es)) ≡ true = let l = length-drop t es in grind (arith, nat_tests, l, k) in
    rw many refl

pub emitted_waits : (past : List Call) (n : List ℕ) (v : Value) (i : ℕ) → is_present past i ≡ true → added_to (n, v) (waiting past i) ≡ waiting (emits n v ∷ past) i
emitted_waits past n v i there =
    let few = nat_lt (length (came past i) - taken past i) 1024 in
    sym (emit_at (taken past i) (came past i) (n, v) few (taken_within past i) refl)
    ∙ ap (λ p. drop (taken past i) (cond (p && few) (came past i ++ (n, v) ∷ []) (came past i))) (sym there)

-- a client that takes the first event
take_at : (t : ℕ) (es : List Event) (b : Bool) → nat_lt t (length es) ≡ b → drop 1 (drop t es) ≡ drop (cond b (t + 1) t) es
take_at t es true e = drop-drop 1 t es
take_at t es false e =
    let none = drop_all t es (grind (arith, nat_tests, e)) in
    ap (drop 1) none ∙ sym none

pub taken_waits : (past : List Call) (i : ℕ) → is_present past i ≡ true → drop 1 (waiting past i) ≡ waiting (takes i ∷ past) i
taken_waits past i there =
    let more = nat_lt (taken past i) (length (came past i)) in
    let same : ((i == i) && is_present past i) ≡ true = rw there (grind (arith, nat_tests)) in
    take_at (taken past i) (came past i) more refl
    ∙ ap (λ p. drop (cond (p && more) (taken past i + 1) (taken past i)) (came past i)) (sym same)

pub others_take : (past : List Call) (i j : ℕ) → (j == i) ≡ false → waiting past j ≡ waiting (takes i ∷ past) j
others_take past i j other = let away = turned i j other in rw away refl

pub none_takes : (past : List Call) (i : ℕ) → is_present past i ≡ false → waiting past i ≡ waiting (takes i ∷ past) i
none_takes past i gone = let same : (i == i) ≡ true = grind (arith, nat_tests) in rw (same, gone) refl

-- what was given is what was heard
given_enter : (t : Bool) (g es : List Event) (n : ℕ) → g ≡ take n es → cond t [] g ≡ take (cond t 0 n) (cond t [] es)
given_enter true g es n h = refl
given_enter false g es n h = h

given_emit : (b : Bool) (g es : List Event) (n : ℕ) (e : Event) → n ≤ length es → g ≡ take n es → g ≡ take n (cond b (es ++ e ∷ []) es)
given_emit true g es n e within h = h ∙ sym (take-append-le n es (e ∷ []) within)
given_emit false g es n e within h = h

no_event : Event
no_event = ([], Undef)

given_first : (g es : List Event) (n : ℕ) (b : Bool) → nat_lt n (length es) ≡ b → g ≡ take n es → and_then g (first_of (drop n es)) ≡ take (cond b (n + 1) n) es
given_first g es n true e h =
    let within : suc n ≤ length es = grind (arith, nat_tests, e) in
    ap (λ l. and_then g (first_of l)) (drop_more es n no_event within)
    ∙ (ap (λ l. l ++ get_or es n no_event ∷ []) h ∙ sym (take_more es n no_event within))
given_first g es n false e h = ap (λ l. and_then g (first_of l)) (drop_all n es (grind (arith, nat_tests, e))) ∙ h

given_take : (t p b : Bool) (g es : List Event) (n : ℕ) → nat_lt n (length es) ≡ b → g ≡ take n es
    → cond t (and_then g (cond p (first_of (drop n es)) None)) g ≡ take (cond ((t && p) && b) (n + 1) n) es
given_take true true b g es n e h = given_first g es n b e h
given_take true false b g es n e h = h
given_take false p b g es n e h = h

pub given_heard : (past : List Call) (i : ℕ) → given past i ≡ heard past i
given_heard [] i = refl
given_heard (enters j ∷ past) i = given_enter (j == i) (given past i) (came past i) (taken past i) (given_heard past i)
given_heard (leaves j ∷ past) i = given_heard past i
given_heard (emits n v ∷ past) i = given_emit (is_present past i && nat_lt (length (came past i) - taken past i) 1024) (given past i) (came past i) (taken past i) (n, v) (taken_within past i) (given_heard past i)
given_heard (takes j ∷ past) i = given_take (j == i) (is_present past i) (nat_lt (taken past i) (length (came past i))) (given past i) (came past i) (taken past i) refl (given_heard past i)
