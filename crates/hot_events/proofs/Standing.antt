-- What the rows stand for after each kind of call.
use Rattle.std.proofs.Common.{◌≡◌, ℕ, Bool, true, false, List, [], ◌∷◌, refl, sym, ap, ◌∙◌}
use Rattle.hmr_types.specs.declared.value.Value.{Value}
use Rattle.hot_events.specs.Calls.{Call, StandsFor, emits, enters, first, full, is_present, leaves, present, takes, waiting, without_number}
use Rattle.hot_events.specs.Rows.{Row, added_to_each, first_in, full_in, rows_without, taken_from, with_row}
use Rattle.hot_events.proofs.Rows.{AreOnce, added_all, first_is, full_are, is_gone, less_once, more_once, none_taken, one_less, one_more, one_taken, rows, rows_same}
use Rattle.hot_events.proofs.Counts.{emitted_waits, entered_waits, others_enter, others_take, taken_waits}

pub stands_enters : (past : List Call) (i : ℕ) (rs : List Row) → StandsFor past rs → StandsFor (enters i ∷ past) (with_row (i, []) (rows_without i rs))
stands_enters past i rs h =
    let w = waiting past in
    let v = waiting (enters i ∷ past) in
    let js = without_number i (present past) in
    ap (λ l. with_row (i, []) (rows_without i l)) h
    ∙ (ap (with_row (i, [])) (one_less w v i (present past) (others_enter past i))
    ∙ (ap (λ es. with_row (i, es) (rows v js)) (sym (entered_waits past i)) ∙ one_more v i js))

pub stands_leaves : (past : List Call) (i : ℕ) (rs : List Row) → StandsFor past rs → StandsFor (leaves i ∷ past) (rows_without i rs)
stands_leaves past i rs h = ap (rows_without i) h ∙ one_less (waiting past) (waiting past) i (present past) (λ j other. refl)

pub stands_emits : (past : List Call) (n : List ℕ) (v : Value) (rs : List Row) → StandsFor past rs → StandsFor (emits n v ∷ past) (added_to_each (n, v) rs)
stands_emits past n v rs h =
    ap (added_to_each (n, v)) h
    ∙ added_all (waiting past) (waiting (emits n v ∷ past)) (n, v) (present past) (present past) (λ k m. m) (emitted_waits past n v)

present_once : (past : List Call) → AreOnce (present past)
present_once [] = tt
present_once (enters i ∷ past) = more_once i (without_number i (present past)) (is_gone i (present past)) (less_once i (present past) (present_once past))
present_once (leaves i ∷ past) = less_once i (present past) (present_once past)
present_once (emits n v ∷ past) = present_once past
present_once (takes i ∷ past) = present_once past

takes_by : (past : List Call) (i : ℕ) (t : Bool) → is_present past i ≡ t → taken_from i (rows (waiting past) (present past)) ≡ rows (waiting (takes i ∷ past)) (present past)
takes_by past i true there = one_taken (waiting past) (waiting (takes i ∷ past)) i (present past) (present_once past) (others_take past i) (taken_waits past i there)
takes_by past i false gone = none_taken (waiting past) i (present past) gone ∙ rows_same (waiting past) (waiting (takes i ∷ past)) i (present past) gone (others_take past i)

pub stands_takes : (past : List Call) (i : ℕ) (rs : List Row) → StandsFor past rs → StandsFor (takes i ∷ past) (taken_from i rs)
stands_takes past i rs h = ap (taken_from i) h ∙ takes_by past i (is_present past i) refl

pub first_stands : (past : List Call) (i : ℕ) (rs : List Row) → StandsFor past rs → first_in i rs ≡ first past i
first_stands past i rs h = ap (first_in i) h ∙ first_is (waiting past) i (present past)

pub full_stands : (past : List Call) (rs : List Row) → StandsFor past rs → full_in rs ≡ full past
full_stands past rs h = ap full_in h ∙ full_are (waiting past) (present past)
