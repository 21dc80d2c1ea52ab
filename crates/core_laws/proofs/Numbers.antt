-- Client numbers: each stands once among the records, and was given.
use Rattle.std.proofs.Common.{◌≡◌, ℕ, zero, suc, ◌+◌, ◌≤◌, Bool, true, false, List, [], ◌∷◌, ◌++◌, length, refl, ap, sym, ◌∙◌, arith}
use Rattle.std.specs.Prelude.{filter, cond, not, ◌==◌, Option, Some, None, is_some, option_map, if◌then◌else◌}
use Rattle.std.proofs.lemmas.Bool.{false≢true, eqb-true, eq-eqb}
use Rattle.std.proofs.lemmas.List.Filters.{length-filter_both}
use Rattle.std.proofs.lemmas.List.{length-append}
use Rattle.std.proofs.lemmas.List.Elements.{filter-append}
use Rattle.core_model.specs.Names.{Name}
use Rattle.core_model.specs.Client.{Client, new_client}
use Rattle.core_model.specs.Requests.{Request, heard}
use Rattle.core_model.specs.Roots.{are_bad, roots_or}
use Rattle.core_model.specs.Core.{Core, Event, change, connect, request, disconnect, client_at, without_client, with_client, each_client, told_of, is_full, if_room, connected, requested, disconnected, step, core_after}
use Rattle.core_model.proofs.Clients.{at_without, at_with, at_each}
use Rattle.core_laws.specs.Isolated.{records_of, AreNumbered}

abbrev is_above_zero : ℕ → Bool
is_above_zero zero = false
is_above_zero (suc k) = true

one_at_least : (k : ℕ) → is_above_zero k ≡ true → 1 ≤ k
one_at_least zero h = absurd (false≢true h)
one_at_least (suc k) h = omega arith

none_at_all : (k : ℕ) → is_above_zero k ≡ false → k ≡ 0
none_at_all zero h = refl
none_at_all (suc k) h = absurd (false≢true (sym h))

ap_le : {j k : ℕ} {m : ℕ} → j ≡ k → j ≤ m → k ≤ m
ap_le {j} {k} {m} e l = omega (arith, e, l)

module _ {X : Type 0} where
  counted_step : (b : Bool) (row : ℕ × X) (found : List (ℕ × X)) (o : Option X) → is_some o ≡ is_above_zero (length found) → is_some (if b then Some row.1 else o) ≡ is_above_zero (length (cond b (row ∷ found) found))
  counted_step true row found o h = refl
  counted_step false row found o h = h

  -- a client is there where some record stands under its number
  pub counted : (i : ℕ) (rows : List (ℕ × X)) → is_some (client_at rows i) ≡ is_above_zero (records_of i rows)
  counted i [] = refl
  counted i (row ∷ rows) = counted_step (row.0 == i) row (filter (λ r. r.0 == i) rows) (client_at rows i) (counted i rows)

  pub there_once : (i : ℕ) (rows : List (ℕ × X)) → records_of i rows ≤ 1 → is_some (client_at rows i) ≡ true → records_of i rows ≡ 1
  there_once i rows l h = omega (arith, l, one_at_least (records_of i rows) (sym (counted i rows) ∙ h))

  pub absent_never : (i : ℕ) (rows : List (ℕ × X)) → is_some (client_at rows i) ≡ false → records_of i rows ≡ 0
  absent_never i rows h = none_at_all (records_of i rows) (sym (counted i rows) ∙ h)

  -- the records are those under the number, and the others
  pub records_and_others : (i : ℕ) (rows : List (ℕ × X)) → records_of i rows + length (without_client i rows) ≡ length rows
  records_and_others i rows = length-filter_both (λ row. row.0 == i) (λ row. not (row.0 == i)) (λ row. refl) rows

  fewer_step : (p : ℕ × X → Bool) (row : ℕ × X) (b c : Bool) (kept all : List (ℕ × X)) → p row ≡ c → length (filter p kept) ≤ length (filter p all) → length (filter p (cond b (row ∷ kept) kept)) ≤ length (cond c (row ∷ filter p all) (filter p all))
  fewer_step p row true true kept all e l = ap_le (sym (ap (λ d. length (cond d (row ∷ filter p kept) (filter p kept))) e)) (omega (arith, l))
  fewer_step p row true false kept all e l = ap_le (sym (ap (λ d. length (cond d (row ∷ filter p kept) (filter p kept))) e)) l
  fewer_step p row false true kept all e l = omega (arith, l)
  fewer_step p row false false kept all e l = l

  fewer : (p q : ℕ × X → Bool) (rows : List (ℕ × X)) → length (filter p (filter q rows)) ≤ length (filter p rows)
  fewer p q [] = omega arith
  fewer p q (row ∷ rows) = fewer_step p row (q row) (p row) (filter q rows) rows refl (fewer p q rows)

  pub records_without : (i j : ℕ) (rows : List (ℕ × X)) → records_of j (without_client i rows) ≤ records_of j rows
  records_without i j rows = fewer (λ row. row.0 == j) (λ row. not (row.0 == i)) rows

  none_left : (b : Bool) (o : Option X) → b ≡ true → is_some (if b then None else o) ≡ false
  none_left true o e = refl
  none_left false o e = absurd (false≢true e)

  pub none_without : (i : ℕ) (rows : List (ℕ × X)) → records_of i (without_client i rows) ≡ 0
  none_without i rows = absent_never i (without_client i rows) (ap is_some (at_without i rows i) ∙ none_left (i == i) (client_at rows i) (eq-eqb i i refl))

  head_counts : (b : Bool) (x y : ℕ × X) (found more : List (ℕ × X)) → length found ≡ length more → length (cond b (x ∷ found) found) ≡ length (cond b (y ∷ more) more)
  head_counts true x y found more e = ap suc e
  head_counts false x y found more e = e

  placed : (same : Bool) (i j : ℕ) (x : X) (row : ℕ × X) (rows rest : List (ℕ × X)) → (row.0 == i) ≡ same → (same ≡ false → records_of j rest ≡ records_of j rows) → records_of j (if same then (i, x) ∷ rows else row ∷ rest) ≡ records_of j (row ∷ rows)
  placed true i j x row rows rest e h = ap (λ k. records_of j ((k, x) ∷ rows)) (sym (eqb-true row.0 i e)) ∙ head_counts (row.0 == j) (row.0, x) row _ _ refl
  placed false i j x row rows rest e h = head_counts (row.0 == j) row row _ _ (h refl)

  there_later : (b : Bool) (x : X) (o : Option X) → b ≡ false → is_some (if b then Some x else o) ≡ is_some o
  there_later true x o e = absurd (false≢true (sym e))
  there_later false x o e = refl

  -- with a record in place of the number's own there are as many under each number
  pub records_with : (i j : ℕ) (x : X) (rows : List (ℕ × X)) → is_some (client_at rows i) ≡ true → records_of j (with_client i x rows) ≡ records_of j rows
  records_with i j x [] h = absurd (false≢true h)
  records_with i j x (row ∷ rows) h = placed (row.0 == i) i j x row rows (with_client i x rows) refl (λ e. records_with i j x rows (sym (there_later (row.0 == i) row.1 (client_at rows i) e) ∙ h))

  appended : (same : Bool) (i : ℕ) (x : X) (row : ℕ × X) (rows : List (ℕ × X)) → (row.0 == i) ≡ same → is_some (if same then Some row.1 else client_at rows i) ≡ false → (is_some (client_at rows i) ≡ false → with_client i x rows ≡ rows ++ (i, x) ∷ []) → (if same then (i, x) ∷ rows else row ∷ with_client i x rows) ≡ row ∷ (rows ++ (i, x) ∷ [])
  appended true i x row rows e h f = absurd (false≢true (sym h))
  appended false i x row rows e h f = ap (λ rest. row ∷ rest) (f h)

  -- a new number comes last
  pub with_new : (i : ℕ) (x : X) (rows : List (ℕ × X)) → is_some (client_at rows i) ≡ false → with_client i x rows ≡ rows ++ (i, x) ∷ []
  with_new i x [] h = refl
  with_new i x (row ∷ rows) h = appended (row.0 == i) i x row rows refl h (with_new i x rows)

  last_counts : (i j : ℕ) (x : X) (found : List (ℕ × X)) (b : Bool) → (i == j) ≡ b → (i ≡ j → length found ≡ 0) → length found ≤ 1 → length (found ++ cond b ((i, x) ∷ []) []) ≤ 1
  last_counts i j x found true e f l = omega (arith, length-append found ((i, x) ∷ []), f (eqb-true i j e))
  last_counts i j x found false e f l = omega (arith, length-append found [], l)

  once_by : (i : ℕ) (x : X) (rows : List (ℕ × X)) → ((j : ℕ) → records_of j rows ≤ 1) → (b : Bool) → is_some (client_at rows i) ≡ b → (j : ℕ) → records_of j (with_client i x rows) ≤ 1
  once_by i x rows once true h j = omega (arith, records_with i j x rows h, once j)
  once_by i x rows once false h j = ap_le (sym (ap (records_of j) (with_new i x rows h) ∙ ap length (filter-append (λ row. row.0 == j) rows ((i, x) ∷ []))))
      (last_counts i j x (filter (λ row. row.0 == j) rows) (i == j) refl (λ e. ap (λ k. records_of k rows) (sym e) ∙ absent_never i rows h) (once j))

  pub once_with : (i : ℕ) (x : X) (rows : List (ℕ × X)) → ((j : ℕ) → records_of j rows ≤ 1) → (j : ℕ) → records_of j (with_client i x rows) ≤ 1
  once_with i x rows once = once_by i x rows once (is_some (client_at rows i)) refl

  each_step : (f : X → X) (row : ℕ × X) (b : Bool) (found more : List (ℕ × X)) → length found ≡ length more → length (cond b ((row.0, f row.1) ∷ found) found) ≡ length (cond b (row ∷ more) more)
  each_step f row true found more e = ap suc e
  each_step f row false found more e = e

  pub records_each : (f : X → X) (j : ℕ) (rows : List (ℕ × X)) → records_of j (each_client f rows) ≡ records_of j rows
  records_each f j [] = refl
  records_each f j (row ∷ rows) = each_step f row (row.0 == j) _ _ (records_each f j rows)

  length_placed : (same : Bool) (i : ℕ) (x : X) (row : ℕ × X) (rows rest : List (ℕ × X)) → (same ≡ false → length rest ≡ length rows) → length (if same then (i, x) ∷ rows else row ∷ rest) ≡ suc (length rows)
  length_placed true i x row rows rest h = refl
  length_placed false i x row rows rest h = ap suc (h refl)

  -- with a record in place of the number's own there are as many
  pub length_with : (i : ℕ) (x : X) (rows : List (ℕ × X)) → is_some (client_at rows i) ≡ true → length (with_client i x rows) ≡ length rows
  length_with i x [] h = absurd (false≢true h)
  length_with i x (row ∷ rows) h = length_placed (row.0 == i) i x row rows (with_client i x rows) (λ e. length_with i x rows (sym (there_later (row.0 == i) row.1 (client_at rows i) e) ∙ h))

  -- with a record under a new number there is one more
  pub length_new : (i : ℕ) (x : X) (rows : List (ℕ × X)) → is_some (client_at rows i) ≡ false → length (with_client i x rows) ≡ suc (length rows)
  length_new i x rows h = ap length (with_new i x rows h) ∙ omega (arith, length-append rows ((i, x) ∷ []))

  -- without a record there is one fewer
  pub length_without : (i : ℕ) (rows : List (ℕ × X)) → records_of i rows ≤ 1 → is_some (client_at rows i) ≡ true → suc (length (without_client i rows)) ≡ length rows
  length_without i rows l h = omega (arith, there_once i rows l h, records_and_others i rows)

-- Each event keeps that the records are numbered.

low_if : (given i j : ℕ) (b : Bool) (c : Client) (o : Option Client) → (i == j) ≡ b → i ≤ given → (is_some o ≡ true → j ≤ given) → is_some (if b then Some c else o) ≡ true → j ≤ given
low_if given i j true c o e l f h = omega (arith, eqb-true i j e, l)
low_if given i j false c o e l f h = f h

low_else : (given j : ℕ) (b : Bool) (o : Option Client) → (is_some o ≡ true → j ≤ given) → is_some (if b then None else o) ≡ true → j ≤ given
low_else given j true o f h = absurd (false≢true h)
low_else given j false o f h = f h

pub map_there : {X : Type 0} (f : X → X) (o : Option X) → is_some (option_map f o) ≡ is_some o
map_there f None = refl
map_there f (Some x) = refl

room_numbered : (full : Bool) (names : List Name) (core : Core) → AreNumbered core → AreNumbered (if_room full names core).0
room_numbered true names core n = n
room_numbered false names core n = record {
  once = once_with (core.given + 1) (new_client names core.sources.served_no) core.clients n.once;
  given = λ j h. low_if (core.given + 1) (core.given + 1) j (core.given + 1 == j) (new_client names core.sources.served_no) (client_at core.clients j) refl (omega arith) (λ t. omega (arith, n.given j t)) (sym (ap is_some (at_with (core.given + 1) (new_client names core.sources.served_no) core.clients j)) ∙ h);
}

connect_numbered : (bad : Bool) (names : List Name) (core : Core) → AreNumbered core → AreNumbered (connected bad names core).0
connect_numbered true names core n = n
connect_numbered false names core n = room_numbered (is_full core) names core n

request_numbered : (o : Option Client) (i : ℕ) (core : Core) (r : Request) → client_at core.clients i ≡ o → AreNumbered core → AreNumbered (requested o i core r).0
request_numbered None i core r e n = n
request_numbered (Some c) i core r e n = record {
  once = once_with i (heard i core.sources c r).0 core.clients n.once;
  given = λ j h. low_if core.given i j (i == j) (heard i core.sources c r).0 (client_at core.clients j) refl (n.given i (ap is_some e)) (n.given j) (sym (ap is_some (at_with i (heard i core.sources c r).0 core.clients j)) ∙ h);
}

disconnect_numbered : (o : Option Client) (i : ℕ) (core : Core) → AreNumbered core → AreNumbered (disconnected o i core).0
disconnect_numbered None i core n = n
disconnect_numbered (Some c) i core n = record {
  once = λ j. omega (arith, records_without i j core.clients, n.once j);
  given = λ j h. low_else core.given j (i == j) (client_at core.clients j) (n.given j) (sym (ap is_some (at_without i core.clients j)) ∙ h);
}

pub step_numbered : (roots : List Name) (core : Core) (event : Event) → AreNumbered core → AreNumbered (step roots core event).0
step_numbered roots core (change ch) n = record {
  once = λ j. omega (arith, records_each (told_of core.sources ch) j core.clients, n.once j);
  given = λ j h. n.given j (sym (ap is_some (at_each (told_of core.sources ch) core.clients j) ∙ map_there (told_of core.sources ch) (client_at core.clients j)) ∙ h);
}
step_numbered roots core (connect names) n = connect_numbered (are_bad names) (roots_or names roots) core n
step_numbered roots core (request i r) n = request_numbered (client_at core.clients i) i core r refl n
step_numbered roots core (disconnect i) n = disconnect_numbered (client_at core.clients i) i core n

pub numbered : (roots : List Name) (past : List Event) → AreNumbered (core_after roots past)
numbered roots [] = record { once = λ i. omega arith; given = λ i h. absurd (false≢true h) }
numbered roots (event ∷ past) = step_numbered roots (core_after roots past) event (numbered roots past)

-- the next number isn't a client's
pub next_absent : (core : Core) → AreNumbered core → is_some (client_at core.clients (core.given + 1)) ≡ false
next_absent core n = by_test (is_some (client_at core.clients (core.given + 1))) (n.given (core.given + 1))
  where
    by_test : (b : Bool) → (b ≡ true → core.given + 1 ≤ core.given) → b ≡ false
    by_test true f = absurd (omega (arith, f refl))
    by_test false f = refl
