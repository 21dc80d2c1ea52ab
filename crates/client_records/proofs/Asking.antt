-- What an Ask makes of what is kept.
use Rattle.std.proofs.Common.{◌≡◌, ℕ, Bool, true, false, List, [], ◌∷◌, length, refl, ap, sym, ◌∙◌, arith}
use Rattle.std.specs.Prelude.{◌||◌, Option, Some, None, is_none, is_some, drop, if◌then◌else◌, option_and_then}
use Rattle.std.specs.Cmp.Lexicographic.{slice_cmp}
use Rattle.std.specs.List.Sorted.{IsStrictlySortedBy}
use Rattle.std.specs.Ordering.{nat_cmp}
use Rattle.std.proofs.lemmas.Bool.{false≢true}
use Rattle.std.proofs.lemmas.Map.Keys.{sorted_tail}
use Rattle.std.proofs.Math.Path.{subst}
use Rattle.hmr_types.specs.declared.analysis.TextFault.{TextFault}
use Rattle.core_model.specs.Names.{Name, same_name, has, at, without, names_of, sorted, first_of}
use Rattle.core_model.specs.Page.{Plan}
use Rattle.core_model.specs.Sources.{Sources}
use Rattle.core_model.specs.View.{View, changed_of}
use Rattle.core_model.specs.Spread.{reason_of, replaced_of, pairs_of}
use Rattle.core_model.specs.Client.{Client, dropped, first_notice, with_name, same_number}
use Rattle.core_model.specs.Asking.{AskRow, ask_row, asked, row_plan, row_notice, row_loaded, row_dropped, row_held, row_reason, row_replaced}
use Rattle.core_model.specs.Requests.{ask, ask_reply, heard}
use Rattle.core_model.proofs.Naming.{same_true, true_same}
use Rattle.core_model.proofs.Tables.{at_without, named}
use Rattle.module_graph.proofs.Sorting.{same_rising, rising_is_sorted}
use Rattle.client_queue.specs.Queue.{Queue, is_marked}
use Rattle.client_records.specs.Asked.{notice_reply}
use Rattle.client_records.specs.Record.{Kept, IsRecord}
use Rattle.client_records.specs.Steps.{next_row}
use Rattle.client_records.proofs.Invalidating.{no_plan}

abbrev Rows : Type 0
Rows = List (Name × TextFault)

abbrev IsRising : List Name → Type 0
IsRising = IsStrictlySortedBy (slice_cmp nat_cmp)

names_same : (told kept : Rows) → ((m : Name) → at kept m ≡ at told m) → (n : Name) → has (names_of kept) n ≡ has (names_of told) n
names_same told kept h n = sym (named kept n) ∙ ap is_some (h n) ∙ named told n

first_step : (told kept : Rows) → ((m : Name) → at kept m ≡ at told m) → option_and_then (λ n. with_name n (at told n)) (first_of (names_of kept)) ≡ first_of kept
first_step told [] h = refl
first_step told (row ∷ rest) h = ap (with_name row.0) (sym (h row.0) ∙ ap (λ b. if b then Some row.1 else at rest row.0) (true_same row.0 row.0 refl))

-- the notice of the least name is the first that is kept
pub first_is : (told kept : Rows) → ((m : Name) → at kept m ≡ at told m) → IsRising (names_of kept) → option_and_then (λ n. with_name n (at told n)) (first_of (sorted (names_of told))) ≡ first_of kept
first_is told kept h s = ap (λ l. option_and_then (λ n. with_name n (at told n)) (first_of l)) (sym (rising_is_sorted (names_of kept) (names_of told) s (names_same told kept h))) ∙ first_step told kept h

-- what there is to do, by what the client has
abbrev pub row_by : Sources → Bool → Option ℕ → List Name → View → List Name → List Name → AskRow
row_by s loaded held dropped view roots forced = row_loaded loaded (same_number held s.served_no) (row_dropped dropped (row_held (same_number held s.served_no)
    (row_reason (reason_of view roots (changed_of s.served view) forced) (row_replaced (replaced_of view (changed_of s.served view) forced) (pairs_of view (replaced_of view (changed_of s.served view) forced) forced)))))

next_is : (s : Sources) (c : Client) (k : Kept) → IsRecord s c k → next_row s k ≡ row_by s c.page.loaded c.held_at (dropped c) c.page.view c.roots c.page.forced
next_is s c k h = ap (λ x. row_by s x k.queue.held k.dropped k.view k.roots k.queue.forced) h.loaded
    ∙ ap (λ x. row_by s c.page.loaded x k.dropped k.view k.roots k.queue.forced) h.held
    ∙ ap (λ x. row_by s c.page.loaded c.held_at x k.view k.roots k.queue.forced) h.dropped
    ∙ ap (λ x. row_by s c.page.loaded c.held_at (dropped c) x k.roots k.queue.forced) h.view
    ∙ ap (λ x. row_by s c.page.loaded c.held_at (dropped c) c.page.view x k.queue.forced) h.roots
    ∙ ap (λ x. row_by s c.page.loaded c.held_at (dropped c) c.page.view c.roots x) h.forced

-- the row of the table, by what is kept
pub ask_row_is : (s : Sources) (c : Client) (k : Kept) → IsRecord s c k → is_some k.plan ≡ false → IsRising (names_of k.queue.notices) → ask_row s c ≡ row_notice (first_of k.queue.notices) (next_row s k)
ask_row_is s c k h p r =
    ap (λ (o : Option Plan). row_plan o (row_notice (first_notice c) (row_by s c.page.loaded c.held_at (dropped c) c.page.view c.roots c.page.forced))) (no_plan c.page.plan k.plan h.plan p)
    ∙ ap (λ o. row_notice o (row_by s c.page.loaded c.held_at (dropped c) c.page.view c.roots c.page.forced)) (first_is c.notices k.queue.notices h.notices r)
    ∙ ap (row_notice (first_of k.queue.notices)) (sym (next_is s c k h))

grows : (n : Name) (names : List Name) → n ∷ names ≡ names → ⊥
grows n names e = omega (arith, ap length e)

or_gone : (b c : Bool) → (b ≡ true → c ≡ true) → (if b then true else c) ≡ c
or_gone true c f = sym (f refl)
or_gone false c f = refl

-- the first name isn't behind itself
head_gone : (n : Name) (names : List Name) → IsRising (n ∷ names) → has names n ≡ false
head_gone n names s = go (has names n) refl
  where
    go : (b : Bool) → has names n ≡ b → b ≡ false
    go false e = refl
    go true e = absurd (grows n names (same_rising (n ∷ names) names s (sorted_tail (slice_cmp nat_cmp) n names s) (λ m. behind m (same_name n m) refl)))
      where
        behind : (m : Name) (b : Bool) → same_name n m ≡ b → has (n ∷ names) m ≡ has names m
        behind m true g = ap (λ b. b || has names m) g ∙ sym (ap (has names) (sym (same_true n m g)) ∙ e)
        behind m false g = ap (λ b. b || has names m) g

none_step : (o : Option TextFault) → is_some o ≡ false → o ≡ None
none_step None h = refl
none_step (Some f) h = absurd (false≢true (sym h))

rest_at : (row : Name × TextFault) (rest told : Rows) → ((m : Name) → at (row ∷ rest) m ≡ at told m) → IsRising (row.0 ∷ names_of rest) → (m : Name) → at rest m ≡ at (without row.0 told) m
rest_at row rest told h s m = go (same_name row.0 m) refl ∙ sym (at_without row.0 told m)
  where
    go : (b : Bool) → same_name row.0 m ≡ b → at rest m ≡ (if same_name row.0 m then None else at told m)
    go true e = ap (at rest) (sym (same_true row.0 m e)) ∙ none_step (at rest row.0) (named rest row.0 ∙ head_gone row.0 (names_of rest) s) ∙ sym (ap (λ b. if b then None else at told m) e)
    go false e = sym (ap (λ b. if b then Some row.1 else at rest m) e) ∙ h m ∙ sym (ap (λ b. if b then None else at told m) e)

-- the first notice is told, and is no more
pub tell_stands : (i : ℕ) (s : Sources) (c : Client) (k : Kept) (x : Name × TextFault) (q : Queue) → IsRecord s c k → is_some k.plan ≡ false → IsRising (names_of k.queue.notices) → Some x ≡ first_of k.queue.notices
    → q ≡ record k.queue { notices = drop 1 k.queue.notices; spare = q.spare } → IsRecord s (heard i s c ask).0 (record k { queue = q })
tell_stands i s c k x q h p r f e = go k.queue.notices refl
  where
    go : (rows : Rows) → k.queue.notices ≡ rows → IsRecord s (asked (ask_row s c) s c) (record k { queue = q })
    go [] is = absurd (false≢true (sym (ap is_some (f ∙ ap first_of is))))
    go (row ∷ rest) is = subst (λ a. IsRecord s (asked a s c) (record k { queue = q })) (sym (ask_row_is s c k h p r ∙ ap (λ l. row_notice (first_of l) (next_row s k)) is)) (record {
      roots = h.roots;
      batches = h.batches;
      loaded = h.loaded;
      view = h.view;
      forced = ap (λ (p : Queue). p.forced) e ∙ h.forced;
      plan = h.plan;
      plan_at = h.plan_at;
      held = ap (λ (p : Queue). p.held) e ∙ h.held;
      notices = λ m. ap (λ (p : Queue). at p.notices m) e ∙ ap (λ (l : Rows). at (drop 1 l) m) is ∙ rest_at row rest c.notices (λ j. ap (λ (l : Rows). at l j) (sym is) ∙ h.notices j) (subst (λ (l : Rows). IsRising (names_of l)) is r) m;
      dropped = h.dropped;
      marks = λ m. ap (λ (p : Queue). is_marked p m) e ∙ h.marks m;
    })

-- and it is the reply
pub tell_answers : (i : ℕ) (s : Sources) (c : Client) (k : Kept) (x : Name × TextFault) → IsRecord s c k → is_some k.plan ≡ false → IsRising (names_of k.queue.notices) → Some x ≡ first_of k.queue.notices → notice_reply x ≡ (heard i s c ask).1
tell_answers i s c k x h p r f = ap (λ o. ask_reply i s (asked (row_notice o (next_row s k)) s c) (row_notice o (next_row s k))) f ∙ ap (λ a. ask_reply i s (asked a s c) a) (sym (ask_row_is s c k h p r))

quiet_rows : (rows : Rows) → None ≡ first_of rows → rows ≡ []
quiet_rows [] e = refl
quiet_rows (row ∷ rows) e = absurd (false≢true (ap is_some e))

-- where no notice waits, none is taken
pub quiet_stands : (s : Sources) (c : Client) (k : Kept) (q : Queue) → IsRecord s c k → None ≡ first_of k.queue.notices → q ≡ record k.queue { notices = drop 1 k.queue.notices; spare = q.spare } → IsRecord s c (record k { queue = q })
quiet_stands s c k q h f e = record {
  roots = h.roots;
  batches = h.batches;
  loaded = h.loaded;
  view = h.view;
  forced = ap (λ (p : Queue). p.forced) e ∙ h.forced;
  plan = h.plan;
  plan_at = h.plan_at;
  held = ap (λ (p : Queue). p.held) e ∙ h.held;
  notices = λ m. ap (λ (p : Queue). at p.notices m) e ∙ ap (λ (l : Rows). at (drop 1 l) m) (quiet_rows k.queue.notices f) ∙ sym (ap (λ (l : Rows). at l m) (quiet_rows k.queue.notices f)) ∙ h.notices m;
  dropped = h.dropped;
  marks = λ m. ap (λ (p : Queue). is_marked p m) e ∙ h.marks m;
}

-- and the row is that of the page
pub quiet_row : (s : Sources) (c : Client) (k : Kept) (q : Queue) → IsRecord s c k → is_some k.plan ≡ false → IsRising (names_of k.queue.notices) → None ≡ first_of k.queue.notices
    → q ≡ record k.queue { notices = drop 1 k.queue.notices; spare = q.spare } → ask_row s c ≡ next_row s (record k { queue = q })
quiet_row s c k q h p r f e = ask_row_is s c k h p r ∙ ap (λ o. row_notice o (next_row s k)) (sym f)
    ∙ next_is s c k h ∙ sym (next_is s c (record k { queue = q }) (quiet_stands s c k q h f e))

-- where no plan is kept, there is none
pub idle_none : (o : Option Plan) → is_none o ≡ true → is_some o ≡ false
idle_none None h = refl
idle_none (Some p) h = absurd (false≢true h)
