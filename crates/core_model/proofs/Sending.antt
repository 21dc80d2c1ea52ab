-- An Ask is answered by a full reload exactly where one is to be sent.
use Rattle.std.proofs.Common.{◌≡◌, ◌↔◌, Bool, true, false, List, [], ◌∷◌, ◌++◌, refl, ap, sym, ◌∙◌}
use Rattle.std.specs.Prelude.{Option, Some, None, is_some, IfSome, IfNone, option_and_then}
use Prim.{⊥}
use Rattle.std.proofs.Math.Path.{subst}
use Rattle.std.proofs.lemmas.Bool.{false≢true}
use Rattle.hmr_types.specs.declared.analysis.TextFault.{TextFault}
use Rattle.core_model.specs.Names.{Name, same_name, has, at, names_of, sorted, first_of}
use Rattle.core_model.specs.Sources.{Sources}
use Rattle.core_model.specs.View.{View}
use Rattle.core_model.specs.Spread.{passes, ends_badly, IsReason, IsReloadWanted}
use Rattle.core_model.specs.Page.{Plan}
use Rattle.core_model.specs.Client.{Client, is_held, changed, dropped, reason, replaced, pairs, with_name, first_notice}
use Rattle.core_model.specs.Asking.{AskRow, out_of_turn, tell, load, idle, prune, reload, update, row_replaced, row_reason, row_held, row_dropped, row_loaded, row_notice, row_plan, ask_row}
use Rattle.core_model.specs.Sent.{IsReloadSent}
use Rattle.core_model.proofs.Naming.{true_same, or_left, sorted_has, first_has}
use Rattle.core_model.proofs.Tables.{named}
use Rattle.core_model.proofs.LeastPaths.{one_least}
use Rattle.core_model.proofs.Spreading.{reason_is}

-- Notices.

none_there : (names : List Name) (m : Name) → first_of names ≡ None → has names m ≡ false
none_there [] m e = refl
none_there (n ∷ names) m e = absurd (false≢true (sym (ap is_some e)))

named_fault : (n : Name) (fault : Option TextFault) → is_some fault ≡ true → is_some (with_name n fault) ≡ true
named_fault n None h = h
named_fault n (Some f) h = refl

notice_by : (notices : List (Name × TextFault)) (o : Option Name) → first_of (sorted (names_of notices)) ≡ o → (m : Name) → has (names_of notices) m ≡ true → is_some (option_and_then (λ n. with_name n (at notices n)) o) ≡ true
notice_by notices None e m h = absurd (false≢true (sym (none_there (sorted (names_of notices)) m e) ∙ sorted_has (names_of notices) m ∙ h))
notice_by notices (Some n) e m h = named_fault n (at notices n) (named notices n ∙ sym (sorted_has (names_of notices) n) ∙ first_has (sorted (names_of notices)) n e)

some_notice : (row : Name × TextFault) (rows : List (Name × TextFault)) → is_some (option_and_then (λ n. with_name n (at (row ∷ rows) n)) (first_of (sorted (names_of (row ∷ rows))))) ≡ true
some_notice row rows = notice_by (row ∷ rows) (first_of (sorted (names_of (row ∷ rows)))) refl row.0 (or_left (same_name row.0 row.0) _ (true_same row.0 row.0 refl))

pub no_notice : (notices : List (Name × TextFault)) → option_and_then (λ n. with_name n (at notices n)) (first_of (sorted (names_of notices))) ≡ None → notices ≡ []
no_notice [] e = refl
no_notice (row ∷ rows) e = absurd (false≢true (sym (ap is_some e) ∙ some_notice row rows))

-- Rows.

abbrev is_reload : AskRow → Bool
is_reload out_of_turn = false
is_reload (tell n fault) = false
is_reload load = false
is_reload idle = false
is_reload (prune ns) = false
is_reload (reload path) = true
is_reload (update ns ps) = false

abbrev path_in : List Name → AskRow → List Name
path_in d out_of_turn = d
path_in d (tell n fault) = d
path_in d load = d
path_in d idle = d
path_in d (prune ns) = d
path_in d (reload path) = path
path_in d (update ns ps) = d

module _ (path : List Name) where
  other : (row : AskRow) → is_reload row ≡ false → row ≡ reload path → ⊥
  other row h e = false≢true (sym h ∙ ap is_reload e)

  by_plan : (q : Option Plan) (row : AskRow) → row_plan q row ≡ reload path → (q ≡ None) × (row ≡ reload path)
  by_plan None row e = (refl, e)
  by_plan (Some p) row e = absurd (other out_of_turn refl e)

  by_notice : (q : Option (Name × TextFault)) (row : AskRow) → row_notice q row ≡ reload path → (q ≡ None) × (row ≡ reload path)
  by_notice None row e = (refl, e)
  by_notice (Some notice) row e = absurd (other (tell notice.0 notice.1) refl e)

  by_loaded : (loaded held : Bool) (row : AskRow) → row_loaded loaded held row ≡ reload path → (loaded ≡ true) × (row ≡ reload path)
  by_loaded true held row e = (refl, e)
  by_loaded false true row e = absurd (other idle refl e)
  by_loaded false false row e = absurd (other load refl e)

  by_dropped : (ns : List Name) (row : AskRow) → row_dropped ns row ≡ reload path → (ns ≡ []) × (row ≡ reload path)
  by_dropped [] row e = (refl, e)
  by_dropped (n ∷ ns) row e = absurd (other (prune (n ∷ ns)) refl e)

  by_held : (held : Bool) (row : AskRow) → row_held held row ≡ reload path → (held ≡ false) × (row ≡ reload path)
  by_held true row e = absurd (other idle refl e)
  by_held false row e = (refl, e)

  by_replaced : (ns : List Name) (ps : List (Name × Name)) → row_replaced ns ps ≡ reload path → ⊥
  by_replaced [] [] e = other idle refl e
  by_replaced [] (p ∷ ps) e = other (update [] (p ∷ ps)) refl e
  by_replaced (n ∷ ns) ps e = other (update (n ∷ ns) ps) refl e

  by_reason : (q : Option (List Name)) (ns : List Name) (ps : List (Name × Name)) → row_reason q (row_replaced ns ps) ≡ reload path → q ≡ Some path
  by_reason None ns ps e = absurd (by_replaced ns ps e)
  by_reason (Some p) ns ps e = ap Some (ap (path_in p) e)

  -- a path that is the reason is the one that is computed
  computed : (view : View) (roots changed forced : List Name) → (q : Option (List Name)) → IfSome q (IsReason view roots changed forced) → IfNone q (IsReloadWanted view roots changed forced → ⊥) → IsReason view roots changed forced path → q ≡ Some path
  computed view roots changed forced None some none r = absurd (none (record { end = r.end; path = record { path = path; is = r.is }; badly = r.badly }))
  computed view roots changed forced (Some p) some none r = ap Some (one_least (passes view forced) (changed ++ forced) (ends_badly view roots forced) p path some r)

  pub reload_is : (s : Sources) (c : Client) → (ask_row s c ≡ reload path) ↔ IsReloadSent s c path
  reload_is s c = (
    (λ e.
        let plan = by_plan c.page.plan _ e in
        let notice = by_notice (first_notice c) _ plan.1 in
        let loaded = by_loaded c.page.loaded (is_held s c) _ notice.1 in
        let whole = by_dropped (dropped c) _ loaded.1 in
        let free = by_held (is_held s c) _ whole.1 in
        let why : reason s c ≡ Some path = by_reason (reason s c) (replaced s c) (pairs s c) free.1 in
        record {
          idle = plan.0;
          told = no_notice c.notices notice.0;
          loaded = loaded.0;
          whole = whole.0;
          free = free.0;
          reason = subst (λ q. IfSome q (IsReason c.page.view c.roots (changed s c) c.page.forced)) why (reason_is c.page.view c.roots (changed s c) c.page.forced).0;
        }),
    (λ h.
        let r = reason_is c.page.view c.roots (changed s c) c.page.forced in
        let why : reason s c ≡ Some path = computed c.page.view c.roots (changed s c) c.page.forced (reason s c) r.0 r.1 h.reason in
        let end : AskRow = row_replaced (replaced s c) (pairs s c) in
        let at_reason : row_reason (reason s c) end ≡ reload path = ap (λ q. row_reason q end) why in
        let at_held : row_held (is_held s c) (row_reason (reason s c) end) ≡ reload path = ap (λ b. row_held b (row_reason (reason s c) end)) h.free ∙ at_reason in
        let at_dropped : row_dropped (dropped c) (row_held (is_held s c) (row_reason (reason s c) end)) ≡ reload path = ap (λ ns. row_dropped ns (row_held (is_held s c) (row_reason (reason s c) end))) h.whole ∙ at_held in
        let rest : AskRow = row_dropped (dropped c) (row_held (is_held s c) (row_reason (reason s c) end)) in
        ap (λ q. row_plan q (row_notice (first_notice c) (row_loaded c.page.loaded (is_held s c) rest))) h.idle
        ∙ ap (λ notices. row_notice (option_and_then (λ n. with_name n (at notices n)) (first_of (sorted (names_of notices)))) (row_loaded c.page.loaded (is_held s c) rest)) h.told
        ∙ ap (λ b. row_loaded b (is_held s c) rest) h.loaded
        ∙ at_dropped),
  )
