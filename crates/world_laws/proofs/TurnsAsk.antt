-- A turn with no plan under way lowers the debt: each row of an Ask, and an Invalidate.
use Rattle.std.proofs.Common.{◌≡◌, ℕ, ◌+◌, ◌<◌, ◌≤◌, Bool, true, false, List, [], ◌∷◌, ◌++◌, length, refl, ap, sym, ◌∙◌, arith}
use Rattle.std.specs.Prelude.{◌==◌, ◌&&◌, Option, Some, None, if◌then◌else◌}
use Rattle.std.specs.List.{list_all}
use Prim.{⊥}
use Rattle.std.proofs.lemmas.Bool.{false≢true, eq-eqb}
use Rattle.std.proofs.lemmas.List.{length-map}
use Rattle.hmr_types.specs.declared.analysis.TextFault.{TextFault}
use Rattle.update_msgs.specs.declared.message.ClientMsg.TheVariants as told
use Rattle.core_model.specs.Names.{Name, has, at, without_all, names_of}
use Rattle.core_model.specs.Sources.{Text, Sources}
use Rattle.core_model.specs.View.{View, self_accepts, changed_of, dropped_of}
use Rattle.core_model.specs.Page.{Page}
use Rattle.core_model.specs.Client.{Client, changed, dropped, reason, replaced, pairs, is_held, first_notice}
use Rattle.core_model.specs.Asking.{AskRow, prune, row_replaced, row_reason, row_held, row_dropped, row_loaded, row_notice, asked}
use Rattle.core_model.specs.Requests.{ask_reply, is_at_version, invalidated, invalidate_reply}
use Rattle.core_laws.proofs.Times.{changed_in}
use Rattle.client_model.specs.Language.{Language, Bag}
use Rattle.client_model.specs.Instance.{Instance}
use Rattle.client_model.specs.Runtime.{Runtime, Cause, Invalidation}
use Rattle.client_model.specs.Requesting.{ask_or_invalidate}
use Rattle.world_model.specs.CaughtUp.{IsCaughtUp, is_empty, wants_nothing, unstaged, plan_turns, debt_between, debt}
use Rattle.world_laws.proofs.TurnsTaken.{heard_by, done_by}
use Rattle.world_laws.proofs.TurnsPages.{nothing_changed, nothing_forced, first_from, none_waits, none_dropped, none_wanted}
use Rattle.world_laws.proofs.TurnsCounted.{all_pass, without_less, at_most_all, if_false, no_length}

not_loaded : (l w : Bool) → l ≡ false → (l && true && w) ≡ false
not_loaded true w e = absurd (false≢true (sym e))
not_loaded false w e = refl

not_idle : (l w : Bool) → w ≡ false → (l && true && w) ≡ false
not_idle true w e = e
not_idle false w e = refl

not_sent : (l w : Bool) → (l && false && w) ≡ false
not_sent true w = refl
not_sent false w = refl

wanting : (names forced : List Name) → ((names ≡ []) × (forced ≡ []) → ⊥) → list_all (has []) (names ++ forced) ≡ false
wanting [] [] f = absurd (f (refl, refl))
wanting [] (n ∷ forced) f = refl
wanting (n ∷ names) forced f = refl

no_higher : (l sent before after : Bool) (n : ℕ) → sent ≡ true → (before ≡ true → after ≡ true) → (if l && sent && after then 0 else n) ≤ (if l && true && before then 0 else n)
no_higher false sent before after n e f = omega arith
no_higher true true true true n e f = omega arith
no_higher true true true false n e f = absurd (false≢true (f refl))
no_higher true true false after n e f = at_most_all after n
no_higher true false before after n e f = absurd (false≢true e)

module _ (language : Language) (s : Sources) (format : ℕ) (named : List Name) (i : ℕ) (roots : List Name) (batches : ℕ) (loaded : Bool) (view : View) (forced : List Name) (texts : List (Name × Text)) (pairs_told : List (Name × Name)) (instances : List Instance) (bags : List (Name × Bag)) (shelf : List (Text × ℕ)) (stopped : Bool) (plan_at : ℕ) (held_at : Option ℕ) (notices : List (Name × TextFault)) where
  abbrev page : Page
  page = record { loaded = loaded; view = view; forced = forced; plan = None }

  abbrev rt : Option Cause → List Invalidation → Runtime
  rt cause unsent = record { format = format; named = named; client = i; roots = roots; page = page; texts = texts; pairs = pairs_told; cause = cause; instances = instances; bags = bags; unsent = unsent; shelf = shelf; stopped = stopped }

  abbrev cl : Client
  cl = record { roots = roots; batches = batches; page = page; plan_at = plan_at; held_at = held_at; notices = notices }

  abbrev before : ℕ
  before = (0 + length notices) + (if is_empty (dropped cl) then 0 else 1) + (if loaded && true && wants_nothing s cl then 0 else plan_turns s)

  -- what the row leaves is below what was before
  abbrev AskLess : Option Cause → AskRow → Type 0
  AskLess cause row = length (done_by language told.Ask (ask_reply i s (asked row s cl) row) (rt cause [])).unsent ≤ 0 → debt s (asked row s cl) (done_by language told.Ask (ask_reply i s (asked row s cl) row) (rt cause [])) < before

  -- a plan begins
  begun_less : (loaded && true && wants_nothing s cl) ≡ false → (length notices + 1) + (2 + length (unstaged s.served [])) + (if s.served_no == s.served_no then 0 else plan_turns s) < before
  begun_less e =
      let all : length (unstaged s.served []) ≡ length (names_of s.served) = ap length (all_pass (names_of s.served)) in
      let named : length (names_of s.served) ≡ length s.served = length-map s.served (λ row. row.0) in
      let now : ◌≡◌ {A = ℕ} (if s.served_no == s.served_no then 0 else plan_turns s) 0 = ap (λ b. if b then 0 else plan_turns s) (eq-eqb s.served_no s.served_no refl) in
      let full : ◌≡◌ {A = ℕ} (if loaded && true && wants_nothing s cl then 0 else plan_turns s) (plan_turns s) = if_false (loaded && true && wants_nothing s cl) 0 (plan_turns s) e in
      omega (arith, all, named, now, full)

  prune_less : (cause : Option Cause) (d : Name) (ds : List Name) → dropped cl ≡ d ∷ ds → AskLess cause (prune (d ∷ ds))
  prune_less cause d ds e calm =
      let left : Runtime = done_by language told.Ask (ask_reply i s (asked (prune (d ∷ ds)) s cl) (prune (d ∷ ds))) (rt cause []) in
      let one : ◌≡◌ {A = ℕ} (if is_empty (dropped cl) then 0 else 1) 1 = ap (λ (l : List Name). if is_empty l then 0 else 1) e in
      let none : ◌≡◌ {A = ℕ} (if is_empty (dropped_of (without_all (d ∷ ds) view) roots) then 0 else 1) 0 = ap (λ (l : List Name). if is_empty l then 0 else 1) (none_dropped view roots forced (d ∷ ds) e) in
      let rest : (if loaded && is_empty (done_by language told.Ask (ask_reply i s (asked (prune (d ∷ ds)) s cl) (prune (d ∷ ds))) (rt cause [])).unsent && wants_nothing s (asked (prune (d ∷ ds)) s cl) then 0 else plan_turns s) ≤ (if loaded && true && wants_nothing s cl then 0 else plan_turns s)
      = no_higher loaded (is_empty left.unsent) (wants_nothing s cl) (wants_nothing s (asked (prune (d ∷ ds)) s cl)) (plan_turns s) (no_length left.unsent calm)
      (λ h. none_wanted view roots forced (d ∷ ds) e s.served (ap (λ l. list_all (has l) (changed_of s.served view ++ forced)) (sym e) ∙ h)) in
      omega (arith, calm, one, none, rest)

  -- a client that isn't caught up and has nothing dropped wants something
  something_wanted : (cause : Option Cause) → loaded ≡ true → dropped cl ≡ [] → first_notice cl ≡ None → (IsCaughtUp s cl (rt cause []) → ⊥) → wants_nothing s cl ≡ false
  something_wanted cause l d waits behind = ap (λ ds. list_all (has ds) (changed s cl ++ forced)) d ∙ wanting (changed s cl) forced (λ h. behind (record { loaded = l; idle = refl; unchanged = h.0; unforced = h.1; whole = d; told = none_waits notices waits; sent = refl }))

  -- the row that an Ask meets
  row_less : (cause : Option Cause) (notice : Option (Name × TextFault)) (is_loaded held : Bool) (ds : List Name) (why : Option (List Name)) (ns : List Name) (ps : List (Name × Name))
      → first_notice cl ≡ notice → loaded ≡ is_loaded → (held ≡ true → ⊥) → dropped cl ≡ ds → reason s cl ≡ why → replaced s cl ≡ ns → pairs s cl ≡ ps
      → ((n : Name) → has forced n ≡ true → self_accepts view n ≡ true) → (IsCaughtUp s cl (rt cause []) → ⊥)
      → AskLess cause (row_notice notice (row_loaded is_loaded held (row_dropped ds (row_held held (row_reason why (row_replaced ns ps))))))
  row_less cause (Some notice) is_loaded held ds why ns ps waits l h d w r p accepting behind calm = omega (arith, without_less notice.0 notices (first_from notices _ notice.0 notice.1 waits))
  row_less cause None false true ds why ns ps waits l h d w r p accepting behind calm = absurd (h refl)
  row_less cause None false false ds why ns ps waits l h d w r p accepting behind calm = begun_less (not_loaded loaded (wants_nothing s cl) l)
  row_less cause None true held (x ∷ xs) why ns ps waits l h d w r p accepting behind calm = prune_less cause x xs d calm
  row_less cause None true true [] why ns ps waits l h d w r p accepting behind calm = absurd (h refl)
  row_less cause None true false [] (Some path) ns ps waits l h d w r p accepting behind calm = begun_less (not_idle loaded (wants_nothing s cl) (something_wanted cause l d waits behind))
  row_less cause None true false [] None (n ∷ ns) ps waits l h d w r p accepting behind calm = begun_less (not_idle loaded (wants_nothing s cl) (something_wanted cause l d waits behind))
  row_less cause None true false [] None [] (pair ∷ ps) waits l h d w r p accepting behind calm = begun_less (not_idle loaded (wants_nothing s cl) (something_wanted cause l d waits behind))
  row_less cause None true false [] None [] [] waits l h d w r p accepting behind calm = absurd (behind (record {
    loaded = l;
    idle = refl;
    unchanged = nothing_changed view roots (changed s cl) forced (changed_in s.served view) accepting d w r p;
    unforced = nothing_forced view roots (changed s cl) forced (changed_in s.served view) accepting d w r p;
    whole = d;
    told = none_waits notices waits;
    sent = refl;
  }))

  -- an Invalidate
  invalidate_less : (cause : Option Cause) (n : Name) (v : ℕ) (message : Text) (more : List Invalidation) (there : Bool)
      → debt s (invalidated there n cl) (done_by language (told.Invalidate n v message) (invalidate_reply there) (rt cause (record { name = n; version = v; message = message } ∷ more))) < debt_between s cl (rt cause (record { name = n; version = v; message = message } ∷ more))
  invalidate_less cause n v message more true =
      let full : ◌≡◌ {A = ℕ} (if loaded && false && wants_nothing s cl then 0 else plan_turns s) (plan_turns s) = if_false (loaded && false && wants_nothing s cl) 0 (plan_turns s) (not_sent loaded (wants_nothing s cl)) in
      let rest : (if loaded && is_empty more && wants_nothing s (invalidated true n cl) then 0 else plan_turns s) ≤ plan_turns s = at_most_all (loaded && is_empty more && wants_nothing s (invalidated true n cl)) (plan_turns s) in
      omega (arith, full, rest)
  invalidate_less cause n v message more false =
      let full : ◌≡◌ {A = ℕ} (if loaded && false && wants_nothing s cl then 0 else plan_turns s) (plan_turns s) = if_false (loaded && false && wants_nothing s cl) 0 (plan_turns s) (not_sent loaded (wants_nothing s cl)) in
      let rest : (if loaded && is_empty more && wants_nothing s cl then 0 else plan_turns s) ≤ plan_turns s = at_most_all (loaded && is_empty more && wants_nothing s cl) (plan_turns s) in
      omega (arith, full, rest)

  -- a turn with no plan under way
  pub none_less : (cause : Option Cause) (unsent : List Invalidation) → (is_held s cl ≡ true → ⊥) → ((n : Name) → has forced n ≡ true → self_accepts view n ≡ true) → (IsCaughtUp s cl (rt cause unsent) → ⊥)
      → length (done_by language (ask_or_invalidate unsent) (heard_by (ask_or_invalidate unsent) i s cl).1 (rt cause unsent)).unsent ≤ length unsent
      → debt s (heard_by (ask_or_invalidate unsent) i s cl).0 (done_by language (ask_or_invalidate unsent) (heard_by (ask_or_invalidate unsent) i s cl).1 (rt cause unsent)) < debt_between s cl (rt cause unsent)
  none_less cause [] h accepting behind calm = row_less cause (first_notice cl) loaded (is_held s cl) (dropped cl) (reason s cl) (replaced s cl) (pairs s cl) refl refl h refl refl refl refl accepting behind calm
  none_less cause (k ∷ more) h accepting behind calm = invalidate_less cause k.name k.version k.message more (is_at_version (at view k.name) k.version)
