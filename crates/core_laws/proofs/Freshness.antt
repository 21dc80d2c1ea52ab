-- A page that is up to date is a fresh load.
use Rattle.std.proofs.Common.{◌≡◌, ℕ, Bool, true, false, List, [], ◌∷◌, refl, ap, sym, ◌∙◌}
use Rattle.std.specs.Prelude.{filter, not, cond, Option, Some, None, is_some, if◌then◌else◌}
use Rattle.std.proofs.lemmas.Bool.{false≢true}
use Rattle.hmr_types.specs.declared.analysis.Analysis.{Analysis}
use Rattle.core_model.specs.Names.{Name, same_name, has, at, names_of, rising}
use Rattle.core_model.specs.Paths.{Reaches}
use Rattle.core_model.specs.Rounds.{reached_of}
use Rattle.core_model.specs.Sources.{Sources, Serving}
use Rattle.core_model.specs.FreshLoad as fresh
use Rattle.core_model.specs.FreshLoad.{imports_in, reached_by, version_in, fresh_table}
use Rattle.core_model.specs.View.{View, Entry, is_in, imports_of, imports, changed_of, table_of}
use Rattle.core_model.specs.Client.{Client}
use Rattle.core_model.proofs.Naming.{true_same, or_left, or_right}
use Rattle.core_model.proofs.Reaching.{reaches_within, reaches_on, reaches_start}
use Rattle.core_model.proofs.Rising.{sorted_rises, collect_rises}
use Rattle.core_model.proofs.Tables.{named}
use Rattle.core_model.proofs.Views.{importer_named}
use Rattle.core_model.proofs.Loading.{reached_is, at_fresh}
use Rattle.core_laws.specs.Given.{entry_of, IsGiven}
use Rattle.core_laws.specs.Facts.{IsServed, ClientFacts}
use Rattle.core_laws.specs.Fresh.{IsUpToDate, IsFreshLoad}
use Rattle.core_laws.proofs.Looking.{rising_same}
use Rattle.core_laws.proofs.Times.{unchanged_served}
use Rattle.core_laws.proofs.Requesting.{undropped_reached}

pub names_kept : (view : View) → names_of (table_of view) ≡ names_of view
names_kept [] = refl
names_kept (row ∷ rows) = ap (λ names. row.0 ∷ names) (names_kept rows)

abbrev pub version_of : Option Entry → Option ℕ
version_of None = None
version_of (Some e) = Some e.version

table_step : (b : Bool) (e : Entry) (o : Option Entry) (p : Option ℕ) → p ≡ version_of o → (if b then Some e.version else p) ≡ version_of (if b then Some e else o)
table_step true e o p h = refl
table_step false e o p h = h

pub at_table : (view : View) (n : Name) → at (table_of view) n ≡ version_of (at view n)
at_table [] n = refl
at_table (row ∷ rows) n = table_step (same_name row.0 n) row.1 (at rows n) (at (table_of rows) n) (at_table rows n)

filter_none : (p : Name → Bool) (names : List Name) → ((n : Name) → has names n ≡ true → p n ≡ false) → filter p names ≡ []
filter_none p [] f = refl
filter_none p (n ∷ names) f = ap (λ b. cond b (n ∷ filter p names) (filter p names)) (f n (or_left (same_name n n) (has names n) (true_same n n refl))) ∙ filter_none p names (λ m h. f m (or_right (same_name n m) (has names m) h))

served_imports : (o : Option Serving) (m : Name) → has (imports_in o) m ≡ has (imports_of (entry_of o)) m
served_imports None m = refl
served_imports (Some s) m = refl

served_there : (o : Option Serving) → is_some o ≡ is_some (entry_of o)
served_there None = refl
served_there (Some s) = refl

served_version : (o : Option Serving) → version_in o ≡ version_of (entry_of o)
served_version None = refl
served_version (Some s) = refl

served_eq : (o : Option Entry) (s : Option Serving) → IsServed o s → is_some o ≡ true → entry_of s ≡ o
served_eq None s i h = absurd (false≢true h)
served_eq (Some e) s i h = i

entry_go : (v s : Option Entry) (r : Bool) → (is_some v ≡ true → r ≡ true) → (is_some v ≡ true → s ≡ v) → (r ≡ true → is_some v ≡ true) → v ≡ (if r then s else None)
entry_go None s false a b c = refl
entry_go None s true a b c = absurd (false≢true (c refl))
entry_go (Some e) s true a b c = sym (b refl)
entry_go (Some e) s false a b c = absurd (false≢true (a refl))

version_if : (r : Bool) (s : Option Serving) → version_of (if r then entry_of s else None) ≡ (if r then version_in s else None)
version_if true s = sym (served_version s)
version_if false s = refl

module _ (by : Name → ℕ → Option Analysis) (s : Sources) (c : Client) (all_given : (n : Name) → IsGiven (by n) (entry_of (at s.served n))) (facts : ClientFacts by s c) (up : IsUpToDate s c) where
  unchanged_at : (n : Name) → has (changed_of s.served c.page.view) n ≡ false
  unchanged_at n = ap (λ l. has l n) up.unchanged

  same_at : (n : Name) → is_in c.page.view n ≡ true → entry_of (at s.served n) ≡ at c.page.view n
  same_at n h = served_eq (at c.page.view n) (at s.served n) (unchanged_served s.served c.page.view by facts.viewed all_given n (unchanged_at n)) h

  same_imports : (n : Name) → is_in c.page.view n ≡ true → (m : Name) → fresh.imports s.served n m ≡ imports c.page.view n m
  same_imports n h m = served_imports (at s.served n) m ∙ ap (λ o. has (imports_of o) m) (same_at n h)

  -- the view has all that is reached
  view_has : (n : Name) → Reaches (fresh.imports s.served) c.roots n → is_in c.page.view n ≡ true
  view_has = reaches_within (fresh.imports s.served) c.roots (λ n. is_in c.page.view n ≡ true) (facts.closed up.loaded).begun
      (λ n m h e. (facts.closed up.loaded).on n m (sym (same_imports n h m) ∙ e))

  -- all of the view is reached
  fresh_has : (n : Name) → is_in c.page.view n ≡ true → Reaches (fresh.imports s.served) c.roots n
  fresh_has n h = reaches_within (imports c.page.view) c.roots (Reaches (fresh.imports s.served) c.roots) (reaches_start (fresh.imports s.served) c.roots)
      (λ k m r e. reaches_on (fresh.imports s.served) c.roots k m r (same_imports k (named c.page.view k ∙ importer_named c.page.view k m e) m ∙ e))
      n (undropped_reached c.page.view c.roots n h (ap (λ l. has l n) up.whole))

  entry_at : (n : Name) → at c.page.view n ≡ (if has (reached_by s.served c.roots) n then entry_of (at s.served n) else None)
  entry_at n = entry_go (at c.page.view n) (entry_of (at s.served n)) (has (reached_by s.served c.roots) n)
      (λ h. (reached_is s.served c.roots n).1 (fresh_has n h)) (same_at n) (λ h. view_has n ((reached_is s.served c.roots n).0 h))

  there_at : (n : Name) → has (reached_by s.served c.roots) n ≡ true → is_some (at s.served n) ≡ true
  there_at n h =
      let i : is_in c.page.view n ≡ true = view_has n ((reached_is s.served c.roots n).0 h) in
      served_there (at s.served n) ∙ ap is_some (same_at n i) ∙ i

  pub is_fresh : IsFreshLoad s c
  is_fresh = record {
    table = rising_same (table_of c.page.view) (fresh_table s.served c.roots) (ap rising (names_kept c.page.view) ∙ facts.rises)
        (collect_rises (λ n. version_in (at s.served n)) (reached_by s.served c.roots) (sorted_rises (reached_of (fresh.imports s.served) (fresh.imported_by_served s.served) c.roots)))
        (λ n. at_table c.page.view n ∙ ap version_of (entry_at n) ∙ version_if (has (reached_by s.served c.roots) n) (at s.served n) ∙ sym (at_fresh s.served c.roots n));
    entries = entry_at;
    nothing_missing = filter_none (λ n. not (is_some (at s.served n))) (reached_by s.served c.roots) (λ n h. ap not (there_at n h));
  }
