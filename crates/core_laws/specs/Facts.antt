-- What every list of events leaves true of the sources and of each connected client.
use Rattle.std.specs.Prelude.{◌≡◌, ◌⊎◌, ℕ, ◌≤◌, ◌<◌, Bool, true, false, List, [], Contains, Option, Some}
use Rattle.std.specs.Prelude.{None, ⊤}
use Prim.{⊥}
use Rattle.hmr_types.specs.declared.analysis.Analysis.{Analysis}
use Rattle.hmr_types.specs.declared.words.PlanKind.{PlanKind}
use Rattle.hmr_types.specs.declared.words.PlanKind.TheVariants.{Load, Reload, Update}
use Rattle.core_model.specs.Names.{Name, has, at, names_of, rising}
use Rattle.core_model.specs.Sources.{Sources, Source, Serving, Verdict, outstanding, good, bad}
use Rattle.core_model.specs.FreshLoad.{Served}
use Rattle.core_model.specs.View.{View, Entry, is_in, imports, self_accepts, dropped_of}
use Rattle.core_model.specs.Spread.{passes}
use Rattle.core_model.specs.Page.{Plan}
use Rattle.core_model.specs.Client.{Client}
use Rattle.core_laws.specs.Given.{entry_of, IsGiven, AreGiven}

-- the view holds every root, and every import of each of its names
pub record IsClosed (roots : List Name) (view : View) : Type 0 where
  pub begun : (n : Name) → Contains roots n → is_in view n ≡ true
  pub on : (n m : Name) → imports view n m ≡ true → is_in view m ≡ true

-- the entry is what is served
abbrev pub IsServed : Option Entry → Option Serving → Type 0
IsServed None s = ⊤
IsServed (Some e) s = entry_of s ≡ Some e

-- from replaced and forced names a change passes on to replaced names alone
abbrev pub AreSpread : View → List Name → List Name → Type 0
AreSpread view forced replaced = (n m : Name) → (has replaced n ≡ true) ⊎ (has forced n ≡ true) →
    passes view forced n m ≡ true → has replaced m ≡ true

-- a reload or an update is of a loaded page of which nothing is dropped
pub record IsWholePage (roots : List Name) (loaded : Bool) (view : View) : Type 0 where
  pub is_loaded : loaded ≡ true
  pub whole : dropped_of view roots ≡ []

-- an update also replaces names of the view alone, and all that a change passes on to
pub record IsUpdate (roots : List Name) (loaded : Bool) (view : View)
    (forced replaced : List Name) : Type 0 where
  pub page : IsWholePage roots loaded view
  pub inside : (n : Name) → has replaced n ≡ true → is_in view n ≡ true
  pub spread : AreSpread view forced replaced

-- what holds of the page, by the kind of the plan under way
abbrev pub KindIs : PlanKind → List Name → Bool → View → List Name → List Name → Type 0
KindIs Load roots loaded view forced replaced = loaded ≡ false
KindIs Reload roots loaded view forced replaced = IsWholePage roots loaded view
KindIs Update roots loaded view forced replaced = IsUpdate roots loaded view forced replaced

-- what holds of the plan under way, if there is one
abbrev pub PlanIs : Option Plan → List Name → (Name → ℕ → Option Analysis) → Bool → View → List Name → Type 0
PlanIs None roots by loaded view forced = ⊤
PlanIs (Some p) roots by loaded view forced =
    KindIs p.kind roots loaded view forced p.replaced × AreGiven by p.staged

-- what an update keeps and doesn't replace is served
abbrev pub KeptIsServed : PlanKind → List Name → View → Served → Type 0
KeptIsServed Load replaced view served = ⊤
KeptIsServed Reload replaced view served = ⊤
KeptIsServed Update replaced view served = (n : Name) → has replaced n ≡ false →
    IsServed (at view n) (at served n)

-- what the plan under way staged is served, and so is what it keeps
abbrev pub PlanIsServed : Option Plan → View → Served → Type 0
PlanIsServed None view served = ⊤
PlanIsServed (Some p) view served =
    ((n : Name) → IsServed (at p.staged n) (at served n)) × KeptIsServed p.kind p.replaced view served

-- the number, if there is one, is at most k
abbrev pub IsAtMost : Option ℕ → ℕ → Type 0
IsAtMost None k = ⊤
IsAtMost (Some j) k = j ≤ k

-- What holds of a client's record: by gives the analysis that each version of a name was served with.
pub record ClientFacts (by : Name → ℕ → Option Analysis) (s : Sources) (c : Client) : Type 0 where
  pub closed : c.page.loaded ≡ true → IsClosed c.roots c.page.view
      -- a loaded page holds its roots and their imports
  pub empty : c.page.loaded ≡ false → c.page.view ≡ []  -- a page that isn't loaded has no modules
  pub rises : rising (names_of c.page.view) ≡ true  -- the modules stand once each, by name
  pub viewed : AreGiven by c.page.view  -- each has the analysis that its version was served with
  pub accepting : (n : Name) → has c.page.forced n ≡ true → self_accepts c.page.view n ≡ true
      -- a forced module is there and accepts itself
  pub planned : PlanIs c.page.plan c.roots by c.page.loaded c.page.view c.page.forced
      -- the plan fits the page
  pub begun : c.plan_at ≤ s.served_no  -- the plan began in the past
  pub held : IsAtMost c.held_at s.served_no  -- and so did the one that was given up
  pub current : c.plan_at ≡ s.served_no → PlanIsServed c.page.plan c.page.view s.served
      -- where nothing was served or removed since, the plan is of what is served

-- the page has its roots, is loaded or not, and has its modules and forced names, as before
pub record SamePage (old new : Client) : Type 0 where
  pub roots : new.roots ≡ old.roots
  pub loaded : new.page.loaded ≡ old.page.loaded
  pub view : new.page.view ≡ old.page.view
  pub forced : new.page.forced ≡ old.page.forced

-- the source's version was counted
abbrev pub IsCounted : Option Source → ℕ → Type 0
IsCounted None counted = ⊤
IsCounted (Some s) counted = s.version ≤ counted

-- what is served is the source
abbrev pub IsOfSource : Source → Option Serving → Type 0
IsOfSource s None = ⊥
IsOfSource s (Some v) = (v.version ≡ s.version) × (v.text ≡ s.text)

-- a source is served where its result was good, and was never served else
abbrev pub VerdictIs : Verdict → Source → Option Analysis → Option Serving → Type 0
VerdictIs outstanding s by served = by ≡ None
VerdictIs good s by served = IsOfSource s served
VerdictIs (bad fault) s by served = by ≡ None

-- the same of a source, if there is one; what has none isn't served
abbrev pub SourceIs : Option Source → (ℕ → Option Analysis) → Option Serving → Type 0
SourceIs None by served = served ≡ None
SourceIs (Some s) by served = VerdictIs s.verdict s (by s.version) served

-- What holds of the sources: by gives the analysis that each version of a name was served with.
pub record SourcesFacts (by : Name → ℕ → Option Analysis) (s : Sources) : Type 0 where
  pub counted : (n : Name) → IsCounted (at s.current n) s.counted
      -- each version is a number of a counted edit
  pub fresh : (n : Name) (v : ℕ) → s.counted < v → by n v ≡ None
      -- a number that isn't given yet was never served
  pub served : (n : Name) → IsGiven (by n) (entry_of (at s.served n))
      -- what is served has the analysis that it came with
  pub settled : (n : Name) → SourceIs (at s.current n) (by n) (at s.served n)
      -- what is served of a source is what its result was
