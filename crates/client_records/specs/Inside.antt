-- What the code keeps of a client, as contracts see it, and what holds of it always.
use Rattle.std.specs.Prelude.{◌≡◌, ◌≤◌, true, ⊤, [], ◌∷◌, Option, IfSome}
use Rattle.std.specs.Cmp.Lexicographic.{slice_cmp}
use Rattle.std.specs.List.Sorted.{IsStrictlySortedBy}
use Rattle.std.specs.Ordering.{nat_cmp}
use Rattle.hmr_types.specs.declared.limits.TheConstants.{LARGEST_NUMBER}
use Rattle.core_model.specs.Names.{Name, at, names_of}
use Rattle.core_model.specs.Page.{Plan}
use Rattle.core_model.specs.View.{View, Entry, dropped_of, is_in}
use Rattle.core_model.specs.Spread.{AreIn}
use Rattle.page_plan.specs.Renewals.{IsClosed}
use Rattle.client_queue.specs.Queue.{knows, is_marked}
use Rattle.client_records.specs.Record.{Kept}
use Rattle.client_records.specs.declared.client_record.ClientRecord.TheInside.{Inside}

-- the parts, as contracts see them
abbrev pub kept_of : Inside → Kept
kept_of a =
    record {
      roots = a.roots;
      batches = a.batches;
      loaded = a.loaded;
      view = a.view;
      queue = a.queue;
      plan = a.plan;
      plan_at = a.plan_at;
      dropped = a.dropped;
    }

-- the version of a module is that of a counted edit
abbrev pub IsCounted : Entry → Type 0
IsCounted e = (1 ≤ e.version) × (e.version ≤ LARGEST_NUMBER)

-- all versions are those of counted edits
abbrev pub AreCounted : View → Type 0
AreCounted [] = ⊤
AreCounted (row ∷ rows) = IsCounted row.1 × AreCounted rows

-- the versions of what was fetched are those of counted edits
abbrev pub AreFetched : View → Type 0
AreFetched staged = (n : Name) → IfSome (at staged n) IsCounted

-- where a plan is under way, the versions of what was fetched for it
abbrev pub IsStaged : Option Plan → Type 0
IsStaged plan = IfSome plan (λ p. AreFetched p.staged)

-- The modules rise by name, each version is that of a counted edit, so many batches can be told, what is
-- forced or marked is on the page, and what is on the page can be marked without memory. From a loaded page
-- nothing is missing that its imports lead to.
pub record IsSound (a : Inside) : Type 0 where
  pub rising : IsStrictlySortedBy (slice_cmp nat_cmp) (names_of a.view)
  pub counted : AreCounted a.view
  pub staged : IsStaged a.plan
  pub batches : a.batches ≤ LARGEST_NUMBER
  pub forced : AreIn a.queue.forced a.view
  pub known : (n : Name) → is_in a.view n ≡ true → knows a.queue n ≡ true
  pub marked : (n : Name) → is_marked a.queue n ≡ true → is_in a.view n ≡ true
  pub closed : a.loaded ≡ true → IsClosed a.roots a.view
  pub dropped : a.dropped ≡ dropped_of a.view a.roots
