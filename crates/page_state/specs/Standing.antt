-- What a page stands for, and what a deed of the code follows. A page and a runtime of the model agree by
-- number and by name, never by the order of a list.
use Rattle.std.specs.Prelude.{◌≡◌, ◌++◌, ℕ, List, length, map, slice_get, Option, Some, None}
use Rattle.std.specs.Option.{option_map}
use Rattle.std.specs.List.{All}
use Prim.{⊥}
use Rattle.output_lines.specs.declared.out_line.OutLine.{OutLine}
use Rattle.core_model.specs.Names.{Name}
use Rattle.client_model.specs.Instance as model
use Rattle.client_model.specs.Instance.{numbered, live_at}
use Rattle.client_model.specs.Journal.{lines_of_all}
use Rattle.client_model.specs.Linking.{number_in}
use Rattle.client_model.specs.Runtime as runtime
use Rattle.client_model.specs.Runtime.{Runtime, Did, bag_of}
use Rattle.handler_table.specs.Held.{Answers, IsHost}
use Rattle.handler_table.specs.Handlers.{KeepTheirWord}
use Rattle.handler_table.specs.Shelf.{marks_of}
use Rattle.retained_data.specs.Bags as kept
use Rattle.live_instances.specs.Orderly.{Orderly}
use Rattle.page_instances.specs.declared.instance.Instance.{Instance}
use Rattle.page_instances.specs.Scopes.{kept_at}
use Rattle.page_instances.specs.Seeing.{Sees}
use Rattle.page_state.specs.Live.{Numbers, number_of}
use Rattle.page_state.specs.declared.page.Invalidation.{Invalidation}
use Rattle.page_state.specs.declared.page.Page.{Page}

-- neither is there, or the one is seen as the other
abbrev pub BothOrNone : {F : Type 0} → Option model.Instance → Option (Instance F) → Type 0
BothOrNone None None = Unit {0}
BothOrNone None (Some c) = ⊥
BothOrNone (Some i) None = ⊥
BothOrNone (Some i) (Some c) = Sees i c

-- an invalidation as the model has it
abbrev pub invalidation_as : Invalidation → runtime.Invalidation
invalidation_as i = record { name = i.name; version = i.version; message = i.message }

-- the instances of the model are those of the code, by number, and the live ones by name
pub record Matches {F : Type 0} (is : List model.Instance) (cs : List (Instance F))
    (live : Numbers) : Type 0 where
  pub count : length is ≡ length cs
  pub orderly : Orderly is
  pub by_number : (k : ℕ) → BothOrNone (numbered is k) (kept_at cs k)
  pub by_name : (n : Name) → number_in (live_at is n) ≡ number_of live n

-- the runtime is one that the page stands for
pub record StandsFor {F : Type 0} (r : Runtime) (p : Page F) : Type 0 where
  pub client : r.client ≡ p.client
  pub instances : Matches r.instances p.instances.items p.live
  pub bags : (n : Name) → bag_of r n ≡ kept.bag_of p.bags n
  pub unsent : r.unsent ≡ map invalidation_as p.unsent.items
  pub shelf : r.shelf ≡ marks_of p.shelf

-- nothing of the runtime differs but its instances, bags, unsent invalidations and closures
abbrev pub StaysElsewhere : Runtime → Runtime → Type 0
StaysElsewhere r after =
    after ≡ record r
    { instances = after.instances; bags = after.bags; unsent = after.unsent; shelf = after.shelf }

-- the name of the instance at a place
abbrev pub name_at : {F : Type 0} → Page F → ℕ → Option Name
name_at p place = option_map (λ c. c.name) (slice_get p.instances.items place)

-- For every runtime that the page stood for it stands for what the deed makes of it, and the lines
-- are those of what the deed tells. The client's number and the names of instances stay.
pub record Follows {F : Type 0} (deed : Runtime → Did) (before after : Page F)
    (told tells : List OutLine) : Type 0 where
  pub client : after.client ≡ before.client
  pub names : (place : ℕ) (n : Name) → name_at before place ≡ Some n → name_at after place ≡ Some n
  pub stands : (r : Runtime) → StandsFor r before → StandsFor (deed r).0 after
  pub elsewhere : (r : Runtime) → StandsFor r before → StaysElsewhere r (deed r).0
  pub lines : (r : Runtime) → StandsFor r before → tells ≡ told ++ lines_of_all before.client (deed r).1

-- each handler that is held and each closure of the shelf answers what is stated for it
pub record KeepWords {F : Type 0} (answers : Answers F) (p : Page F) : Type 0 where
  pub instances : All (λ c. KeepTheirWord answers c.held) p.instances.items
  pub shelf : All (IsHost answers) p.shelf
