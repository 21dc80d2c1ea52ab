-- What holds of journals joined, and of one thing told of a handler, holds of all that a new instance
-- registers.
use Rattle.std.proofs.Common.{ℕ, List, [], ◌∷◌, ◌++◌}
use Rattle.std.specs.Prelude.{fold, map, Option, Some, None}
use Rattle.module_tree.specs.Syntax as syntax
use Rattle.module_tree.specs.Syntax.{OnceTree}
use Rattle.core_model.specs.Names.{Name, at}
use Rattle.core_model.specs.Sources.{Text}
use Rattle.client_model.specs.Language.{Registered, Evaluated}
use Rattle.client_model.specs.Instance.{Handler, Deed, code, host, places_from}
use Rattle.client_model.specs.Journal.{Journal, registered, no_host, dropped}
use Rattle.client_model.specs.Runtime.{Runtime}
use Rattle.client_model.specs.Making.{Registry, Birth, is_displaced_by, new_handler, without_first, with_handler, with_host, register_once, register_in}

pub record IsJoined (Q : Journal → Type 0) : Type 0 where
  pub none : Q []
  pub join : (a b : Journal) → Q a → Q b → Q (a ++ b)
  pub drop : (k spot : ℕ) → Q (dropped k spot ∷ [])
  pub register : (k : ℕ) (h : Handler) → Q (registered k h ∷ [])
  pub unhosted : (k : ℕ) (m : Name) (label : Text) → Q (no_host k m label ∷ [])

module _ (Q : Journal → Type 0) (j : IsJoined Q) where
  pub drops_join : (k : ℕ) (places : List ℕ) → Q (map (dropped k) places)
  drops_join k [] = j.none
  drops_join k (p ∷ places) = j.join (dropped k p ∷ []) (map (dropped k) places) (j.drop k p) (drops_join k places)

  handler_joins : (k : ℕ) (entry : Registered) (deed : Deed) (g : Registry) → Q g.journal → Q (with_handler k entry deed g).journal
  handler_joins k entry deed g q =
      let drops : Journal = map (dropped k) (places_from 0 (is_displaced_by entry.kind) g.handlers) in
      j.join g.journal (drops ++ registered k (new_handler entry deed) ∷ []) q
      (j.join drops (registered k (new_handler entry deed) ∷ []) (drops_join k (places_from 0 (is_displaced_by entry.kind) g.handlers)) (j.register k (new_handler entry deed)))

  host_joins : (number : Option ℕ) (k : ℕ) (m : Name) (entry : Registered) (label : Text) (g : Registry) → Q g.journal → Q (with_host number k m entry label g).journal
  host_joins None k m entry label g q = j.join g.journal (no_host k m label ∷ []) q (j.unhosted k m label)
  host_joins (Some number) k m entry label g q = handler_joins k entry (host label number) (record g { shelf = without_first label g.shelf }) q

  once_joins : (what : OnceTree) (k : ℕ) (m : Name) (entry : Registered) (g : Registry) → Q g.journal → Q (register_once what k m entry g).journal
  once_joins (syntax.code tree) k m entry g q = handler_joins k entry (code tree) g q
  once_joins (syntax.host label) k m entry g q = host_joins (at g.shelf label) k m entry label g q

  all_join : (k : ℕ) (m : Name) (entries : List Registered) (g : Registry) → Q g.journal → Q (fold (λ g entry. register_once entry.what k m entry g) g entries).journal
  all_join k m [] g q = q
  all_join k m (entry ∷ entries) g q = all_join k m entries (register_once entry.what k m entry g) (once_joins entry.what k m entry g q)

  pub registry_joins : (b : Birth) (e : Evaluated) (r : Runtime) → Q (register_in b e r).journal
  registry_joins b e r = all_join b.number b.name e.registered (record { handlers = []; shelf = r.shelf; journal = [] }) j.none
