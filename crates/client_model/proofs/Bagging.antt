-- The bags that a client keeps are those that what happened left.
use Rattle.std.proofs.Common.{◌≡◌, ℕ, Bool, true, false, List, [], ◌∷◌, ◌++◌, refl, ap, sym, ◌∙◌}
use Rattle.std.specs.Prelude.{fold, map, Option, Some, None, if◌then◌else◌}
use Rattle.std.proofs.lemmas.List.Sums.{fold-append}
use Rattle.module_tree.specs.Syntax as syntax
use Rattle.module_tree.specs.Syntax.{OnceTree}
use Rattle.output_lines.specs.declared.words.FaultPlace.{FaultPlace}
use Rattle.output_lines.specs.declared.words.FaultPlace.TheVariants as place
use Rattle.output_lines.specs.declared.words.InstanceFate.{InstanceFate}
use Rattle.update_msgs.specs.declared.message.ServerMsg.{ServerMsg}
use Rattle.core_model.specs.Names.{Name, same_name, has, at, with_row}
use Rattle.core_model.specs.Sources.{Text}
use Rattle.core_model.specs.Page.{Plan}
use Rattle.core_model.proofs.Naming.{true_same}
use Rattle.core_model.proofs.Tables.{at_without, at_with_row}
use Rattle.client_model.specs.Language.{Language, Bag, Ran, Evaluated, Registered}
use Rattle.client_model.specs.Instance.{Instance, Handler, Deed, code, host, numbered, places_of, places_from, is_held, disposes, prunes}
use Rattle.client_model.specs.Journal.{Journal, bag_after, bag_left, dropped, registered, no_host}
use Rattle.client_model.specs.Runtime.{Runtime, Opening, Did, and_then, for_each, bag_or_empty, bag_of}
use Rattle.client_model.specs.Running.{no_arguments, did_run, run_each, drop_each, end_instance, give_up_bag}
use Rattle.client_model.specs.Making.{Registry, Birth, is_displaced_by, new_handler, without_first, with_handler, with_host, register_once, make_evaluated, evaluate, register_in, make}
use Rattle.client_model.specs.Applying.{live_of, finish, apply, prune_instance, leave_page, prune}
use Rattle.client_model.specs.Past.{Past, met, runtime_after, journal_of}
use Rattle.client_model.proofs.Acts.{IsKept, before_finish, kept_applying, kept_pruning, kept_hear, by_make}
use Rattle.client_model.proofs.Takes.{AreLines, Quiet, IsTaken, lines_by, met_does}

-- what a client does leaves each name the bag that what happened left of the one before
abbrev pub Keeps : Runtime → Did → Type 0
Keeps r did = (n : Name) → bag_of did.0 n ≡ fold (bag_after n) (bag_of r n) did.1

-- nothing of it touches a bag
abbrev Silent : Journal → Type 0
Silent journal = (n : Name) (bag : Bag) → fold (bag_after n) bag journal ≡ bag

pub keeps_then : (r : Runtime) (did : Did) (next : Runtime → Did) → Keeps r did → Keeps did.0 (next did.0) → Keeps r (and_then did next)
keeps_then r did next h k n = k n ∙ ap (λ bag. fold (bag_after n) bag (next did.0).1) (h n) ∙ sym (fold-append (bag_after n) (bag_of r n) did.1 (next did.0).1)

silent_then : (a b : Journal) → Silent a → Silent b → Silent (a ++ b)
silent_then a b h k n bag = fold-append (bag_after n) bag a b ∙ k n (fold (bag_after n) bag a) ∙ h n bag

drops_silent : (k : ℕ) (places : List ℕ) → Silent (map (dropped k) places)
drops_silent k [] n bag = refl
drops_silent k (p ∷ places) n bag = drops_silent k places n bag

some_bag : (b : Bool) (bag : Bag) (o : Option Bag) → bag_or_empty (if b then Some bag else o) ≡ (if b then bag else bag_or_empty o)
some_bag true bag o = refl
some_bag false bag o = refl

pub no_bag : (b : Bool) (o : Option Bag) → bag_or_empty (if b then None else o) ≡ (if b then [] else bag_or_empty o)
no_bag true o = refl
no_bag false o = refl

pub bag_put : (m : Name) (bag : Bag) (bags : List (Name × Bag)) (n : Name) → bag_or_empty (at (with_row m bag bags) n) ≡ (if same_name m n then bag else bag_or_empty (at bags n))
bag_put m bag bags n = ap bag_or_empty (at_with_row m bag bags n) ∙ some_bag (same_name m n) bag (at bags n)

-- Handlers.

keeps_run : (spent_at : FaultPlace) (i : Instance) (spot : ℕ) (h : Handler) (left : Ran) (r : Runtime) → Keeps r (did_run spent_at i spot h left r)
keeps_run spent_at i spot h left r n = bag_put i.name left.bag r.bags n

keeps_drop : (test : Handler → Bool) (k : ℕ) (r : Runtime) → Keeps r (drop_each test k r)
keeps_drop test k r n = sym (drops_silent k (places_of test (numbered r.instances k)) n (bag_of r n))

keeps_end : (fate : InstanceFate) (k : ℕ) (m : Name) (r : Runtime) → Keeps r (end_instance fate k m r)
keeps_end fate k m r n = refl

keeps_give_up : (m : Name) (r : Runtime) → Keeps r (give_up_bag m r)
keeps_give_up m r n = ap bag_or_empty (at_without m r.bags n) ∙ no_bag (same_name m n) (at r.bags n)

-- New instances.

handler_silent : (k : ℕ) (entry : Registered) (deed : Deed) (g : Registry) → Silent g.journal → Silent (with_handler k entry deed g).journal
handler_silent k entry deed g s =
    let places : List ℕ = places_from 0 (is_displaced_by entry.kind) g.handlers in
    silent_then g.journal (map (dropped k) places ++ registered k (new_handler entry deed) ∷ []) s (silent_then (map (dropped k) places) (registered k (new_handler entry deed) ∷ []) (drops_silent k places) (λ n bag. refl))

host_silent : (number : Option ℕ) (k : ℕ) (m : Name) (entry : Registered) (label : Text) (g : Registry) → Silent g.journal → Silent (with_host number k m entry label g).journal
host_silent None k m entry label g s = silent_then g.journal (no_host k m label ∷ []) s (λ n bag. refl)
host_silent (Some number) k m entry label g s = handler_silent k entry (host label number) (record g { shelf = without_first label g.shelf }) s

once_silent : (what : OnceTree) (k : ℕ) (m : Name) (entry : Registered) (g : Registry) → Silent g.journal → Silent (register_once what k m entry g).journal
once_silent (syntax.code tree) k m entry g s = handler_silent k entry (code tree) g s
once_silent (syntax.host label) k m entry g s = host_silent (at g.shelf label) k m entry label g s

all_silent : (k : ℕ) (m : Name) (entries : List Registered) (g : Registry) → Silent g.journal → Silent (fold (λ g entry. register_once entry.what k m entry g) g entries).journal
all_silent k m [] g s = s
all_silent k m (entry ∷ entries) g s = all_silent k m entries (register_once entry.what k m entry g) (once_silent entry.what k m entry g s)

keeps_evaluated : (b : Birth) (e : Evaluated) (g : Registry) (r : Runtime) → Silent g.journal → Keeps r (make_evaluated b (bag_of r b.name) e g r)
keeps_evaluated b e g r s n = bag_put b.name e.bag r.bags n ∙ sym (s n _)

keeps_make : (language : Language) (b : Birth) (r : Runtime) → Keeps r (make language b r)
keeps_make language b r = by_make (Keeps r) language b r (λ n. refl)
    (keeps_evaluated b (evaluate language b r) (register_in b (evaluate language b r) r) r (all_silent b.number b.name (evaluate language b r).registered (record { handlers = []; shelf = r.shelf; journal = [] }) (λ n bag. refl)))

pub bags_kept : IsKept Keeps
bags_kept = record {
  nothing = λ r n. refl;
  after = keeps_then;
  run = keeps_run;
  drop = keeps_drop;
  end = keeps_end;
  give_up = keeps_give_up;
  give_up_all = λ r n. refl;
  made = keeps_make;
  wrote = λ l r n. refl;
}

-- Messages.

lines_silent : (journal : Journal) → AreLines journal → Silent journal
lines_silent journal lines n bag = lines_by (λ told. fold (bag_after n) bag told ≡ bag) refl (λ l told same. same) journal lines

pub keeps_quiet : (r : Runtime) (did : Did) → Quiet r did → Keeps r did
keeps_quiet r did q n = ap (λ bags. bag_of (record r { bags = bags }) n) q.bags ∙ sym (lines_silent did.1 q.lines n (bag_of r n))

module _ (language : Language) where
  keeps_apply : (p : Plan) (r : Runtime) → Keeps r (apply language p r)
  keeps_apply p r = keeps_then r (before_finish language p r) (finish p) (kept_applying Keeps bags_kept language p r) (λ n. refl)

  keeps_prune : (names : List Name) (r : Runtime) → Keeps r (prune language names r)
  keeps_prune names r = keeps_then r (for_each (prune_instance language) (live_of (has names) r) r) (leave_page names) (kept_pruning Keeps bags_kept language names r) (λ n. refl)

  bags_taken : IsTaken language Keeps
  bags_taken = record {
    quiet = keeps_quiet;
    prunes = λ names r none loaded. keeps_prune names r;
    applies = λ p r e due counted. keeps_apply p r;
    hears = λ n value r loaded idle. kept_hear Keeps bags_kept language n value r;
  }

  -- a client's bags are those that all that happened left
  pub bags_are : (opening : Opening) (past : Past) (n : Name) → bag_of (runtime_after language opening past) n ≡ bag_left (journal_of language opening past) n
  bags_are opening [] n = refl
  bags_are opening (came ∷ past) n = met_does language Keeps bags_taken (runtime_after language opening past) came n
      ∙ ap (λ bag. fold (bag_after n) bag (met language came (runtime_after language opening past)).1) (bags_are opening past n)
      ∙ sym (fold-append (bag_after n) [] (journal_of language opening past) (met language came (runtime_after language opening past)).1)

  -- a pruned module's bag is empty
  pub pruned_bag_is_empty : (i : Instance) (r : Runtime) → bag_of (prune_instance language i r).0 i.name ≡ []
  pruned_bag_is_empty i r =
      let before : Did = and_then (and_then (run_each language place.Dispose no_arguments disposes i.number r) (run_each language place.Prune no_arguments prunes i.number)) (drop_each is_held i.number) in
      ap bag_or_empty (at_without i.name before.0.bags i.name ∙ ap (λ b. if b then None else at before.0.bags i.name) (true_same i.name i.name refl))
