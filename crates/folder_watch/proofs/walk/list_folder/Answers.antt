use Rattle.std.proofs.Common.{rules, ◌≡◌, ◌≤◌, ◌∷◌, [], length, sym, ap, subst, ◌∙◌, arith}
use Rattle.std.specs.Prelude.{is_some}
use Rattle.std.specs.List.{list_any}
use Rattle.std.specs.Vec.Iter.{into_iter_items}
use Rattle.folders.specs.Entries.{leads_to}
use Rattle.folders.specs.Files.{rest_after}
use Rattle.folder_watch.specs.Pending.{paths_of}
use Rattle.folder_watch.specs.Scans.{IsPlaced}
use Rattle.folder_watch.proofs.Scanning.{covers_first, covers_last, covers_next}
use Rattle.folder_watch.proofs.Walking.{all_first, listed_leads, listed_of, listed_placed, nothing_left}
use Rattle.std.proofs.lemmas.List.Elements.{All-rest}
use Rattle.std.proofs.lemmas.Result.{err_from_is_err_and}
use Rattle.folder_watch.proofs.walk.list_folder.Goals as goal

pub loop-entry-init : goal.loop-entry-init
loop-entry-init g c =
    let items = into_iter_items c.into_iter-entry-iterator.result in
    record {
      left = search rules;
      few = c.requires.few;
      entries = λ files e p. listed_placed g.T.Tree.dir_path g.T.Tree.file_path files c.args.folder.now.path.items items
          (listed_of g.T.Tree.dir_path g.T.Tree.file_path files c.args.folder.now.path.items (g.T.Tree.files c.args.tree.now) (g.T.Tree.dir_path c.args.folder.now.dir) c.in_ok-entries.entries.items items
          e c.in_ok-entries.ensures.listed p c.into_iter-entry-iterator.ensures.into_iter_gives.0);
      deeper = λ depth d all. all;
      placed = λ files e p all. all;
      covers = λ files e p. covers_first files (λ path. is_some (rest_after c.args.folder.now.path.items path)) (λ path. list_any (λ entry. leads_to g.T.Tree.dir_path g.T.Tree.file_path path entry.node) items) c.args.found.now (paths_of c.args.next.now.items)
          (listed_leads g.T.Tree.dir_path g.T.Tree.file_path files c.args.folder.now.path.items items
          (listed_of g.T.Tree.dir_path g.T.Tree.file_path files c.args.folder.now.path.items (g.T.Tree.files c.args.tree.now) (g.T.Tree.dir_path c.args.folder.now.dir) c.in_ok-entries.entries.items items
          e c.in_ok-entries.ensures.listed p c.into_iter-entry-iterator.ensures.into_iter_gives.0));
      later = search rules;
      asked = search rules;
      files = search rules;
      coming = search rules;
    }

pub loop-entry-preserved : goal.loop-entry-preserved
loop-entry-preserved g c =
    let at = c.loop-entry in
    let x = c.in-Some.entry in
    let path = c.args.folder.now.path.items in
    let steps : into_iter_items at.entry-iterator ≡ x ∷ into_iter_items c.next.new.self = c.in-Some.ensures.steps.0 in
    let one = c.in_ok-take_entry.ensures in
    record {
      left = (let was = at.invariant.left in let gone = c.in-Some.ensures.steps.1 in let short = ap length steps in omega arith);
      few = one.few;
      entries = λ files e p. All-rest (λ entry. IsPlaced g.T.Tree.dir_path g.T.Tree.file_path files path entry) x (into_iter_items c.next.new.self) (into_iter_items at.entry-iterator) steps (at.invariant.entries files e p);
      deeper = λ depth d all. one.deeper depth (subst (λ f. depth ≤ length f) (sym c.deref.ensures.value) d) (at.invariant.deeper depth d all);
      placed = λ files e p all. one.placed files
          (subst (λ f. IsPlaced g.T.Tree.dir_path g.T.Tree.file_path files f x) (sym c.deref.ensures.value)
          (all_first (λ entry. IsPlaced g.T.Tree.dir_path g.T.Tree.file_path files path entry) x (into_iter_items c.next.new.self) (into_iter_items at.entry-iterator) steps (at.invariant.entries files e p)))
          (at.invariant.placed files e p all);
      covers = λ files e p. covers_next files (λ to. is_some (rest_after path to)) (λ to. list_any (λ entry. leads_to g.T.Tree.dir_path g.T.Tree.file_path to entry.node) (into_iter_items at.entry-iterator))
          (λ to. leads_to g.T.Tree.dir_path g.T.Tree.file_path to x.node) (λ to. list_any (λ entry. leads_to g.T.Tree.dir_path g.T.Tree.file_path to entry.node) (into_iter_items c.next.new.self))
          c.args.found.now (paths_of c.args.next.now.items) at.found (paths_of at.next.items) c.take_entry.new.found (paths_of c.take_entry.new.next.items)
          (λ to. ap (λ es. list_any (λ entry. leads_to g.T.Tree.dir_path g.T.Tree.file_path to entry.node) es) steps)
          (at.invariant.covers files e p)
          (one.covers files (at.invariant.files ∙ e)
          (subst (λ f. IsPlaced g.T.Tree.dir_path g.T.Tree.file_path files f x) (sym c.deref.ensures.value)
          (all_first (λ entry. IsPlaced g.T.Tree.dir_path g.T.Tree.file_path files path entry) x (into_iter_items c.next.new.self) (into_iter_items at.entry-iterator) steps (at.invariant.entries files e p))));
      later = omega (arith, at.invariant.later, c.take_entry.ensures.later);
      asked = search rules;
      files = search rules;
      coming = search rules;
    }

pub returns-in_err-take_entry-clause-stops : goal.returns-in_err-take_entry-clause-stops
returns-in_err-take_entry-clause-stops g c = λ files e p h.
    let at = c.loop-entry in
    let x = c.in-Some.entry in
    let path = c.args.folder.now.path.items in
    let steps : into_iter_items at.entry-iterator ≡ x ∷ into_iter_items c.next.new.self = c.in-Some.ensures.steps.0 in
    let told = err_from_is_err_and c.from_residual-in_err-take_entry.result c.from_residual-in_err-take_entry.ensures.1 in
    rw (told.1, told.2) (c.in_err-take_entry.ensures.stops files (at.invariant.files ∙ e)
    (subst (λ f. IsPlaced g.T.Tree.dir_path g.T.Tree.file_path files f x) (sym c.deref.ensures.value)
    (all_first (λ entry. IsPlaced g.T.Tree.dir_path g.T.Tree.file_path files path entry) x (into_iter_items c.next.new.self) (into_iter_items at.entry-iterator) steps (at.invariant.entries files e p)))
    ((at.invariant.covers files e p).are h))

pub returns-clause-covers : goal.returns-clause-covers
returns-clause-covers g c = λ files e p.
    let at = c.loop-entry in
    let path = c.args.folder.now.path.items in
    let empty : into_iter_items at.entry-iterator ≡ [] = nothing_left (into_iter_items at.entry-iterator) (sym at.invariant.left ∙ c.in-None.ensures.steps.0) in
    covers_last files (λ to. is_some (rest_after path to)) (λ to. list_any (λ entry. leads_to g.T.Tree.dir_path g.T.Tree.file_path to entry.node) (into_iter_items at.entry-iterator))
    c.args.found.now (paths_of c.args.next.now.items) at.found (paths_of at.next.items)
    (λ to. ap (λ es. list_any (λ entry. leads_to g.T.Tree.dir_path g.T.Tree.file_path to entry.node) es) empty) (at.invariant.covers files e p)
