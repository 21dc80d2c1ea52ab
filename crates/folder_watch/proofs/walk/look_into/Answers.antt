use Rattle.std.proofs.Common.{rules, ◌≡◌, ◌+◌, ◌≤◌, ◌∷◌, [], length, sym, ap, subst, ◌∙◌, refl, arith}
use Rattle.std.specs.Prelude.{◌&&◌, not, is_some}
use Rattle.std.specs.Vec.Iter.{into_iter_items}
use Rattle.folders.specs.Files.{rest_after}
use Rattle.folder_watch.specs.Pending.{paths_of}
use Rattle.folder_watch.specs.Scans.{Covers, is_pending}
use Rattle.folder_watch.proofs.Scanning.{covers_first, covers_last, covers_next}
use Rattle.folder_watch.proofs.Walking.{all_first, all_none, nothing_left}
use Rattle.std.proofs.lemmas.List.Elements.{All-rest, All-same}
use Rattle.std.proofs.lemmas.Result.{err_from_is_err_and}
use Rattle.folder_watch.proofs.walk.look_into.Goals as goal

pub loop-folder-init : goal.loop-folder-init
loop-folder-init g c =
    let items = into_iter_items c.into_iter-folder-iterator.result in
    let level = c.args.level.items in
    let whole : items ≡ level = c.into_iter-folder-iterator.ensures.into_iter_gives.0 in
    let none : c.new-next.result.items ≡ [] = search rules in
    record {
      left = search rules;
      few = c.requires.few;
      deep = λ depth all. All-same (λ f. depth ≤ length f.path.items) items level whole all;
      deeper = λ depth all. all_none (λ f. depth + 1 ≤ length f.path.items) c.new-next.result.items none;
      stand = λ all. All-same (λ f. g.T.Tree.dir_path f.dir ≡ f.path.items) items level whole all;
      placed = λ files e all. all_none (λ f. g.T.Tree.dir_path f.dir ≡ f.path.items) c.new-next.result.items none;
      covers = λ files e all. subst (λ now. Covers files (λ path. is_pending (paths_of level) path && not (is_pending (paths_of items) path)) c.args.found.now [] c.args.found.now (paths_of now)) (sym none)
          (covers_first files (is_pending (paths_of level)) (is_pending (paths_of items)) c.args.found.now [] (λ path f t. ap (λ fs. is_pending (paths_of fs) path) whole ∙ t));
      later = search rules;
      asked = refl;
      files = refl;
      coming = refl;
    }

pub loop-folder-preserved : goal.loop-folder-preserved
loop-folder-preserved g c =
    let at = c.loop-folder in
    let x = c.in-Some.folder in
    let steps : into_iter_items at.folder-iterator ≡ x ∷ into_iter_items c.next.new.self = c.in-Some.ensures.steps.0 in
    let one = c.in_ok-list_folder.ensures in
    record {
      left = (let was = at.invariant.left in let gone = c.in-Some.ensures.steps.1 in let short = ap length steps in omega arith);
      few = one.few;
      deep = λ depth all. All-rest (λ f. depth ≤ length f.path.items) x (into_iter_items c.next.new.self) (into_iter_items at.folder-iterator) steps (at.invariant.deep depth all);
      deeper = λ depth all. one.deeper depth (all_first (λ f. depth ≤ length f.path.items) x (into_iter_items c.next.new.self) (into_iter_items at.folder-iterator) steps (at.invariant.deep depth all)) (at.invariant.deeper depth all);
      stand = λ all. All-rest (λ f. g.T.Tree.dir_path f.dir ≡ f.path.items) x (into_iter_items c.next.new.self) (into_iter_items at.folder-iterator) steps (at.invariant.stand all);
      placed = λ files e all. one.placed files (at.invariant.files ∙ e)
          (all_first (λ f. g.T.Tree.dir_path f.dir ≡ f.path.items) x (into_iter_items c.next.new.self) (into_iter_items at.folder-iterator) steps (at.invariant.stand all)) (at.invariant.placed files e all);
      covers = λ files e all. covers_next files (is_pending (paths_of c.args.level.items)) (is_pending (paths_of (into_iter_items at.folder-iterator)))
          (λ path. is_some (rest_after x.path.items path)) (is_pending (paths_of (into_iter_items c.next.new.self)))
          c.args.found.now [] at.found (paths_of at.next.items) c.list_folder.new.found (paths_of c.list_folder.new.next.items)
          (λ path. ap (λ fs. is_pending (paths_of fs) path) steps)
          (at.invariant.covers files e all)
          (one.covers files (at.invariant.files ∙ e) (all_first (λ f. g.T.Tree.dir_path f.dir ≡ f.path.items) x (into_iter_items c.next.new.self) (into_iter_items at.folder-iterator) steps (at.invariant.stand all)));
      later = omega (arith, at.invariant.later, c.list_folder.ensures.later);
      asked = c.list_folder.ensures.asked ∙ at.invariant.asked;
      files = c.list_folder.ensures.files ∙ at.invariant.files;
      coming = c.list_folder.ensures.coming ∙ at.invariant.coming;
    }

pub returns-in_err-list_folder-clause-stops : goal.returns-in_err-list_folder-clause-stops
returns-in_err-list_folder-clause-stops g c = λ files e all h.
    let at = c.loop-folder in
    let x = c.in-Some.folder in
    let steps : into_iter_items at.folder-iterator ≡ x ∷ into_iter_items c.next.new.self = c.in-Some.ensures.steps.0 in
    let told = err_from_is_err_and c.from_residual.result c.from_residual.ensures.1 in
    rw (told.1, told.2) (c.in_err-list_folder.ensures.stops files (at.invariant.files ∙ e)
    (all_first (λ f. g.T.Tree.dir_path f.dir ≡ f.path.items) x (into_iter_items c.next.new.self) (into_iter_items at.folder-iterator) steps (at.invariant.stand all))
    ((at.invariant.covers files e all).are h))

pub returns-clause-covers : goal.returns-clause-covers
returns-clause-covers g c = λ files e all.
    let at = c.loop-folder in
    let level = c.args.level.items in
    let empty : into_iter_items at.folder-iterator ≡ [] = nothing_left (into_iter_items at.folder-iterator) (sym at.invariant.left ∙ c.in-None.ensures.steps.0) in
    covers_last files (is_pending (paths_of level)) (is_pending (paths_of (into_iter_items at.folder-iterator)))
    c.args.found.now [] at.found (paths_of at.next.items)
    (λ path. ap (λ fs. is_pending (paths_of fs) path) empty) (at.invariant.covers files e all)
