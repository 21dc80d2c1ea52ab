use Rattle.std.proofs.Common.{rules, sym, subst, ◌∙◌, refl, arith}
use Rattle.std.proofs.lemmas.Result.{err_from_is_err_and}
use Rattle.folder_watch.specs.Pending.{AreDeep, paths_of}
use Rattle.folder_watch.specs.Scans.{Reaches, is_pending}
use Rattle.folder_watch.proofs.Scanning.{reaches_all, reaches_none, reaches_then}
use Rattle.folder_watch.proofs.Walking.{none_deep}
use Rattle.folder_watch.proofs.walk.look_below.Goals as goal

pub loop-depth-init : goal.loop-depth-init
loop-depth-init g c = record {
  few = search rules;
  deep = λ k d lt. omega arith;
  placed = λ files e all. all;
  reaches = λ files e all. subst (λ found. Reaches files (is_pending (paths_of c.args.level.items)) found (paths_of c.args.level.items)) (sym c.new-found.ensures)
      (reaches_none files (is_pending (paths_of c.args.level.items)) (paths_of c.args.level.items) (λ path t. t));
  later = omega arith;
  asked = refl;
  files = refl;
  coming = refl;
}

pub loop-depth-preserved : goal.loop-depth-preserved
loop-depth-preserved g c =
    let at = c.loop-depth in
    let one = c.in_ok-level.ensures in
    record {
      few = one.few;
      deep = one.deeper at._depth at.invariant.deep;
      placed = λ files e all. one.placed files (at.invariant.files ∙ e) (at.invariant.placed files e all);
      reaches = λ files e all. reaches_then files (is_pending (paths_of c.args.level.items)) at.found (paths_of at.level.items) c.look_into.new.found (paths_of c.in_ok-level.level.items)
          (at.invariant.reaches files e all) (one.covers files (at.invariant.files ∙ e) (at.invariant.placed files e all));
      later = omega (arith, at.invariant.later, c.look_into.ensures.later);
      asked = c.look_into.ensures.asked ∙ at.invariant.asked;
      files = c.look_into.ensures.files ∙ at.invariant.files;
      coming = c.look_into.ensures.coming ∙ at.invariant.coming;
    }

pub returns-clause-told : goal.returns-clause-told
returns-clause-told g c = λ files e all root.
    let at = c.loop-depth in
    let deep : AreDeep 256 at.level.items = λ k d lt. (let far = at.invariant.deep k d lt in let end = c.loop-depth-test.false in omega arith) in
    reaches_all files (is_pending (paths_of c.args.level.items)) at.found
    (subst (λ fs. Reaches files (is_pending (paths_of c.args.level.items)) at.found (paths_of fs)) (none_deep at.level.items deep) (at.invariant.reaches files e all)) root

pub returns-in_err-level-clause-stops : goal.returns-in_err-level-clause-stops
returns-in_err-level-clause-stops g c = λ files e all.
    let at = c.loop-depth in
    let told = err_from_is_err_and c.from_residual.result c.from_residual.ensures.1 in
    rw (told.1, told.2) (c.in_err-level.ensures.stops files (at.invariant.files ∙ e) (at.invariant.placed files e all) (at.invariant.reaches files e all).are)
