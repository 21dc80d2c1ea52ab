use Rattle.std.proofs.Common.{arith, ◌≡◌, ◌<◌, ◌++◌, ◌∷◌, [], get_or, length, refl, ap, sym, ◌∙◌, subst, append_assoc}
use Rattle.std.specs.Vec.Iter.{into_iter_items}
use Rattle.std.proofs.lemmas.List.{append-nil, length-append}
use Rattle.hmr_hub.specs.Passes.{seen_of}
use Rattle.hub_editor.specs.Editing.{Settled}
use Rattle.hub_editor.specs.Openings.{job_at}
use Rattle.hub_editor.proofs.Calls.{knower_self, knower_then, on_err}
use Rattle.hub_editor.proofs.Openings.{results_stopped, still_alone, told_then}
use Rattle.hub_editor.proofs.opening.tell_results.Goals as goal

pub loop-done-init : goal.loop-done-init
loop-done-init g c = record {
  of = c.requires.of;
  same = knower_self c.args.pass.now;
  transcript = λ h. h;
  all = c.into_iter-done-iterator.ensures.into_iter_gives.0;
  count = refl;
  seen = sym (append-nil (seen_of c.args.pass.now));
}

pub loop-done-preserved : goal.loop-done-preserved
loop-done-preserved g c =
    let i = c.loop-done.invariant in
    let pass = c.tell_result.new.pass in
    let done = c.loop-done.yielded in
    let steps : into_iter_items c.loop-done.done-iterator ≡ c.in-Some.done ∷ into_iter_items c.next.new.self = c.in-Some.ensures.steps.0 in
    let few : length done < length c.args.versions.now =
    omega (arith, ap length i.all, length-append done (into_iter_items c.loop-done.done-iterator), ap length steps, c.requires.many) in
    record {
      of = c.tell_result.ensures.of;
      same = knower_then c.args.pass.now c.loop-done.pass pass i.same c.tell_result.ensures.same;
      transcript = λ h. c.tell_result.ensures.transcript;
      all = append_assoc done (c.in-Some.done ∷ []) (into_iter_items c.next.new.self) ∙ (ap (λ ds. done ++ ds) (sym steps) ∙ i.all);
      count = omega (arith, i.count, length-append done (c.in-Some.done ∷ []));
      seen = told_then c.args.pass.now c.loop-done.pass pass done (done ++ c.in-Some.done ∷ []) c.in-Some.done c.args.versions.now 0 few refl (i.same.alone ∙ c.requires.alone) i.seen
          (subst (λ k. Settled (job_at c.in-Some.done (get_or c.args.versions.now k 0)) c.loop-done.pass pass) i.count c.in_ok-tell_result.ensures.settled);
    }

pub returns-in_err-tell_result-clause-front : goal.returns-in_err-tell_result-clause-front
returns-in_err-tell_result-clause-front g c =
    let i = c.loop-done.invariant in
    on_err c.from_residual.result
    (results_stopped c.args.pass.now c.loop-done.pass c.tell_result.new.pass c.loop-done.yielded (into_iter_items c.loop-done.done-iterator) c.args.done.items c.args.versions.now i.all i.seen
    (still_alone c.loop-done.pass c.tell_result.new.pass (i.same.alone ∙ c.requires.alone) c.in_err-tell_result.ensures.unsettled))
