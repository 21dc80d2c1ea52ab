use Rattle.std.proofs.Common.{rules, ◌≡◌, ◌≤◌, ℕ, List, ◌++◌, ◌∷◌, [], refl, ap, sym, ◌∙◌, subst, append_assoc}
use Rattle.std.specs.Prelude.{All, IfErr, Option}
use Rattle.std.specs.Global.{Vec}
use Rattle.std.specs.Vec.Iter.{into_iter_items}
use Rattle.std.proofs.lemmas.List.{map-append}
use Rattle.std.proofs.lemmas.List.Elements.{All-head, All-nil, All-rest, All-same}
use Rattle.hmr_types.specs.declared.limits.TheConstants.{MESSAGE_BYTES}
use Rattle.std.specs.Option.{option_to_list}
use Rattle.hub_editor.specs.Causes.{IsRoomStop}
use Rattle.hub_editor.specs.Edits.{IsWorkable, edits_in, length_of, text_in}
use Rattle.hub_editor.specs.Openings.{Opening, StopsFirst}
use Rattle.hub_editor.proofs.Calls.{knower_self, knower_then, on_err}
use Rattle.hub_editor.proofs.Openings.{begins_edits, begins_stopped, if_err_then, opening_none, opening_then, stops_at, stops_behind, workable_more}
use Rattle.hub_editor.proofs.opening.tell_edits.Goals as goal

abbrev IsShort : List ℕ × Option (Vec ℕ) → Type 0
IsShort e = length_of (e.0, text_in e.1) ≤ MESSAGE_BYTES

pub loop-name-init : goal.loop-name-init
loop-name-init g c = record {
  of = c.requires.of;
  same = knower_self c.args.pass.now;
  transcript = λ h. h;
  all = c.into_iter-name-iterator.ensures.into_iter_gives.0;
  opening = subst (λ js. Opening [] c.args.pass.now js) (sym c.new-jobs.ensures.items) (opening_none c.args.pass.now c.requires.fresh);
  workable = subst (λ js. All IsWorkable js) (sym c.new-jobs.ensures.items) (All-nil IsWorkable);
  short = All-same IsShort (into_iter_items c.into_iter-name-iterator.result) c.args.edits.items c.into_iter-name-iterator.ensures.into_iter_gives.0 c.requires.short;
}

pub tell_first-requires-clause-short : goal.tell_first-requires-clause-short
tell_first-requires-clause-short g c =
    All-head IsShort (c.in-Some.name, c.in-Some.text) (into_iter_items c.next.new.self)
    (subst (λ es. All IsShort es) c.in-Some.ensures.steps.0 c.loop-name.invariant.short)

pub loop-name-preserved : goal.loop-name-preserved
loop-name-preserved g c =
    let i = c.loop-name.invariant in
    let pass = c.tell_first.new.pass in
    let edits = c.loop-name.yielded in
    let jobs = c.loop-name.jobs.items in
    let now : c.put_job.new.jobs.items ≡ jobs ++ option_to_list c.in_ok-job.job = c.in_ok-put_job.ensures in
    record {
      of = c.tell_first.ensures.of;
      same = knower_then c.args.pass.now c.loop-name.pass pass i.same c.tell_first.ensures.same;
      transcript = λ h. c.tell_first.ensures.transcript (i.transcript h);
      all = append_assoc edits ((c.in-Some.name, c.in-Some.text) ∷ []) (into_iter_items c.next.new.self) ∙ (ap (λ es. edits ++ es) (sym c.in-Some.ensures.steps.0) ∙ i.all);
      opening = opening_then edits (c.in-Some.name, c.in-Some.text) (edits ++ (c.in-Some.name, c.in-Some.text) ∷ []) pass c.put_job.new.jobs.items refl
          (subst (λ js. Opening (edits_in edits ++ (c.in-Some.name, text_in c.in-Some.text) ∷ []) pass js) (sym now) (c.in_ok-job.ensures.opens (edits_in edits) jobs i.opening));
      short = All-rest IsShort (c.in-Some.name, c.in-Some.text) (into_iter_items c.next.new.self) (into_iter_items c.loop-name.name-iterator) c.in-Some.ensures.steps.0 i.short;
      workable = workable_more jobs c.put_job.new.jobs.items c.in_ok-job.job now i.workable c.in_ok-job.ensures.workable;
    }

pub returns-in_err-job-clause-front : goal.returns-in_err-job-clause-front
returns-in_err-job-clause-front g c =
    let i = c.loop-name.invariant in
    on_err c.from_residual.result
    (begins_stopped c.loop-name.pass c.tell_first.new.pass c.loop-name.yielded (c.in-Some.name, c.in-Some.text) (into_iter_items c.next.new.self) c.args.edits.items c.in_err-job.field-0.0
    (ap (λ es. c.loop-name.yielded ++ es) (sym c.in-Some.ensures.steps.0) ∙ i.all) i.opening.seen c.in_err-job.ensures.stopped)

pub returns-in_err-job-clause-stopped : goal.returns-in_err-job-clause-stopped
returns-in_err-job-clause-stopped g c =
    let i = c.loop-name.invariant in
    let stopped : IfErr c.from_residual.result (StopsFirst (c.in-Some.name, text_in c.in-Some.text) c.loop-name.pass c.tell_first.new.pass) = search rules in
    if_err_then c.from_residual.result stopped
    (λ stop h. stops_at c.loop-name.pass c.tell_first.new.pass c.loop-name.yielded (c.in-Some.name, c.in-Some.text) (into_iter_items c.next.new.self) c.args.edits.items c.loop-name.jobs.items stop
    (ap (λ es. c.loop-name.yielded ++ es) (sym c.in-Some.ensures.steps.0) ∙ i.all) i.opening h)

pub returns-in_err-put_job-clause-stopped : goal.returns-in_err-put_job-clause-stopped
returns-in_err-put_job-clause-stopped g c =
    let i = c.loop-name.invariant in
    let told = edits_in c.loop-name.yielded ++ (c.in-Some.name, text_in c.in-Some.text) ∷ [] in
    let o = c.in_ok-job.ensures.opens (edits_in c.loop-name.yielded) c.loop-name.jobs.items i.opening in
    let room : IfErr c.from_residual-in_err-put_job.result IsRoomStop = search rules in
    if_err_then c.from_residual-in_err-put_job.result room
    (λ stop h. stops_behind c.tell_first.new.pass told (edits_in (into_iter_items c.next.new.self)) (edits_in c.args.edits.items) (c.loop-name.jobs.items ++ option_to_list c.in_ok-job.job) stop
    (append_assoc (edits_in c.loop-name.yielded) ((c.in-Some.name, text_in c.in-Some.text) ∷ []) (edits_in (into_iter_items c.next.new.self))
    ∙ (sym (map-append (λ (x : List ℕ × Option (Vec ℕ)). (x.0, text_in x.1)) c.loop-name.yielded ((c.in-Some.name, c.in-Some.text) ∷ into_iter_items c.next.new.self))
    ∙ ap edits_in (ap (λ es. c.loop-name.yielded ++ es) (sym c.in-Some.ensures.steps.0) ∙ i.all))) o h)

pub returns-in_err-put_job-clause-front : goal.returns-in_err-put_job-clause-front
returns-in_err-put_job-clause-front g c =
    let i = c.loop-name.invariant in
    let told = edits_in c.loop-name.yielded ++ (c.in-Some.name, text_in c.in-Some.text) ∷ [] in
    let o = c.in_ok-job.ensures.opens (edits_in c.loop-name.yielded) c.loop-name.jobs.items i.opening in
    on_err c.from_residual-in_err-put_job.result
    (begins_edits c.tell_first.new.pass told (edits_in (into_iter_items c.next.new.self)) (edits_in c.args.edits.items) o.seen
    (append_assoc (edits_in c.loop-name.yielded) ((c.in-Some.name, text_in c.in-Some.text) ∷ []) (edits_in (into_iter_items c.next.new.self))
    ∙ (sym (map-append (λ (x : List ℕ × Option (Vec ℕ)). (x.0, text_in x.1)) c.loop-name.yielded ((c.in-Some.name, c.in-Some.text) ∷ into_iter_items c.next.new.self))
    ∙ ap edits_in (ap (λ es. c.loop-name.yielded ++ es) (sym c.in-Some.ensures.steps.0) ∙ i.all))))
