use Rattle.std.proofs.Common.{ap, sym, ◌∙◌}
use Rattle.std.proofs.Math.Path.{subst}
use Rattle.std.proofs.lemmas.Result.{on_ok_weaker}
use Rattle.core_model.specs.Names.{at}
use Rattle.core_model.specs.View.{Entry, View, imports_of}
use Rattle.client_plan.specs.UnderWay.{plan_with, runtime_with}
use Rattle.client_plan.specs.Whole.{IsWalkFetched}
use Rattle.client_plan.proofs.Staged.{gone_on, more_planned, on_ok, still_planned, text_kept, walk_fetched}
use Rattle.client_plan.proofs.under_way.UnderWay.add_text.Goals as goal

pub returns-clause-under_way : goal.returns-clause-under_way
returns-clause-under_way c = λ r p t roots view is needs reads.
    let name = c.args.name.now in
    let found = c.args.found in
    let e : Entry = record { version = c.args.version; analysis = found.analysis } in
    let s = runtime_with p name c.args.version t found.analysis r in
    let q = plan_with p name e in
    let kept = text_kept r p c.args.self.now name c.args.version t found c.keep_text.new.plan c.keep_text.new.trees is c.in_ok-keep_text.ensures reads in
    let walk : IsWalkFetched c.args.roots.now q c.args.view.now name c.keeps_imports-keeps.result c.args.self.now.walk =
    subst (λ ns. IsWalkFetched ns q c.args.view.now name c.keeps_imports-keeps.result c.args.self.now.walk) roots
    (subst (λ v. IsWalkFetched r.roots q v name c.keeps_imports-keeps.result c.args.self.now.walk) view
    (walk_fetched r p c.args.self.now.next c.args.self.now.walk name e c.keeps_imports-keeps.result is.next is.walk needs
    (λ h. c.keeps_imports-keeps.ensures h ∙ ap (λ (v : View). imports_of (at v name)) (sym view)))) in
    on_ok_weaker c.go_on.result
    (λ on. gone_on s q c.args.self.now c.go_on.new.self c.keep_text.new.plan c.keep_text.new.trees c.go_on.ensures.rest kept.0 kept.1 on is.pairs is.cause)
    (c.go_on.ensures.next s q roots view kept.0 kept.1 walk)

pub returns-clause-planned : goal.returns-clause-planned
returns-clause-planned c = λ loaded planned counted.
    on_ok c.go_on.result (still_planned loaded c.args.self.now c.go_on.new.self c.keep_text.new.plan c.keep_text.new.trees _ _ c.go_on.ensures.rest
    (more_planned loaded c.args.self.now _ c.args.name.now c.args.version c.args.found c.in_ok-keep_text.ensures counted planned))
