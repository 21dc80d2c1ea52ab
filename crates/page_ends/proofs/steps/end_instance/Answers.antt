use Rattle.std.proofs.Common.{refl, ap, sym, ◌∙◌, ◌+◌, ◌≡◌, suc, arith}
use Rattle.std.proofs.Math.Path.{subst}
use Rattle.std.proofs.lemmas.Option.{slice_get_read, same_Some}
use Rattle.page_state.specs.Live.{LosesNumber}
use Rattle.page_state.proofs.Standing.{end_follows}
use Rattle.page_ends.proofs.steps.end_instance.Goals as goal

pub returns-clause-follows : goal.returns-clause-follows
returns-clause-follows g c = λ told n.
    let there = slice_get_read c.args.page.now.instances.items _ c.args.place c.index_mut.result.now refl c.requires.place c.index_mut.ensures.value in
    let read = slice_get_read c.args.page.now.instances.items _ c.args.place c.index.result.now refl c.requires.place c.index.ensures in
    let same : c.index.result.now ≡ c.index_mut.result.now = same_Some _ _ (sym read ∙ there) in
    let number : c.args.place + 1 ≡ suc c.args.place = omega arith in
    end_follows c.args.fate c.requires.dead c.args.place n c.args.page.now _ c.index_mut.result.now c.end-2.new.self told
    (record { client = refl; unsent = refl; shelf = refl; there = there; set = refl; name = ap (λ x. x.name) c.end-2.ensures.rest })
    (subst (λ k. LosesNumber c.index_mut.result.now.name k c.args.page.now.live c.end.new.self) number (subst (λ x. LosesNumber x.name (c.args.place + 1) c.args.page.now.live c.end.new.self) same c.end.ensures))
    refl c.end-2.ensures.sees
