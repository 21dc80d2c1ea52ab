use Rattle.std.proofs.Common.{◌≡◌, ◌+◌, ap, arith, sym, ◌∙◌, length}
use Rattle.std.specs.Prelude.{nat_lt}
use Rattle.hmr_types.specs.declared.limits.TheConstants.{INSTANCES}
use Rattle.runtime_answers.proofs.room.is_full.Goals as goal

pub returns-clause-many : goal.returns-clause-many
returns-clause-many g c = λ r k t.
    let long : c.len.result ≡ length c.args.runtime.now.page.instances.items = (let l = c.len.ensures in omega (arith, l)) in
    c.is_over.ensures ∙ ap (λ n. nat_lt INSTANCES (n + c.made.result)) (long ∙ sym k.page.instances.count)
    ∙ ap (λ n. nat_lt INSTANCES (length r.instances + n)) (c.made.ensures.made r k t)

pub returns-clause-room : goal.returns-clause-room
returns-clause-room g c = λ few.
    let long : c.len.result ≡ length c.args.runtime.now.page.instances.items = (let l = c.len.ensures in omega (arith, l)) in
    ap (λ n. nat_lt INSTANCES (length c.args.runtime.now.page.instances.items + n)) (sym c.made.ensures.count)
    ∙ ap (λ n. nat_lt INSTANCES (n + c.made.result)) (sym long) ∙ sym c.is_over.ensures ∙ few
