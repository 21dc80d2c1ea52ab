use Rattle.std.proofs.Common.{rules, ◌≡◌, ap, sym, ◌∙◌}
use Rattle.std.specs.Option.{is_some}
use Rattle.page_ends.specs.Tellings.{told_by}
use Rattle.page_ends.proofs.boundaries.told.Goals as goal

pub returns-clause-told : goal.returns-clause-told
returns-clause-told g c = λ p r s known now.
    let pair = c.args.pair.now in
    let telling = c.telling-telling.result in
    let boundary : c.in_ok-clone.field-0 ≡ c.args.pair.now.0 = search rules in
    let name : c.in_ok-clone-2.field-0 ≡ c.args.pair.now.1 = search rules in
    ap (λ b. told_by b c.in_ok-clone-2.field-0 telling now) boundary
    ∙ ap (λ n. told_by pair.0 n telling now) name
    ∙ c.telling-telling.ensures.told p r s (known.is_new pair.1 ∙ ap is_some (sym c.get.ensures) ∙ sym c.is_some-is_new.ensures) (known.is_forced pair.1 ∙ sym c.has-is_forced.ensures) now
