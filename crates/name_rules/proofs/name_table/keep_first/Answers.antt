use Rattle.std.proofs.Common.{◌≡◌, ◌∙◌, rules, sym}
use Rattle.name_rules.proofs.Places.{put_kept, stays_kept}
use Rattle.name_rules.proofs.name_table.keep_first.Goals as goal

pub returns-then-contains_key : goal.returns-then-contains_key
returns-then-contains_key c = stays_kept c.args.name.now c.args.place c.args.places.now.entries (sym c.contains_key.ensures ∙ c.if-contains_key.true)

pub returns : goal.returns
returns c =
    let same : c.in_ok-clone.field-0 ≡ c.args.name.now = search rules in
    put_kept c.args.name.now c.args.place c.args.places.now c.insert.new.self (sym c.contains_key.ensures ∙ c.if-contains_key.false) (rw same at c.in_ok-insert.ensures.updates)
