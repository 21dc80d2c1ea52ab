use Rattle.std.proofs.Common.{Some, None, ap, refl, ◌∙◌}
use Rattle.version_map.specs.Entries.{entry_at, served_in, unserved_source}
use Rattle.version_map.specs.declared.entry.Entry.TheVariants as entry
use Rattle.version_map.proofs.Rows.{changes_at, written}
use Rattle.version_map.proofs.version_map.put.Goals as goal

pub returns-in-Some-clause-ok : goal.returns-in-Some-clause-ok
returns-in-Some-clause-ok c =
    let n = c.args.name in
    let w = c.renew.new.self in
    written n (Some (unserved_source c.args.source)) (served_in (entry_at c.args.entries.now.entries n)) c.args.entries.now (c.get_mut.follows.lender w) c.in-Some.entry.now w c.in-Some.ensures.value
    (ap Some c.renew.ensures.source) (c.renew.ensures.served ∙ ap served_in c.in-Some.ensures.value) (c.get_mut.follows.holds w)

pub returns-in_ok-insert-in-None-clause-ok : goal.returns-in_ok-insert-in-None-clause-ok
returns-in_ok-insert-in-None-clause-ok c =
    let n = c.args.name in
    changes_at n (Some (unserved_source c.args.source)) (served_in (entry_at c.args.entries.now.entries n)) c.args.entries.now.entries c.insert.new.self.entries (Some (entry.Unserved c.args.source None))
    refl (ap served_in c.in-None.ensures.value) (rw c.get_mut.follows.holds-at-none at c.in_ok-insert-in-None.ensures.updates.0) c.insert.ensures.ordered
