use Rattle.std.proofs.Common.{Some, ap}
use Rattle.std.proofs.Math.Path.{subst}
use Rattle.std.specs.Option.{option_map}
use Rattle.version_map.specs.Changes.{ChangesAt}
use Rattle.version_map.specs.Entries.{answer_at, served_in, served_of, settled_serving, settled_source, source_in, source_of}
use Rattle.version_map.proofs.Rows.{written}
use Rattle.version_map.proofs.version_map.settle.Goals as goal

pub returns-in-Some-clause-entries : goal.returns-in-Some-clause-entries
returns-in-Some-clause-entries c =
    let n = c.args.name.now in
    let t = c.args.text.items in
    let v = c.args.ver in
    let e = c.in-Some.entry.now in
    let w = c.settle.new.self in
    let ans = answer_at (Some (source_of e)) t c.args.outcome v in
    subst (λ o. ChangesAt n (option_map (settled_source (answer_at (source_in o) t c.args.outcome v) t v) (source_in o)) (settled_serving (answer_at (source_in o) t c.args.outcome v) t v (served_in o)) c.args.entries.now.entries (c.get_mut.follows.lender w).entries)
    c.in-Some.ensures.value
    (written n (Some (settled_source ans t v (source_of e))) (settled_serving ans t v (served_of e)) c.args.entries.now (c.get_mut.follows.lender w) e w c.in-Some.ensures.value (ap Some c.settle.ensures.source) c.settle.ensures.served (c.get_mut.follows.holds w))
