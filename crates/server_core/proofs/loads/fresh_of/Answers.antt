use Rattle.std.proofs.Common.{ap, ◌∙◌}
use Rattle.std.specs.Prelude.{None, Some}
use Rattle.std.specs.Option.{option_map}
use Rattle.core_model.specs.FreshLoad.{fresh_load}
use Rattle.import_links.specs.Links.{links}
use Rattle.client_records.specs.Record as client
use Rattle.server_core.proofs.Loading.{load_is}
use Rattle.server_core.proofs.loads.fresh_of.Goals as goal

pub returns-clause-stands : goal.returns-clause-stands
returns-clause-stands c = λ past h. ap Some (c.in_ok-fresh.ensures ∙ ap (λ v. fresh_load links v.served c.in-Some.roots.now) c.sources.ensures) ∙ load_is past c.args.core.now h c.args.client (Some c.in-Some.roots.now) (c.in-Some.ensures.stands past h)

pub returns-in_default-clause-stands : goal.returns-in_default-clause-stands
returns-in_default-clause-stands c = λ past h. load_is past c.args.core.now h c.args.client None (c.in_default.ensures.stands past h)

-- a client that isn't known has no roots
pub returns-in_err-fresh-clause-unknown : goal.returns-in_err-fresh-clause-unknown
returns-in_err-fresh-clause-unknown c = λ none. absurd (let e = c.in-Some.ensures.kept ∙ ap (option_map (λ (k : client.Kept). k.roots)) none in cc)
