use Rattle.std.proofs.Common.{ap, ◌∙◌}
use Rattle.import_links.specs.Links.{links}
use Rattle.version_map.specs.Entries.{serving_of}
use Rattle.fresh_loads.proofs.Linking.{module_found}
use Rattle.fresh_loads.proofs.unlinked.add_module.Goals as goal

pub returns : goal.returns
returns c = module_found c.args.versions.now.served c.args.name.now (serving_of c.in-Some.served.now) c.args.exports.now _ _ _ _ c.in-Some.ensures.value (c.deref.ensures.value ∙ c.in_ok-links.ensures ∙ ap (links c.args.name.now) c.as_slice-text.ensures) c.as_slice-imports.ensures c.requires c.in_ok-add_imports.ensures
