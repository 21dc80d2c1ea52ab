use Rattle.std.proofs.Common.{sym, ap, ◌∙◌, Some}
use Rattle.folders.specs.Files.{text_at}
use Rattle.folder_watch.proofs.Looking.{text_found}
use Rattle.folder_watch.proofs.listing.Listing.text.Goals as goal

pub returns-in-Some : goal.returns-in-Some
returns-in-Some c = ap Some c.as_slice.ensures ∙ c.in-Some.ensures.value ∙ sym (text_found c.self.inside.files.entries c.args.name.now) ∙ ap (λ es. text_at es c.args.name.now) c.self.view_is

pub returns-in-None : goal.returns-in-None
returns-in-None c = c.in-None.ensures.value ∙ sym (text_found c.self.inside.files.entries c.args.name.now) ∙ ap (λ es. text_at es c.args.name.now) c.self.view_is
