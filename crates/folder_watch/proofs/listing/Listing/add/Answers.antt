use Rattle.std.proofs.Common.{◌≤◌, length, sym, subst, cond, ◌≡◌, Some}
use Rattle.std.specs.Cmp.Lexicographic.{slice_cmp}
use Rattle.std.specs.Ordering.{nat_cmp}
use Rattle.std.proofs.lemmas.Map.Views.{All-values-insert_entry}
use Rattle.hmr_types.specs.ModName.{is_text}
use Rattle.folders.specs.Files.{text_at}
use Rattle.folder_watch.specs.Listings.{AreShort, text_bytes}
use Rattle.folder_watch.proofs.Looking.{text_added}
use Rattle.folder_watch.proofs.listing.Listing.add.Goals as goal

pub invariant_of-self-2 : goal.invariant_of-self-2
invariant_of-self-2 c = (
  c.in_ok-insert.ensures.ordered,
  subst (λ es. AreShort es) (sym c.in_ok-insert.ensures.entries)
      (All-values-insert_entry (slice_cmp nat_cmp) c.args.name c.from_vec.result (λ text. length text ≤ text_bytes) c.self.inside.files.entries c.self.invariant.1
      (subst (λ t. length t ≤ text_bytes) (sym c.from_vec.ensures) c.requires.short)),
)

pub returns : goal.returns
returns c = record {
  added = λ other.
      subst (λ es. text_at c.insert.new.self.entries other ≡ cond (is_text c.args.name other) (Some c.args.text.items) (text_at es other)) c.self.view_is
      (subst (λ t. text_at c.insert.new.self.entries other ≡ cond (is_text c.args.name other) (Some t) (text_at c.self.inside.files.entries other)) c.from_vec.ensures
      (text_added c.args.name c.from_vec.result c.self.inside.files.entries c.insert.new.self.entries c.in_ok-insert.ensures.updates.0 other));
}
