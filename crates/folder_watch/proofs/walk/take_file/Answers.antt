use Rattle.std.proofs.Common.{rules, ◌≡◌, ◌<◌, true, sym, ap, subst, ◌∙◌, cond, Some}
use Rattle.hmr_types.specs.ModName.{is_name, is_text}
use Rattle.folders.specs.Files.{text_at}
use Rattle.folder_watch.specs.Listings.{most_names}
use Rattle.folder_watch.specs.Watched.{ends_in_js}
use Rattle.folder_watch.proofs.Looking.{text_self}
use Rattle.folder_watch.proofs.Scanning.{takes_new, told_gone, told_text}
use Rattle.folder_watch.proofs.walk.take_file.Goals as goal

pub returns-clause-reads : goal.returns-clause-reads
returns-clause-reads g c = λ files e p l.
    let ok = c.in-Ok.ensures.ok in
    let n : is_name c.args.path.now ≡ true = ap is_name (sym (c.name.view_is ∙ ok)) ∙ c.name.invariant in
    let j : ends_in_js c.args.path.now ≡ true = search rules in
    let t : text_at files c.args.path.now ≡ Some c.in-Text.text.items =
    told_text (g.T.Tree.files c.args.tree.now) files (g.T.Tree.file_path c.args.file) c.args.path.now 131072 c.in_ok-text.field-0 c.in-Text.text e c.in_ok-text.ensures.told p c.in-Text.is in
    takes_new files c.args.path.now c.in-Text.text.items c.args.found.now c.add.new.self n j l t
    (λ other. subst (λ name. text_at c.add.new.self other ≡ cond (is_text name other) (Some c.in-Text.text.items) (text_at c.args.found.now other)) ok (c.in_ok-add.ensures.added other))
    (text_self c.args.path.now)

pub returns-in-Gone-clause-reads : goal.returns-in-Gone-clause-reads
returns-in-Gone-clause-reads g c = λ files e p l.
    told_gone (g.T.Tree.files c.args.tree.now) files (g.T.Tree.file_path c.args.file) 131072 c.in_ok-text.field-0 e c.in_ok-text.ensures.told c.in-Gone.is

pub returns-then-len-gt-SOURCE_NAMES-clause-stops : goal.returns-then-len-gt-SOURCE_NAMES-clause-stops
returns-then-len-gt-SOURCE_NAMES-clause-stops g c = λ files e p l h.
    let ok = c.in-Ok.ensures.ok in
    let n : is_name c.args.path.now ≡ true = ap is_name (sym (c.name.view_is ∙ ok)) ∙ c.name.invariant in
    let j : ends_in_js c.args.path.now ≡ true = search rules in
    let t : text_at files c.args.path.now ≡ Some c.in-Text.text.items =
    told_text (g.T.Tree.files c.args.tree.now) files (g.T.Tree.file_path c.args.file) c.args.path.now 131072 c.in_ok-text.field-0 c.in-Text.text e c.in_ok-text.ensures.told p c.in-Text.is in
    let takes = takes_new files c.args.path.now c.in-Text.text.items c.args.found.now c.add.new.self n j l t
    (λ other. subst (λ name. text_at c.add.new.self other ≡ cond (is_text name other) (Some c.in-Text.text.items) (text_at c.args.found.now other)) ok (c.in_ok-add.ensures.added other))
    (text_self c.args.path.now) in
    record {
      modules = c.add.new.self;
      rise = c.len.ensures.rising;
      are = takes.are h;
      many = subst (λ n. most_names < n) c.len.ensures.len c.if-len-gt-SOURCE_NAMES.true;
    }
