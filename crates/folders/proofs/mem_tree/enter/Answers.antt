use Rattle.std.proofs.Common.{rules, ◌≡◌, sym, subst, true, ◌∷◌, ◌++◌, []}
use Rattle.std.specs.List.{list_any}
use Rattle.folders.specs.Entries.{IsListed, leads_to}
use Rattle.folders.specs.Memory.{dir_path_of, file_path_of}
use Rattle.folders.proofs.Listings.{listed_same, listed_away, listed_more}
use Rattle.folders.proofs.mem_tree.enter.Goals as goal

pub returns-then-is_entered : goal.returns-then-is_entered
returns-then-is_entered c = λ files text h.
    let e : list_any (λ entry. leads_to dir_path_of file_path_of c.args.path.now entry.node) c.args.entries.now.items ≡ true = search rules in
    listed_same files c.args.folder.now c.args.path.now text c.args.entries.now.items e h

pub returns-in_ok-push : goal.returns-in_ok-push
returns-in_ok-push c = λ files text h.
    let e : c.push.new.self.items ≡ c.args.entries.now.items ++ c.in-Some.entry ∷ [] = search rules in
    subst (λ es. IsListed dir_path_of file_path_of (files ++ (c.args.path.now, text) ∷ []) c.args.folder.now es) (sym e)
    (listed_more files c.args.folder.now c.args.path.now text c.args.entries.now.items c.in-Some.entry (search rules) h)

pub returns-in_default : goal.returns-in_default
returns-in_default c = λ files text h. listed_away files c.args.folder.now c.args.path.now text c.args.entries.now.items (search rules) h
