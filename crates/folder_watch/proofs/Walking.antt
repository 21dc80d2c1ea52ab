-- How the folders that are still to be listed grow, entry by entry.
use Rattle.std.proofs.Common.{ℕ, ◌+◌, ◌≤◌, List, [], ◌∷◌, ◌++◌, length, Bool, true, false, cond, ◌≡◌, refl, sym, ap, ◌∙◌, subst, arith, Option, Some, None, string_bytes}
use Rattle.std.specs.Prelude.{◌||◌, ◌==◌, not, is_some, All, IfOk, IfSome, Result, Ok, Err}
use Rattle.std.specs.Option.{option_map}
use Rattle.std.specs.List.{list_any}
use Rattle.std.specs.Cmp.Lexicographic.{same_text}
use Rattle.std.proofs.lemmas.Bool.{and_from}
use Rattle.std.proofs.lemmas.List.{length-append, map-append}
use Rattle.std.proofs.lemmas.List.Elements.{All-append, All-cons}
use Rattle.hmr_types.specs.ModName.{slash}
use Rattle.folders.specs.declared.tree.Entry.{Entry}
use Rattle.folders.specs.declared.tree.Node.TheVariants.{Dir, File}
use Rattle.folders.specs.Entries.{IsListed, has_slash, leads_to, path_of}
use Rattle.folders.specs.Files.{below, has_file, next_files, rest_after}
use Rattle.folders.proofs.Paths.{rest-is}
use Rattle.folder_watch.specs.declared.folder.Folder.{Folder}
use Rattle.folder_watch.specs.Pending.{Adds, AddsIf, AreDeep, ArePlaced, paths_of}
use Rattle.folder_watch.specs.Scans.{Covers, IsPlaced, IsRoot, IsScanOf, Takes, is_pending}
use Rattle.folder_watch.specs.Watched.{is_kept, is_watched}
use Rattle.folder_watch.proofs.Watching.{slash_first, through_watched, watched_parts}
use Rattle.folder_watch.proofs.Scanning.{covers_file, covers_folder, covers_none}

abbrev Files : Type 0
Files = List (List ℕ × List ℕ)

all_more : {X : Type 0} (P : X → Type 0) (xs : List X) (x : X) → All P xs → P x → All P (xs ++ x ∷ [])
all_more P xs x h e = All-append P xs (x ∷ []) h (All-cons P x [] e (λ k d lt. absurd (omega arith)))

module _ {D : Type 0} (folder name : List ℕ) (dir : D) (old new : List (Folder D)) where
  -- what holds of the folders so far, and of the new one
  grown : (P : Folder D → Type 0) → ((f : Folder D) → f.path.items ≡ below folder name → f.dir ≡ dir → P f) → (t : Bool)
      → AddsIf t (below folder name) dir old new → All P old → All P new
  grown P h true a all = subst (λ fs. All P fs) (sym a.whole) (all_more P old a.folder all (h a.folder a.path_is a.dir_is))
  grown P h false a all = subst (λ fs. All P fs) (sym a) all

  pub grown_deep : (depth : ℕ) → AddsIf (is_kept folder name) (below folder name) dir old new → depth ≤ length folder → AreDeep (depth + 1) old → AreDeep (depth + 1) new
  grown_deep depth a d all = grown (λ f. depth + 1 ≤ length f.path.items)
      (λ f p e. let n = ap length p in let l : length (below folder name) ≡ length folder + length (slash ∷ name) = length-append folder (slash ∷ name) in omega (arith, n, l))
      (is_kept folder name) a all

  pub grown_placed : (dir_path : D → List ℕ) → AddsIf (is_kept folder name) (below folder name) dir old new → dir_path dir ≡ below folder name
      → ArePlaced dir_path old → ArePlaced dir_path new
  grown_placed dir_path a d all = grown (λ f. dir_path f.dir ≡ f.path.items) (λ f p e. ap dir_path e ∙ d ∙ sym p) (is_kept folder name) a all

  away_turn : (path : List ℕ) (o : Option (List ℕ)) → rest_after (below folder name) path ≡ o → is_watched path ≡ true → has_slash name ≡ false → is_kept folder name ≡ false → is_some o ≡ false
  away_turn path None e w h k = refl
  away_turn path (Some rest) e w h k =
      let t = through_watched folder name rest (ap is_watched (sym (rest-is (below folder name) path rest e)) ∙ w) h in
      absurd (let both : is_kept folder name ≡ true = and_from _ _ (ap not t.1) t.0 in let no : true ≡ false = sym both ∙ k in cc)

  covered_turn : (files found : Files) (at : List ℕ) → at ≡ below folder name → has_slash name ≡ false → (t : Bool) → is_kept folder name ≡ t
      → AddsIf t (below folder name) dir old new → Covers files (λ path. is_some (rest_after at path)) found (paths_of old) found (paths_of new)
  covered_turn files found at e h true k a =
      let whole : paths_of new ≡ paths_of old ++ at ∷ [] =
      ap paths_of a.whole ∙ map-append (λ f. f.path.items) old (a.folder ∷ []) ∙ ap (λ p. paths_of old ++ p ∷ []) (a.path_is ∙ sym e) in
      subst (λ now. Covers files (λ path. is_some (rest_after at path)) found (paths_of old) found now) (sym whole)
      (covers_folder files (λ path. is_some (rest_after at path)) at found (paths_of old) (λ path l. l))
  covered_turn files found at e h false k a =
      subst (λ now. Covers files (λ path. is_some (rest_after at path)) found (paths_of old) found now) (sym (ap paths_of a))
      (covers_none files (λ path. is_some (rest_after at path)) found (paths_of old)
      (λ path w. ap (λ p. is_some (rest_after p path)) e ∙ away_turn path (rest_after (below folder name) path) refl w h k))

  pub grown_covers : (files found : Files) (at : List ℕ) → AddsIf (is_kept folder name) (below folder name) dir old new → at ≡ below folder name → has_slash name ≡ false
      → Covers files (λ path. is_some (rest_after at path)) found (paths_of old) found (paths_of new)
  grown_covers files found at a e h = covered_turn files found at e h (is_kept folder name) refl a

module _ {D F : Type 0} (dir_path : D → List ℕ) (file_path : F → List ℕ) (files : Files) (folder : List ℕ) where
  module _ (entry : Entry D F) where
    -- where a file stands
    pub file_stands : (file : F) → entry.node ≡ File file → IsPlaced dir_path file_path files folder entry → file_path file ≡ below folder (string_bytes entry.name)
    file_stands file e p = sym (ap (path_of dir_path file_path) e) ∙ p.placed

    -- and a folder
    pub dir_stands : (dir : D) → entry.node ≡ Dir dir → IsPlaced dir_path file_path files folder entry → dir_path dir ≡ below folder (string_bytes entry.name)
    dir_stands dir e p = sym (ap (path_of dir_path file_path) e) ∙ p.placed

    -- a file that was read
    pub file_covers : (file : F) (path : List ℕ) (found new : Files) (was : List (List ℕ)) → entry.node ≡ File file → file_path file ≡ path
        → Takes files path found new → Covers files (λ p. leads_to dir_path file_path p entry.node) found was new was
    file_covers file path found new was e at t =
        covers_file files (λ p. leads_to dir_path file_path p entry.node) path found new was
        (λ p l. same_text p (file_path file) (sym (sym (ap (leads_to dir_path file_path p) e) ∙ l)) ∙ at) t

    -- a folder that was added, or passed over
    pub dir_covers : (dir : D) (name : List ℕ) (found : Files) (old new : List (Folder D)) → entry.node ≡ Dir dir → dir_path dir ≡ below folder name → has_slash name ≡ false
        → AddsIf (is_kept folder name) (below folder name) dir old new → Covers files (λ p. leads_to dir_path file_path p entry.node) found (paths_of old) found (paths_of new)
    dir_covers dir name found old new e at h a =
        subst (λ node. Covers files (λ p. leads_to dir_path file_path p node) found (paths_of old) found (paths_of new)) (sym e)
        (grown_covers folder name dir old new files found (dir_path dir) a at h)

  -- what is listed of a folder that the tree tells
  pub listed_of : (told : Option Files) (at : List ℕ) (entries items : List (Entry D F)) → told ≡ Some files → IfSome told (λ fs. IsListed dir_path file_path fs at entries)
      → at ≡ folder → items ≡ entries → IsListed dir_path file_path files folder items
  listed_of told at entries items e h p q =
      subst (λ x. IsListed dir_path file_path files x items) p
      (subst (λ es. IsListed dir_path file_path files at es) (sym q) (subst (λ o. IfSome o (λ fs. IsListed dir_path file_path fs at entries)) e h))

  pub listed_placed : (items : List (Entry D F)) → IsListed dir_path file_path files folder items → All (λ entry. IsPlaced dir_path file_path files folder entry) items
  listed_placed items l k d lt = record { placed = l.placed k d lt; plain = l.plain k d lt; there = l.there k d lt }

  pub listed_leads : (items : List (Entry D F)) → IsListed dir_path file_path files folder items → (path : List ℕ) → has_file files path ≡ true → is_some (rest_after folder path) ≡ true
      → list_any (λ entry. leads_to dir_path file_path path entry.node) items ≡ true
  listed_leads items l path f t = by (rest_after folder path) refl t
    where
      by : (o : Option (List ℕ)) → rest_after folder path ≡ o → is_some o ≡ true → list_any (λ entry. leads_to dir_path file_path path entry.node) items ≡ true
      by None e k = absurd (let x : false ≡ true = k in cc)
      by (Some rest) e k =
          let is = rest-is folder path rest e in
          subst (λ p. list_any (λ entry. leads_to dir_path file_path p entry.node) items ≡ true) (sym is) (l.whole rest (ap (has_file files) (sym is) ∙ f))

-- the first of a list
pub all_first : {X : Type 0} (P : X → Type 0) (x : X) (xs ys : List X) → ys ≡ x ∷ xs → All P ys → P x
all_first P x xs ys e h = (subst (λ l. All P l) e h) 0 x (omega arith)

pub nothing_left : {X : Type 0} (xs : List X) → length xs ≡ 0 → xs ≡ []
nothing_left [] h = refl
nothing_left (x ∷ xs) h = absurd (omega arith)

pub all_none : {X : Type 0} (P : X → Type 0) (xs : List X) → xs ≡ [] → All P xs
all_none P xs e = subst (λ l. All P l) (sym e) (λ k d lt. absurd (omega arith))

-- no folder has so long a path
pub none_deep : {D : Type 0} (folders : List (Folder D)) → AreDeep 256 folders → folders ≡ []
none_deep [] h = refl
none_deep (f ∷ fs) h = absurd (let long : 256 ≤ length f.path.items = h 0 f (omega arith) in let short = f.short in omega arith)

-- a module's path begins with a slash
pub root_pending : (path : List ℕ) → is_watched path ≡ true → is_some (rest_after [] path) ≡ true
root_pending [] w = absurd (cc)
root_pending (b ∷ bs) w = by (b == slash) (slash_first b bs (watched_parts (b ∷ bs) w).0)
  where
    by : (t : Bool) → t ≡ true → is_some (cond t (Some bs) None) ≡ true
    by t e = ap (λ x. is_some (cond x (Some bs) None)) e

-- the folder that was opened is the first level
pub root_stands : {D : Type 0} (dir_path : D → List ℕ) (dir : D) (path : List ℕ) (old new : List (Folder D)) → Adds path dir old new → old ≡ [] → path ≡ [] → dir_path dir ≡ []
    → ArePlaced dir_path new × IsRoot (paths_of new)
root_stands dir_path dir path old new a o p d =
    let whole : new ≡ a.folder ∷ [] = a.whole ∙ ap (λ fs. fs ++ a.folder ∷ []) o in (
      subst (λ fs. ArePlaced dir_path fs) (sym whole)
          (All-cons (λ f. dir_path f.dir ≡ f.path.items) a.folder [] (ap dir_path a.dir_is ∙ d ∙ sym (a.path_is ∙ p)) (λ k x lt. absurd (omega arith))),
      λ to w. ap (λ fs. is_pending (paths_of fs) to) whole ∙ ap (λ t. t || false) (ap (λ at. is_some (rest_after at to)) (a.path_is ∙ p) ∙ root_pending to w),
    )

-- what holds of the files that are open holds of those that were to come
pub told_coming : {E : Type 0} (coming : Option (List Files)) (now : Option Files) (r : Result Files E) → now ≡ option_map next_files coming
    → ((files : Files) → now ≡ Some files → IfOk r (IsScanOf files)) → IfOk r (λ listing. IfSome coming (λ coming. IsScanOf (next_files coming) listing))
told_coming None now (Ok x) e h = tt
told_coming None now (Err y) e h = tt
told_coming (Some coming) now (Ok x) e h = h (next_files coming) e
told_coming (Some coming) now (Err y) e h = tt
