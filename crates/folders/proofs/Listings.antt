-- How the listing of a folder grows by the files that are below it.
use Rattle.std.proofs.Common.{ℕ, ◌+◌, ◌<◌, List, [], ◌∷◌, ◌++◌, take, length, get_or, map, Bool, true, false, cond, ◌≡◌, refl, sym, ap, ◌∙◌, subst, inl, inr, append_assoc, arith, Some, None, string_bytes}
use Rattle.std.specs.Prelude.{◌||◌, ◌==◌, ◌⊎◌, All, is_some}
use Rattle.std.specs.List.{list_any, position_or_len, before_first, after_first}
use Rattle.std.specs.Cmp.Lexicographic.{same_text, other_text}
use Rattle.std.proofs.lemmas.List.{take_more, map-append}
use Rattle.std.proofs.lemmas.List.Elements.{All-append, All-cons}
use Rattle.std.proofs.lemmas.List.Folds.{list_any-append}
use Rattle.hmr_types.specs.ModName.{is_text, slash}
use Rattle.folders.specs.declared.tree.Entry.{Entry}
use Rattle.folders.specs.declared.tree.Node.{Node}
use Rattle.folders.specs.declared.tree.Node.TheVariants.{Dir, File}
use Rattle.folders.specs.declared.mem_tree.MemFile.{MemFile}
use Rattle.folders.specs.declared.mem_tree.MemDir.{MemDir}
use Rattle.folders.specs.declared.mem_tree.MemPlace.{MemPlace}
use Rattle.folders.specs.Files.{below, has_file, rest_after, text_at}
use Rattle.folders.specs.Entries.{IsListed, has_slash, is_there, leads_to, path_of}
use Rattle.folders.specs.Memory.{IfDir, IfFile, IsAt, IsEntryFor, IsOneMore, dir_path_of, file_path_of, told_file}
use Rattle.folders.proofs.Paths.{rest-below, rest-is, rest-split, no_slash-before, no_slash-in}

abbrev Files : Type 0
Files = List (List ℕ × List ℕ)

abbrev Entries : Type 0
Entries = List (Entry MemDir MemPlace)

more_turn : (found is : Bool) (text : List ℕ) (files more : Files) (p : List ℕ) → has_file more p ≡ (has_file files p || is)
    → is_some (cond found (Some text) (text_at more p)) ≡ (is_some (cond found (Some text) (text_at files p)) || is)
more_turn true is text files more p h = refl
more_turn false is text files more p h = h

more_last : (is : Bool) (text : List ℕ) → is_some (cond is (Some text) None) ≡ is
more_last true text = refl
more_last false text = refl

-- one more file
has_file_more : (files : Files) (path text p : List ℕ) → has_file (files ++ (path, text) ∷ []) p ≡ (has_file files p || is_text p path)
has_file_more [] path text p = more_last (is_text p path) text
has_file_more (f ∷ files) path text p = more_turn (is_text p f.0) (is_text p path) f.1 files (files ++ (path, text) ∷ []) p (has_file_more files path text p)

stays : (files : Files) (path text p : List ℕ) → has_file files p ≡ true → has_file (files ++ (path, text) ∷ []) p ≡ true
stays files path text p h = has_file_more files path text p ∙ ap (λ t. t || is_text p path) h

text_self : (p : List ℕ) → is_text p p ≡ true
text_self p = by (is_text p p) refl
  where
    by : (t : Bool) → is_text p p ≡ t → t ≡ true
    by true e = refl
    by false e = absurd (other_text p p (sym e) refl)

comes : (files : Files) (path text : List ℕ) → has_file (files ++ (path, text) ∷ []) path ≡ true
comes files path text = has_file_more files path text path ∙ ap (λ t. has_file files path || t) (text_self path) ∙ by (has_file files path)
  where
    by : (t : Bool) → (t || true) ≡ true
    by true = refl
    by false = refl

there_still : (files : Files) (path text : List ℕ) (node : Node MemDir MemPlace) → is_there dir_path_of file_path_of files node ≡ true
    → is_there dir_path_of file_path_of (files ++ (path, text) ∷ []) node ≡ true
there_still files path text (Dir dir) h = refl
there_still files path text (File file) h = stays files path text (file_path_of file) h

there_now : (files : Files) (path text : List ℕ) (node : Node MemDir MemPlace) → IsAt path node
    → is_there dir_path_of file_path_of (files ++ (path, text) ∷ []) node ≡ true
there_now files path text (Dir dir) h = refl
there_now files path text (File file) h = ap (has_file (files ++ (path, text) ∷ [])) h ∙ comes files path text

all_more : (P : Entry MemDir MemPlace → Type 0) (entries : Entries) (entry : Entry MemDir MemPlace) → All P entries → P entry → All P (entries ++ entry ∷ [])
all_more P entries entry h e = All-append P entries (entry ∷ []) h (All-cons P entry [] e (λ k d lt. absurd (omega arith)))

module _ (files : Files) (folder path text : List ℕ) where
  abbrev pub more : Files
  more = files ++ (path, text) ∷ []

  -- a file of the longer list is one of the shorter, or the new one
  either : (p : List ℕ) → has_file more p ≡ true → (has_file files p ≡ true) ⊎ (p ≡ path)
  either p h = by (has_file files p) (is_text p path) refl refl (sym (has_file_more files path text p) ∙ h)
    where
      by : (s t : Bool) → has_file files p ≡ s → is_text p path ≡ t → (s || t) ≡ true → (has_file files p ≡ true) ⊎ (p ≡ path)
      by true t e f k = inl e
      by false true e f k = inr (same_text p path (sym f))
      by false false e f k = absurd (cc)

  kept : (entries : Entries) → IsListed dir_path_of file_path_of files folder entries
      → ((name : List ℕ) → below folder name ≡ path → list_any (λ entry. leads_to dir_path_of file_path_of path entry.node) entries ≡ true)
      → IsListed dir_path_of file_path_of more folder entries
  kept entries h leads = record {
    placed = h.placed;
    plain = h.plain;
    there = λ k d lt. there_still files path text _ (h.there k d lt);
    whole = λ name l. by name (either (below folder name) l);
  }
    where
      by : (name : List ℕ) → (has_file files (below folder name) ≡ true) ⊎ (below folder name ≡ path) → list_any (λ entry. leads_to dir_path_of file_path_of (below folder name) entry.node) entries ≡ true
      by name (inl l) = h.whole name l
      by name (inr e) = subst (λ p. list_any (λ entry. leads_to dir_path_of file_path_of p entry.node) entries ≡ true) (sym e) (leads name e)

  -- the path leads through the last folder
  pub listed_same : (entries : Entries) → list_any (λ entry. leads_to dir_path_of file_path_of path entry.node) entries ≡ true
      → IsListed dir_path_of file_path_of files folder entries → IsListed dir_path_of file_path_of more folder entries
  listed_same entries l h = kept entries h (λ name e. l)

  -- the path leads elsewhere
  pub listed_away : (entries : Entries) → rest_after folder path ≡ None
      → IsListed dir_path_of file_path_of files folder entries → IsListed dir_path_of file_path_of more folder entries
  listed_away entries away h = kept entries h (λ name e. absurd (let found : Some name ≡ None = sym (rest-below folder name) ∙ ap (rest_after folder) e ∙ away in cc))

  -- the path has an entry of its own
  pub listed_more : (entries : Entries) (entry : Entry MemDir MemPlace) → IsEntryFor folder path entry
      → IsListed dir_path_of file_path_of files folder entries → IsListed dir_path_of file_path_of more folder (entries ++ entry ∷ [])
  listed_more entries entry e h = record {
    placed = all_more (λ x. path_of dir_path_of file_path_of x.node ≡ below folder (string_bytes x.name)) entries entry h.placed e.placed;
    plain = all_more (λ x. has_slash (string_bytes x.name) ≡ false) entries entry h.plain e.plain;
    there = all_more (λ x. is_there dir_path_of file_path_of more x.node ≡ true) entries entry (λ k d lt. there_still files path text _ (h.there k d lt)) (there_now files path text entry.node e.at);
    whole = λ name l. list_any-append (λ x. leads_to dir_path_of file_path_of (below folder name) x.node) entries (entry ∷ []) ∙ by name (either (below folder name) l);
  }
    where
      or_true : (s t : Bool) → t ≡ true → (s || t) ≡ true
      or_true true t h = refl
      or_true false t h = h

      by : (name : List ℕ) → (has_file files (below folder name) ≡ true) ⊎ (below folder name ≡ path)
          → (list_any (λ x. leads_to dir_path_of file_path_of (below folder name) x.node) entries || list_any (λ x. leads_to dir_path_of file_path_of (below folder name) x.node) (entry ∷ [])) ≡ true
      by name (inl l) = ap (λ t. t || list_any (λ x. leads_to dir_path_of file_path_of (below folder name) x.node) (entry ∷ [])) (h.whole name l)
      by name (inr s) = or_true _ _ (ap (λ t. t || false) (subst (λ p. leads_to dir_path_of file_path_of p entry.node ≡ true) (sym s) e.leads))

-- one turn of the loop over the files
pub listed_turn : (all : List MemFile) (i : ℕ) (file : MemFile) (folder : List ℕ) (old new : Entries) → i < length all → file ≡ get_or all i file
    → IsListed dir_path_of file_path_of (map told_file (take i all)) folder old → IsOneMore folder (string_bytes file.path) old new
    → IsListed dir_path_of file_path_of (map told_file (take (i + 1) all)) folder new
listed_turn all i file folder old new lt e h m =
    let grown : map told_file (take (i + 1) all) ≡ map told_file (take i all) ++ told_file file ∷ [] =
    ap (map told_file) (take_more all i file lt) ∙ map-append told_file (take i all) (get_or all i file ∷ []) ∙ ap (λ f. map told_file (take i all) ++ told_file f ∷ []) (sym e) in
    subst (λ files. IsListed dir_path_of file_path_of files folder new) (sym grown) (m (map told_file (take i all)) file.text.items h)

-- The entry that a path goes by.

placed_dir : (path : List ℕ) (node : Node MemDir MemPlace) → IfDir (λ dir. dir_path_of dir ≡ path) node → path_of dir_path_of file_path_of node ≡ path
placed_dir path (Dir dir) h = h
placed_dir path (File file) h = absurd h

placed_file : (path : List ℕ) (node : Node MemDir MemPlace) → IfFile (λ file. file_path_of file ≡ path) node → path_of dir_path_of file_path_of node ≡ path
placed_file path (Dir dir) h = absurd h
placed_file path (File file) h = h

at_dir : (folder path : List ℕ) (node : Node MemDir MemPlace) → IfDir (λ dir. dir_path_of dir ≡ folder) node → IsAt path node
at_dir folder path (Dir dir) h = tt
at_dir folder path (File file) h = absurd h

at_file : (path : List ℕ) (node : Node MemDir MemPlace) → IfFile (λ file. file_path_of file ≡ path) node → IsAt path node
at_file path (Dir dir) h = absurd h
at_file path (File file) h = h

leads_dir : (folder rest : List ℕ) (node : Node MemDir MemPlace) → IfDir (λ dir. dir_path_of dir ≡ folder) node → leads_to dir_path_of file_path_of (below folder rest) node ≡ true
leads_dir folder rest (Dir dir) h = ap (λ p. is_some (rest_after p (below folder rest))) h ∙ ap is_some (rest-below folder rest)
leads_dir folder rest (File file) h = absurd h

leads_file : (path : List ℕ) (node : Node MemDir MemPlace) → IfFile (λ file. file_path_of file ≡ path) node → leads_to dir_path_of file_path_of path node ≡ true
leads_file path (Dir dir) h = absurd h
leads_file path (File file) h = ap (is_text path) h ∙ text_self path

-- a folder of this name
pub dir_entry_for : (folder path rest name : List ℕ) (entry : Entry MemDir MemPlace) → Some rest ≡ rest_after folder path
    → name ≡ before_first (λ b. b == slash) rest → position_or_len (λ b. b == slash) rest < length rest
    → string_bytes entry.name ≡ name → IfDir (λ dir. dir_path_of dir ≡ below folder name) entry.node → IsEntryFor folder path entry
dir_entry_for folder path rest name entry r n lt named node =
    let whole : path ≡ below (below folder name) (after_first (λ b. b == slash) rest) =
    rest-is folder path rest (sym r) ∙ ap (below folder) (rest-split rest name n lt) ∙ sym (append_assoc folder (slash ∷ name) (slash ∷ after_first (λ b. b == slash) rest)) in
    record {
      placed = placed_dir (below folder name) entry.node node ∙ ap (below folder) (sym named);
      plain = ap has_slash (named ∙ n) ∙ no_slash-before rest;
      leads = subst (λ p. leads_to dir_path_of file_path_of p entry.node ≡ true) (sym whole) (leads_dir (below folder name) _ entry.node node);
      at = at_dir (below folder name) path entry.node node;
    }

-- a file of this name
pub file_entry_for : (folder path rest : List ℕ) (entry : Entry MemDir MemPlace) → Some rest ≡ rest_after folder path
    → position_or_len (λ b. b == slash) rest ≡ length rest
    → string_bytes entry.name ≡ rest → IfFile (λ file. file_path_of file ≡ path) entry.node → IsEntryFor folder path entry
file_entry_for folder path rest entry r none named node = record {
  placed = placed_file path entry.node node ∙ rest-is folder path rest (sym r) ∙ ap (below folder) (sym named);
  plain = ap has_slash named ∙ no_slash-in rest none;
  leads = leads_file path entry.node node;
  at = at_file path entry.node node;
}
