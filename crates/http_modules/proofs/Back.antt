-- The canonical text of a rewritten module reads as it.
use Rattle.std.proofs.Common.{◌≡◌, ◌<◌, ◌≤◌, ◌^◌, ℕ, List, [], ◌∷◌, ◌++◌, length, map, Bool, true, false, cond, Option, Some, None, Result, Ok, Err, IfSome, refl, sym, ap, subst, ◌∙◌, arith}
use Rattle.std.specs.Prelude.{◌&&◌, codes, decimal, nat_le}
use Rattle.std.specs.List.{list_all}
use Rattle.std.specs.Str.{IsUtf8, is_utf8}
use Rattle.std.proofs.lemmas.Bool.{and_parts, and_from}
use Rattle.std.proofs.lemmas.Bool.Decides.{nat_tests}
use Rattle.std.proofs.lemmas.Fmt.{IsAscii-decimal}
use Rattle.std.proofs.lemmas.List.Folds.{list_all-append}
use Rattle.std.proofs.lemmas.Str.{IsUtf8-append, IsUtf8-from_ascii, is_utf8-from_IsUtf8}
use Rattle.std.proofs.lemmas.Str.Ascii.{IsAscii-cons}
use Rattle.hmr_types.specs.declared.limits.TheConstants.{DEPTH, TOKENS}
use Rattle.hmr_types.specs.declared.specifier.SpecFault.{SpecFault}
use Rattle.hmr_types.specs.declared.specifier.SpecFault.TheVariants.{Bare, TooLong}
use Rattle.hmr_types.specs.ModName.{is_name, parts}
use Rattle.hmr_types.specs.Results.{◌>>=◌}
use Rattle.hmr_types.specs.Specifier.{Walked, led_to, name_of, resolve, segments, spelled, step, walk, without_last}
use Rattle.hmr_types.proofs.Names.{is_name-IsUtf8}
use Rattle.hmr_types.proofs.Segments.{are_segments, are_segments-take, segments-is_name, spelled-is_name, step-are_segments}
use Rattle.core_model.specs.Names.{at}
use Rattle.core_model.specs.Sources.{Serving, Sources}
use Rattle.module_tree.specs.Syntax as tree
use Rattle.module_tree.specs.Syntax.{ItemTree, ModuleTree}
use Rattle.module_tree.specs.declared.tree.ImportName.{ImportName}
use Rattle.module_semantics.specs.Canon.{canon}
use Rattle.module_semantics.specs.CanonItems.{between_commas, canon_tokens, import_name_tokens, import_tokens, item_deep, item_tokens, module_deep}
use Rattle.module_semantics.specs.Fitting.{bound_names, distinct, fits, fits_item, let_names, module_lets, writable}
use Rattle.module_semantics.specs.ModuleText.{ReadsAs}
use Rattle.module_semantics.specs.Reading.{flat}
use Rattle.module_semantics.specs.Token as token
use Rattle.module_semantics.specs.Token.{Token}
use Rattle.module_semantics.proofs.CanonReads.{read_fits, reads_exactly}
use Rattle.http_modules.specs.Rewriting.{HasVersions, rewrite, rewrite_item, versioned, with_version}

given : {x y : List (List ℕ)} → let r : Walked = Ok x in r ≡ Ok y → are_segments x ≡ true → are_segments y ≡ true
given {x} {y} e h = let same : x ≡ y = cc in ap are_segments (sym same) ∙ h

led_on : (r : Walked) (more : List (List ℕ)) (next : List (List ℕ))
    → ((mid : List (List ℕ)) → are_segments mid ≡ true → walk mid more ≡ Ok next → are_segments next ≡ true)
    → ((mid : List (List ℕ)) → r ≡ Ok mid → are_segments mid ≡ true)
    → (r >>= λ mid. walk mid more) ≡ Ok next → are_segments next ≡ true
led_on (Ok mid) more next later here e = later mid (here mid refl) e
led_on (Err fault) more next later here e = absurd (cc)

-- parts lead from segments to segments
walk_gives : (from ps next : List (List ℕ)) → are_segments from ≡ true → walk from ps ≡ Ok next → are_segments next ≡ true
walk_gives from [] next h e = given e h
walk_gives from (part ∷ more) next h e =
    led_on (step from part) more next (λ mid s k. walk_gives mid more next s k)
    (λ mid k. step-are_segments from part mid h k) e

by_length : (t : Bool) (name given : List ℕ) → (length given ≤ 255 → is_name given ≡ true) → nat_le (length given) 255 ≡ t
    → (let r : Result (List ℕ) SpecFault = cond t (Ok given) (Err TooLong) in r ≡ Ok name) → is_name name ≡ true
by_length true name given is t e =
    let same : given ≡ name = cc in
    subst (λ n. is_name n ≡ true) same (is (grind (arith, nat_tests)))
by_length false name given is t e = absurd (cc)

spelled_name : (segs : List (List ℕ)) (name : List ℕ) → are_segments segs ≡ true → name_of segs ≡ Ok name → is_name name ≡ true
spelled_name [] name h e = absurd (cc)
spelled_name (s ∷ more) name h e =
    by_length (nat_le (length (spelled (s ∷ more))) 255) name (spelled (s ∷ more))
    (λ few. spelled-is_name (s ∷ more) h (omega arith) few) refl e

led_name : (r : Walked) (name : List ℕ) → ((segs : List (List ℕ)) → r ≡ Ok segs → are_segments segs ≡ true)
    → (r >>= name_of) ≡ Ok name → is_name name ≡ true
led_name (Ok segs) name here e = spelled_name segs name (here segs refl) e
led_name (Err fault) name here e = absurd (cc)

led_to_name : (from : List (List ℕ)) (text name : List ℕ) → are_segments from ≡ true → led_to from text ≡ Ok name → is_name name ≡ true
led_to_name from text name h e = led_name (walk from (parts text)) name (λ segs k. walk_gives from (parts text) segs h k) e

by_start : (t u : Bool) (one two : Result (List ℕ) SpecFault) (name : List ℕ) → (one ≡ Ok name → is_name name ≡ true)
    → (two ≡ Ok name → is_name name ≡ true) → cond t one (cond u two (Err Bare)) ≡ Ok name → is_name name ≡ true
by_start true u one two name first second e = first e
by_start false true one two name first second e = second e
by_start false false one two name first second e = absurd (cc)

-- what a specifier means is a name
pub resolved_name : (base spec name : List ℕ) → is_name base ≡ true → resolve base spec ≡ Ok name → is_name name ≡ true
resolved_name base [] name h e = absurd (cc)
resolved_name base (b ∷ bs) name h e =
    by_start _ _ (led_to [] bs) (led_to (without_last (segments base)) (b ∷ bs)) name
    (λ k. led_to_name [] bs name refl k)
    (λ k. led_to_name (without_last (segments base)) (b ∷ bs) name
    (are_segments-take _ (segments base) (segments-is_name base h)) k) e

version_utf8 : (name : List ℕ) (s : Option Serving) → IfSome s (λ x. x.version < 2 ^ 64) → IsUtf8 name → IsUtf8 (with_version name s)
version_utf8 name None few h = h
version_utf8 name (Some s) few h =
    let digits = IsAscii-decimal s.version few in
    let mark = IsAscii-cons 63 (118 ∷ 61 ∷ decimal s.version) (omega arith) (IsAscii-cons 118 (61 ∷ decimal s.version) (omega arith) (IsAscii-cons 61 (decimal s.version) (omega arith) digits)) in
    IsUtf8-append name (codes "?v=" ++ decimal s.version) h (IsUtf8-from_ascii (codes "?v=" ++ decimal s.version) mark)

meant_utf8 : (base spec : List ℕ) (sources : Sources) (r : Result (List ℕ) SpecFault) → is_name base ≡ true → HasVersions sources
    → resolve base spec ≡ r → is_utf8 spec ≡ true → is_utf8 (versioned sources spec r) ≡ true
meant_utf8 base spec sources (Ok name) h v e u =
    is_utf8-from_IsUtf8 _ (version_utf8 name (at sources.served name) (v name)
    (is_name-IsUtf8 name (resolved_name base spec name h e)))
meant_utf8 base spec sources (Err fault) h v e u = u

-- what stands for a specifier is a text
versioned_utf8 : (base spec : List ℕ) (sources : Sources) → is_name base ≡ true → HasVersions sources → is_utf8 spec ≡ true
    → is_utf8 (versioned sources spec (resolve base spec)) ≡ true
versioned_utf8 base spec sources h v u = meant_utf8 base spec sources (resolve base spec) h v refl u

-- each item keeps what it declares, and how deep it is
same_lets : (base : List ℕ) (sources : Sources) (i : ItemTree) → let_names (rewrite_item base sources i) ≡ let_names i
same_lets base sources (tree.import spec names) = refl
same_lets base sources (tree.declare exported mutable n e) = refl
same_lets base sources (tree.act s) = refl
same_lets base sources (tree.own o) = refl
same_lets base sources (tree.deps list specs call) = refl
same_lets base sources (tree.dispose o) = refl
same_lets base sources (tree.prune o) = refl
same_lets base sources tree.decline = refl

same_bound : (base : List ℕ) (sources : Sources) (i : ItemTree) → bound_names (rewrite_item base sources i) ≡ bound_names i
same_bound base sources (tree.import spec names) = refl
same_bound base sources (tree.declare exported mutable n e) = refl
same_bound base sources (tree.act s) = refl
same_bound base sources (tree.own o) = refl
same_bound base sources (tree.deps list specs call) = refl
same_bound base sources (tree.dispose o) = refl
same_bound base sources (tree.prune o) = refl
same_bound base sources tree.decline = refl

same_fit : (lets : List (List ℕ)) (base : List ℕ) (sources : Sources) (i : ItemTree)
    → fits_item lets (rewrite_item base sources i) ≡ fits_item lets i
same_fit lets base sources (tree.import spec names) = refl
same_fit lets base sources (tree.declare exported mutable n e) = refl
same_fit lets base sources (tree.act s) = refl
same_fit lets base sources (tree.own o) = refl
same_fit lets base sources (tree.deps list specs call) = refl
same_fit lets base sources (tree.dispose o) = refl
same_fit lets base sources (tree.prune o) = refl
same_fit lets base sources tree.decline = refl

same_depth : (base : List ℕ) (sources : Sources) (i : ItemTree) → item_deep (rewrite_item base sources i) ≡ item_deep i
same_depth base sources (tree.import spec names) = refl
same_depth base sources (tree.declare exported mutable n e) = refl
same_depth base sources (tree.act s) = refl
same_depth base sources (tree.own o) = refl
same_depth base sources (tree.deps list specs call) = refl
same_depth base sources (tree.dispose o) = refl
same_depth base sources (tree.prune o) = refl
same_depth base sources tree.decline = refl

all_lets : (base : List ℕ) (sources : Sources) (m : ModuleTree) → map let_names (rewrite base m sources) ≡ map let_names m
all_lets base sources [] = refl
all_lets base sources (i ∷ is) = rw (same_lets base sources i, all_lets base sources is) refl

all_bound : (base : List ℕ) (sources : Sources) (m : ModuleTree) → map bound_names (rewrite base m sources) ≡ map bound_names m
all_bound base sources [] = refl
all_bound base sources (i ∷ is) = rw (same_bound base sources i, all_bound base sources is) refl

all_fit : (lets : List (List ℕ)) (base : List ℕ) (sources : Sources) (m : ModuleTree)
    → list_all (fits_item lets) (rewrite base m sources) ≡ list_all (fits_item lets) m
all_fit lets base sources [] = refl
all_fit lets base sources (i ∷ is) = rw (same_fit lets base sources i, all_fit lets base sources is) refl

all_deep : (base : List ℕ) (sources : Sources) (m : ModuleTree) → module_deep (rewrite base m sources) ≡ module_deep m
all_deep base sources [] = refl
all_deep base sources (i ∷ is) = rw (same_depth base sources i, all_deep base sources is) refl

-- the tokens of an import with another text as its specifier
import_writable : (s t : List ℕ) (names : List ImportName) → (is_utf8 s ≡ true → is_utf8 t ≡ true)
    → list_all writable (import_tokens s names) ≡ true → list_all writable (import_tokens t names) ≡ true
import_writable s t [] keeps h =
    let first = and_parts (writable (token.name (codes "import"))) (list_all writable (token.text s ∷ token.punct 7 ∷ [])) h in
    let second = and_parts (is_utf8 s) (list_all writable (token.punct 7 ∷ [])) first.1 in
    and_from (writable (token.name (codes "import"))) (list_all writable (token.text t ∷ token.punct 7 ∷ [])) first.0
    (and_from (is_utf8 t) (list_all writable (token.punct 7 ∷ [])) (keeps second.0) second.1)
import_writable s t (i ∷ is) keeps h =
    let names = between_commas import_name_tokens (i ∷ is) in
    let behind_s = token.punct 1 ∷ token.name (codes "from") ∷ token.text s ∷ token.punct 7 ∷ [] in
    let behind_t = token.punct 1 ∷ token.name (codes "from") ∷ token.text t ∷ token.punct 7 ∷ [] in
    let first = and_parts (writable (token.name (codes "import"))) (list_all writable (token.punct 0 ∷ (names ++ behind_s))) h in
    let second = and_parts (writable (token.punct 0)) (list_all writable (names ++ behind_s)) first.1 in
    let split = and_parts (list_all writable names) (list_all writable behind_s) (sym (list_all-append writable names behind_s) ∙ second.1) in
    let third = and_parts (writable (token.punct 1)) (list_all writable (token.name (codes "from") ∷ token.text s ∷ token.punct 7 ∷ [])) split.1 in
    let fourth = and_parts (writable (token.name (codes "from"))) (list_all writable (token.text s ∷ token.punct 7 ∷ [])) third.1 in
    let fifth = and_parts (is_utf8 s) (list_all writable (token.punct 7 ∷ [])) fourth.1 in
    and_from (writable (token.name (codes "import"))) (list_all writable (token.punct 0 ∷ (names ++ behind_t))) first.0
    (and_from (writable (token.punct 0)) (list_all writable (names ++ behind_t)) second.0
    (list_all-append writable names behind_t
    ∙ and_from (list_all writable names) (list_all writable behind_t) split.0
    (and_from (writable (token.punct 1)) (list_all writable (token.name (codes "from") ∷ token.text t ∷ token.punct 7 ∷ [])) third.0
    (and_from (writable (token.name (codes "from"))) (list_all writable (token.text t ∷ token.punct 7 ∷ [])) fourth.0
    (and_from (is_utf8 t) (list_all writable (token.punct 7 ∷ [])) (keeps fifth.0) fifth.1)))))

item_writable : (base : List ℕ) (sources : Sources) (i : ItemTree) → is_name base ≡ true → HasVersions sources
    → list_all writable (item_tokens i) ≡ true → list_all writable (item_tokens (rewrite_item base sources i)) ≡ true
item_writable base sources (tree.import spec names) h v w =
    import_writable spec (versioned sources spec (resolve base spec)) names (versioned_utf8 base spec sources h v) w
item_writable base sources (tree.declare exported mutable n e) h v w = w
item_writable base sources (tree.act s) h v w = w
item_writable base sources (tree.own o) h v w = w
item_writable base sources (tree.deps list specs call) h v w = w
item_writable base sources (tree.dispose o) h v w = w
item_writable base sources (tree.prune o) h v w = w
item_writable base sources tree.decline h v w = w

all_writable : (base : List ℕ) (sources : Sources) (m : ModuleTree) → is_name base ≡ true → HasVersions sources
    → list_all writable (canon_tokens m) ≡ true → list_all writable (canon_tokens (rewrite base m sources)) ≡ true
all_writable base sources [] h v w = refl
all_writable base sources (i ∷ is) h v w =
    let both = and_parts (list_all writable (item_tokens i)) (list_all writable (canon_tokens is))
    (sym (list_all-append writable (item_tokens i) (canon_tokens is)) ∙ w) in
    list_all-append writable (item_tokens (rewrite_item base sources i)) (canon_tokens (rewrite base is sources))
    ∙ and_from _ _ (item_writable base sources i h v both.0) (all_writable base sources is h v both.1)

fits_from : (lets lets' : List (List ℕ)) (base : List ℕ) (sources : Sources) (m : ModuleTree) (bound bound' : List (List ℕ)) (deep deep' : ℕ)
    → lets' ≡ lets → bound' ≡ bound → deep' ≡ deep → is_name base ≡ true → HasVersions sources
    → (list_all (fits_item lets) m && distinct [] bound && nat_le deep DEPTH && list_all writable (canon_tokens m)) ≡ true
    → (list_all (fits_item lets') (rewrite base m sources) && distinct [] bound' && nat_le deep' DEPTH
    && list_all writable (canon_tokens (rewrite base m sources))) ≡ true
fits_from lets lets' base sources m bound bound' deep deep' l b d h v w =
    let first = and_parts ((list_all (fits_item lets) m && distinct [] bound) && nat_le deep DEPTH) (list_all writable (canon_tokens m)) w in
    let second = and_parts (list_all (fits_item lets) m && distinct [] bound) (nat_le deep DEPTH) first.0 in
    let third = and_parts (list_all (fits_item lets) m) (distinct [] bound) second.0 in
    let items : list_all (fits_item lets') (rewrite base m sources) ≡ true =
    ap (λ x. list_all (fits_item x) (rewrite base m sources)) l ∙ (all_fit lets base sources m ∙ third.0) in
    let names : distinct [] bound' ≡ true = ap (distinct []) b ∙ third.1 in
    let depth : nat_le deep' DEPTH ≡ true = ap (λ n. nat_le n DEPTH) d ∙ second.1 in
    and_from ((list_all (fits_item lets') (rewrite base m sources) && distinct [] bound') && nat_le deep' DEPTH) (list_all writable (canon_tokens (rewrite base m sources)))
    (and_from (list_all (fits_item lets') (rewrite base m sources) && distinct [] bound') (nat_le deep' DEPTH)
    (and_from (list_all (fits_item lets') (rewrite base m sources)) (distinct [] bound') items names) depth)
    (all_writable base sources m h v first.1)

-- a rewritten module fits where the module does
pub rewritten_fits : (base : List ℕ) (m : ModuleTree) (sources : Sources) → is_name base ≡ true → HasVersions sources
    → fits m ≡ true → fits (rewrite base m sources) ≡ true
unfolding fits
rewritten_fits base m sources h v w =
    fits_from (module_lets m) (module_lets (rewrite base m sources)) base sources m _ _ _ _
    (ap flat (all_lets base sources m)) (ap flat (all_bound base sources m)) (all_deep base sources m) h v w

-- and its canonical text is read again
pub reads_rewritten : (base text : List ℕ) (m : ModuleTree) (sources : Sources) → is_name base ≡ true → HasVersions sources
    → ReadsAs text m → length (canon_tokens (rewrite base m sources)) ≤ TOKENS
    → ReadsAs (canon (rewrite base m sources)) (rewrite base m sources)
reads_rewritten base text m sources h v reads few =
    (reads_exactly (rewrite base m sources)).0 (rewritten_fits base m sources h v (read_fits text m reads), few)
