-- The locals of imports, one after another.
use Rattle.std.proofs.Common.{◌≡◌, ℕ, ◌+◌, ◌<◌, List, [], ◌∷◌, ◌++◌, length, get_or, drop, map, ap, sym, ◌∙◌, append_assoc}
use Rattle.std.proofs.lemmas.List.{at_drop_more}
use Rattle.module_semantics.specs.Kinds as plain
use Rattle.raw_trees.specs.declared.raw_item.RawImport.{RawImport}
use Rattle.raw_trees.specs.Raw.{name_at_of, raw_import_of}

abbrev pub locals : List RawImport → List plain.NameAt
locals is = map (λ i. i.local) (map raw_import_of is)

-- the local of the next import is put
pub local_more : (old new whole : List plain.NameAt) (imported : List RawImport) (i : ℕ) (x : RawImport) → i < length imported → x ≡ get_or imported i x
    → new ≡ old ++ name_at_of x.local ∷ [] → old ++ locals (drop i imported) ≡ whole → new ++ locals (drop (i + 1) imported) ≡ whole
local_more old new whole imported i x lt is added h =
    let rest : List plain.NameAt = locals (drop (i + 1) imported) in
    let next : locals (drop i imported) ≡ name_at_of x.local ∷ rest = at_drop_more locals imported i x lt ∙ ap (λ y. locals (y ∷ drop (i + 1) imported)) (sym is) in
    ap (λ n. n ++ rest) added ∙ (append_assoc old (name_at_of x.local ∷ []) rest ∙ (ap (λ l. old ++ l) (sym next) ∙ h))
