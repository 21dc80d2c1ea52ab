-- One more import behind those that were found: an outline stays one, and how far it reaches.
use Rattle.std.proofs.Common.{◌≡◌, ℕ, ◌≤◌, List, [], ◌∷◌, ◌++◌, refl}
use Rattle.css_scan.specs.declared.outline.StyleImport.{StyleImport}
use Rattle.css_scan.specs.declared.outline.StyleOutline.{StyleOutline}
use Rattle.css_scan.specs.Styles.{AreInOrder, IsImport, IsStyleOf, end_of, reach}

put : (text : List ℕ) (low : ℕ) (xs : List StyleImport) (x : StyleImport)
    → AreInOrder text low xs → end_of low xs ≤ x.rule → IsImport text x → AreInOrder text low (xs ++ x ∷ [])
put text low [] x h r p = (r, p, tt)
put text low (y ∷ ys) x h r p = (h.0, h.1, put text y.address.end ys x h.2 r p)

end_put : (low : ℕ) (xs : List StyleImport) (x : StyleImport) → end_of low (xs ++ x ∷ []) ≡ x.address.end
end_put low [] x = refl
end_put low (y ∷ ys) x = end_put y.address.end ys x

-- nothing is found yet
pub style_empty : (text : List ℕ) (s : StyleOutline) → s.imports.items ≡ [] → IsStyleOf text s
style_empty text s is = record { imports = rw is tt }

pub reach_empty : (s : StyleOutline) → s.imports.items ≡ [] → reach s ≡ 0
unfolding reach
reach_empty s is = rw is refl

pub style_put : (text : List ℕ) (s t : StyleOutline) (x : StyleImport) → IsStyleOf text s → IsImport text x → reach s ≤ x.rule
    → t.imports.items ≡ s.imports.items ++ x ∷ [] → IsStyleOf text t
unfolding reach
style_put text s t x h p r is = record { imports = rw is (put text 0 s.imports.items x h.imports r p) }

pub reach_put : (s t : StyleOutline) (x : StyleImport) → t.imports.items ≡ s.imports.items ++ x ∷ [] → reach t ≡ x.address.end
unfolding reach
reach_put s t x is = rw is (end_put 0 s.imports.items x)
