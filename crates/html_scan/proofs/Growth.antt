-- One more item behind those that were found: an outline stays one, and how far it reaches.
use Rattle.std.proofs.Common.{◌≡◌, ℕ, ◌≤◌, List, [], ◌∷◌, ◌++◌, refl}
use Rattle.html_scan.specs.declared.outline.PageItem.{PageItem}
use Rattle.html_scan.specs.declared.outline.PageOutline.{PageOutline}
use Rattle.html_scan.specs.Pages.{AreInOrder, IsHead, IsItem, IsPageOf, end_of, end_of_item, reach}

put : (text : List ℕ) (low : ℕ) (xs : List PageItem) (x : PageItem)
    → AreInOrder text low xs → end_of low xs ≤ x.tag.start → IsItem text x → AreInOrder text low (xs ++ x ∷ [])
put text low [] x h r p = (r, p, tt)
put text low (y ∷ ys) x h r p = (h.0, h.1, put text (end_of_item y) ys x h.2 r p)

end_put : (low : ℕ) (xs : List PageItem) (x : PageItem) → end_of low (xs ++ x ∷ []) ≡ end_of_item x
end_put low [] x = refl
end_put low (y ∷ ys) x = end_put (end_of_item y) ys x

-- nothing is found yet
pub page_empty : (text : List ℕ) (s : PageOutline) → IsHead text s.head → s.items.items ≡ [] → IsPageOf text s
page_empty text s h is = record { head = h; items = rw is tt }

pub reach_empty : (s : PageOutline) → s.items.items ≡ [] → reach s ≡ s.head
unfolding reach
reach_empty s is = rw is refl

pub page_put : (text : List ℕ) (s t : PageOutline) (x : PageItem) → IsPageOf text s → IsItem text x → reach s ≤ x.tag.start
    → t.head ≡ s.head → t.items.items ≡ s.items.items ++ x ∷ [] → IsPageOf text t
unfolding reach
page_put text s t x h p r same is = record {
  head = rw same h.head;
  items = rw (same, is) (put text s.head s.items.items x h.items r p);
}

pub reach_put : (s t : PageOutline) (x : PageItem) → t.items.items ≡ s.items.items ++ x ∷ [] → reach t ≡ end_of_item x
unfolding reach
reach_put s t x is = rw is (end_put t.head s.items.items x)
