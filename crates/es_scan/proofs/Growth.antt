-- One more part behind those that were found: an outline stays one, and how far it reaches.
use Rattle.std.proofs.Common.{◌≡◌, ℕ, ◌+◌, ◌≤◌, List, [], ◌∷◌, ◌++◌, length, refl, arith, length-append}
use Rattle.std.specs.Prelude.{All}
use Rattle.std.proofs.lemmas.List.Elements.{All-push}
use Rattle.es_scan.specs.declared.outline.Accept.{Accept}
use Rattle.es_scan.specs.declared.outline.Purpose.{Purpose}
use Rattle.es_scan.specs.declared.outline.Purpose.TheVariants as purposes
use Rattle.es_scan.specs.declared.outline.Span.{Span}
use Rattle.es_scan.specs.declared.outline.ModuleSpecifier.{ModuleSpecifier}
use Rattle.es_scan.specs.declared.outline.ImportBinding.{ImportBinding}
use Rattle.es_scan.specs.declared.outline.ExportedName.{ExportedName}
use Rattle.es_scan.specs.declared.outline.Outline.{Outline}
use Rattle.es_scan.specs.Outlines.{AreAccepts, AreInOrder, ArePlaces, HasNames, HaveNames, IsAccept, IsExport, IsImport, IsOutlineOf, IsSpecifier, end_of, literal_of, local_of, name_of, reach, rows_of}

put : {A : Type 0} (P : A → Type 0) (span : A → Span) (low : ℕ) (xs : List A) (x : A)
    → AreInOrder P span low xs → end_of span low xs ≤ (span x).start → P x → AreInOrder P span low (xs ++ x ∷ [])
put P span low [] x h r p = (r, p, tt)
put P span low (y ∷ ys) x h r p = (h.0, h.1, put P span (span y).end ys x h.2 r p)

end_put : {A : Type 0} (span : A → Span) (low : ℕ) (xs : List A) (x : A) → end_of span low (xs ++ x ∷ []) ≡ (span x).end
end_put span low [] x = refl
end_put span low (y ∷ ys) x = end_put span (span y).end ys x

-- rows stay rows where lists grow
rows_more : (p : Purpose) (i e j f : ℕ) → i ≤ j → e ≤ f → rows_of p i e ≤ rows_of p j f
rows_more purposes.Import i e j f g h = g
rows_more purposes.Export i e j f g h = h
rows_more purposes.ExportAll i e j f g h = omega arith
rows_more purposes.ImportCall i e j f g h = omega arith
rows_more purposes.Accept i e j f g h = omega arith

names_more : (i e j f : ℕ) (ss : List ModuleSpecifier) → i ≤ j → e ≤ f → HaveNames i e ss → HaveNames j f ss
names_more i e j f [] g h n = tt
names_more i e j f (s ∷ ss) g h n =
    (record { rise = n.0.rise; within = omega (arith, n.0.within, rows_more s.purpose i e j f g h) }, names_more i e j f ss g h n.1)

names_put : (i e : ℕ) (ss : List ModuleSpecifier) (s : ModuleSpecifier) → HaveNames i e ss → HasNames i e s → HaveNames i e (ss ++ s ∷ [])
names_put i e [] s n h = (h, tt)
names_put i e (t ∷ ts) s n h = (n.0, names_put i e ts s n.1 h)

accepts_more : (text : List ℕ) (m n : ℕ) (xs : List Accept) → m ≤ n → AreAccepts text m xs → AreAccepts text n xs
accepts_more text m n [] g h = tt
accepts_more text m n (a ∷ more) g h = (
  record { call = h.0.call; rows = record { rise = h.0.rows.rise; within = omega (arith, h.0.rows.within, g) } },
  accepts_more text m n more g h.1,
)

accepts_put : (text : List ℕ) (n : ℕ) (xs : List Accept) (a : Accept) → AreAccepts text n xs → IsAccept text n a → AreAccepts text n (xs ++ a ∷ [])
accepts_put text n [] a h r = (r, tt)
accepts_put text n (b ∷ more) a h r = (h.0, accepts_put text n more a h.1 r)

pub longer : {A : Type 0} (xs : List A) (x : A) → length (xs ++ x ∷ []) ≡ length xs + 1
longer xs x = length-append xs (x ∷ [])

longer_le : {A : Type 0} (xs ys : List A) (x : A) → ys ≡ xs ++ x ∷ [] → length xs ≤ length ys
longer_le xs ys x is = rw is (omega (arith, longer xs x))

-- nothing is found yet
pub sound_empty : (text : List ℕ) (o : Outline) → o.specifiers.items ≡ [] → o.imports.items ≡ [] → o.exports.items ≡ [] → o.accepts.items ≡ []
    → ArePlaces text o.declines.items o.computed.items o.unclear.items o.first_meta o.hashbang o.first_statement → IsOutlineOf text o
sound_empty text o s i e a p = record {
  specifiers = rw s tt;
  imports = rw i tt;
  exports = rw e tt;
  names = rw s tt;
  accepts = rw a tt;
  places = p;
}

pub reach_empty : (o : Outline) → o.specifiers.items ≡ [] → o.imports.items ≡ [] → o.exports.items ≡ [] → reach o ≡ 0
unfolding reach
reach_empty o s i e = rw (s, i, e) refl

-- the three ends are within the reach
reach_parts : (o : Outline) (n : ℕ) → reach o ≤ n
    → (end_of literal_of 0 o.specifiers.items ≤ n) × (end_of local_of 0 o.imports.items ≤ n) × (end_of name_of 0 o.exports.items ≤ n)
unfolding reach
reach_parts o n h = (omega (arith, h), omega (arith, h), omega (arith, h))

reach_made : (o : Outline) (n : ℕ) → end_of literal_of 0 o.specifiers.items ≤ n → end_of local_of 0 o.imports.items ≤ n
    → end_of name_of 0 o.exports.items ≤ n → reach o ≤ n
unfolding reach
reach_made o n s i e = omega (arith, s, i, e)

pub sound_specifier : (text : List ℕ) (o p : Outline) (s : ModuleSpecifier) → IsOutlineOf text o → IsSpecifier text s
    → HasNames (length o.imports.items) (length o.exports.items) s → reach o ≤ s.literal.start
    → p.specifiers.items ≡ o.specifiers.items ++ s ∷ [] → p.imports.items ≡ o.imports.items → p.exports.items ≡ o.exports.items
    → p.accepts.items ≡ o.accepts.items
    → ArePlaces text p.declines.items p.computed.items p.unclear.items p.first_meta p.hashbang p.first_statement → IsOutlineOf text p
sound_specifier text o p s h l n r is i e a places = record {
  specifiers = rw is (put (IsSpecifier text) literal_of 0 o.specifiers.items s h.specifiers (reach_parts o s.literal.start r).0 l);
  imports = rw i h.imports;
  exports = rw e h.exports;
  names = rw (is, i, e) (names_put (length o.imports.items) (length o.exports.items) o.specifiers.items s h.names n);
  accepts = rw a (accepts_more text (length o.specifiers.items) (length p.specifiers.items) o.accepts.items (longer_le o.specifiers.items p.specifiers.items s is) h.accepts);
  places = places;
}

pub reach_specifier : (text : List ℕ) (o p : Outline) (s : ModuleSpecifier) → IsSpecifier text s → reach o ≤ s.literal.start
    → p.specifiers.items ≡ o.specifiers.items ++ s ∷ [] → p.imports.items ≡ o.imports.items → p.exports.items ≡ o.exports.items → reach p ≤ s.literal.end
reach_specifier text o p s l r is i e =
    let parts = reach_parts o s.literal.start r in
    let some = l.literal.part.some in
    reach_made p s.literal.end (rw (is, end_put literal_of 0 o.specifiers.items s) (omega arith)) (rw i (omega (arith, parts.1, some))) (rw e (omega (arith, parts.2, some)))

pub sound_import : (text : List ℕ) (o p : Outline) (n : ImportBinding) → IsOutlineOf text o → IsImport text n → reach o ≤ n.local.start
    → p.imports.items ≡ o.imports.items ++ n ∷ [] → p.specifiers.items ≡ o.specifiers.items → p.exports.items ≡ o.exports.items
    → p.accepts.items ≡ o.accepts.items
    → ArePlaces text p.declines.items p.computed.items p.unclear.items p.first_meta p.hashbang p.first_statement → IsOutlineOf text p
sound_import text o p n h l r is s e a places = record {
  specifiers = rw s h.specifiers;
  imports = rw is (put (IsImport text) local_of 0 o.imports.items n h.imports (reach_parts o n.local.start r).1 l);
  exports = rw e h.exports;
  names = rw (s, e) (names_more (length o.imports.items) (length o.exports.items) (length p.imports.items) (length o.exports.items) o.specifiers.items
      (longer_le o.imports.items p.imports.items n is) (omega arith) h.names);
  accepts = rw (a, s) h.accepts;
  places = places;
}

pub reach_import : (text : List ℕ) (o p : Outline) (n : ImportBinding) → IsImport text n → reach o ≤ n.local.start
    → p.imports.items ≡ o.imports.items ++ n ∷ [] → p.specifiers.items ≡ o.specifiers.items → p.exports.items ≡ o.exports.items → reach p ≤ n.local.end
reach_import text o p n l r is s e =
    let parts = reach_parts o n.local.start r in
    let some = l.local.some in
    reach_made p n.local.end (rw s (omega (arith, parts.0, some))) (rw (is, end_put local_of 0 o.imports.items n) (omega arith)) (rw e (omega (arith, parts.2, some)))

pub sound_export : (text : List ℕ) (o p : Outline) (n : ExportedName) → IsOutlineOf text o → IsExport text n → reach o ≤ n.name.start
    → p.exports.items ≡ o.exports.items ++ n ∷ [] → p.specifiers.items ≡ o.specifiers.items → p.imports.items ≡ o.imports.items
    → p.accepts.items ≡ o.accepts.items
    → ArePlaces text p.declines.items p.computed.items p.unclear.items p.first_meta p.hashbang p.first_statement → IsOutlineOf text p
sound_export text o p n h l r is s i a places = record {
  specifiers = rw s h.specifiers;
  imports = rw i h.imports;
  exports = rw is (put (IsExport text) name_of 0 o.exports.items n h.exports (reach_parts o n.name.start r).2 l);
  names = rw (s, i) (names_more (length o.imports.items) (length o.exports.items) (length o.imports.items) (length p.exports.items) o.specifiers.items
      (omega arith) (longer_le o.exports.items p.exports.items n is) h.names);
  accepts = rw (a, s) h.accepts;
  places = places;
}

pub reach_export : (text : List ℕ) (o p : Outline) (n : ExportedName) → IsExport text n → reach o ≤ n.name.start
    → p.exports.items ≡ o.exports.items ++ n ∷ [] → p.specifiers.items ≡ o.specifiers.items → p.imports.items ≡ o.imports.items → reach p ≤ n.name.end
reach_export text o p n l r is s i =
    let parts = reach_parts o n.name.start r in
    let some = l.name.some in
    reach_made p n.name.end (rw s (omega (arith, parts.0, some))) (rw i (omega (arith, parts.1, some))) (rw (is, end_put name_of 0 o.exports.items n) (omega arith))

pub sound_accept : (text : List ℕ) (o p : Outline) (a : Accept) → IsOutlineOf text o → IsAccept text (length o.specifiers.items) a
    → p.accepts.items ≡ o.accepts.items ++ a ∷ [] → p.specifiers.items ≡ o.specifiers.items → p.imports.items ≡ o.imports.items
    → p.exports.items ≡ o.exports.items
    → ArePlaces text p.declines.items p.computed.items p.unclear.items p.first_meta p.hashbang p.first_statement → IsOutlineOf text p
sound_accept text o p a h r is s i e places = record {
  specifiers = rw s h.specifiers;
  imports = rw i h.imports;
  exports = rw e h.exports;
  names = rw (s, i, e) h.names;
  accepts = rw (is, s) (accepts_put text (length o.specifiers.items) o.accepts.items a h.accepts r);
  places = places;
}

-- only single places change
pub sound_same : (text : List ℕ) (o p : Outline) → IsOutlineOf text o → p.specifiers.items ≡ o.specifiers.items → p.imports.items ≡ o.imports.items
    → p.exports.items ≡ o.exports.items → p.accepts.items ≡ o.accepts.items
    → ArePlaces text p.declines.items p.computed.items p.unclear.items p.first_meta p.hashbang p.first_statement → IsOutlineOf text p
sound_same text o p h s i e a places = record {
  specifiers = rw s h.specifiers;
  imports = rw i h.imports;
  exports = rw e h.exports;
  names = rw (s, i, e) h.names;
  accepts = rw (a, s) h.accepts;
  places = places;
}

pub reach_same : (o p : Outline) → p.specifiers.items ≡ o.specifiers.items → p.imports.items ≡ o.imports.items
    → p.exports.items ≡ o.exports.items → reach p ≡ reach o
unfolding reach
reach_same o p s i e = rw (s, i, e) refl

-- one more place
pub place_put : (P : ℕ → Type 0) (xs ys : List ℕ) (x : ℕ) → ys ≡ xs ++ x ∷ [] → All P xs → P x → All P ys
place_put P xs ys x is h p = rw is (All-push P xs x h p)
