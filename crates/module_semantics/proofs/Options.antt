-- A part that may be missing, and parts with a comma between each two.
use Rattle.std.proofs.Common.{◌≡◌, ℕ, List, [], ◌∷◌, ◌++◌, map, true, false, ◌⊎◌, inl, inr, Option, Some, None, refl, arith}
use Rattle.std.specs.Option.{option_map}
use Rattle.module_semantics.specs.Token.{LineToken}
use Rattle.module_semantics.specs.Kinds.{COMMA}
use Rattle.module_semantics.specs.Readers.{Reader, mapped, choice, given, separated}
use Rattle.module_semantics.specs.Spelling as spell
use Rattle.module_semantics.specs.Spelling.{Spell, ◌>>◌, ◌▸◌}
use Rattle.module_semantics.specs.Grammar.{deepest, deep_if}
use Rattle.module_semantics.proofs.KindLists.{disjoint, disjoint_none, subset, subset_self}
use Rattle.module_semantics.proofs.Parts.{Part, Reads}
use Rattle.module_semantics.proofs.Sequences.{seq, seq_reads}
use Rattle.module_semantics.proofs.Choices.{As, as_reads, alt, choice_reads, seen, mapped_reads, nothing_part, given_reads, after, after_reads}
use Rattle.module_semantics.proofs.Lists.{list_part, many_reads}
use Rattle.module_semantics.proofs.Marks.{mark_part, comma_mark}

abbrev pub maybe_part : {D A : Type 0} → Part D A → Part (Option D) (Option A)
maybe_part P = record { spelt = spell.maybe P.spelt; value = option_map P.value; depth = deep_if P.depth }

abbrev maybe_ways : {D A : Type 0} → Part D A → Part (D ⊎ Unit {0}) (Option A)
maybe_ways P = alt (seen Some P) (nothing_part None)

abbrev to_maybe : {D : Type 0} → D ⊎ Unit {0} → Option D
to_maybe (inl d) = Some d
to_maybe (inr u) = None

maybe_spells : {D A : Type 0} (P : Part D A) (d : D ⊎ Unit {0}) (ts r : List LineToken) → (maybe_ways P).spelt d ts ≡ Some r → spell.maybe P.spelt (to_maybe d) ts ≡ Some r
maybe_spells P (inl d) ts r h = h
maybe_spells P (inr u) ts r h = h

maybe_from : {D A : Type 0} (P : Part D A) (e : Option D) (ts r : List LineToken) → spell.maybe P.spelt e ts ≡ Some r → (d : D ⊎ Unit {0}) × (to_maybe d ≡ e) × ((maybe_ways P).spelt d ts ≡ Some r)
maybe_from P (Some d) ts r h = (inl d, refl, h)
maybe_from P None ts r h = (inr tt, refl, h)

maybe_value : {D A : Type 0} (P : Part D A) (d : D ⊎ Unit {0}) → (maybe_part P).value (to_maybe d) ≡ (maybe_ways P).value d
maybe_value P (inl d) = refl
maybe_value P (inr u) = refl

maybe_depth : {D A : Type 0} (P : Part D A) (d : D ⊎ Unit {0}) → (maybe_part P).depth (to_maybe d) ≡ (maybe_ways P).depth d
maybe_depth P (inl d) = refl
maybe_depth P (inr u) = refl

maybe_as : {D A : Type 0} (P : Part D A) (n : ℕ) → As (maybe_ways P) (maybe_part P) n n
maybe_as P n = record { to = to_maybe; spells = maybe_spells P; from = maybe_from P; value = maybe_value P; deeper = λ d h. omega (arith, h, maybe_depth P d); lower = λ d h. omega (arith, h, maybe_depth P d) }

-- perhaps a part
pub maybe_reads : {D A : Type 0} (hs fs ks js : List ℕ) (n : ℕ) (P : Part D A) (f g : Reader A) → subset fs hs ≡ true → subset (fs ++ []) hs ≡ true → subset (ks ++ hs) js ≡ true → Reads fs false ks n P f g
    → Reads hs true js n (maybe_part P) (choice hs (mapped Some f) (given None)) (choice hs (mapped Some g) (given None))
unfolding disjoint
maybe_reads hs fs ks js n P f g firsts firsts' follow a =
    as_reads (fs ++ []) (ks ++ hs) hs js true n n (maybe_ways P) (maybe_part P) _ _ firsts' follow (maybe_as P n) (choice_reads hs fs ks [] [] true n (seen Some P) (nothing_part None) _ _ _ _ firsts refl (mapped_reads fs ks false n P f g Some a) (given_reads n None))

abbrev pub separated_part : {D A : Type 0} → Part D A → Part (List D) (List A)
separated_part P = record { spelt = spell.separated P.spelt; value = map P.value; depth = deepest P.depth }

abbrev separated_ways : {D A : Type 0} → Part D A → Part ((D × List D) ⊎ Unit {0}) (List A)
separated_ways P = alt (seen (λ v. v.0 ∷ v.1) (seq P (list_part (after (mark_part COMMA) P)))) (nothing_part [])

abbrev to_separated : {D : Type 0} → (D × List D) ⊎ Unit {0} → List D
to_separated (inl d) = d.0 ∷ d.1
to_separated (inr u) = []

separated_spells : {D A : Type 0} (P : Part D A) (d : (D × List D) ⊎ Unit {0}) (ts r : List LineToken) → (separated_ways P).spelt d ts ≡ Some r → spell.separated P.spelt (to_separated d) ts ≡ Some r
unfolding spell.separated
separated_spells P (inl d) ts r h = h
separated_spells P (inr u) ts r h = h

separated_from : {D A : Type 0} (P : Part D A) (e : List D) (ts r : List LineToken) → spell.separated P.spelt e ts ≡ Some r → (d : (D × List D) ⊎ Unit {0}) × (to_separated d ≡ e) × ((separated_ways P).spelt d ts ≡ Some r)
unfolding spell.separated
separated_from P (d ∷ ds) ts r h = (inl (d, ds), refl, h)
separated_from P [] ts r h = (inr tt, refl, h)

separated_value : {D A : Type 0} (P : Part D A) (d : (D × List D) ⊎ Unit {0}) → map P.value (to_separated d) ≡ (separated_ways P).value d
separated_value P (inl d) = refl
separated_value P (inr u) = refl

separated_depth : {D A : Type 0} (P : Part D A) (d : (D × List D) ⊎ Unit {0}) → deepest P.depth (to_separated d) ≡ (separated_ways P).depth d
separated_depth P (inl d) = refl
separated_depth P (inr u) = refl

separated_as : {D A : Type 0} (P : Part D A) (n : ℕ) → As (separated_ways P) (separated_part P) n n
separated_as P n = record { to = to_separated; spells = separated_spells P; from = separated_from P; value = separated_value P; deeper = λ d h. omega (arith, h, separated_depth P d); lower = λ d h. omega (arith, h, separated_depth P d) }

-- parts with a comma between each two
pub separated_reads : {D A : Type 0} (fs ks js : List ℕ) (n : ℕ) (P : Part D A) (f g : Reader A) → disjoint (COMMA ∷ []) ks ≡ true → subset (fs ++ []) fs ≡ true → subset ((ks ++ (COMMA ∷ ks)) ++ fs) js ≡ true → Reads fs false ks n P f g
    → Reads fs true js n (separated_part P) (separated fs f) (separated fs g)
unfolding disjoint
separated_reads fs ks js n P f g apart firsts follow a =
    as_reads (fs ++ []) ((ks ++ (COMMA ∷ ks)) ++ fs) fs js true n n (separated_ways P) (separated_part P) _ _ firsts follow (separated_as P n)
    (choice_reads fs fs (ks ++ (COMMA ∷ ks)) [] [] true n (seen (λ v. v.0 ∷ v.1) (seq P (list_part (after (mark_part COMMA) P)))) (nothing_part []) _ _ _ _ (subset_self fs) refl
    (mapped_reads fs (ks ++ (COMMA ∷ ks)) false n (seq P (list_part (after (mark_part COMMA) P))) _ _ (λ v. v.0 ∷ v.1)
    (seq_reads fs ks (COMMA ∷ []) (COMMA ∷ ks) false true n P (list_part (after (mark_part COMMA) P)) f g _ _ apart a
    (many_reads (COMMA ∷ []) ks n (after (mark_part COMMA) P) _ _ apart (after_reads (COMMA ∷ []) [] fs ks false false n (mark_part COMMA) P _ _ f g refl (disjoint_none fs) (comma_mark n) a))))
    (given_reads n []))
