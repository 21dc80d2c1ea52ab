-- Parts with a comma between each two, and perhaps one after the last.
use Rattle.std.proofs.Common.{◌≡◌, ℕ, zero, suc, ◌≤◌, List, [], ◌∷◌, ◌++◌, length, map, true, false, cond, ◌⊎◌, inl, inr, Option, Some, None, Result, Ok, Err, refl, sym, ap, ◌∙◌, subst, arith}
use Rattle.std.proofs.lemmas.List.{append_assoc}
use Rattle.module_semantics.specs.Steps.{◌>>=◌}
use Rattle.module_semantics.specs.Token.{LineToken}
use Rattle.module_semantics.specs.Kinds.{COMMA}
use Rattle.module_semantics.specs.Readers.{GrammarFault, unexpected, Reader, next_in, mark, listed_from, listed, too_deep, given, ◌&◌, mapped, choice}
use Rattle.module_semantics.specs.Spelling as spell
use Rattle.module_semantics.specs.Spelling.{Spell, ◌>>◌, ◌▸◌, Listed, none, last, more, items_of}
use Rattle.module_semantics.specs.Grammar.{deepest}
use Rattle.module_semantics.proofs.Steps.{ok_parts, bind_ok, bind_err, bound, bound_err, went, if_true, if_false, bind_some, bound_some, next, next_after, no_tokens, grown}
use Rattle.module_semantics.proofs.KindLists.{disjoint, next_apart, next_neither, next_in_looks, none_next}
use Rattle.module_semantics.proofs.Parts.{Free, Stable, Part, Begun, Default, Reads, shorter}
use Rattle.module_semantics.proofs.Leaves.{one_ok, one_is, one_next, one_free, taken_err, taken_shallow}
use Rattle.module_semantics.proofs.Ends.{mark_spelt, mark_read}
use Rattle.module_semantics.proofs.Sequences.{then_free, later_begun, same_begun}
use Rattle.module_semantics.proofs.Lists.{some_tokens, no_length, cons_same, Takes, turn_takes}

abbrev pub listed_part : {D A : Type 0} → Part D A → Part (Listed D) (List A)
listed_part P = record { spelt = spell.listed P.spelt; value = λ ds. map P.value (items_of ds); depth = λ ds. deepest P.depth (items_of ds) }

-- what a turn goes on with
abbrev pub after_item : {A : Type 0} → List ℕ → Reader A → ℕ → A → Reader (List A)
after_item fs f m x ts = cond (next_in (COMMA ∷ []) ts) (mark COMMA ts >>= λ c. listed_from fs f m c.1 >>= λ y. Ok (x ∷ y.0, y.1)) (Ok (x ∷ [], ts))

listed_goes : {A : Type 0} (fs : List ℕ) (f : Reader A) (m : ℕ) (ts r : List LineToken) (x : A) (z : Result (List A × List LineToken) GrammarFault) → next_in fs ts ≡ true → f ts ≡ Ok (x, r) → suc (length r) ≤ length ts → length ts ≤ m
    → ((k : ℕ) → length r ≤ k → after_item fs f k x r ≡ z) → listed_from fs f m ts ≡ z
unfolding listed_from
listed_goes fs f zero ts r x z go read less fits rest = absurd (omega (arith, less, fits))
listed_goes fs f (suc m) ts r x z go read less fits rest = if_true (next_in fs ts) _ _ _ go (bound (f ts) (λ x. after_item fs f m x.0 x.1) (x, r) z read (rest m (omega (arith, less, fits))))

listed_stops : {A : Type 0} (fs : List ℕ) (f : Reader A) (m : ℕ) (ts : List LineToken) → next_in fs ts ≡ false → listed_from fs f m ts ≡ Ok ([], ts)
unfolding listed_from
listed_stops fs f zero ts h = refl
listed_stops fs f (suc m) ts h = if_false (next_in fs ts) _ _ _ h refl

listed_fails : {A : Type 0} (fs : List ℕ) (f : Reader A) (m : ℕ) (ts : List LineToken) (e : GrammarFault) → next_in fs ts ≡ true → f ts ≡ Err e → 1 ≤ length ts → length ts ≤ m → listed_from fs f m ts ≡ Err e
unfolding listed_from
listed_fails fs f zero ts e go h some fits = absurd (omega (arith, some, fits))
listed_fails fs f (suc m) ts e go h some fits = if_true (next_in fs ts) _ _ _ go (bound_err (f ts) (λ x. after_item fs f m x.0 x.1) e h)

comma_goes : {A : Type 0} (fs : List ℕ) (f : Reader A) (m : ℕ) (x : A) (ts r : List LineToken) (xs : List A) (s : List LineToken) → spell.mark COMMA ts ≡ Some r → listed_from fs f m r ≡ Ok (xs, s) → after_item fs f m x ts ≡ Ok (x ∷ xs, s)
comma_goes fs f m x ts r xs s h k = if_true (next_in (COMMA ∷ []) ts) _ _ _ (one_next (COMMA ∷ []) spell.any_token ts r h)
    (bound (mark COMMA ts) (λ c. listed_from fs f m c.1 >>= λ y. Ok (x ∷ y.0, y.1)) (tt, r) _ (mark_read COMMA ts r h) (bound (listed_from fs f m r) (λ y. Ok (x ∷ y.0, y.1)) (xs, s) _ k refl))

comma_fails : {A : Type 0} (fs : List ℕ) (f : Reader A) (m : ℕ) (x : A) (ts r : List LineToken) (e : GrammarFault) → spell.mark COMMA ts ≡ Some r → listed_from fs f m r ≡ Err e → after_item fs f m x ts ≡ Err e
comma_fails fs f m x ts r e h k = if_true (next_in (COMMA ∷ []) ts) _ _ _ (one_next (COMMA ∷ []) spell.any_token ts r h)
    (bound (mark COMMA ts) (λ c. listed_from fs f m c.1 >>= λ y. Ok (x ∷ y.0, y.1)) (tt, r) _ (mark_read COMMA ts r h) (bound_err (listed_from fs f m r) (λ y. Ok (x ∷ y.0, y.1)) e k))

comma_shorter : (ts r : List LineToken) → spell.mark COMMA ts ≡ Some r → suc (length r) ≤ length ts
comma_shorter ts r h = let w = one_ok (COMMA ∷ []) spell.any_token ts r h in omega (arith, ap length w.1)

abbrev ListedWhole : {D A : Type 0} → ℕ → Part D A → List LineToken → List A → List LineToken → Type 0
ListedWhole {D} n P ts xs r = (ds : Listed D) × (spell.listed P.spelt ds ts ≡ Some r) × (map P.value (items_of ds) ≡ xs) × (deepest P.depth (items_of ds) ≤ n)

listed_none : {D A : Type 0} (n : ℕ) (P : Part D A) (ts : List LineToken) (xs : List A) (r : List LineToken) → ◌≡◌ {A = Result (List A × List LineToken) GrammarFault} (Ok ([], ts)) (Ok (xs, r)) → ListedWhole n P ts xs r
unfolding spell.listed
listed_none n P ts xs r h = let e = ok_parts [] xs ts r h in (none, ap Some e.0, e.1, omega arith)

listed_whole : {D A : Type 0} (fs ks : List ℕ) (n : ℕ) (P : Part D A) (f g : Reader A) → Reads fs false ks n P f g → (m : ℕ) (ts : List LineToken) (xs : List A) (r : List LineToken) → listed_from fs f m ts ≡ Ok (xs, r) → ListedWhole n P ts xs r
unfolding listed_from spell.listed
listed_whole fs ks n P f g a zero ts xs r h = listed_none n P ts xs r h
listed_whole fs ks n P f g a (suc m) ts xs r h = elim (went (next_in fs ts) _ _ (Ok (xs, r)) h) [
  | inl w ↦
      let one = bind_ok (f ts) (λ x. after_item fs f m x.0 x.1) (xs, r) w.1 in
      let d = a.whole ts one.0.0 one.0.1 one.1 in
      elim (went (next_in (COMMA ∷ []) one.0.1) _ _ (Ok (xs, r)) one.2) [
        | inl v ↦
            let two = bind_ok (mark COMMA one.0.1) (λ c. listed_from fs f m c.1 >>= λ y. Ok (one.0.0 ∷ y.0, y.1)) (xs, r) v.1 in
            let three = bind_ok (listed_from fs f m two.0.1) (λ y. Ok (one.0.0 ∷ y.0, y.1)) (xs, r) two.2 in
            let ds = listed_whole fs ks n P f g a m two.0.1 three.0.0 three.0.1 three.1 in
            let same = ok_parts (one.0.0 ∷ three.0.0) xs three.0.1 r three.2 in (
              more d.0 ds.0,
              bound_some (P.spelt d.0 ts) (spell.mark COMMA ▸ spell.listed P.spelt ds.0) one.0.1 (Some r) d.1 (bound_some (spell.mark COMMA one.0.1) (spell.listed P.spelt ds.0) two.0.1 (Some r) (mark_spelt COMMA one.0.1 two.0.0 two.0.1 two.1) (ds.1 ∙ ap Some same.0)),
              cons_same _ _ _ _ d.2 ds.2 ∙ same.1,
              omega (arith, d.3, ds.3),
            )
        | inr v ↦
            let same = ok_parts (one.0.0 ∷ []) xs one.0.1 r v.1 in
            (last d.0, d.1 ∙ ap Some same.0, cons_same _ _ _ _ d.2 refl ∙ same.1, omega (arith, d.3))
      ]
  | inr w ↦ listed_none n P ts xs r w.1
]

listed_comp : {D A : Type 0} (fs ks : List ℕ) (n : ℕ) (P : Part D A) (f g : Reader A) → disjoint (COMMA ∷ []) ks ≡ true → Reads fs false ks n P f g → (ds : Listed D) (m : ℕ) (ts r : List LineToken) → length ts ≤ m → deepest P.depth (items_of ds) ≤ n → spell.listed P.spelt ds ts ≡ Some r
    → next_in (fs ++ (COMMA ∷ ks)) r ≡ false → listed_from fs f m ts ≡ Ok (map P.value (items_of ds), r)
unfolding spell.listed
listed_comp fs ks n P f g apart a none m ts r fits few h stop =
    let e : ts ≡ r = cc in
    listed_stops fs f m ts (ap (next_in fs) e ∙ (next_neither fs (COMMA ∷ ks) r stop).0) ∙ ap (λ k. Ok ([], k)) e
listed_comp fs ks n P f g apart a (last d) m ts r fits few h stop =
    let few1 : P.depth d ≤ n = omega (arith, few) in
    let stop1 = (next_neither fs (COMMA ∷ ks) r stop).1 in
    let stop2 = next_neither (COMMA ∷ []) ks r stop1 in
    listed_goes fs f m ts r (P.value d) (Ok (P.value d ∷ [], r)) (a.starts d ts r few1 h) (a.comp d ts r few1 h stop2.1) (shorter fs ks n P f g a d ts r few1 h) fits (λ k fits'. if_false (next_in (COMMA ∷ []) r) _ _ _ stop2.0 refl)
listed_comp fs ks n P f g apart a (more d ds) m ts r fits few h stop =
    let w = bind_some (P.spelt d ts) (spell.mark COMMA ▸ spell.listed P.spelt ds) r h in
    let v = bind_some (spell.mark COMMA w.0) (spell.listed P.spelt ds) r w.2 in
    let few1 : P.depth d ≤ n = omega (arith, few) in
    let few2 : deepest P.depth (items_of ds) ≤ n = omega (arith, few) in
    let stop1 = next_apart (COMMA ∷ []) ks w.0 apart (one_next (COMMA ∷ []) spell.any_token w.0 v.0 v.1) in
    listed_goes fs f m ts w.0 (P.value d) (Ok (P.value d ∷ map P.value (items_of ds), r)) (a.starts d ts w.0 few1 w.1) (a.comp d ts w.0 few1 w.1 stop1) (shorter fs ks n P f g a d ts w.0 few1 w.1) fits
    (λ k fits'. comma_goes fs f k (P.value d) w.0 v.0 (map P.value (items_of ds)) r v.1 (listed_comp fs ks n P f g apart a ds k v.0 r (omega (arith, fits', comma_shorter w.0 v.0 v.1)) few2 v.2 stop))

listed_starts : {D A : Type 0} (fs ks : List ℕ) (n : ℕ) (P : Part D A) (f g : Reader A) → Reads fs false ks n P f g → (ds : Listed D) (ts r : List LineToken) → deepest P.depth (items_of ds) ≤ n → spell.listed P.spelt ds ts ≡ Some r → (next_in fs ts ≡ true) ⊎ (ts ≡ r)
unfolding spell.listed
listed_starts fs ks n P f g a none ts r few h = inr cc
listed_starts fs ks n P f g a (last d) ts r few h = inl (a.starts d ts r (omega (arith, few)) h)
listed_starts fs ks n P f g a (more d ds) ts r few h = let m = bind_some (P.spelt d ts) (spell.mark COMMA ▸ spell.listed P.spelt ds) r h in inl (a.starts d ts m.0 (omega (arith, few)) m.1)

listed_default : {D : Type 0} (f : D → Spell) → Default (spell.listed f)
unfolding spell.listed
listed_default f = record { by = none; text = []; fresh = tt; spells = λ s fresh. refl }

last_spells : {D : Type 0} (f : D → Spell) (d : D) (ts r : List LineToken) → f d ts ≡ Some r → spell.listed f (last d) ts ≡ Some r
unfolding spell.listed
last_spells f d ts r h = h

more_spells : {D : Type 0} (f : D → Spell) (d : D) (ds : Listed D) (ts r : List LineToken) (o : Option (List LineToken)) → o ≡ f d ts → ((o >> spell.mark COMMA) >> spell.listed f ds) ≡ Some r → spell.listed f (more d ds) ts ≡ Some r
unfolding spell.listed
more_spells f d ds ts r (Some x) is h = rw (← is) h
more_spells f d ds ts r None is h = absurd cc

listed_begun : {D A : Type 0} (fs ks : List ℕ) (n : ℕ) (P : Part D A) (f g : Reader A) → Reads fs false ks n P f g → (m : ℕ) (ts : List LineToken) (j : ℕ) → listed_from fs f m ts ≡ Err (unexpected j) → Begun (listed_part P) ts j
unfolding listed_from
listed_begun fs ks n P f g a zero ts j h = absurd cc
listed_begun fs ks n P f g a (suc m) ts j h = elim (went (next_in fs ts) _ _ (Err (unexpected j)) h) [
  | inl w ↦ elim (bind_err (f ts) (λ x. after_item fs f m x.0 x.1) (unexpected j) w.1) [
    | inl v ↦ same_begun P (listed_part P) ts j (λ d. last d) (λ d k r h. last_spells P.spelt d k r h) (a.begun ts j v)
    | inr one ↦ elim (went (next_in (COMMA ∷ []) one.0.1) _ _ (Err (unexpected j)) one.2) [
      | inl u ↦ elim (bind_err (mark COMMA one.0.1) (λ c. listed_from fs f m c.1 >>= λ y. Ok (one.0.0 ∷ y.0, y.1)) (unexpected j) u.1) [
        | inl v ↦ let k = taken_err (COMMA ∷ []) (λ t. tt) one.0.1 j v in absurd cc
        | inr two ↦ elim (bind_err (listed_from fs f m two.0.1) (λ y. Ok (one.0.0 ∷ y.0, y.1)) (unexpected j) two.2) [
          | inl v ↦
              let d = a.whole ts one.0.0 one.0.1 one.1 in
              let comma = mark_spelt COMMA one.0.1 two.0.0 two.0.1 two.1 in
              let both = then_free (P.spelt d.0) (spell.mark COMMA) (a.free d.0 d.3) (one_free (COMMA ∷ []) spell.any_token) ts two.0.1 (bound_some (P.spelt d.0 ts) (spell.mark COMMA) one.0.1 _ d.1 comma) in
              same_begun _ (listed_part P) ts j (λ ds. more d.0 ds) (λ ds k r h. more_spells P.spelt d.0 ds k r (P.spelt d.0 k) refl h)
              (later_begun (P.spelt d.0 ▸ spell.mark COMMA) (listed_part P) ts two.0.1 j both.0 both.1 both.2 (listed_begun fs ks n P f g a m two.0.1 j v))
          | inr v ↦ absurd cc
        ]
      ]
      | inr u ↦ absurd cc
    ]
  ]
  | inr w ↦ absurd cc
]

listed_free : {D A : Type 0} (fs ks : List ℕ) (n : ℕ) (P : Part D A) (f g : Reader A) → Reads fs false ks n P f g → (ds : Listed D) → deepest P.depth (items_of ds) ≤ n → Free (spell.listed P.spelt ds)
unfolding spell.listed
listed_free fs ks n P f g a none few ts r h = ([], cc, λ s near. refl)
listed_free fs ks n P f g a (last d) few ts r h = a.free d (omega (arith, few)) ts r h
listed_free fs ks n P f g a (more d ds) few ts r h =
    then_free (P.spelt d) (spell.mark COMMA ▸ spell.listed P.spelt ds) (a.free d (omega (arith, few)))
    (then_free (spell.mark COMMA) (spell.listed P.spelt ds) (one_free (COMMA ∷ []) spell.any_token) (listed_free fs ks n P f g a ds (omega (arith, few)))) ts r h

comma_token : (ts r : List LineToken) → spell.mark COMMA ts ≡ Some r → (t : LineToken) × (ts ≡ t ∷ r) × ((s : List LineToken) → spell.mark COMMA (t ∷ s) ≡ Some s)
comma_token ts r h = let w = one_free (COMMA ∷ []) spell.any_token ts r h in let v = one_ok (COMMA ∷ []) spell.any_token ts r h in (v.0, v.1, λ s. one_is (COMMA ∷ []) spell.any_token v.0 s v.2 v.3)

abbrev ReadsOn : {A : Type 0} → List ℕ → Reader A → List LineToken → List A → List LineToken → Type 0
ReadsOn fs g ts xs r = (b : List LineToken) × (ts ≡ b ++ r) × ((s : List LineToken) (k : ℕ) → next s ≡ next r → length (b ++ s) ≤ k → listed_from fs g k (b ++ s) ≡ Ok (xs, s))

abbrev FaultsOn : {A : Type 0} → List ℕ → Reader A → List LineToken → ℕ → Type 0
FaultsOn fs g ts j = (b : List LineToken) × (r : List LineToken) × (ts ≡ b ++ r) × (length r ≡ j) × ((s : List LineToken) (k : ℕ) → next s ≡ next r → length (b ++ s) ≤ k → listed_from fs g k (b ++ s) ≡ Err (unexpected (length s)))

-- a turn and what follows it, before another rest
turn_on : {A : Type 0} (fs : List ℕ) (f g : Reader A) → Takes f → Stable f g → (ts r : List LineToken) (x : A) (a : List LineToken) → next_in fs ts ≡ true → f ts ≡ Ok (x, r) → ts ≡ a ++ r → ((s : List LineToken) → next s ≡ next r → g (a ++ s) ≡ Ok (x, s))
    → (s : List LineToken) (z : Result (List A × List LineToken) GrammarFault) (k : ℕ) → next s ≡ next r → length (a ++ s) ≤ k → ((j : ℕ) → length s ≤ j → after_item fs g j x s ≡ z) → listed_from fs g k (a ++ s) ≡ z
turn_on fs f g takes st ts r x a go read split again s z k near fits rest =
    listed_goes fs g k (a ++ s) s x z (next_in_looks fs (a ++ s) (a ++ r) (next_after a r s near) ∙ sym (ap (next_in fs) split) ∙ go) (again s near) (grown a r s (subst (λ u. suc (length r) ≤ length u) split (takes ts x r read))) fits rest

-- the bytes of a turn, its comma and the rest in one
joined : (a : List LineToken) (t : LineToken) (b s : List LineToken) → (a ++ (t ∷ b)) ++ s ≡ a ++ (t ∷ (b ++ s))
joined a t b s = append_assoc a (t ∷ b) s

listed_reads_on : {A : Type 0} (fs : List ℕ) (f g : Reader A) → Takes f → Stable f g → (m : ℕ) (ts : List LineToken) (xs : List A) (r : List LineToken) → length ts ≤ m → listed_from fs f m ts ≡ Ok (xs, r) → ReadsOn fs g ts xs r
unfolding listed_from
listed_reads_on fs f g takes st zero ts xs r fits h =
    let e = ok_parts [] xs ts r h in
    ([], e.0, λ s k same fits'. listed_stops fs g k s (ap (next_in fs) (no_tokens s (same ∙ ap next (sym e.0 ∙ no_length ts fits))) ∙ none_next fs) ∙ ap (λ z. Ok (z, s)) e.1)
listed_reads_on fs f g takes st (suc m) ts xs r fits h = elim (went (next_in fs ts) _ _ (Ok (xs, r)) h) [
  | inl w ↦
      let one = bind_ok (f ts) (λ x. after_item fs f m x.0 x.1) (xs, r) w.1 in
      let a = st.reads ts one.0.0 one.0.1 one.1 in
      let less = takes ts one.0.0 one.0.1 one.1 in
      elim (went (next_in (COMMA ∷ []) one.0.1) _ _ (Ok (xs, r)) one.2) [
        | inl v ↦
            let two = bind_ok (mark COMMA one.0.1) (λ c. listed_from fs f m c.1 >>= λ y. Ok (one.0.0 ∷ y.0, y.1)) (xs, r) v.1 in
            let three = bind_ok (listed_from fs f m two.0.1) (λ y. Ok (one.0.0 ∷ y.0, y.1)) (xs, r) two.2 in
            let same_end = ok_parts (one.0.0 ∷ three.0.0) xs three.0.1 r three.2 in
            let c = comma_token one.0.1 two.0.1 (mark_spelt COMMA one.0.1 two.0.0 two.0.1 two.1) in
            let b = listed_reads_on fs f g takes st m two.0.1 three.0.0 r (omega (arith, less, fits, ap length c.1)) (three.1 ∙ ap (λ k. Ok (three.0.0, k)) same_end.0) in (
              a.0 ++ (c.0 ∷ b.0),
              a.1 ∙ ap (λ k. a.0 ++ k) (c.1 ∙ ap (λ k. c.0 ∷ k) b.1) ∙ sym (joined a.0 c.0 b.0 r),
              λ s k same fits'. subst (λ u. length u ≤ k → listed_from fs g k u ≡ Ok (xs, s)) (sym (joined a.0 c.0 b.0 s))
                  (λ fits''.
                  turn_on fs f g takes st ts one.0.1 one.0.0 a.0 w.0 one.1 a.1 a.2 (c.0 ∷ (b.0 ++ s)) (Ok (xs, s)) k (sym (ap next c.1)) fits''
                  (λ j fits3. comma_goes fs g j one.0.0 (c.0 ∷ (b.0 ++ s)) (b.0 ++ s) three.0.0 s (c.2 (b.0 ++ s)) (b.2 s j same (omega (arith, fits3))) ∙ ap (λ z. Ok (z, s)) same_end.1))
                  fits',
            )
        | inr v ↦
            let e = ok_parts (one.0.0 ∷ []) xs one.0.1 r v.1 in (
              a.0,
              a.1 ∙ ap (λ k. a.0 ++ k) e.0,
              λ s k same fits'.
                  let near : next s ≡ next one.0.1 = same ∙ sym (ap next e.0) in
                  turn_on fs f g takes st ts one.0.1 one.0.0 a.0 w.0 one.1 a.1 a.2 s (Ok (xs, s)) k near fits'
                  (λ j fits3. if_false (next_in (COMMA ∷ []) s) _ _ _ (next_in_looks (COMMA ∷ []) s one.0.1 near ∙ v.0) (ap (λ z. Ok (z, s)) e.1)),
            )
      ]
  | inr w ↦
      let e = ok_parts [] xs ts r w.1 in
      ([], e.0, λ s k same fits'. listed_stops fs g k s (next_in_looks fs s ts (same ∙ ap next (sym e.0)) ∙ w.0) ∙ ap (λ z. Ok (z, s)) e.1)
]

listed_faults_on : {A : Type 0} (fs : List ℕ) (f g : Reader A) → Takes f → Stable f g → (m : ℕ) (ts : List LineToken) (j : ℕ) → length ts ≤ m → listed_from fs f m ts ≡ Err (unexpected j) → FaultsOn fs g ts j
unfolding listed_from
listed_faults_on fs f g takes st zero ts j fits h = absurd cc
listed_faults_on fs f g takes st (suc m) ts j fits h = elim (went (next_in fs ts) _ _ (Err (unexpected j)) h) [
  | inl w ↦ elim (bind_err (f ts) (λ x. after_item fs f m x.0 x.1) (unexpected j) w.1) [
    | inl v ↦
        let a = st.faults ts j v in (
          a.0,
          a.1,
          a.2,
          a.3,
          λ s k same fits'.
              let go : next_in fs (a.0 ++ s) ≡ true = next_in_looks fs (a.0 ++ s) (a.0 ++ a.1) (next_after a.0 a.1 s same) ∙ sym (ap (next_in fs) a.2) ∙ w.0 in
              listed_fails fs g k (a.0 ++ s) (unexpected (length s)) go (a.4 s same) (some_tokens fs (a.0 ++ s) go) fits',
        )
    | inr one ↦ elim (went (next_in (COMMA ∷ []) one.0.1) _ _ (Err (unexpected j)) one.2) [
      | inl u ↦ elim (bind_err (mark COMMA one.0.1) (λ c. listed_from fs f m c.1 >>= λ y. Ok (one.0.0 ∷ y.0, y.1)) (unexpected j) u.1) [
        | inl v ↦ let k = taken_err (COMMA ∷ []) (λ t. tt) one.0.1 j v in absurd cc
        | inr two ↦ elim (bind_err (listed_from fs f m two.0.1) (λ y. Ok (one.0.0 ∷ y.0, y.1)) (unexpected j) two.2) [
          | inl v ↦
              let a = st.reads ts one.0.0 one.0.1 one.1 in
              let less = takes ts one.0.0 one.0.1 one.1 in
              let c = comma_token one.0.1 two.0.1 (mark_spelt COMMA one.0.1 two.0.0 two.0.1 two.1) in
              let b = listed_faults_on fs f g takes st m two.0.1 j (omega (arith, less, fits, ap length c.1)) v in (
                a.0 ++ (c.0 ∷ b.0),
                b.1,
                a.1 ∙ ap (λ k. a.0 ++ k) (c.1 ∙ ap (λ k. c.0 ∷ k) b.2) ∙ sym (joined a.0 c.0 b.0 b.1),
                b.3,
                λ s k same fits'. subst (λ u. length u ≤ k → listed_from fs g k u ≡ Err (unexpected (length s))) (sym (joined a.0 c.0 b.0 s))
                    (λ fits''.
                    turn_on fs f g takes st ts one.0.1 one.0.0 a.0 w.0 one.1 a.1 a.2 (c.0 ∷ (b.0 ++ s)) (Err (unexpected (length s))) k (sym (ap next c.1)) fits''
                    (λ i fits3. comma_fails fs g i one.0.0 (c.0 ∷ (b.0 ++ s)) (b.0 ++ s) (unexpected (length s)) (c.2 (b.0 ++ s)) (b.4 s i same (omega (arith, fits3)))))
                    fits',
              )
          | inr v ↦ absurd cc
        ]
      ]
      | inr u ↦ absurd cc
    ]
  ]
  | inr w ↦ absurd cc
]

listed_stable : {A : Type 0} (fs : List ℕ) (f g : Reader A) → Takes f → Stable f g → Stable (listed fs f) (listed fs g)
listed_stable fs f g takes st = record {
  reads = λ ts xs r h.
      let a = listed_reads_on fs f g takes st (length ts) ts xs r (omega arith) h in
      (a.0, a.1, λ s same. a.2 s (length (a.0 ++ s)) same (omega arith));
  faults = λ ts j h.
      let a = listed_faults_on fs f g takes st (length ts) ts j (omega arith) h in
      (a.0, a.1, a.2, a.3, λ s same. a.4 s (length (a.0 ++ s)) same (omega arith));
}

-- nothing in it can be too deep
abbrev pub Shallow : {A : Type 0} → Reader A → Type 0
Shallow {A} f = (ts : List LineToken) (m : ℕ) → f ts ≡ Err (too_deep m) → ⊥

pub given_shallow : {A : Type 0} {x : A} → Shallow (given x)
given_shallow ts m h = absurd cc

pub then_shallow : {A B : Type 0} (f : Reader A) (g : Reader B) → Shallow f → Shallow g → Shallow (f & g)
then_shallow f g a b ts m h = elim (bind_err (f ts) (λ x. g x.1 >>= λ y. Ok ((x.0, y.0), y.1)) (too_deep m) h) [
  | inl w ↦ a ts m w
  | inr one ↦ elim (bind_err (g one.0.1) (λ y. Ok ((one.0.0, y.0), y.1)) (too_deep m) one.2) [ inl w ↦ b one.0.1 m w | inr w ↦ absurd cc ]
]

pub mapped_shallow : {A B : Type 0} (f : Reader A) (h : A → B) → Shallow f → Shallow (mapped h f)
mapped_shallow f h a ts m is = elim (bind_err (f ts) (λ x. Ok (h x.0, x.1)) (too_deep m) is) [ inl w ↦ a ts m w | inr w ↦ absurd cc ]

pub choice_shallow : {A : Type 0} (hs : List ℕ) (f g : Reader A) → Shallow f → Shallow g → Shallow (choice hs f g)
choice_shallow hs f g a b ts m h = elim (went (next_in hs ts) (f ts) (g ts) (Err (too_deep m)) h) [ inl w ↦ a ts m w.1 | inr w ↦ b ts m w.1 ]

listed_shallow : {A : Type 0} (fs : List ℕ) (f : Reader A) → Shallow f → (m : ℕ) → Shallow (listed_from fs f m)
unfolding listed_from
listed_shallow fs f flat zero ts j h = absurd cc
listed_shallow fs f flat (suc m) ts j h = elim (went (next_in fs ts) _ _ (Err (too_deep j)) h) [
  | inl w ↦ elim (bind_err (f ts) (λ x. after_item fs f m x.0 x.1) (too_deep j) w.1) [
    | inl v ↦ flat ts j v
    | inr one ↦ elim (went (next_in (COMMA ∷ []) one.0.1) _ _ (Err (too_deep j)) one.2) [
      | inl u ↦ elim (bind_err (mark COMMA one.0.1) (λ c. listed_from fs f m c.1 >>= λ y. Ok (one.0.0 ∷ y.0, y.1)) (too_deep j) u.1) [
        | inl v ↦ taken_shallow (COMMA ∷ []) (λ t. tt) one.0.1 j v
        | inr two ↦ elim (bind_err (listed_from fs f m two.0.1) (λ y. Ok (one.0.0 ∷ y.0, y.1)) (too_deep j) two.2) [
          | inl v ↦ listed_shallow fs f flat m two.0.1 j v
          | inr v ↦ absurd cc
        ]
      ]
      | inr u ↦ absurd cc
    ]
  ]
  | inr w ↦ absurd cc
]

pub listed_reads : {D A : Type 0} (fs ks : List ℕ) (n : ℕ) (P : Part D A) (f g : Reader A) → disjoint (COMMA ∷ []) ks ≡ true → Shallow f → Reads fs false ks n P f g → Reads fs true (fs ++ (COMMA ∷ ks)) n (listed_part P) (listed fs f) (listed fs g)
listed_reads fs ks n P f g apart flat a = record {
  whole = λ ts xs r h. listed_whole fs ks n P f g a (length ts) ts xs r h;
  comp = λ ds ts r few h stop. listed_comp fs ks n P f g apart a ds (length ts) ts r (omega arith) few h stop;
  begun = λ ts j h. listed_begun fs ks n P f g a (length ts) ts j h;
  starts = listed_starts fs ks n P f g a;
  free = listed_free fs ks n P f g a;
  some = listed_default P.spelt;
  stable = listed_stable fs f g (turn_takes fs ks n P f g a) a.stable;
  self = listed_stable fs f f (turn_takes fs ks n P f g a) a.self;
  sunk = λ ts j h. absurd (listed_shallow fs f flat (length ts) ts j h);
}
