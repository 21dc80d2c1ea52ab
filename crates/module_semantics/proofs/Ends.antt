-- The end of a statement, and the end of what may stand in one another.
use Rattle.module_semantics.specs.Spelling.{Spell}
use Rattle.std.proofs.Common.{◌≡◌, ℕ, zero, ◌≤◌, List, [], ◌∷◌, ◌++◌, length, Bool, true, false, not, cond, ◌&&◌, ◌⊎◌, inl, inr, Option, Some, Ok, Err, refl, sym, ap, ◌∙◌, arith}
use Rattle.module_semantics.specs.Steps.{◌>>=◌}
use Rattle.module_semantics.specs.Token.{LineToken}
use Rattle.module_semantics.specs.Kinds.{kind, within, SEMICOLON, CLOSE_BRACE, ERROR}
use Rattle.module_semantics.specs.Readers.{unexpected, Reader, next_in, taken, mark, ends, end, deep, ◌&◌, mapped, choice, too_deep}
use Rattle.module_semantics.specs.Spelling as spell
use Rattle.module_semantics.proofs.Steps.{ok_parts, bound_err, went, if_true, if_false, unexpected_at, next, too_deep_at}
use Rattle.module_semantics.proofs.KindLists.{subset, within_neither, next_in_looks, next_more}
use Rattle.module_semantics.proofs.Parts.{Fresh, Free, Stable, Part, Default, Reads, Sunk}
use Rattle.module_semantics.proofs.Leaves.{one_ok, one_is, taken_ok, taken_is, taken_not, taken_err, next_is, taken_shallow}

abbrev pub end_part : Part (Unit {0}) (Unit {0})
end_part = record { spelt = λ u. spell.end; value = λ u. tt; depth = λ u. 0 }

fresh_no_mark : (s : List LineToken) → Fresh s → next_in (SEMICOLON ∷ []) s ≡ false
unfolding next_in
fresh_no_mark [] h = refl
fresh_no_mark (t ∷ s) h = (within_neither (SEMICOLON ∷ []) (ERROR ∷ []) (kind t.token) h.1).0

line_ends : (a b c : Bool) → a ≡ false → c ≡ true → (not a && cond b true c) ≡ true
line_ends a true c h k = rw h refl
line_ends a false c h k = rw (h, k) refl

fresh_ends : (s : List LineToken) → Fresh s → ends s ≡ true
unfolding ends
fresh_ends [] h = refl
fresh_ends (t ∷ s) h = line_ends (within (SEMICOLON ∷ []) (kind t.token)) (within (CLOSE_BRACE ∷ []) (kind t.token)) t.later (within_neither (SEMICOLON ∷ []) (ERROR ∷ []) (kind t.token) h.1).0 h.0

pub fresh_end : (s : List LineToken) → Fresh s → spell.end s ≡ Some s
unfolding spell.end
fresh_end s h = if_false (next_in (SEMICOLON ∷ []) s) _ _ _ (fresh_no_mark s h) (if_true (ends s) _ _ _ (fresh_ends s h) refl)

ends_looks : (s r : List LineToken) → next s ≡ next r → ends s ≡ ends r
unfolding ends
ends_looks [] [] h = refl
ends_looks [] (u ∷ r) h = absurd cc
ends_looks (t ∷ s) [] h = absurd cc
ends_looks (t ∷ s) (u ∷ r) h = let e : t ≡ u = cc in rw e refl

pub mark_spelt : (k : ℕ) (ts : List LineToken) (x : Unit {0}) (r : List LineToken) → mark k ts ≡ Ok (x, r) → spell.mark k ts ≡ Some r
mark_spelt k ts x r h = let w = taken_ok (k ∷ []) (λ t. tt) ts x r h in ap (spell.mark k) w.1 ∙ one_is (k ∷ []) spell.any_token w.0 r w.2 refl

pub mark_read : (k : ℕ) (ts r : List LineToken) → spell.mark k ts ≡ Some r → mark k ts ≡ Ok (tt, r)
mark_read k ts r h = let w = one_ok (k ∷ []) spell.any_token ts r h in ap (mark k) w.1 ∙ taken_is (k ∷ []) (λ t. tt) w.0 r w.2

end_whole : (ts : List LineToken) (x : Unit {0}) (r : List LineToken) → end ts ≡ Ok (x, r) → spell.end ts ≡ Some r
unfolding end spell.end
end_whole ts x r h = elim (went (next_in (SEMICOLON ∷ []) ts) _ _ (Ok (x, r)) h) [
  | inl w ↦ if_true (next_in (SEMICOLON ∷ []) ts) _ _ _ w.0 (mark_spelt SEMICOLON ts x r w.1)
  | inr w ↦ elim (went (ends ts) _ _ (Ok (x, r)) w.1) [
    | inl v ↦ if_false (next_in (SEMICOLON ∷ []) ts) _ _ _ w.0 (if_true (ends ts) _ _ _ v.0 (ap Some (ok_parts tt x ts r v.1).0))
    | inr v ↦ absurd cc
  ]
]

-- which way a test of a spelling went
pub chose : (b : Bool) (x y z : Option (List LineToken)) → cond b x y ≡ z → ((b ≡ true) × (x ≡ z)) ⊎ ((b ≡ false) × (y ≡ z))
chose true x y z h = inl (refl, h)
chose false x y z h = inr (refl, h)

-- a semicolon, or nothing
abbrev EndWay : List LineToken → List LineToken → Type 0
EndWay ts r = ((next_in (SEMICOLON ∷ []) ts ≡ true) × (spell.mark SEMICOLON ts ≡ Some r)) ⊎ ((next_in (SEMICOLON ∷ []) ts ≡ false) × (ends ts ≡ true) × (ts ≡ r))

end_way : (ts r : List LineToken) → spell.end ts ≡ Some r → EndWay ts r
unfolding spell.end
end_way ts r h = elim (chose (next_in (SEMICOLON ∷ []) ts) _ _ (Some r) h) [
  | inl w ↦ inl w
  | inr w ↦ elim (chose (ends ts) _ _ (Some r) w.1) [
    | inl v ↦ inr (w.0, v.0, cc)
    | inr v ↦ absurd cc
  ]
]

end_comp : (ts r : List LineToken) → spell.end ts ≡ Some r → end ts ≡ Ok (tt, r)
unfolding end
end_comp ts r h = elim (end_way ts r h) [
  | inl w ↦ if_true (next_in (SEMICOLON ∷ []) ts) _ _ _ w.0 (mark_read SEMICOLON ts r w.1)
  | inr w ↦ if_false (next_in (SEMICOLON ∷ []) ts) _ _ _ w.0 (if_true (ends ts) _ _ _ w.1 (ap (λ k. Ok (tt, k)) w.2))
]

-- where the end fails
end_err : (ts : List LineToken) (m : ℕ) → end ts ≡ Err (unexpected m) → (next_in (SEMICOLON ∷ []) ts ≡ false) × (ends ts ≡ false) × (length ts ≡ m)
unfolding end
end_err ts m h = elim (went (next_in (SEMICOLON ∷ []) ts) _ _ (Err (unexpected m)) h) [
  | inl w ↦ let v = taken_err (SEMICOLON ∷ []) (λ t. tt) ts m w.1 in absurd cc
  | inr w ↦ elim (went (ends ts) _ _ (Err (unexpected m)) w.1) [ inl v ↦ absurd cc | inr v ↦ (w.0, v.0, unexpected_at cc) ]
]

end_fails : (ts : List LineToken) → next_in (SEMICOLON ∷ []) ts ≡ false → ends ts ≡ false → end ts ≡ Err (unexpected (length ts))
unfolding end
end_fails ts h k = if_false (next_in (SEMICOLON ∷ []) ts) _ _ _ h (if_false (ends ts) _ _ _ k refl)

end_free : Free spell.end
unfolding spell.end
end_free ts r h = elim (end_way ts r h) [
  | inl w ↦
      let v = one_ok (SEMICOLON ∷ []) spell.any_token ts r w.1 in
      (v.0 ∷ [], v.1, λ s near. if_true (next_in (SEMICOLON ∷ []) (v.0 ∷ s)) _ _ _ (next_is (SEMICOLON ∷ []) v.0 s (v.0 ∷ s) refl v.2) (one_is (SEMICOLON ∷ []) spell.any_token v.0 s v.2 refl))
  | inr w ↦ (
    [],
    w.2,
    λ s near. elim near [
      | inl same ↦
          let e : next s ≡ next ts = same ∙ sym (ap next w.2) in
          if_false (next_in (SEMICOLON ∷ []) s) _ _ _ (next_in_looks (SEMICOLON ∷ []) s ts e ∙ w.0) (if_true (ends s) _ _ _ (ends_looks s ts e ∙ w.1) refl)
      | inr fresh ↦ fresh_end s fresh
    ],
  )
]

end_stable : Stable end end
end_stable = record {
  reads = λ ts x r h. let a = end_free ts r (end_whole ts x r h) in (a.0, a.1, λ s same. end_comp (a.0 ++ s) s (a.2 s (inl same)) ∙ refl);
  faults = λ ts n h. let w = end_err ts n h in ([], ts, refl, w.2, λ s same. end_fails s (next_in_looks (SEMICOLON ∷ []) s ts same ∙ w.0) (ends_looks s ts same ∙ w.1));
}

end_starts : (ts r : List LineToken) → EndWay ts r → (next_in (SEMICOLON ∷ []) ts ≡ true) ⊎ (ts ≡ r)
end_starts ts r (inl w) = inl w.0
end_starts ts r (inr w) = inr w.2

end_shallow : (ts : List LineToken) (m : ℕ) → end ts ≡ Err (too_deep m) → ⊥
unfolding end
end_shallow ts m h = elim (went (next_in (SEMICOLON ∷ []) ts) _ _ (Err (too_deep m)) h) [
  | inl w ↦ taken_shallow (SEMICOLON ∷ []) (λ t. tt) ts m w.1
  | inr w ↦ elim (went (ends ts) _ _ (Err (too_deep m)) w.1) [ inl v ↦ absurd cc | inr v ↦ absurd cc ]
]

pub end_reads : (n : ℕ) → Reads (SEMICOLON ∷ []) true [] n end_part end end
end_reads n = record {
  whole = λ ts x r h. (tt, end_whole ts x r h, refl, omega arith);
  comp = λ d ts r few h stop. end_comp ts r h;
  begun = λ ts m h. record { before = []; rest = ts; more = []; by = tt; split = refl; left = (end_err ts m h).2; fresh = tt; spells = λ s fresh. fresh_end s fresh };
  starts = λ d ts r few h. end_starts ts r (end_way ts r h);
  free = λ d few. end_free;
  some = record { by = tt; text = []; fresh = tt; spells = λ s fresh. fresh_end s fresh };
  stable = end_stable;
  self = end_stable;
  sunk = λ ts m h. absurd (end_shallow ts m h);
}

-- a token that doesn't begin it is unexpected at once
abbrev pub Refuses : {A : Type 0} → List ℕ → Reader A → Type 0
Refuses {A} fs f = (s : List LineToken) → next_in fs s ≡ false → f s ≡ Err (unexpected (length s))

pub taken_refuses : {A : Type 0} (ks : List ℕ) (v : LineToken → A) → Refuses ks (taken ks v)
taken_refuses ks v s h = taken_not ks v s h

pub then_refuses : {A B : Type 0} (fs : List ℕ) (f : Reader A) (g : Reader B) → Refuses fs f → Refuses fs (f & g)
then_refuses fs f g a s h = bound_err (f s) (λ x. g x.1 >>= λ y. Ok ((x.0, y.0), y.1)) (unexpected (length s)) (a s h)

pub mapped_refuses : {A B : Type 0} (fs : List ℕ) (f : Reader A) (h : A → B) → Refuses fs f → Refuses fs (mapped h f)
mapped_refuses fs f h a s is = bound_err (f s) (λ x. Ok (h x.0, x.1)) (unexpected (length s)) (a s is)

pub next_fewer : (xs ys : List ℕ) (s : List LineToken) (b : Bool) → next_in xs s ≡ b → subset xs ys ≡ true → next_in ys s ≡ false → next_in xs s ≡ false
next_fewer xs ys s false is sub h = is
next_fewer xs ys s true is sub h = let w = next_more xs ys s sub is in absurd cc

pub more_refuses : {A : Type 0} (fs gs : List ℕ) (f : Reader A) → subset fs gs ≡ true → Refuses fs f → Refuses gs f
more_refuses fs gs f sub a s h = a s (next_fewer fs gs s (next_in fs s) refl sub h)

pub choice_refuses : {A : Type 0} (fs hs : List ℕ) (f g : Reader A) → subset hs fs ≡ true → Refuses fs g → Refuses fs (choice hs f g)
choice_refuses fs hs f g sub a s h = if_false (next_in hs s) _ _ _ (next_fewer hs fs s (next_in hs s) refl sub h) (a s h)

pub deep_err : {A : Type 0} (fs : List ℕ) (ts : List LineToken) (m : ℕ) → deep {A = A} fs ts ≡ Err (unexpected m) → (next_in fs ts ≡ false) × (length ts ≡ m)
unfolding deep
deep_err {A} fs ts m h = elim (went (next_in fs ts) _ _ (Err (unexpected m)) h) [ inl w ↦ absurd cc | inr w ↦ (w.0, unexpected_at cc) ]

pub deep_ok : {A : Type 0} (fs : List ℕ) (ts : List LineToken) (x : A) (r : List LineToken) → deep {A = A} fs ts ≡ Ok (x, r) → ⊥
unfolding deep
deep_ok {A} fs ts x r h = elim (went (next_in fs ts) _ _ (Ok (x, r)) h) [ inl w ↦ absurd cc | inr w ↦ absurd cc ]

pub deep_refuses : {A : Type 0} (fs : List ℕ) → Refuses {A = A} fs (deep fs)
unfolding deep
deep_refuses fs s h = if_false (next_in fs s) _ _ _ h refl

-- a part begins with each token of these kinds
abbrev pub Starter : {D : Type 0} → List ℕ → (D → Spell) → Type 0
Starter {D} fs spelt = (t : LineToken) → within fs (kind t.token) ≡ true → (d : D) × (more : List LineToken) × (Fresh more) × ((s : List LineToken) → Fresh s → spelt d (t ∷ (more ++ s)) ≡ Some s)

-- the token at which it would begin
deep_first : (fs : List ℕ) (ts : List LineToken) → next_in fs ts ≡ true → (t : LineToken) × (r : List LineToken) × (ts ≡ t ∷ r) × (within fs (kind t.token) ≡ true)
unfolding next_in
deep_first fs [] h = absurd cc
deep_first fs (t ∷ r) h = (t, r, refl, h)

deep_sunk : {A : Type 0} (fs : List ℕ) (ts : List LineToken) (m : ℕ) → deep {A = A} fs ts ≡ Err (too_deep m) → (next_in fs ts ≡ true) × (length ts ≡ m)
unfolding deep
deep_sunk {A} fs ts m h = elim (went (next_in fs ts) _ _ (Err (too_deep m)) h) [ inl w ↦ (w.0, too_deep_at cc) | inr w ↦ absurd cc ]

deep_sinks : {D A : Type 0} (fs : List ℕ) (P : Part D A) → Starter fs P.spelt → (ts : List LineToken) (m : ℕ) → deep {A = A} fs ts ≡ Err (too_deep m) → Sunk P (deep fs) ts m
deep_sinks fs P starter ts m h =
    let w = deep_sunk fs ts m h in
    let t = deep_first fs ts w.0 in
    let d = starter t.0 t.3 in
    record { before = []; at = t.0; rest = t.1; more = d.1; by = d.0; split = t.2; left = sym (ap length t.2) ∙ w.1; fresh = d.2; spells = d.3; never = λ s x q is. deep_ok fs (t.0 ∷ s) x q is }

-- where nothing deeper may stand, no part is read
pub deep_reads : {D A : Type 0} (fs : List ℕ) (P : Part D A) (g : Reader A) → ((d : D) → 1 ≤ P.depth d) → Default P.spelt → Starter fs P.spelt → Refuses fs g → (ks : List ℕ) → Reads fs false ks zero P (deep fs) g
deep_reads fs P g deep_ some starter refuses ks = record {
  whole = λ ts x r h. absurd (deep_ok fs ts x r h);
  comp = λ d ts r few h stop. absurd (omega (arith, few, deep_ d));
  begun = λ ts m h. record { before = []; rest = ts; more = some.text; by = some.by; split = refl; left = (deep_err fs ts m h).1; fresh = some.fresh; spells = some.spells };
  starts = λ d ts r few h. absurd (omega (arith, few, deep_ d));
  free = λ d few. absurd (omega (arith, few, deep_ d));
  some = some;
  stable = record {
    reads = λ ts x r h. absurd (deep_ok fs ts x r h);
    faults = λ ts n h. let w = deep_err fs ts n h in ([], ts, refl, w.1, λ s same. refuses s (next_in_looks fs s ts same ∙ w.0));
  };
  self = record {
    reads = λ ts x r h. absurd (deep_ok fs ts x r h);
    faults = λ ts n h. let w = deep_err fs ts n h in ([], ts, refl, w.1, λ s same. deep_refuses fs s (next_in_looks fs s ts same ∙ w.0));
  };
  sunk = deep_sinks fs P starter;
}
