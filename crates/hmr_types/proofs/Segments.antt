-- The segments of a name, and that the segments that a specifier leads to spell a name.
use Rattle.std.proofs.Common.{ℕ, zero, suc, ◌+◌, ◌<◌, ◌≤◌, List, [], ◌∷◌, ◌++◌, length, take, drop, get_or, Bool, true, false, cond, ◌≡◌, refl, sym, ap, ◌∙◌, arith, Ok, Err}
use Rattle.std.specs.Prelude.{◌==◌}
use Rattle.std.proofs.lemmas.Bool.{and_parts, and_from, le-leb}
use Rattle.std.proofs.lemmas.Bool.Decides.{nat_tests}
use Rattle.std.proofs.lemmas.List.{at_drop_more, at_drop_all, append-nil}
use Rattle.std.proofs.lemmas.List.Elements.{All-cons}
use Rattle.std.proofs.lemmas.List.Folds.{list_all-append}
use Rattle.std.proofs.lemmas.List.Splits.{slice_split_none, slice_split_at}
use Rattle.std.specs.List.{All, list_all}
use Rattle.hmr_types.specs.declared.specifier.SpecFault.{SpecFault}
use Rattle.hmr_types.specs.declared.specifier.SpecFault.TheVariants.{BadSegment, NoMemory}
use Rattle.hmr_types.specs.ModName.{is_name, is_segment, is_segment_byte, is_text, here, above, parts, slash}
use Rattle.hmr_types.specs.Results.{◌>>=◌}
use Rattle.hmr_types.specs.Specifier.{Refuses, Walked, segments, climb, step, walk, spelled, name_of, led_to}
use Rattle.hmr_types.proofs.Names.{has_segment_bytes, segment_bytes}

-- whether each is a segment
abbrev pub are_segments : List (List ℕ) → Bool
are_segments = list_all is_segment

-- the segments of a name are segments
pub segments-is_name : (name : List ℕ) → is_name name ≡ true → are_segments (segments name) ≡ true
segments-is_name [] h = absurd (cc)
segments-is_name (b ∷ bs) h = (and_parts _ (are_segments (parts bs)) h).1

pub are_segments-take : (n : ℕ) (from : List (List ℕ)) → are_segments from ≡ true → are_segments (take n from) ≡ true
are_segments-take zero from h = refl
are_segments-take (suc n) [] h = refl
are_segments-take (suc n) (s ∷ more) h =
    let here = and_parts (is_segment s) (are_segments more) h in
    and_from _ _ here.0 (are_segments-take n more here.1)

no_slash : (b : ℕ) → is_segment_byte b ≡ true → (b == slash) ≡ false
unfolding is_segment_byte
no_slash b h = grind (arith, nat_tests)

no_slashes : (s : List ℕ) → has_segment_bytes s ≡ true → All (λ b. (b == slash) ≡ false) s
no_slashes [] h = λ k d lt. absurd (omega arith)
no_slashes (b ∷ bs) h =
    let here = and_parts (is_segment_byte b) (has_segment_bytes bs) h in
    All-cons (λ x. (x == slash) ≡ false) b bs (no_slash b here.0) (no_slashes bs here.1)

-- the parts of what segments spell, after the first slash, are the segments
parts-spelled : (s : List ℕ) (more : List (List ℕ)) → are_segments (s ∷ more) ≡ true → parts (s ++ spelled more) ≡ s ∷ more
parts-spelled s [] h =
    let here = and_parts (is_segment s) true h in
    ap parts (append-nil s) ∙ slice_split_none (λ b. b == slash) s (no_slashes s (segment_bytes s here.0))
parts-spelled s (t ∷ rest) h =
    let here = and_parts (is_segment s) (are_segments (t ∷ rest)) h in
    slice_split_at (λ b. b == slash) s slash (t ++ spelled rest) (no_slashes s (segment_bytes s here.0)) refl
    ∙ ap (λ ps. s ∷ ps) (parts-spelled t rest here.1)

-- segments spell a name, where the bytes are few enough
pub spelled-is_name : (from : List (List ℕ)) → are_segments from ≡ true → 0 < length (spelled from) → length (spelled from) ≤ 255 → is_name (spelled from) ≡ true
spelled-is_name [] h some few = absurd (omega arith)
spelled-is_name (s ∷ more) h some few =
    and_from _ _ (le-leb (length (spelled (s ∷ more))) 255 few) (ap are_segments (parts-spelled s more h) ∙ h)

given : {x y : List (List ℕ)} → let r : Walked = Ok x in r ≡ Ok y → are_segments x ≡ true → are_segments y ≡ true
given {x} {y} e h = let same : x ≡ y = cc in ap are_segments (sym same) ∙ h

climb-are_segments : (from next : List (List ℕ)) → are_segments from ≡ true → climb from ≡ Ok next → are_segments next ≡ true
climb-are_segments [] next h e = absurd (cc)
climb-are_segments (s ∷ more) next h e = given e (are_segments-take _ (s ∷ more) h)

by_tests : (is_here is_above is_part : Bool) (from : List (List ℕ)) (part : List ℕ) (next : List (List ℕ)) → are_segments from ≡ true → is_segment part ≡ is_part
    → cond is_here (Ok from) (cond is_above (climb from) (cond is_part (Ok (from ++ part ∷ [])) (Err BadSegment))) ≡ Ok next → are_segments next ≡ true
by_tests true is_above is_part from part next h p e = given e h
by_tests false true is_part from part next h p e = climb-are_segments from next h e
by_tests false false true from part next h p e = given e (list_all-append is_segment from (part ∷ []) ∙ and_from _ _ h (and_from _ _ p refl))
by_tests false false false from part next h p e = absurd (cc)

-- a part leads from segments to segments
pub step-are_segments : (from : List (List ℕ)) (part : List ℕ) (next : List (List ℕ)) → are_segments from ≡ true → step from part ≡ Ok next → are_segments next ≡ true
step-are_segments from part next h = by_tests (is_text here part) (is_text above part) (is_segment part) from part next h refl

walk_turn : (from ps : List (List ℕ)) (n : ℕ) (part : List ℕ) → (n < length ps) × (part ≡ get_or ps n part)
    → walk from (drop n ps) ≡ (step from part >>= λ next. walk next (drop (n + 1) ps))
walk_turn from ps n part turn = at_drop_more (walk from) ps n part turn.0 ∙ ap (λ p. walk from (p ∷ drop (n + 1) ps)) (sym turn.1)

-- after the next part, what is left leads where it led
pub walk_on : (from next ps : List (List ℕ)) (n : ℕ) (part : List ℕ) → (n < length ps) × (part ≡ get_or ps n part) → step from part ≡ Ok next
    → walk next (drop (n + 1) ps) ≡ walk from (drop n ps)
walk_on from next ps n part turn e = ap (λ r. r >>= λ next. walk next (drop (n + 1) ps)) (sym e) ∙ sym (walk_turn from ps n part turn)

-- where the next part is refused, so is the whole
stopped : (start from : List (List ℕ)) (text : List ℕ) (n : ℕ) (part : List ℕ) (fault : SpecFault) → walk from (drop n (parts text)) ≡ walk start (parts text)
    → (n < length (parts text)) × (part ≡ get_or (parts text) n part) → step from part ≡ Err fault → led_to start text ≡ Err fault
stopped start from text n part fault leads turn e =
    ap (λ r. r >>= name_of) (sym leads ∙ walk_turn from (parts text) n part turn ∙ ap (λ r. r >>= λ next. walk next (drop (n + 1) (parts text))) e)

-- the same for a refusal that may be out of memory
pub walk_stops : (start from : List (List ℕ)) (text : List ℕ) (n : ℕ) (part : List ℕ) (fault : SpecFault) → walk from (drop n (parts text)) ≡ walk start (parts text)
    → (n < length (parts text)) × (part ≡ get_or (parts text) n part) → Refuses fault (step from part) → Refuses fault (led_to start text)
walk_stops start from text n part NoMemory leads turn e = tt
walk_stops start from text n part fault leads turn e = stopped start from text n part fault leads turn e

-- with no part left, the whole leads to the segments that stand
pub walk_ends : (start from ps : List (List ℕ)) (n : ℕ) → walk from (drop n ps) ≡ walk start ps → n ≡ length ps → walk start ps ≡ Ok from
walk_ends start from ps n leads all = sym leads ∙ at_drop_all (walk from) ps n (omega arith)
