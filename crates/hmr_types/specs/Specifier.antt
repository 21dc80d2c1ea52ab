-- Which module a specifier means, to the module that imports by it.
use Rattle.std.specs.Prelude.{ℕ, List, [], ◌∷◌, ◌++◌, ◌-◌, length, take, drop, ◌==◌, ◌||◌, nat_eq}
use Rattle.std.specs.Prelude.{nat_le, codes, if◌then◌else◌, Result, Ok, Err, ⊤, ◌≡◌}
use Rattle.std.specs.List.{starts_with}
use Rattle.hmr_types.specs.declared.specifier.SpecFault.{SpecFault}
use Rattle.hmr_types.specs.declared.specifier.SpecFault.TheVariants.{Bare, Climbs, Empty, TooLong}
use Rattle.hmr_types.specs.declared.specifier.SpecFault.TheVariants.{BadSegment, NoMemory}
use Rattle.hmr_types.specs.ModName.{slash, parts, is_text, here, above, is_segment}
use Rattle.hmr_types.specs.Results.{◌>>=◌}

-- the segments, or why there are none
abbrev pub Walked : Type 0
Walked = Result (List (List ℕ)) SpecFault

-- the segments of a name
abbrev pub segments : List ℕ → List (List ℕ)
segments name = parts (drop 1 name)

-- all but the last
abbrev pub without_last : List (List ℕ) → List (List ℕ)
without_last from = take (length from - 1) from

-- the last segment is taken away
abbrev pub climb : List (List ℕ) → Walked
climb [] = Err Climbs
climb (s ∷ more) = Ok (without_last (s ∷ more))

-- one part: `.` changes nothing, `..` climbs, a segment is added
abbrev pub step : List (List ℕ) → List ℕ → Walked
step from part =
    if is_text here part then Ok from
    else if is_text above part then climb from
    else if is_segment part then Ok (from ++ part ∷ [])
    else Err BadSegment

-- the parts, from left to right
abbrev pub walk : List (List ℕ) → List (List ℕ) → Walked
walk from [] = Ok from
walk from (part ∷ more) = step from part >>= λ next. walk next more

-- the text of segments: a slash before each
abbrev pub spelled : List (List ℕ) → List ℕ
spelled [] = []
spelled (s ∷ more) = slash ∷ (s ++ spelled more)

-- the name of these segments
abbrev pub name_of : List (List ℕ) → Result (List ℕ) SpecFault
name_of [] = Err Empty
name_of (s ∷ more) = if nat_le (length (spelled (s ∷ more))) 255 then Ok (spelled (s ∷ more))
    else Err TooLong

-- the name that the parts of a text lead to from these segments
abbrev pub led_to : List (List ℕ) → List ℕ → Result (List ℕ) SpecFault
led_to from text = walk from (parts text) >>= name_of

-- a leading slash starts from no segments and isn't a part; `./` and `../` start from the base's without its
-- last
abbrev pub resolve : List ℕ → List ℕ → Result (List ℕ) SpecFault
resolve base [] = Err Empty
resolve base (b ∷ bs) =
    if b == slash then led_to [] bs
    else if starts_with nat_eq (b ∷ bs) (codes "./") || starts_with nat_eq (b ∷ bs) (codes "../")
    then led_to (without_last (segments base)) (b ∷ bs)
    else Err Bare

-- a refusal is the definition's, or out of memory
abbrev pub Refuses : {A : Type 0} → SpecFault → Result A SpecFault → Type 0
Refuses NoMemory meant = ⊤
Refuses fault meant = meant ≡ Err fault

-- the answer is the definition's, or out of memory
abbrev pub Gives : {A B : Type 0} → (A → B) → Result A SpecFault → Result B SpecFault → Type 0
Gives view (Ok x) meant = meant ≡ Ok (view x)
Gives view (Err fault) meant = Refuses fault meant
