-- Where heads end, in bytes and in parts of them.
use Rattle.std.proofs.Common.{◌≡◌, ◌<◌, ◌≤◌, ◌+◌, ◌-◌, ℕ, List, ◌++◌, length, length-append, take, drop, refl, sym, ap, subst, ◌∙◌, arith}
use Rattle.std.proofs.Math.Nat.{lt_of_not-le}
use Rattle.memchr.specs.Find.{FindsNeedle, OccursAt}
use Rattle.memchr.proofs.lemmas.MatchLemmas.{OccursAt-from_part, OccursAt-part}
use Rattle.std.proofs.Common.{None, Some, ⊎_elim, take_all}
use Rattle.std.proofs.lemmas.Bool.{cases_lt}
use Rattle.std.proofs.lemmas.List.{drop-append-le, drop-drop, length-drop, length-take-le, take-append-drop, take-append-le}
use Rattle.http_heads.specs.Cutting.{BlankAt, Cuts, EndsAt, NoEndWithin, blank}
use Rattle.http_heads.specs.declared.cutting.Cut.{Cut}
use Rattle.http_heads.specs.declared.cutting.Cut.TheVariants as cut
use Rattle.http_heads.specs.declared.cutting.TheConstants.{HEAD_BYTES}

-- what stands in the first bytes stands there, whatever follows
pub blank_more : (xs ys : List ℕ) (k : ℕ) → BlankAt xs k → BlankAt (xs ++ ys) k
blank_more xs ys k b =
    let fits = b.fits in
    record {
      fits = rw (length-append xs ys) (omega (arith, fits));
      reads = rw (drop-append-le k xs ys (omega (arith, fits)))
          (take-append-le 4 (drop k xs) ys (rw (length-drop k xs) (omega (arith, fits))) ∙ b.reads);
    }

pub blank_less : (xs ys : List ℕ) (k : ℕ) → k + 4 ≤ length xs → BlankAt (xs ++ ys) k → BlankAt xs k
blank_less xs ys k fits b =
    record {
      fits = fits;
      reads = sym (take-append-le 4 (drop k xs) ys (rw (length-drop k xs) (omega (arith, fits))))
          ∙ (ap (take 4) (sym (drop-append-le k xs ys (omega (arith, fits)))) ∙ b.reads);
    }

-- the first n bytes
pub blank_out : (n : ℕ) (xs : List ℕ) (k : ℕ) → BlankAt (take n xs) k → BlankAt xs k
blank_out n xs k b = subst (λ l. BlankAt l k) (take-append-drop n xs) (blank_more (take n xs) (drop n xs) k b)

pub blank_in : (n : ℕ) (xs : List ℕ) (k : ℕ) → k + 4 ≤ n → n ≤ length xs → BlankAt xs k → BlankAt (take n xs) k
blank_in n xs k few within b =
    blank_less (take n xs) (drop n xs) k (rw (length-take-le n xs within) few)
    (subst (λ l. BlankAt l k) (sym (take-append-drop n xs)) b)

-- behind f bytes
pub blank_behind : (f : ℕ) (xs : List ℕ) (k : ℕ) → f ≤ length xs → BlankAt (drop f xs) k → BlankAt xs (f + k)
blank_behind f xs k within b =
    let fits : k + 4 ≤ length xs - f = subst (λ n. k + 4 ≤ n) (length-drop f xs) b.fits in
    record {
      fits = omega (arith, fits, within);
      reads = ap (take 4) (sym (drop-drop k f xs)) ∙ b.reads;
    }

pub blank_before : (f : ℕ) (xs : List ℕ) (k : ℕ) → f ≤ length xs → BlankAt xs (f + k) → BlankAt (drop f xs) k
blank_before f xs k within b =
    let fits = b.fits in
    record {
      fits = rw (length-drop f xs) (omega (arith, fits, within));
      reads = ap (take 4) (drop-drop k f xs) ∙ b.reads;
    }

-- an end lies within the bytes
pub ends_within : (bytes : List ℕ) (end : ℕ) → EndsAt bytes end → end ≤ length bytes
ends_within bytes end x =
    let fits = x.is_blank.fits in
    let long = x.long in
    omega (arith, fits, long)

-- no end within so many bytes, whatever follows
pub none_more : (xs ys : List ℕ) (count : ℕ) → count ≤ length xs → NoEndWithin xs count → NoEndWithin (xs ++ ys) count
none_more xs ys count within none = λ k few b. none k few (blank_less xs ys k (omega (arith, few, within)) b)

-- the least of two numbers, from what can't be
le_from_not : (b a : ℕ) → ¬ (b < a) → a ≤ b
le_from_not b a never = let less = lt_of_not-le (λ (le : b + 1 ≤ a). never (omega (arith, le))) in omega (arith, less)

-- an end that is first is the first place at which an empty line stands
pub one_end : (bytes : List ℕ) (a b : ℕ) → EndsAt bytes a → EndsAt bytes b → a ≤ b
one_end bytes a b x y =
    let long = y.long in
    let stands = y.is_blank in
    let first = x.is_first in
    le_from_not b a (λ less. first (b - 4) (omega (arith, less, long)) stands)

-- an end within so many bytes, of which none ends an empty line
pub no_end : {P : Type 0} (bytes : List ℕ) (end count : ℕ) → EndsAt bytes end → NoEndWithin bytes count → end ≤ count → P
no_end bytes end count x none within =
    let long = x.long in
    absurd (none (end - 4) (omega (arith, within, long)) x.is_blank)

pub one_cut : (bytes : List ℕ) (a b : Cut) → Cuts bytes a → Cuts bytes b → a ≡ b
one_cut bytes (cut.Head x) (cut.Head y) p q =
    let up = one_end bytes x y p.1 q.1 in
    let down = one_end bytes y x q.1 p.1 in
    ap cut.Head (omega (arith, up, down))
one_cut bytes (cut.Head x) cut.TooLong p q = no_end bytes x _ p.1 q.1 p.0
one_cut bytes (cut.Head x) cut.Partial p q = no_end bytes x _ p.1 q.1 (ends_within bytes x p.1)
one_cut bytes cut.TooLong (cut.Head y) p q = no_end bytes y _ q.1 p.1 q.0
one_cut bytes cut.TooLong cut.TooLong p q = refl
one_cut bytes cut.TooLong cut.Partial p q =
    let more = p.0 in
    let fewer = q.0 in
    absurd (omega (arith, more, fewer))
one_cut bytes cut.Partial (cut.Head y) p q = no_end bytes y _ q.1 p.1 (ends_within bytes y q.1)
one_cut bytes cut.Partial cut.TooLong p q =
    let fewer = p.0 in
    let more = q.0 in
    absurd (omega (arith, more, fewer))
one_cut bytes cut.Partial cut.Partial p q = refl

-- what follows changes nothing at an end, or where enough bytes have none
pub ends_more : (xs ys : List ℕ) (end : ℕ) → EndsAt xs end → EndsAt (xs ++ ys) end
ends_more xs ys end x =
    let within = ends_within xs end x in
    record {
      long = x.long;
      is_blank = blank_more xs ys (end - 4) x.is_blank;
      is_first = none_more xs ys (end - 1) (omega (arith, within)) x.is_first;
    }

-- an empty line of the part of the bytes that is searched
seen_blank : (bytes : List ℕ) (from limit k : ℕ) → limit ≤ length bytes → from ≤ limit → from + k + 4 ≤ limit
    → BlankAt bytes (from + k) → OccursAt (drop from (take limit bytes)) blank k
seen_blank bytes from limit k within start few b =
    let window = take limit bytes in
    let in_window = blank_in limit bytes (from + k) few within b in
    let there = blank_before from window k (rw (length-take-le limit bytes within) start) in_window in
    OccursAt-from_part (drop from window) blank k there.fits there.reads

shown_blank : (bytes : List ℕ) (from limit k : ℕ) → limit ≤ length bytes → from ≤ limit
    → OccursAt (drop from (take limit bytes)) blank k → BlankAt bytes (from + k)
shown_blank bytes from limit k within start occurs =
    let window = take limit bytes in
    let there : BlankAt (drop from window) k =
    record { fits = occurs.fits; reads = OccursAt-part (drop from window) blank k occurs } in
    blank_out limit bytes (from + k)
    (blank_behind from window k (rw (length-take-le limit bytes within) start) there)

-- none ends within a count: none of those that were searched before, and none in the part that is searched
none_ends : (bytes : List ℕ) (searched from limit count : ℕ) → limit ≤ length bytes → from ≤ limit
    → from ≤ searched - 3 → count ≤ limit → NoEndWithin bytes searched
    → ((k : ℕ) → from + k + 4 ≤ count → ¬ (OccursAt (drop from (take limit bytes)) blank k))
    → NoEndWithin bytes count
none_ends bytes searched from limit count within start before few old new = λ place le b.
    ⊎_elim
    (λ earlier. old place (omega (arith, earlier, before)) b)
    (λ later.
    let same : from + (place - from) ≡ place = omega (arith, later) in
    new (place - from) (omega (arith, later, le))
    (seen_blank bytes from limit (place - from) within start (omega (arith, later, le, few))
    (subst (BlankAt bytes) (sym same) b)))
    (cases_lt place from)

-- the search finds the end of the first head
pub cut_found : (bytes : List ℕ) (searched from limit at : ℕ) → limit ≤ length bytes → limit ≤ HEAD_BYTES → from ≤ limit
    → from ≤ searched - 3 → NoEndWithin bytes searched
    → FindsNeedle (drop from (take limit bytes)) blank 0 (Some at) → Cuts bytes (cut.Head (from + at + 4))
cut_found bytes searched from limit at within most start before old found =
    let occurs = found.1 in
    let first = found.0.before in
    let high = found.0.high in
    let fits = occurs.fits in
    let size : length (drop from (take limit bytes)) ≡ limit - from =
    length-drop from (take limit bytes) ∙ ap (λ n. n - from) (length-take-le limit bytes within) in
    let inside : at + 4 ≤ limit - from = subst (λ n. at + 4 ≤ n) size fits in
    let shown = shown_blank bytes from limit at within start occurs in (
      omega (arith, inside, most, start),
      record {
        long = omega arith;
        is_blank = subst (BlankAt bytes) (omega arith) shown;
        is_first = none_ends bytes searched from limit (from + at + 4 - 1) within start before
            (omega (arith, inside, start)) old (λ k le o. first k (omega arith) (omega (arith, le)) o);
      },
    )

-- the search finds none
pub none_found : (bytes : List ℕ) (searched from limit : ℕ) → limit ≤ length bytes → from ≤ limit
    → from ≤ searched - 3 → NoEndWithin bytes searched
    → FindsNeedle (drop from (take limit bytes)) blank 0 None → NoEndWithin bytes limit
none_found bytes searched from limit within start before old found =
    none_ends bytes searched from limit limit within start before (omega arith) old
    (λ k le o. let fits = o.fits in found k (omega arith) (omega (arith, fits)) o)

-- a slice to the end is all that is left
pub to_the_end : (from : ℕ) (xs : List ℕ) → take (length xs - from) (drop from xs) ≡ drop from xs
to_the_end from xs = take_all _ _ (rw (length-drop from xs) (omega arith))
