-- The number that digits write only grows with each digit.
use Rattle.std.proofs.Common.{◌≡◌, ℕ, ◌+◌, ◌<◌, ◌≤◌, List, [], ◌∷◌, length, drop, get_or, fold, None, arith, sym, ap, ◌∙◌}
use Rattle.std.specs.Prelude.{nat_le, false}
use Rattle.std.proofs.lemmas.Bool.Decides.{nat_tests}
use Rattle.std.proofs.lemmas.List.{drop_more}
use Rattle.play_script.specs.Script.{with_digit, digits_value, up_to}

pub fold_grows : (bs : List ℕ) (v : ℕ) → v ≤ fold with_digit v bs
fold_grows [] v = omega arith
fold_grows (b ∷ bs) v = omega (arith, fold_grows bs (with_digit v b))

past : (most n : ℕ) → most < n → None ≡ up_to most n
past most n h = let e : nat_le n most ≡ false = grind (arith, nat_tests) in rw e

pub too_large : (most : ℕ) (ds : List ℕ) (i v : ℕ) → i < length ds → fold with_digit v (drop i ds) ≡ fold with_digit 0 ds → most < with_digit v (get_or ds i 0) → None ≡ up_to most (digits_value ds)
too_large most ds i v within same large =
    let e = sym (ap (fold with_digit v) (drop_more ds i 0 within)) ∙ same in
    past most (fold with_digit 0 ds) (omega (arith, large, e, fold_grows (drop (i + 1) ds) (with_digit v (get_or ds i 0))))
