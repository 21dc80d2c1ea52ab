-- Bytes are passed up to the first mark.
use Rattle.std.proofs.Common.{◌≡◌, ℕ, ◌+◌, ◌<◌, true, false, List, length, get_or, drop, sym, ◌∙◌}
use Rattle.std.proofs.lemmas.Bool.{cond-true, cond-false}
use Rattle.std.proofs.lemmas.List.{at_drop_more}
use Rattle.page_addresses.specs.Addresses.{first_mark, is_mark}

pub passed : (text : List ℕ) (i : ℕ) → i < length text → is_mark (get_or text i 0) ≡ false → first_mark (drop (i + 1) text) ≡ first_mark (drop i text)
passed text i inside other =
    sym (at_drop_more first_mark text i 0 inside ∙ cond-false (is_mark (get_or text i 0)) (get_or text i 0) (first_mark (drop (i + 1) text)) other)

pub seen : (text : List ℕ) (i : ℕ) → i < length text → is_mark (get_or text i 0) ≡ true → get_or text i 0 ≡ first_mark (drop i text)
seen text i inside mark =
    sym (at_drop_more first_mark text i 0 inside ∙ cond-true (is_mark (get_or text i 0)) (get_or text i 0) (first_mark (drop (i + 1) text)) mark)
