-- A head that was cut off is a head alone.
use Rattle.std.proofs.Common.{◌≡◌, ◌≤◌, ◌-◌, ℕ, List, length, take, sym, subst, arith}
use Rattle.std.proofs.lemmas.List.{length-take-le}
use Rattle.http_heads.specs.Cutting.{Cuts, EndsAt}
use Rattle.http_heads.specs.declared.cutting.Cut.TheVariants as cut
use Rattle.http_heads.specs.declared.cutting.TheConstants.{HEAD_BYTES}
use Rattle.http_heads.proofs.Ends.{blank_in, blank_out, ends_within}
use Rattle.doors.specs.Coming.{IsHead}

ends_alone : (bytes : List ℕ) (end : ℕ) → EndsAt bytes end → EndsAt (take end bytes) end
ends_alone bytes end x =
    let long = x.long in
    let within = ends_within bytes end x in
    record {
      long = long;
      is_blank = blank_in end bytes (end - 4) (omega (arith, long)) within x.is_blank;
      is_first = λ place le b. x.is_first place le (blank_out end bytes place b);
    }

-- the bytes up to the end of their first head
pub head_alone : (bytes : List ℕ) (end : ℕ) → Cuts bytes (cut.Head end) → IsHead (take end bytes)
head_alone bytes end c =
    let size : length (take end bytes) ≡ end = length-take-le end bytes (ends_within bytes end c.1) in
    subst (λ n. (n ≤ HEAD_BYTES) × EndsAt (take end bytes) n) (sym size) (c.0, ends_alone bytes end c.1)
