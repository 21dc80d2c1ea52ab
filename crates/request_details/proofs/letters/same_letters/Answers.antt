use Rattle.std.proofs.lemmas.Bool.Decides.{same_from_decides}
use Rattle.std.proofs.lemmas.Slice.Eq.{bytes_eq-Decides}
use Rattle.http_heads.specs.Head.{same_letters}
use Rattle.request_details.proofs.letters.same_letters.Goals as goal

pub returns : goal.returns
unfolding same_letters
returns c = same_from_decides _ _ c.eq_ignore_ascii_case.ensures.test (bytes_eq-Decides _ _)
