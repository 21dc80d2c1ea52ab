-- What isn't told of a site: what is at its paths, and what becomes of what is posted there.
use Rattle.std.specs.Prelude.{⊤}
use Rattle.live_answers.specs.Given.{GivesAt}
use Rattle.live_answers.specs.Taken.{Takes}

-- whatever is at a path
abbrev pub gives_anything : GivesAt
gives_anything path query wants_page given = ⊤

-- whatever becomes of what is posted
abbrev pub takes_anything : Takes
takes_anything path body taken = ⊤
