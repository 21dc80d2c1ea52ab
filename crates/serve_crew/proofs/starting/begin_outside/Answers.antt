use Rattle.std.proofs.Common.{◌∙◌, arith, rules}
use Rattle.serve_crew.proofs.Lendings.{given_late}
use Rattle.serve_crew.proofs.Begins.{on_ok_two}
use Rattle.serve_crew.proofs.starting.begin_outside.Goals as goal

pub returns-in_err-end-clause-begins : goal.returns-in_err-end-clause-begins
returns-in_err-end-clause-begins g c = record {
  hub = search rules;
  crew_is = search rules;
  of = search rules;
  divided = search rules;
  gathers = search rules;
  asked = search rules;
  heard = search rules;
  ends = λ others h. omega (arith, h, c.in_err-end.ensures.kept.none_more);
  stops = search rules;
}

pub returns-clause-begins : goal.returns-clause-begins
returns-clause-begins g c =
    let b = c.begin_session.ensures in
    record {
      hub = b.hub;
      crew_is = b.crew;
      of = b.of;
      divided = b.divided;
      gathers = search rules;
      asked = search rules;
      heard = search rules;
      ends = λ others h. b.ends others (omega (arith, h, c.in_ok-end.ensures.gave.one_more));
      stops = λ h. b.unasked.1 ∙ given_late _ _ _ _ _ _ c.in_ok-end.ensures.gave h;
    }

pub returns-clause-all : goal.returns-clause-all
returns-clause-all g c =
    let b = c.begin_session.ensures in
    on_ok_two c.begin_session.result
    (λ begun kept. record {
      begun = begun;
      few = omega (arith, b.few);
      kept = kept;
      logs = omega (arith, b.logs);
      goes = b.unasked.0 ∙ c.in_ok-end.ensures.gave.refused_is;
    })
    b.begun b.kept
