-- Lines that are taken one part behind another.
use Rattle.std.proofs.Common.{◌≡◌, List, [], ◌++◌, append_assoc, append-nil, ap, sym, ◌∙◌}
use Rattle.std.specs.Prelude.{Option, Some, None}
use Rattle.std.specs.Io.KnownBytes.{Appends}
use Rattle.std.proofs.KnownBytes.{Appends-nil, Appends-trans}
use Rattle.std.proofs.Math.Path.{subst}
use Rattle.std.proofs.lemmas.Grind.{flat_map-append}
use Rattle.output_lines.specs.declared.out_line.OutLine.{OutLine}
use Rattle.play_text.specs.Lines.{line_text}
use Rattle.text_commands.specs.Outputs.{lines_text}
use Rattle.text_commands.specs.Writing.{Gains, Taken, Takes}

gains_none : (a : Option (List OutLine)) → Gains a a []
gains_none None = tt
gains_none (Some before) = sym (append-nil before)

gains_both : (a b c : Option (List OutLine)) (xs ys : List OutLine) → Gains a b xs → Gains b c ys →
    Gains a c (xs ++ ys)
gains_both None b c xs ys h k = tt
gains_both (Some before) None c xs ys h k = absurd h
gains_both (Some before) (Some between) None xs ys h k = absurd k
gains_both (Some before) (Some between) (Some after) xs ys h k =
    k ∙ (ap (λ l. l ++ ys) h ∙ append_assoc before xs ys)

-- no lines are taken
pub takes_none : (a : Taken) → Takes a a []
takes_none a = record { written = Appends-nil a.bytes; kept = gains_none a.lines }

pub both_lines : (xs ys : List OutLine) → lines_text (xs ++ ys) ≡ lines_text xs ++ lines_text ys
both_lines xs ys = flat_map-append line_text xs ys

-- lines are taken, and others behind them
pub takes_both : (a b c : Taken) (xs ys : List OutLine) → Takes a b xs → Takes b c ys → Takes a c (xs ++ ys)
takes_both a b c xs ys h k = record {
  written = subst (Appends a.bytes c.bytes) (sym (both_lines xs ys))
      (Appends-trans a.bytes b.bytes c.bytes (lines_text xs) (lines_text ys) h.written k.written);
  kept = gains_both a.lines b.lines c.lines xs ys h.kept k.kept;
}
