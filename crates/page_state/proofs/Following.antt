-- Deeds of the code, one after another, follow deeds of the model, one after another.
use Rattle.std.proofs.Common.{◌≡◌, List, ◌∷◌, ◌++◌, refl, ap, sym, ◌∙◌}
use Rattle.std.proofs.lemmas.Grind.{flat_map-append}
use Rattle.std.proofs.lemmas.List.{append_assoc, append-nil}
use Rattle.std.proofs.Math.Path.{subst}
use Rattle.output_lines.specs.declared.out_line.OutLine.{OutLine}
use Rattle.client_model.specs.Journal.{Journal, lines_of, lines_of_all}
use Rattle.client_model.specs.Runtime.{Runtime, Did, nothing, and_then, for_each}
use Rattle.page_state.specs.declared.page.Page.{Page}
use Rattle.page_state.specs.Standing.{StandsFor, StaysElsewhere, Follows}

pub lines_then : (client : _) (a b : Journal) → lines_of_all client (a ++ b) ≡ lines_of_all client a ++ lines_of_all client b
lines_then client a b = flat_map-append (lines_of client) a b

-- what two steps leave as it is stays
pub elsewhere_then : (r s t : Runtime) → StaysElsewhere r s → StaysElsewhere s t → StaysElsewhere r t
elsewhere_then r s t h k = k ∙ ap {A = Runtime} (λ x. record x { instances = t.instances; bags = t.bags; unsent = t.unsent; shelf = t.shelf }) h

pub follows_nothing : {F : Type 0} (p : Page F) (told : List OutLine) → Follows nothing p p told told
follows_nothing p told = record { client = refl; names = λ place n e. e; stands = λ r s. s; elsewhere = λ r s. refl; lines = λ r s. sym (append-nil told) }

pub follows_then : {F : Type 0} (one two : Runtime → Did) (a b c : Page F) (told tells more : List OutLine)
    → Follows one a b told tells → Follows two b c tells more → Follows (λ r. and_then (one r) two) a c told more
follows_then one two a b c told tells more f g = record {
  client = g.client ∙ f.client;
  names = λ place n e. g.names place n (f.names place n e);
  stands = λ r s. g.stands (one r).0 (f.stands r s);
  elsewhere = λ r s. elsewhere_then r (one r).0 (two (one r).0).0 (f.elsewhere r s) (g.elsewhere (one r).0 (f.stands r s));
  lines = λ r s. g.lines (one r).0 (f.stands r s)
      ∙ ap (λ ls. ls ++ lines_of_all b.client (two (one r).0).1) (f.lines r s)
      ∙ append_assoc told (lines_of_all a.client (one r).1) (lines_of_all b.client (two (one r).0).1)
      ∙ ap (λ m. told ++ (lines_of_all a.client (one r).1 ++ lines_of_all m (two (one r).0).1)) f.client
      ∙ ap (λ ls. told ++ ls) (sym (lines_then a.client (one r).1 (two (one r).0).1));
}

-- one more of a list
pub follows_more : {F X : Type 0} (act : X → Runtime → Did) (x : X) (xs : List X) (a b c : Page F) (told tells more : List OutLine)
    → Follows (act x) a b told tells → Follows (for_each act xs) b c tells more → Follows (for_each act (x ∷ xs)) a c told more
follows_more act x xs a b c told tells more f g = follows_then (act x) (for_each act xs) a b c told tells more f g

-- a deed that does the same is followed as well
pub follows_as : {F : Type 0} (one two : Runtime → Did) (a b : Page F) (told tells : List OutLine)
    → ((r : Runtime) → StandsFor r a → one r ≡ two r) → Follows one a b told tells → Follows two a b told tells
follows_as one two a b told tells same f = record {
  client = f.client;
  names = f.names;
  stands = λ r s. subst (λ did. StandsFor did.0 b) (same r s) (f.stands r s);
  elsewhere = λ r s. subst (λ did. StaysElsewhere r did.0) (same r s) (f.elsewhere r s);
  lines = λ r s. f.lines r s ∙ ap (λ did. told ++ lines_of_all a.client did.1) (same r s);
}
