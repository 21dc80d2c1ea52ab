-- What a page shows is what the model's runtime shows that it stands for.
use Rattle.std.proofs.Common.{◌≡◌, ◌≤◌, ◌<◌, ◌-◌, ◌+◌, ℕ, suc, Bool, true, false, List, [], ◌∷◌, ◌++◌, map, length, drop, get_or, reverse, refl, ap, sym, ◌∙◌, arith}
use Rattle.std.specs.Prelude.{◌==◌, cond, not, filter, flat_map, slice_get, Option, Some, None, if◌then◌else◌}
use Rattle.std.proofs.Math.Path.{subst}
use Rattle.std.proofs.Math.Seq.{drop-cons, drop-length}
use Rattle.std.specs.Cmp.Lexicographic.{nat_list_eq_equiv}
use Rattle.std.proofs.lemmas.Bool.{eqb-true}
use Rattle.std.proofs.lemmas.Grind.{flat_map-append, reverse_onto}
use Rattle.std.proofs.lemmas.List.{append-nil, append_assoc}
use Rattle.output_lines.specs.declared.out_line.OutLine.{OutLine}
use Rattle.output_lines.specs.declared.out_line.OutLine.TheVariants as line
use Rattle.module_semantics.specs.Entries as entries
use Rattle.core_model.specs.Names.{Name, at, same_name}
use Rattle.client_model.specs.Instance as model
use Rattle.client_model.specs.Instance.{live_at, numbered}
use Rattle.client_model.specs.Printing.{fate_lines, instance_lines, value_lines_in}
use Rattle.client_model.specs.Runtime.{Runtime}
use Rattle.client_model.specs.Stale.{link_in, link_of, live_number, same_link}
use Rattle.page_instances.specs.declared.instance.Instance.{Instance}
use Rattle.page_instances.specs.Scopes.{kept_at}
use Rattle.page_instances.specs.Showing.{lines_in}
use Rattle.page_instances.proofs.Shown.{fate_shown, values_shown}
use Rattle.page_state.specs.declared.page.Page.{Page}
use Rattle.page_state.specs.Live.{HasNumber, Numbers, number_of}
use Rattle.page_state.specs.Settling.{live_in}
use Rattle.page_showing.specs.Showing.{apart, lines_of, lines_upto, link_by, stale_among, values_among, values_kept, values_under}
use Rattle.live_instances.specs.Orderly.{NumbersFall}
use Rattle.page_state.specs.Standing.{BothOrNone, StandsFor}
use Rattle.live_instances.proofs.Order.{itself}
use Rattle.page_state.proofs.Standing.{live_seen}

-- no link is there at first
pub no_number : (n : Name) → number_of [] n ≡ None
unfolding entries.entry_at
no_number n = refl

pub none_put : (links : List (Name × ℕ)) (numbers : Numbers) → numbers ≡ [] → (n : Name) → number_of numbers n ≡ at (drop (length links) links) n
none_put links numbers e n = ap (λ m. number_of m n) e ∙ no_number n ∙ ap (λ rows. at rows n) (sym (drop-length links))

put_at : (links : List (Name × ℕ)) (left : ℕ) (link : Name × ℕ) (before after : Numbers) → left < length links → link ≡ get_or links left link → HasNumber link.0 (Some link.1) before after
    → ((n : Name) → number_of before n ≡ at (drop (suc left) links) n) → (n : Name) → number_of after n ≡ at (drop left links) n
put_at links left link before after within read has held n =
    has n
    ∙ ap (λ b. if b then Some link.1 else number_of before n) (nat_list_eq_equiv.symm n link.0)
    ∙ ap (λ o. if same_name link.0 n then Some link.1 else o) (held n)
    ∙ ap (λ rows. at rows n) (ap (λ x. x ∷ drop (suc left) links) read ∙ sym (drop-cons links left link within))

-- one link more, before those that are there
pub link_put : (links : List (Name × ℕ)) (left : ℕ) (link : Name × ℕ) (name : Name) (before after : Numbers) → 0 < left → left ≤ length links → link ≡ get_or links (left - 1) link → name ≡ link.0
    → HasNumber name (Some link.1) before after → ((n : Name) → number_of before n ≡ at (drop left links) n) → (n : Name) → number_of after n ≡ at (drop (left - 1) links) n
link_put links left link name before after some within read named has held =
    let next : left ≡ suc (left - 1) = omega (arith, some) in
    let below : left - 1 < length links = omega (arith, some, within) in
    put_at links (left - 1) link before after below read (subst (λ m. HasNumber m (Some link.1) before after) named has) (λ n. held n ∙ ap (λ m. at (drop m links) n) next)

-- the newest is the one of its number, and the others stay those of theirs
here : (i : model.Instance) (is : List model.Instance) → numbered (i ∷ is) i.number ≡ Some i
here i is = ap (λ t. cond t (Some i) (numbered is i.number)) (itself i.number)

behind : (i : model.Instance) (is : List model.Instance) (k : ℕ) → i.number ≡ suc (length is) → k ≤ length is → numbered (i ∷ is) k ≡ numbered is k
behind i is k e below = by (i.number == k) refl
  where
    by : (t : Bool) → (i.number == k) ≡ t → cond t (Some i) (numbered is k) ≡ numbered is k
    by true same = let number : i.number ≡ k = eqb-true i.number k same in absurd (omega (arith, e, below, number))
    by false same = refl

module _ {F : Type 0} where
  values_in : (n : Name) (o : Option model.Instance) (c : Option (Instance F)) → BothOrNone o c → value_lines_in n o ≡ values_under n c
  values_in n None None b = refl
  values_in n None (Some c) b = absurd b
  values_in n (Some i) None b = absurd b
  values_in n (Some i) (Some c) b = values_shown i c b n

  -- what exports hold
  pub values_are : (r : Runtime) (p : Page F) → StandsFor r p → (names : List Name) → values_among r names ≡ values_kept p names
  values_are r p s [] = refl
  values_are r p s (n ∷ names) = ap (λ ls. ls ++ values_among r names) (values_in n (live_at r.instances n) (live_in p n) (live_seen r p s n))
      ∙ ap (λ ls. values_under n (live_in p n) ++ ls) (values_are r p s names)

  link_seen : (x : Name) (o : Option model.Instance) (c : Option (Instance F)) → BothOrNone o c → link_in o x ≡ link_by c x
  link_seen x None None b = refl
  link_seen x None (Some c) b = absurd b
  link_seen x (Some i) None b = absurd b
  link_seen x (Some i) (Some c) b = ap (λ links. at links x) b.links

  -- stale edges of one importer
  pub stale_are : (r : Runtime) (p : Page F) → StandsFor r p → (b : Name) (links : Numbers) → ((x : Name) → number_of links x ≡ link_by (live_in p b) x) → (names : List Name) → stale_among r b names ≡ apart links p.live b names
  stale_are r p s b links has [] = refl
  stale_are r p s b links has (x ∷ names) =
      ap (λ t. map {B = Name × Name} (λ y. (b, y)) (cond t (x ∷ filter old names) (filter old names))) same ∙ by (new x) (stale_are r p s b links has names)
    where
      old : Name → Bool
      old y = not (same_link (link_of r b y) (live_number r y))

      new : Name → Bool
      new y = not (same_link (number_of links y) (number_of p.live y))

      same : old x ≡ new x
      same = ap (λ k. not (same_link k (live_number r x))) (link_seen x (live_at r.instances b) (live_in p b) (live_seen r p s b) ∙ sym (has x))
          ∙ ap (λ k. not (same_link (number_of links x) k)) (s.instances.by_name x)

      by : (t : Bool) → stale_among r b names ≡ apart links p.live b names → map {B = Name × Name} (λ y. (b, y)) (cond t (x ∷ filter old names) (filter old names)) ≡ map {B = Name × Name} (λ y. (b, y)) (cond t (x ∷ filter new names) (filter new names))
      by true rest = ap (λ es. (b, x) ∷ es) rest
      by false rest = rest

  lines_seen : (k : ℕ) (i : model.Instance) (c : Option (Instance F)) → i.number ≡ k → BothOrNone (Some i) c → instance_lines i ≡ lines_of k c
  lines_seen k i None e b = absurd b
  lines_seen k i (Some c) e b = fate_shown i c b k e

  -- the instances from the oldest on
  pub fates_are : (is : List model.Instance) (cs : List (Instance F)) → NumbersFall is → ((k : ℕ) → k ≤ length is → BothOrNone (numbered is k) (kept_at cs k)) → flat_map instance_lines (reverse is) ≡ lines_upto cs (length is)
  fates_are [] cs fall seen = refl
  fates_are (i ∷ is) cs fall seen =
      let last : suc (length is) ≤ suc (length is) = omega (arith) in
      ap (flat_map instance_lines) (reverse_onto is i [])
      ∙ flat_map-append instance_lines (reverse is) (i ∷ [])
      ∙ ap (λ ls. flat_map instance_lines (reverse is) ++ ls) (append-nil (instance_lines i) ∙ lines_seen (suc (length is)) i (slice_get cs (length is)) fall.0
      (subst (λ o. BothOrNone o (slice_get cs (length is))) (ap (numbered (i ∷ is)) (sym fall.0) ∙ here i is) (seen (suc (length is)) last)))
      ∙ ap (λ ls. ls ++ lines_of (suc (length is)) (slice_get cs (length is))) (fates_are is cs fall.1 (λ k below. subst (λ o. BothOrNone o (kept_at cs k)) (behind i is k fall.0 below)
      (seen k (let within : k ≤ length is = below in omega (arith, within)))))

  -- one instance more
  pub one_fate : (cs : List (Instance F)) (place k : ℕ) (c : Instance F) (before told more : List OutLine) → slice_get cs place ≡ Some c → k ≡ place + 1 → told ≡ before ++ lines_upto cs place → more ≡ told ++ lines_in k c → more ≡ before ++ lines_upto cs (place + 1)
  one_fate cs place k c before told more there number so_far last =
      let next : suc place ≡ place + 1 = omega arith in
      last ∙ ap (λ ls. ls ++ lines_in k c) so_far ∙ append_assoc before (lines_upto cs place) (lines_in k c)
      ∙ ap (λ m. before ++ (lines_upto cs place ++ lines_in m c)) (number ∙ sym next)
      ∙ ap (λ o. before ++ (lines_upto cs place ++ lines_of (suc place) o)) (sym there)
      ∙ ap (λ m. before ++ lines_upto cs m) next

  module _ (r : Runtime) (p : Page F) (s : StandsFor r p) (told lines : List OutLine) where
    -- behind the line of the client
    pub fates_told : told ≡ line.Fates p.client ∷ [] → lines ≡ told ++ lines_upto p.instances.items (length p.instances.items) → lines ≡ fate_lines r
    fates_told first rest =
        rest ∙ ap (λ ls. ls ++ lines_upto p.instances.items (length p.instances.items)) first
        ∙ ap (λ k. line.Fates p.client ∷ lines_upto p.instances.items k) (sym s.instances.count)
        ∙ ap (λ ls. line.Fates p.client ∷ ls) (sym (fates_are r.instances p.instances.items s.instances.orderly.numbers (λ k below. s.instances.by_number k)))
        ∙ ap (λ m. line.Fates m ∷ flat_map instance_lines (reverse r.instances)) (sym s.client)

    pub values_told : (names : List Name) → told ≡ line.Values p.client ∷ [] → lines ≡ told ++ values_kept p names → lines ≡ line.Values r.client ∷ values_among r names
    values_told names first rest =
        rest ∙ ap (λ ls. ls ++ values_kept p names) first
        ∙ ap (λ m. line.Values m ∷ values_kept p names) (sym s.client)
        ∙ ap (λ ls. line.Values r.client ∷ ls) (sym (values_are r p s names))
