-- The counts of the names, of the bytes and of the awaited results, through each change.
use Rattle.std.proofs.Common.{◌≡◌, ℕ, ◌+◌, ◌≤◌, Bool, true, false, List, ◌∷◌, length, refl, ap, sym, ◌∙◌, arith}
use Rattle.std.specs.Prelude.{IfSome, IsUtf8, ◌-◌, Option, Some, None, if◌then◌else◌}
use Rattle.std.specs.Option.{option_map}
use Rattle.std.specs.BTreeMap.{BTreeMap}
use Rattle.std.proofs.Math.Path.{subst}
use Rattle.hmr_types.specs.declared.analysis.Analysis.{Analysis}
use Rattle.hmr_types.specs.declared.analysis.Outcome.{Outcome}
use Rattle.hmr_types.specs.declared.analysis.Outcome.TheVariants.{Good, Bad}
use Rattle.core_model.specs.Names.{Name, same_name, at}
use Rattle.core_model.specs.Sources.{Text, Source, Serving, Sources, job, removed, edit, result, Change, edit_answer, result_answer, ResultAnswer, serve, refuse, late, outstanding, text_length, is_awaited, answer_of}
use Rattle.version_map.specs.Changes.{ChangesAt}
use Rattle.version_map.specs.Entries.{IsGood, answer_at, current_rows, served_rows, entry_at, source_in, served_in, settled_source, settled_serving, waiting}
use Rattle.version_map.specs.Inside.{Fits, IsCounted, sources_of}
use Rattle.version_map.specs.declared.entry.Entry.{Entry}
use Rattle.version_map.specs.declared.version_map.VersionMap.TheInside.{Inside}
use Rattle.version_map.proofs.Onces.{weight, sum_of, sum_changed, weight_within}
use Rattle.version_map.proofs.Rows.{once_current, at_current, at_served, current_changed, served_changed}
use Rattle.version_map.proofs.Standing.{Changed, IsRoom, job_room, removed_room, IsOfSource, of_source, served_no_after, job_stands, removed_stands, settle_stands}
use Rattle.version_map.specs.Standing.{StandsFor, settled_as}
use Rattle.version_map.specs.declared.outcome.Settled.{Settled}

-- the bytes of a source
abbrev bytes : Source → ℕ
bytes s = length s.text

weight_bytes : (o : Option Source) → text_length o ≡ weight bytes o
weight_bytes None = refl
weight_bytes (Some s) = refl

module _ (a : Inside) (i : IsCounted a) (n : Name) where
  -- the bytes of one name are among all
  pub text_within : text_length (at (sources_of a).current n) ≤ a.total
  text_within =
      let within : weight bytes (at (current_rows a.entries.entries) n) ≤ sum_of bytes (current_rows a.entries.entries) = weight_within bytes n (current_rows a.entries.entries) (once_current a.entries.entries i.ordered) in
      omega (arith, within, i.total, weight_bytes (at (current_rows a.entries.entries) n))

  module _ (x : Option Source) (o : Option Serving) (es : BTreeMap Name Entry) (c : ChangesAt n x o a.entries.entries es.entries) where
    pub sum_after : (f : Source → ℕ) → sum_of f (current_rows es.entries) + weight f (at (current_rows a.entries.entries) n) ≡ sum_of f (current_rows a.entries.entries) + weight f x
    sum_after f = sum_changed f n x (current_rows a.entries.entries) (current_rows es.entries) (once_current a.entries.entries i.ordered) (once_current es.entries c.ordered) (current_changed n x o a.entries.entries es.entries c)

    pub changed : (counted served_no : ℕ) → Changed n x o (sources_of a) (record { counted = counted; current = current_rows es.entries; served = served_rows es.entries; served_no = served_no })
    changed counted served_no = record { source = current_changed n x o a.entries.entries es.entries c; served = served_changed n x o a.entries.entries es.entries i.ordered c; once = once_current es.entries c.ordered }

  either_fits : {X : Type 0} (P : X → Type 0) (b : Bool) (x o : Option X) → IfSome x P → IfSome o P → IfSome (if b then x else o) P
  either_fits P true x o h k = h
  either_fits P false x o h k = k

  -- a source or a serving that an edit gave
  abbrev SourceFits : Option Source → Type 0
  SourceFits x = IfSome x (λ s. Fits s.version s.text)

  abbrev ServingFits : Option Serving → Type 0
  ServingFits x = IfSome x (λ s. Fits s.version s.text)

  source_fits_now : (m : Name) → SourceFits (at (current_rows a.entries.entries) m)
  source_fits_now m = subst SourceFits (sym (at_current a.entries.entries m)) (i.sources_fit m)

  serving_fits_now : (m : Name) → ServingFits (at (served_rows a.entries.entries) m)
  serving_fits_now m = subst ServingFits (sym (at_served a.entries.entries m i.ordered)) (i.servings_fit m)

  sources_after : (x : Option Source) (o : Option Serving) (es : BTreeMap Name Entry) → ChangesAt n x o a.entries.entries es.entries → SourceFits x → (m : Name) → SourceFits (source_in (entry_at es.entries m))
  sources_after x o es c h m = subst SourceFits (sym (c.sources m)) (either_fits (λ s. Fits s.version s.text) (same_name n m) x (source_in (entry_at a.entries.entries m)) h (i.sources_fit m))

  servings_after : (x : Option Source) (o : Option Serving) (es : BTreeMap Name Entry) → ChangesAt n x o a.entries.entries es.entries → ServingFits o → (m : Name) → ServingFits (served_in (entry_at es.entries m))
  servings_after x o es c h m = subst ServingFits (sym (c.servings m)) (either_fits (λ s. Fits s.version s.text) (same_name n m) o (served_in (entry_at a.entries.entries m)) h (i.servings_fit m))

  -- a text that is UTF-8
  abbrev TextReads : Option Serving → Type 0
  TextReads x = IfSome x (λ s. IsUtf8 s.text)

  text_reads_now : (m : Name) → TextReads (at (served_rows a.entries.entries) m)
  text_reads_now m = subst TextReads (sym (at_served a.entries.entries m i.ordered)) (i.servings_read m)

  texts_after : (x : Option Source) (o : Option Serving) (es : BTreeMap Name Entry) → ChangesAt n x o a.entries.entries es.entries → TextReads o → (m : Name) → TextReads (served_in (entry_at es.entries m))
  texts_after x o es c h m = subst TextReads (sym (c.servings m)) (either_fits (λ s. IsUtf8 s.text) (same_name n m) o (served_in (entry_at a.entries.entries m)) h (i.servings_read m))

  good_served : (b : Bool) (o : Outcome) (x : Analysis) → (if b then answer_of o else late) ≡ serve x → IsGood o
  good_served true (Good y) x e = tt
  good_served true (Bad f) x e = absurd cc
  good_served false o x e = absurd cc

  text_settled : (old : Option Source) (was : Option Serving) (t : Text) (o : Outcome) (v : ℕ) (ans : ResultAnswer) → (IsGood o → IsUtf8 t) → answer_at old t o v ≡ ans → TextReads was → TextReads (settled_serving ans t v was)
  text_settled old was t o v (serve x) r e k = r (good_served (is_awaited old t v) o x e)
  text_settled old was t o v (refuse f) r e k = k
  text_settled old was t o v late r e k = k

  -- what a result is of fits as its source does
  result_fits : (old : Option Source) (t : Text) (v : ℕ) → IsOfSource old t v → SourceFits old → Fits v t
  result_fits old t v s h = subst (λ k. Fits k t) (sym s.version) (subst (λ u. Fits s.source.version u) (sym s.text) (subst SourceFits s.is h))

  source_settled : (old : Option Source) (t : Text) (o : Outcome) (v : ℕ) (ans : ResultAnswer) → answer_at old t o v ≡ ans → SourceFits old → SourceFits (option_map (settled_source ans t v) old)
  source_settled old t o v (serve x) e h =
      let s = of_source old t o v (serve x) e refl in
      subst (λ p. SourceFits (option_map (settled_source (serve x) t v) p)) (sym s.is) (result_fits old t v s h)
  source_settled old t o v (refuse f) e h =
      let s = of_source old t o v (refuse f) e refl in
      subst (λ p. SourceFits (option_map (settled_source (refuse f) t v) p)) (sym s.is) (result_fits old t v s h)
  source_settled None t o v late e h = tt
  source_settled (Some s) t o v late e h = h

  serving_settled : (old : Option Source) (was : Option Serving) (t : Text) (o : Outcome) (v : ℕ) (ans : ResultAnswer) → answer_at old t o v ≡ ans → SourceFits old → ServingFits was → ServingFits (settled_serving ans t v was)
  serving_settled old was t o v (serve x) e h k = result_fits old t v (of_source old t o v (serve x) e refl) h
  serving_settled old was t o v (refuse f) e h k = k
  serving_settled old was t o v late e h k = k

  pub job_counted : (t : Text) (v total : ℕ) (es : BTreeMap Name Entry) → edit_answer (sources_of a) n (Some t) ≡ job v → ChangesAt n (Some (record { version = v; text = t; verdict = outstanding })) (served_in (entry_at a.entries.entries n)) a.entries.entries es.entries
      → total ≡ a.total - text_length (at (sources_of a).current n) + length t → IsCounted (record { entries = es; total = total; counted = v; served_no = a.served_no })
  job_counted t v total es e c k =
      let room : IsRoom (at (sources_of a).current n) (sources_of a) t v = job_room (at (sources_of a).current n) (sources_of a) t v e in
      let x : Option Source = Some (record { version = v; text = t; verdict = outstanding }) in
      let o : Option Serving = served_in (entry_at a.entries.entries n) in
      let sum : sum_of bytes (current_rows es.entries) + weight bytes (at (current_rows a.entries.entries) n) ≡ sum_of bytes (current_rows a.entries.entries) + length t = sum_after x o es c bytes in
      let waits : sum_of waiting (current_rows es.entries) + weight waiting (at (current_rows a.entries.entries) n) ≡ sum_of waiting (current_rows a.entries.entries) + 1 = sum_after x o es c waiting in
      record {
        ordered = c.ordered;
        total = omega (arith, k, sum, i.total, text_within, weight_bytes (at (current_rows a.entries.entries) n));
        total_fits = omega (arith, k, room.bytes_fit, i.total);
        counted_fits = room.number_fits;
        sources_fit = sources_after x o es c (omega (arith, room.number), room.number_fits, room.text_fits);
        servings_fit = servings_after x o es c (i.servings_fit n);
        servings_read = texts_after x o es c (i.servings_read n);
        enough = omega (arith, i.enough, waits, room.number);
      }

  pub removed_counted : (v total served_no : ℕ) (es : BTreeMap Name Entry) → edit_answer (sources_of a) n None ≡ removed v → ChangesAt n None None a.entries.entries es.entries
      → total ≡ a.total - text_length (at (sources_of a).current n) → served_no ≡ a.served_no + 1 → IsCounted (record { entries = es; total = total; counted = v; served_no = served_no })
  removed_counted v total served_no es e c k l =
      let room = removed_room (at (sources_of a).current n) (sources_of a) v e in
      let sum : sum_of bytes (current_rows es.entries) + weight bytes (at (current_rows a.entries.entries) n) ≡ sum_of bytes (current_rows a.entries.entries) + 0 = sum_after None None es c bytes in
      let waits : sum_of waiting (current_rows es.entries) + weight waiting (at (current_rows a.entries.entries) n) ≡ sum_of waiting (current_rows a.entries.entries) + 0 = sum_after None None es c waiting in
      record {
        ordered = c.ordered;
        total = omega (arith, k, sum, i.total, text_within, weight_bytes (at (current_rows a.entries.entries) n));
        total_fits = omega (arith, k, i.total_fits);
        counted_fits = room.1;
        sources_fit = sources_after None None es c tt;
        servings_fit = servings_after None None es c tt;
        servings_read = texts_after None None es c tt;
        enough = omega (arith, i.enough, waits, room.0, l);
      }

  -- what a result does to the weights of its source
  record Weighs (old : Option Source) (t : Text) (v : ℕ) (ans : ResultAnswer) : Type 0 where
    pub bytes : weight bytes (option_map (settled_source ans t v) old) ≡ weight bytes old
    pub waits : weight waiting (option_map (settled_source ans t v) old) + served_no_after ans 0 ≤ weight waiting old

  weighs_settled : (old : Option Source) (t : Text) (v : ℕ) (ans : ResultAnswer) → ((s : Source) → length (settled_source ans t v s).text ≡ length t) → ((s : Source) → waiting (settled_source ans t v s) ≡ 0) → served_no_after ans 0 ≤ 1 → IsOfSource old t v → Weighs old t v ans
  weighs_settled old t v ans f g l s = record {
    bytes = ap (λ p. weight bytes (option_map (settled_source ans t v) p)) s.is ∙ f s.source ∙ ap length s.text ∙ sym (ap (weight bytes) s.is);
    waits =
        let new : weight waiting (option_map (settled_source ans t v) old) ≡ 0 = ap (λ p. weight waiting (option_map (settled_source ans t v) p)) s.is ∙ g s.source in
        let was : weight waiting old ≡ 1 = ap (weight waiting) s.is ∙ ap (λ b. if b then 1 else 0) s.awaited in
        omega (arith, new, was, l);
  }

  weighs : (old : Option Source) (t : Text) (o : Outcome) (v : ℕ) (ans : ResultAnswer) → answer_at old t o v ≡ ans → Weighs old t v ans
  weighs old t o v (serve x) e = weighs_settled old t v (serve x) (λ s. refl) (λ s. refl) (omega arith) (of_source old t o v (serve x) e refl)
  weighs old t o v (refuse f) e = weighs_settled old t v (refuse f) (λ s. refl) (λ s. refl) (omega arith) (of_source old t o v (refuse f) e refl)
  weighs None t o v late e = record { bytes = refl; waits = omega arith }
  weighs (Some s) t o v late e = record { bytes = refl; waits = omega arith }

  added : (ans : ResultAnswer) (k : ℕ) → served_no_after ans k ≡ k + served_no_after ans 0
  added (serve x) k = refl
  added (refuse f) k = omega arith
  added late k = omega arith

  pub settled_counted : (t : Text) (o : Outcome) (v served_no : ℕ) (ans : ResultAnswer) (es : BTreeMap Name Entry) → (IsGood o → IsUtf8 t) → result_answer (sources_of a) n t o v ≡ ans → served_no ≡ served_no_after ans a.served_no
      → ChangesAt n (option_map (settled_source ans t v) (at (sources_of a).current n)) (settled_serving ans t v (at (sources_of a).served n)) a.entries.entries es.entries → IsCounted (record { entries = es; total = a.total; counted = a.counted; served_no = served_no })
  settled_counted t o v served_no ans es r e l c =
      let old = at (current_rows a.entries.entries) n in
      let x : Option Source = option_map (settled_source ans t v) old in
      let w : Weighs old t v ans = weighs old t o v ans e in
      let sum : sum_of bytes (current_rows es.entries) + weight bytes old ≡ sum_of bytes (current_rows a.entries.entries) + weight bytes x = sum_after x _ es c bytes in
      let waits : sum_of waiting (current_rows es.entries) + weight waiting old ≡ sum_of waiting (current_rows a.entries.entries) + weight waiting x = sum_after x _ es c waiting in
      record {
        ordered = c.ordered;
        total = omega (arith, sum, w.bytes, i.total);
        total_fits = i.total_fits;
        counted_fits = i.counted_fits;
        sources_fit = sources_after x _ es c (source_settled old t o v ans e (source_fits_now n));
        servings_fit = servings_after x _ es c (serving_settled old (at (served_rows a.entries.entries) n) t o v ans e (source_fits_now n) (serving_fits_now n));
        servings_read = texts_after x _ es c (text_settled old (at (served_rows a.entries.entries) n) t o v ans r e (text_reads_now n));
        enough = omega (arith, i.enough, waits, w.waits, l, added ans a.served_no);
      }

  -- what an edit or a result leaves stands for it and all before

  pub issued : (t : Text) (v : ℕ) (es : BTreeMap Name Entry) → edit_answer (sources_of a) n (Some t) ≡ job v → ChangesAt n (Some (record { version = v; text = t; verdict = outstanding })) (served_in (entry_at a.entries.entries n)) a.entries.entries es.entries
      → (past : List Change) → StandsFor past (sources_of a) → StandsFor (edit n (Some t) ∷ past) (sources_of (record { entries = es; total = a.total; counted = v; served_no = a.served_no }))
  issued t v es e c past h =
      let x : Option Source = Some (record { version = v; text = t; verdict = outstanding }) in
      let new : Sources = sources_of (record { entries = es; total = a.total; counted = v; served_no = a.served_no }) in
      job_stands past n (sources_of a) new h t v e refl refl (subst (λ o. Changed n x o (sources_of a) new) (sym (at_served a.entries.entries n i.ordered)) (changed x (served_in (entry_at a.entries.entries n)) es c v a.served_no))

  pub taken : (v : ℕ) (es : BTreeMap Name Entry) → edit_answer (sources_of a) n None ≡ removed v → ChangesAt n None None a.entries.entries es.entries
      → (past : List Change) → StandsFor past (sources_of a) → StandsFor (edit n None ∷ past) (sources_of (record { entries = es; total = a.total; counted = v; served_no = a.served_no + 1 }))
  taken v es e c past h =
      let new : Sources = sources_of (record { entries = es; total = a.total; counted = v; served_no = a.served_no + 1 }) in
      removed_stands past n (sources_of a) new h v e refl refl (changed None None es c v (a.served_no + 1))

  -- what the result of an entry is called
  pub told : (t : Text) (o : Outcome) (v : ℕ) (is : Settled) → is ≡ settled_as (answer_at (source_in (entry_at a.entries.entries n)) t o v) → is ≡ settled_as (result_answer (sources_of a) n t o v)
  told t o v is e = e ∙ ap (λ s. settled_as (answer_at s t o v)) (sym (at_current a.entries.entries n))

  -- the entry's change by a result
  abbrev pub Settles : Text → Outcome → ℕ → Option Source → Option Serving → List (Name × Entry) → Type 0
  Settles t o v source serving new = ChangesAt n (option_map (settled_source (answer_at source t o v) t v) source) (settled_serving (answer_at source t o v) t v serving) a.entries.entries new

  settled_change : (t : Text) (o : Outcome) (v : ℕ) (new : List (Name × Entry)) → Settles t o v (source_in (entry_at a.entries.entries n)) (served_in (entry_at a.entries.entries n)) new → Settles t o v (at (sources_of a).current n) (at (sources_of a).served n) new
  settled_change t o v new c = subst (λ s. Settles t o v s (at (sources_of a).served n) new) (sym (at_current a.entries.entries n))
      (subst (λ s. Settles t o v (source_in (entry_at a.entries.entries n)) s new) (sym (at_served a.entries.entries n i.ordered)) c)

  module _ (t : Text) (o : Outcome) (v served_no : ℕ) (es : BTreeMap Name Entry) (l : served_no ≡ served_no_after (result_answer (sources_of a) n t o v) a.served_no) (c : Settles t o v (source_in (entry_at a.entries.entries n)) (served_in (entry_at a.entries.entries n)) es.entries) where
    pub counted_on : (IsGood o → IsUtf8 t) → IsCounted (record { entries = es; total = a.total; counted = a.counted; served_no = served_no })
    counted_on r = settled_counted t o v served_no (result_answer (sources_of a) n t o v) es r refl l (settled_change t o v es.entries c)

    pub settled : (past : List Change) → StandsFor past (sources_of a) → StandsFor (result n t o v ∷ past) (sources_of (record { entries = es; total = a.total; counted = a.counted; served_no = served_no }))
    settled past h =
        let new : Sources = sources_of (record { entries = es; total = a.total; counted = a.counted; served_no = served_no }) in
        settle_stands past n (sources_of a) new h t o v (result_answer (sources_of a) n t o v) refl refl l (changed _ _ es (settled_change t o v es.entries c) a.counted served_no)
