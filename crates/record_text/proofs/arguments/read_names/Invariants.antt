use Rattle.std.proofs.Common.{◌≡◌, ◌++◌, drop, map}
use Rattle.std.specs.List.{list_all}
use Rattle.hmr_types.specs.ModName.{is_name}
use Rattle.record_text.proofs.arguments.read_names.Given as goal

-- the names so far and the words that are left are all words, and those left decide whether all are names
abbrev pub invariant-loop-word : goal.invariant-loop-word
invariant-loop-word l = record {
  whole : l.names.items ++ map (λ w. w.now) (drop l.word-index l.words) ≡ map (λ w. w.now) l.words;
  left : list_all is_name (map (λ w. w.now) (drop l.word-index l.words)) ≡ list_all is_name (map (λ w. w.now) l.words);
}
