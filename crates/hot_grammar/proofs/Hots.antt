-- What is said of `import.meta.hot`.
use Rattle.std.proofs.Common.{◌≡◌, List, Result, Ok, Err, IfOk, refl, sym, ◌∙◌, subst}
use Rattle.module_semantics.specs.Token.{LineToken}
use Rattle.module_semantics.specs.Raw.{RawItem}
use Rattle.module_semantics.specs.Readers.{end}
use Rattle.module_semantics.specs.Reading.{Inner, hot_top}
use Rattle.hot_grammar.specs.declared.grammar_fault.GrammarFault.{GrammarFault}
use Rattle.raw_trees.specs.declared.raw_item.RawItem as code
use Rattle.hot_grammar.specs.Parts.{hot_front, told_hot}
use Rattle.raw_trees.specs.Raw.{raw_item_of}
use Rattle.hot_grammar.specs.Reads.{Gives, Stops, past}
use Rattle.hot_grammar.proofs.Chains.{bind_stops, later_stops, hot_goes, hot_stops}

-- a call at the top
pub top_read : (i : Inner) (ts r s u : List LineToken) (x : RawItem) → hot_front ts ≡ Ok (past r) → told_hot i r ≡ Ok (x, s) → end s ≡ Ok (past u) → hot_top i ts ≡ Ok (x, u)
unfolding hot_top
top_read i ts r s u x front item stop = rw (hot_goes (told_hot i) ts r front ∙ item, stop) refl

pub top_front_stops : (e : GrammarFault) (i : Inner) (ts : List LineToken) → Stops e (hot_front ts) → Stops e (hot_top i ts)
unfolding hot_top
top_front_stops e i ts h = bind_stops e _ _ (bind_stops e _ _ (hot_stops e (told_hot i) ts h))

pub top_item_stops : (e : GrammarFault) (i : Inner) (ts r : List LineToken) → hot_front ts ≡ Ok (past r) → Stops e (told_hot i r) → Stops e (hot_top i ts)
unfolding hot_top
top_item_stops e i ts r front h = bind_stops e _ _ (bind_stops e _ _ (subst (Stops e) (sym (hot_goes (told_hot i) ts r front)) h))

pub top_end_stops : (e : GrammarFault) (i : Inner) (ts r s : List LineToken) (x : RawItem) → hot_front ts ≡ Ok (past r) → told_hot i r ≡ Ok (x, s) → Stops e (end s) → Stops e (hot_top i ts)
unfolding hot_top
top_end_stops e i ts r s x front item h = bind_stops e _ _ (later_stops e (x, s) _ _ (hot_goes (told_hot i) ts r front ∙ item) (bind_stops e _ _ h))

-- a call at the top, by what the end after it answers
pub top_gives : (i : Inner) (item : code.RawItem) (result : Result code.RawItem GrammarFault) (ts r s u : List LineToken) → hot_front ts ≡ Ok (past r) → told_hot i r ≡ Ok (raw_item_of item, s) → Gives (λ _. past u) result (end s) → IfOk result (λ v. v ≡ item) → Gives (λ v. (raw_item_of v, u)) result (hot_top i ts)
top_gives i item (Ok v) ts r s u front told stop same = rw same (top_read i ts r s u (raw_item_of item) front told stop)
top_gives i item (Err e) ts r s u front told stop same = top_end_stops e i ts r s (raw_item_of item) front told stop
