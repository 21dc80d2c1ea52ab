-- What is kept of handlers for good: their kind, what they do as it is printed, and what became of them.
use Rattle.std.specs.Prelude.{Bool, true, not, ◌&&◌, List, [], ◌∷◌, map, if◌then◌else◌}
use Rattle.hmr_types.specs.declared.words.HandlerKind.{HandlerKind}
use Rattle.hmr_types.specs.declared.words.HandlerKind.TheVariants as kind
use Rattle.output_lines.specs.declared.words.Handled.{Handled}
use Rattle.output_lines.specs.declared.words.Handled.TheVariants as handled
use Rattle.output_lines.specs.declared.words.HandlerEnd.{HandlerEnd}
use Rattle.output_lines.specs.declared.words.HandlerEnd.TheVariants.{Dropped}
use Rattle.client_model.specs.Instance as model
use Rattle.client_model.specs.Instance.{Deed, code, host, is_held_end, is_own, is_dep, is_dispose, is_prune}
use Rattle.page_instances.specs.declared.marks.Mark.{Mark}
use Rattle.page_instances.specs.declared.marks.Those.{Those}
use Rattle.page_instances.specs.declared.marks.Those.TheVariants as those

-- what a handler does, as it is printed
abbrev pub handled_of : Deed → Handled
handled_of (code tree) = handled.Code
handled_of (host label number) = handled.Host label number

-- what is kept of a handler for good
abbrev pub mark_of : model.Handler → Mark
mark_of h = record { kind = h.kind; handled = handled_of h.deed; end = h.end }

-- the mark with this end
abbrev pub mark_ended : HandlerEnd → Mark → Mark
mark_ended end m = record m { end = end }

-- the mark of a held handler whose kind passes the test
abbrev pub is_held_of : (HandlerKind → Bool) → Mark → Bool
is_held_of test m = is_held_end m.end && test m.kind

-- whether a kind is this one
abbrev pub is_kind : HandlerKind → HandlerKind → Bool
is_kind kind.Dispose = is_dispose
is_kind kind.Prune = is_prune
is_kind kind.Own = is_own
is_kind kind.Dep = is_dep

-- whether a kind is among these
abbrev pub is_of : Those → HandlerKind → Bool
is_of (those.Kind k) = is_kind k
is_of those.ButOwn = λ k. not (is_own k)
is_of those.All = λ k. true

-- the marks, the first that passes the test with this end
abbrev pub first_ended : (Mark → Bool) → HandlerEnd → List Mark → List Mark
first_ended test end [] = []
first_ended test end (m ∷ ms) = if test m then mark_ended end m ∷ ms else m ∷ first_ended test end ms

-- the marks, those that pass the test dropped
abbrev pub marks_dropped : (Mark → Bool) → List Mark → List Mark
marks_dropped test ms = map (λ m. if test m then mark_ended Dropped m else m) ms
