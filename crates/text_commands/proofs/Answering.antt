-- What is written of an output, by what is written of its parts.
use Rattle.std.proofs.Common.{ℕ, List, [], ◌++◌, append-nil, ap, sym, ◌∙◌}
use Rattle.std.specs.Prelude.{Option, Some, None, IfSome}
use Rattle.std.specs.Io.KnownBytes.{Appends}
use Rattle.std.proofs.KnownBytes.{Appends-trans}
use Rattle.std.proofs.Math.Path.{subst}
use Rattle.hmr_base.specs.Fronts.{WritesFront}
use Rattle.hmr_base.proofs.Fronts.{front_more, front_none}
use Rattle.text_commands.specs.Ends.{EndsBefore}
use Rattle.text_commands.specs.Outputs.{Output, whole}
use Rattle.text_commands.specs.Writing.{WritesBehind}

-- a front of the last line is written behind all before it: that is a front of the whole output
pub front_by : (o : Output) (status : ℕ) (last : List ℕ) (a b c : Option (List ℕ))
    → EndsBefore o status last a b → WritesFront b c last → WritesFront a c (whole o)
front_by o status last a b c h w =
    let rest = append-nil last ∙ sym h.last_is in
    front_more a b c o.lines last [] (whole o) h.out w (ap (λ t. o.lines ++ t) rest)

-- all of it is: that is the whole output
pub whole_by : (o : Output) (status : ℕ) (last : List ℕ) (a b c : Option (List ℕ))
    → EndsBefore o status last a b → Appends b c last → Appends a c (whole o)
whole_by o status last a b c h k =
    subst (λ t. Appends a c (o.lines ++ t)) (sym h.last_is) (Appends-trans a b c o.lines last h.out k)

-- a front of the last line is written behind all before it
pub behind_by : (o : Output) (status : ℕ) (last : List ℕ) (a b c : Option (List ℕ))
    → EndsBefore o status last a b → WritesFront b c last → WritesBehind a c o.lines o.last
behind_by o status last a b c h w = record {
  front = w.front;
  rest = w.rest;
  whole = w.whole ∙ sym h.last_is;
  out = Appends-trans a b c o.lines w.front h.out w.out;
}

-- nothing is written yet, whatever there is to write
pub nothing_yet : {X : Type 0} (told : Option X) (text : X → List ℕ) (a : Option (List ℕ))
    → IfSome told (λ x. WritesFront a a (text x))
nothing_yet None text a = tt
nothing_yet (Some x) text a = front_none a (text x)
