-- A pass that took an end mark.
use Rattle.std.proofs.Common.{◌≡◌, ◌⊎◌, Bool, true, false, sym, ◌∙◌, ap, refl}
use Rattle.transform_pool.specs.Passes.{IsAtEnd, role_of}
use Rattle.transform_pool.specs.Roles.{at_end}
use Rattle.transform_pool.specs.declared.item.Role.{Role}
use Rattle.transform_pool.specs.declared.queue.JobPass.{JobPass}

-- a flag that isn't false
is_set : (b : Bool) → (b ≡ false → false ≡ true) → b ≡ true
is_set true not = refl
is_set false not = not refl

pub ends : (pass : JobPass) (v : Role) → role_of pass ≡ at_end v → IsAtEnd pass
ends pass v e =
    let ended : (role_of pass).ended ≡ true = ap (λ (u : Role). u.ended) e in
    record {
      empty = λ items views r at. r.ended pass.seat.id (role_of pass) at ended;
      closed = λ items views r at other u there puts.
          is_set u.closed (λ still. sym (r.open_passes other pass.seat.id u (role_of pass) there puts still at) ∙ ended);
    }
