-- The first put of a footprint.
use Rattle.std.proofs.Common.{◌≡◌, ◌<◌, Bool, cond, List, [], ◌∷◌, Some, get_or, length, refl, ap, arith}
use Rattle.std.proofs.Common.{eq-eqb}
use Rattle.kc_model.specs.Footprint.{put_at}
use Rattle.kc_model.specs.declared.footprint.Put.{Put}

pub first_put : (ps : List Put) (d : Put) → 0 < length ps → put_at ps (get_or ps 0 d).loc.0 ≡ Some (get_or ps 0 d)
first_put [] d some = absurd (omega (arith, some))
first_put (p ∷ ps) d some = ap (λ (b : Bool). cond b (Some p) (put_at ps p.loc.0)) (eq-eqb p.loc.0 p.loc.0 refl)
