-- Since a caller saw the flag stand, it goes on.
use Rattle.std.proofs.Common.{◌≡◌, inl, inr, ℕ, [], arith}
use Rattle.std.proofs.Math.Logic.{∥∥₁_map}
use Rattle.kc_lasting.specs.Cuts.{LooksOnceAt}
use Rattle.kc_lasting.specs.Ends.{HasSeen}
use Rattle.kc_model.specs.declared.footprint.Seen.{Seen}
use Rattle.kc_hang.proofs.kc_table_laws.Keeping.{keeps_same, keeps_then}
use Rattle.kc_store.specs.Views.{CallerView, caller_view}
use Rattle.kc_store.specs.kc_table_laws.Tasks.{KeepsKnown}

pub seen_new : (g flag : ℕ) (c : CallerView) → c ≡ caller_view c.worn c.seat → c.seat.past ≡ [] → HasSeen g flag c c
seen_new g flag c shows past = record { keeps = keeps_same c.seat; shows = shows; early = inl past }

pub seen_on : (g flag : ℕ) (s c d : CallerView) → KeepsKnown c.seat d.seat → ∥ HasSeen g flag s c ∥₁ → ∥ HasSeen g flag s d ∥₁
seen_on g flag s c d k has = ∥∥₁_map has (λ h. record { keeps = keeps_then s.seat c.seat d.seat h.keeps k; shows = h.shows; early = h.early })

pub seen_so : (g flag : ℕ) (c d : CallerView) (r : Seen) → c ≡ caller_view c.worn c.seat → LooksOnceAt g c.seat r d.seat → r.version ≡ flag → HasSeen g flag c d
seen_so g flag c d r shows s is = record { keeps = s.keeps; shows = shows; early = inr (let a = s.last in omega (arith, a, is)) }
