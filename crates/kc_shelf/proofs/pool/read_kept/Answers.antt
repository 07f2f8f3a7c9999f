use Rattle.std.proofs.Common.{subst, refl}
use Rattle.std.proofs.Math.Logic.{∥∥₁_map}
use Rattle.kc_shelf.proofs.pool.read_kept.Goals as goal

pub returns-then-kept-ticket : goal.returns-then-kept-ticket
returns-then-kept-ticket g c = record { read = ∥∥₁_map c.in-Some.kept.kept (λ h. (c.in-Some.kept.value, subst (λ k. g.K.Holds.holds k c.in-Some.kept.value) c.if-kept-ticket.true h, (_, c.f.ensures, refl))) }
