-- The seats of a table as they are opened.
use Rattle.std.proofs.Common.{◌≡◌, ℕ, List, zero, suc, refl}
use Rattle.std.specs.Prelude.{All}
use Rattle.std.proofs.lemmas.List.Elements.{All-cons, All-nil, All-same}
use Rattle.kc_table_moves.specs.Views.{TableView, SeatView, opened_seats}

pub all_of : (z : TableView) (k n : ℕ) → All (λ (s : SeatView). s.of ≡ z) (opened_seats z k n)
all_of z k zero = All-nil (λ (s : SeatView). s.of ≡ z)
all_of z k (suc n) = All-cons (λ (s : SeatView). s.of ≡ z) _ _ refl (all_of z (suc k) n)

pub are_of : (z : TableView) (n : ℕ) (seats : List SeatView) → seats ≡ opened_seats z 0 n → All (λ (s : SeatView). s.of ≡ z) seats
are_of z n seats e = All-same (λ (s : SeatView). s.of ≡ z) seats (opened_seats z 0 n) e (all_of z 0 n)
