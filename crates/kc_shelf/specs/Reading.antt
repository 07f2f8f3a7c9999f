-- What reading the value that a location names answers.
use Rattle.std.specs.Prelude.{ℕ, IfSome}
use Rattle.kc_model.specs.declared.footprint.Loc.{Loc}
use Rattle.kc_model.specs.declared.reply.Reply.TheVariants as reply
use Rattle.kc_store.specs.Views.{CallerView, StoreView}
use Rattle.kc_store.specs.declared.values.Outcome.{Outcome}
use Rattle.kc_store.specs.declared.values.Outcome.TheVariants as outcome
use Rattle.kc_shelf.specs.Handing.{ActCame, DropsName}
use Rattle.kc_shelf.specs.Meaning.{IsTicket}
use Rattle.kc_shelf.specs.declared.reading.Read.{Read}
use Rattle.kc_shelf.specs.declared.reading.Read.TheVariants as read
use Rattle.kc_shelf.specs.declared.operation.ShelfAct.TheVariants as act
use Rattle.kc_shelf.specs.declared.shelf.Shelf.{Shelf}

-- it was made of a value that was put under this ticket
abbrev pub IsMadeOf : {T A : Type 0} → (ℕ → T → Type 0) → (T → A → Type 0) → (ticket : ℕ) → A → Type 0
IsMadeOf {T} holds gives v a = ∥ ((x : T) × holds v x × gives x a) ∥₁

-- no ticket of the shelf was replied
abbrev pub RepliesNoTicket : Shelf → Outcome → Type 0
RepliesNoTicket t (outcome.Done (reply.Value v) f) = ¬ IsTicket t v
RepliesNoTicket t _ = Unit {0}

-- the location held the ticket at the caller's entry, the result was made of a value that was put under it, and the name was given up again
abbrev pub ReadsAt : {T A : Type 0} → (ℕ → T → Type 0) → (T → A → Type 0) → Shelf → Loc → StoreView → Read A T → CallerView → CallerView → Type 0
ReadsAt holds gives t p z (read.Read v result f back) c d = (b : CallerView) × ActCame t (act.NameAt p) (outcome.Done (reply.Value v) f) c b × IfSome result (IsMadeOf holds gives v) × DropsName holds t v z back b d
ReadsAt holds gives t p z (read.Not o) c d = RepliesNoTicket t o × ActCame t (act.NameAt p) o c d
