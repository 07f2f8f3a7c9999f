-- What a view of C's operations answers.
use Rattle.std.specs.Prelude.{◌≡◌, ℕ, true, List, ◌++◌, drop, length}
use Rattle.kc_c.specs.declared.answers.TheConstants.{DONE, LATER, TOO_LARGE, BUSY, PUTS, CHANGED}
use Rattle.kc_c.specs.declared.client.Client.{Client}
use Rattle.kc_c.specs.declared.standing.Standing.TheVariants as standing
use Rattle.kc_calls.specs.Meaning.{calls_end, calls_meaning}
use Rattle.kc_calls.specs.Told.{replies_told}
use Rattle.kc_calls.specs.declared.operation.KcasOp.{KcasOp}
use Rattle.kc_calls.specs.declared.reply.KcasReply.{KcasReply}
use Rattle.kc_model.specs.Footprint.{IsBelow}
use Rattle.kc_model.specs.declared.footprint.TheConstants.{MOST}
use Rattle.kc_store.specs.Answers.{GainsNothing}
use Rattle.kc_store.specs.Knows.{OnlyLearns}
use Rattle.kc_store.specs.Viewing.{IsGlimpsed, is_settled}
use Rattle.kc_store.specs.Views.{CallerView}
use Rattle.kc_store.specs.declared.viewing.Glimpse.{Glimpse}
use Rattle.kc_store.specs.declared.viewing.Glimpse.TheVariants as glimpse
use Rattle.kc_term.specs.Meaning.{items_of}
use Rattle.kc_xt.specs.Meaning.{limited}

-- the number that C is given
abbrev pub glimpse_number : Glimpse → ℕ
glimpse_number (glimpse.Done r) = DONE
glimpse_number glimpse.Later = LATER
glimpse_number glimpse.TooLarge = TOO_LARGE
glimpse_number glimpse.Puts = PUTS
glimpse_number glimpse.Changed = CHANGED
glimpse_number (glimpse.Busy steps) = BUSY

-- a reply for each operation, where it was done
abbrev pub replies_glimpsed : List KcasOp → Glimpse → List KcasReply → List KcasReply
replies_glimpsed ops (glimpse.Done r) replies = replies_told (items_of r) (length ops) ++ drop (length ops) replies
replies_glimpsed ops _ replies = replies

-- one view of them was made as one transaction, with no entry, and the number says what became of it
pub record IsViewedByCaller (ops : List KcasOp) (c : Client) (n : ℕ) (d : Client) (before after : List KcasReply) : Type 0 where
  pub caller : CallerView
  pub rested : c.standing ≡ standing.Rests caller
  pub then_caller : CallerView
  pub rests : d.standing ≡ standing.Rests then_caller
  pub glimpse : Glimpse
  pub number : n ≡ glimpse_number glimpse
  pub glimpsed : IsGlimpsed (limited MOST (calls_meaning ops)) glimpse caller d.footprint then_caller
  pub learns : OnlyLearns caller then_caller
  pub gains : GainsNothing caller.seat then_caller.seat
  pub within : is_settled glimpse ≡ true → IsBelow (calls_end ops) d.footprint
  pub replies : after ≡ replies_glimpsed ops glimpse before
