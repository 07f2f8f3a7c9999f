-- What a try of C's operations answers.
use Rattle.std.specs.Prelude.{◌≡◌, ◌≢◌, ◌≤◌, ℕ, true, List, [], ◌∷◌, ◌++◌, drop, length, slice_set}
use Rattle.kc_c.specs.declared.answers.TheConstants.{DONE, LATER, TOO_LARGE, WORN, POOL_WORN, LOST, BUSY}
use Rattle.kc_c.specs.declared.client.Client.{Client}
use Rattle.kc_c.specs.declared.standing.Standing.TheVariants as standing
use Rattle.kc_calls.specs.Alone.{first_value, reply_on}
use Rattle.kc_calls.specs.Meaning.{calls_end, calls_meaning}
use Rattle.kc_calls.specs.Operations.{AreOperations}
use Rattle.kc_calls.specs.Told.{replies_told, told_item}
use Rattle.kc_calls.specs.Words.{loc_op_words}
use Rattle.kc_calls.specs.declared.operation.KcasOp.{KcasOp}
use Rattle.kc_calls.specs.declared.reply.KcasReply.{KcasReply}
use Rattle.kc_loc.specs.declared.operation.LocOp.{LocOp}
use Rattle.kc_loc.specs.declared.operation.LocOp.TheVariants as loc
use Rattle.kc_model.specs.Footprint.{IsBelow}
use Rattle.kc_model.specs.declared.footprint.Footprint.{Footprint}
use Rattle.kc_model.specs.declared.footprint.TheConstants.{MOST}
use Rattle.kc_model.specs.declared.reply.Item.TheVariants as item
use Rattle.kc_store.specs.Answers.{Settles}
use Rattle.kc_store.specs.Knows.{IsTold, NotesWear, Remembers}
use Rattle.kc_store.specs.Verdicts.{has_entry}
use Rattle.kc_store.specs.Views.{CallerView}
use Rattle.kc_store.specs.declared.verdict.Verdict.{Verdict}
use Rattle.kc_store.specs.declared.verdict.Verdict.TheVariants as verdict
use Rattle.kc_term.specs.Meaning.{items_of}
use Rattle.kc_xt.specs.Meaning.{Meaning, limited}

-- they are operations of one transaction of a store of so many locations, and there is room for a reply to each
abbrev pub MayTry : ℕ → List KcasOp → List KcasReply → Type 0
MayTry locations ops replies = AreOperations locations ops × (length ops ≤ length replies)

-- the number that C is given
abbrev pub verdict_number : Verdict → ℕ
verdict_number (verdict.Done r) = DONE
verdict_number verdict.Later = LATER
verdict_number verdict.TooLarge = TOO_LARGE
verdict_number (verdict.WornLocation loc) = WORN
verdict_number verdict.WornPool = POOL_WORN
verdict_number (verdict.Lost loc version) = LOST
verdict_number (verdict.Busy steps) = BUSY

-- a reply for each operation, where it was done
abbrev pub replies_written : List KcasOp → Verdict → List KcasReply → List KcasReply
replies_written ops (verdict.Done r) replies = replies_told (items_of r) (length ops) ++ drop (length ops) replies
replies_written ops _ replies = replies

-- one try of them was made as one transaction, and the number says what became of it
pub record IsTried (ops : List KcasOp) (c : Client) (n : ℕ) (d : Client) (before after : List KcasReply) : Type 0 where
  pub caller : CallerView
  pub rested : c.standing ≡ standing.Rests caller
  pub then_caller : CallerView
  pub rests : d.standing ≡ standing.Rests then_caller
  pub verdict : Verdict
  pub number : n ≡ verdict_number verdict
  pub told : IsTold (limited MOST (calls_meaning ops)) verdict caller d.footprint then_caller
  pub settles : Settles (limited MOST (calls_meaning ops)) verdict caller.seat d.footprint then_caller.seat
  pub notes : NotesWear caller verdict then_caller
  pub remembers : Remembers caller then_caller
  pub within : has_entry verdict ≡ true → IsBelow (calls_end ops) d.footprint
  pub replies : after ≡ replies_written ops verdict before

-- one try was made of what means this
pub record IsTriedSilently (m : Meaning) (end : ℕ) (n : ℕ) (c d : CallerView) (f : Footprint) : Type 0 where
  pub verdict : Verdict
  pub number : n ≡ verdict_number verdict
  pub tells : IsTold m verdict c f d
  pub settles : Settles m verdict c.seat f d.seat
  pub notes : NotesWear c verdict d
  pub remembers : Remembers c d
  pub within : has_entry verdict ≡ true → IsBelow end f

-- where it was done, the first reply is what the operation replies by what was read
pub record IsRepliedByItsRead (o : LocOp) (f : Footprint) (n : ℕ) (before after : List KcasReply) : Type 0 where
  pub done : n ≡ DONE → (x : KcasReply) × (after ≡ slice_set before 0 x) × (replies_told (items_of (reply_on o (first_value f.reads.items))) 1 ≡ x ∷ [])
  pub stays : n ≢ DONE → after ≡ before

-- ---- an add

-- an add of this number to this location, as C says it by kcas_try
abbrev pub add_words : ℕ → ℕ → KcasOp
add_words location number = loc_op_words (loc.FetchAdd (record { 0 = location }) number)

-- this value, as kcas_try replies it
abbrev pub value_told : ℕ → KcasReply
value_told v = told_item (item.Value v)
