-- What the answer of a commit of an operation on texts says.
use Rattle.std.proofs.Common.{◌≡◌, ℕ, Bool, List, refl}
use Rattle.kc_model.specs.Store.{Store}
use Rattle.kc_model.specs.declared.footprint.Footprint.{Footprint}
use Rattle.kc_model.specs.declared.footprint.TheConstants.{MOST}
use Rattle.kc_model.specs.declared.reply.Answer.TheVariants as answer
use Rattle.kc_model.specs.declared.reply.Reply.{Reply}
use Rattle.kc_model.specs.declared.reply.Reply.TheVariants as reply
use Rattle.kc_store.specs.Knows.{CommitsSo, NotesWear, Remembers}
use Rattle.kc_store.specs.Values.{answered_in}
use Rattle.kc_store.specs.Verdicts.{verdict_of}
use Rattle.kc_store.specs.Views.{CallerView}
use Rattle.kc_store.specs.declared.values.Outcome.{Outcome}
use Rattle.kc_store.specs.declared.values.Outcome.TheVariants as outcome
use Rattle.kc_store.specs.declared.values.Wear.{Wear}
use Rattle.kc_store.specs.declared.values.Wear.TheVariants as wear
use Rattle.kc_text.proofs.Replies.{says_somewhere, waits_not}
use Rattle.kc_text.specs.Committing.{CommitsText, FailsBy}
use Rattle.kc_text.specs.Meaning.{texts_cells_end, op, text_meaning}
use Rattle.kc_text.specs.Replies.{ActSays}
use Rattle.kc_text.specs.declared.operation.TextAct.{TextAct}
use Rattle.kc_text.specs.declared.operation.TextAct.TheVariants as act
use Rattle.kc_text.specs.declared.texts.Texts.{Texts}
use Rattle.kc_xt.specs.Commit.{Everywhere}
use Rattle.kc_xt.specs.Meaning.{Meaning, Run, Touch, limited, values}

-- under the highest limit a meaning is itself
unlimited : (m : Meaning) (f : Footprint) (holds : Store → Run → Type 0) (keep : List Touch → List Touch) → Everywhere (limited MOST m) f holds keep → Everywhere m f holds keep
unlimited m f holds keep e = record { well_made = e.well_made; run = e.run; makes = e.makes }

module _ (t : Texts) (a : TextAct) (c d : CallerView) where
  -- a commit was answered so, by the words of the store
  abbrev Came : Outcome → Type 0
  Came o = CommitsSo (limited MOST (text_meaning (op t a))) (texts_cells_end t) o c d

  abbrev Notes : Outcome → Type 0
  Notes o = NotesWear c (verdict_of (answered_in o)) d

  pub commits : (r : Reply) (f : Footprint) → Came (outcome.Done r f) → Remembers c d → Notes (outcome.Done r f) → CommitsText t a r f c d
  commits r f h k n = record { replies = unlimited _ f _ _ h.0.0; entry = h.0.1; below = h.1; remembers = k; worn = n }

  pub fails : (w : Wear) → Came (outcome.Worn w) → Remembers c d → Notes (outcome.Worn w) → FailsBy t a w c d
  fails (wear.Location loc f) h k n = (unlimited _ f _ _ h.0.0, h.0.1, h.1, k, n)
  fails wear.Pool h k n = (h.1, k, n)

  pub later_not : (f : Footprint) → Came (outcome.Later f) → ⊥
  later_not f h = waits_not t a f (unlimited _ f _ _ h.0.0)

  pub large_not : (f : Footprint) → Came (outcome.TooLarge f) → ⊥
  large_not f h = (says_somewhere t a answer.TooLarge f (unlimited _ f _ _ h.0.0)).1

  pub done_says : (r : Reply) (f : Footprint) → CommitsText t a r f c d → (s : Store) × ActSays t (values s) a r
  done_says r f h = says_somewhere t a (answer.Reply r) f h.replies

-- a lease replies one of these
pub lease_replies : (t : Texts) (p : ℕ) (c d : CallerView) (r : Reply) (f : Footprint) → CommitsText t (act.Lease p) r f c d → ((j : ℕ) → r ≡ reply.Value j → ⊥) → (r ≡ reply.Empty → ⊥) → (r ≡ reply.Full → ⊥) → ⊥
lease_replies t p c d r f h = by_reply r (done_says t (act.Lease p) c d r f h)
  where
    by_reply : (r : Reply) → ((s : Store) × ActSays t (values s) (act.Lease p) r) → ((j : ℕ) → r ≡ reply.Value j → ⊥) → (r ≡ reply.Empty → ⊥) → (r ≡ reply.Full → ⊥) → ⊥
    by_reply (reply.Value j) says a b c = a j refl
    by_reply reply.Empty says a b c = b refl
    by_reply reply.Full says a b c = c refl
    by_reply reply.Unit says a b c = says.1
    by_reply (reply.Bool x) says a b c = says.1
    by_reply reply.Stranded says a b c = says.1
    by_reply reply.Cancelled says a b c = says.1
    by_reply (reply.Many items) says a b c = says.1

-- and burying one of these
pub bury_replies : (t : Texts) (j : ℕ) (c d : CallerView) (r : Reply) (f : Footprint) → CommitsText t (act.Bury j) r f c d → (r ≡ reply.Unit → ⊥) → ((b : Bool) → r ≡ reply.Bool b → ⊥) → ⊥
bury_replies t j c d r f h = by_reply r (done_says t (act.Bury j) c d r f h)
  where
    by_reply : (r : Reply) → ((s : Store) × ActSays t (values s) (act.Bury j) r) → (r ≡ reply.Unit → ⊥) → ((b : Bool) → r ≡ reply.Bool b → ⊥) → ⊥
    by_reply reply.Unit says a b = a refl
    by_reply (reply.Bool x) says a b = b x refl
    by_reply (reply.Value j) says a b = says.1
    by_reply reply.Empty says a b = says.1
    by_reply reply.Full says a b = says.1
    by_reply reply.Stranded says a b = says.1
    by_reply reply.Cancelled says a b = says.1
    by_reply (reply.Many items) says a b = says.1
