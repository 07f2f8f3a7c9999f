-- What all accounts have at each place of the history, and what a view of them saw.
use Rattle.std.specs.Prelude.{◌≡◌, ℕ, ◌*◌, ◌++◌, List, replicate}
use Rattle.kc_keep.specs.Keeping.{ViewsReply}
use Rattle.kc_model.specs.Legal.{IsLegal}
use Rattle.kc_model.specs.Store.{Store}
use Rattle.kc_model.specs.declared.footprint.Entry.{Entry}
use Rattle.kc_model.specs.declared.footprint.TheConstants.{MOST}
use Rattle.kc_model.specs.declared.reply.Reply.TheVariants as reply
use Rattle.kc_store.specs.Knows.{OpensWith}
use Rattle.kc_store.specs.Views.{CallerView, PastView, StoreView, last, store_opening}
use Rattle.kc_sums.specs.Sums.{IsReading, accounts_sum}
use Rattle.kc_sums.specs.declared.bank.Bank.{Bank}
use Rattle.kc_xt.specs.Meaning.{Meaning, limited, values}

-- the history of a store that opened with the bank's accounts: behind each front of it they have together just what they opened with
pub record HasTotalThroughout (b : Bank) (p : PastView) : Type 0 where
  pub store : StoreView
  pub opens : OpensWith (replicate b.accounts b.each) (replicate b.accounts 0) 2 store
  pub legal : IsLegal (store_opening store) p.history (last p)
  pub exact : (before behind : List Entry) (t : Store) → p.history ≡ before ++ behind → IsLegal (store_opening store) before t → accounts_sum b.accounts (values t) ≡ b.accounts * b.each

-- a view of all accounts replied this, or the commit as which it ended
pub record SawTotal (b : Bank) (sum : ℕ) (c d : CallerView) : Type 0 where
  pub meaning : Meaning
  pub reading : IsReading b meaning
  pub saw : ViewsReply (limited MOST meaning) (reply.Value sum) c d
