-- A teller as it opens.
use Rattle.std.specs.Prelude.{◌≡◌, ℕ, []}
use Rattle.kc_bank.specs.declared.bank.Bank.{Bank}
use Rattle.kc_bank.specs.declared.teller.Teller.{Teller}
use Rattle.kc_hash.specs.Content.{HashStandsFor as AccountsAre}
use Rattle.kc_model.specs.Store.{store_of}
use Rattle.kc_queue.specs.Meaning.{QueueStandsFor as LineIs}
use Rattle.kc_xt.specs.Meaning.{values}

-- where the bank's structures lie
pub record IsLaidOut (b : Bank) : Type 0 where
  pub count : b.payouts_made.0 ≡ 0
  pub accounts : (b.accounts.base.0 ≡ 1) × (b.accounts.buckets ≡ 8) × (b.accounts.cap ≡ 8)
  pub line : (b.line.base.0 ≡ 35) × (b.line.cap ≡ 4)
  pub urgent : (b.urgent.base.0 ≡ 41) × (b.urgent.cap ≡ 2)

-- the cells stand for no payouts, no accounts, and empty lines
pub record StandsEmpty (b : Bank) (m : ℕ → ℕ) : Type 0 where
  pub count : m b.payouts_made.0 ≡ 0
  pub accounts : AccountsAre b.accounts m []
  pub line : LineIs b.line m []
  pub urgent : LineIs b.urgent m []

-- The bank is laid out and empty, nothing was put yet, and nothing committed.
pub record OpensEmpty (t : Teller) : Type 0 where
  pub laid : IsLaidOut t.bank
  pub empty : StandsEmpty t.bank (values (store_of t.store))
  pub fresh : (l : ℕ) → (store_of t.store l).version ≡ 0
  pub reads : t.footprint.reads.items ≡ []
  pub puts : t.footprint.puts.items ≡ []
