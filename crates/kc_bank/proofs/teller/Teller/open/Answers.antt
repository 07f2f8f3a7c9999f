use Rattle.std.proofs.Common.{◌≡◌, ◌∙◌, ◌+◌, ℕ, List, ap, arith, subst, sym}
use Rattle.kc_bank.proofs.OpeningLemmas.{accounts_opened, line_opened, opened_fresh, urgent_opened}
use Rattle.kc_bank.specs.Opened.{StandsEmpty}
use Rattle.kc_bank.specs.Opening.{empty_bank}
use Rattle.kc_bank.specs.declared.bank.Bank.{Bank}
use Rattle.kc_hash.specs.Meaning.{hash_cells}
use Rattle.kc_model.specs.Store.{opened, store_of}
use Rattle.kc_queue.specs.Meaning.{queue_cells}
use Rattle.kc_xt.specs.Meaning.{values}
use Rattle.kc_bank.proofs.teller.Teller.open.Goals as goal

pub returns-in-Ok : goal.returns-in-Ok
returns-in-Ok c =
    let b : Bank = c.new-bank.result in
    let laid = c.new-bank.ensures in
    let vs : List ℕ = empty_bank b.accounts b.line b.urgent in
    let m : ℕ → ℕ = values (store_of (opened vs)) in
    let held : c.in-Ok.store ≡ opened vs =
    c.in-Ok.ensures.ok ∙ ap opened (c.as_slice.ensures.value ∙ c.in_ok-values.ensures) in
    let line_at : b.line.base.0 ≡ 1 + hash_cells b.accounts =
    omega (arith, laid.line.0, laid.accounts.1, laid.accounts.2) in
    let urgent_at : b.urgent.base.0 ≡ 1 + hash_cells b.accounts + queue_cells b.line =
    omega (arith, laid.urgent.0, laid.line.1, laid.accounts.1, laid.accounts.2) in
    let empty : StandsEmpty b m = record {
      count = ap m laid.count;
      accounts = c.opens_empty.ensures b.accounts m (accounts_opened b.accounts b.line b.urgent laid.accounts.0);
      line = c.opens_empty-2.ensures b.line m (line_opened b.accounts b.line b.urgent line_at);
      urgent = c.opens_empty-2.ensures b.urgent m (urgent_opened b.accounts b.line b.urgent urgent_at);
    } in
    record {
      laid = record { count = laid.count; accounts = laid.accounts; line = laid.line; urgent = laid.urgent };
      empty = subst (λ s. StandsEmpty b (values (store_of s))) (sym held) empty;
      fresh = λ l. ap (λ s. (store_of s l).version) held ∙ opened_fresh vs l;
      reads = c.new.ensures.reads;
      puts = c.new.ensures.puts;
    }
