use Rattle.std.proofs.Common.{rules, sym, subst, arith, List}
use Rattle.kc_history.proofs.Exchange.{canonical_legal}
use Rattle.kc_history.specs.Order.{Legal, IsCanonical}
use Rattle.kc_history.specs.Records.{footprint_at, lists_of}
use Rattle.kc_history.specs.declared.record.Place.{Place}
use Rattle.kc_model.specs.Store.{store_of}
use Rattle.kc_top.proofs.settling.settle.Goals as goal

pub arrange-requires-clause-made : goal.arrange-requires-clause-made
arrange-requires-clause-made c = λ u k f at. let m = c.requires.made u k f at in (m.0, λ r d. (let b = m.1 r d in omega arith))

pub replay-requires-clause-legal : goal.replay-requires-clause-legal
replay-requires-clause-legal c =
    let a = footprint_at (lists_of c.args.records.now) in
    let (places, last, legal) = c.requires.legal in
    let canonical : IsCanonical a c.arrange.new.room.order = search (rules, c.arrange.ensures.arranged, c.is_err.ensures.value, c.if-is_err.false) in (
      last,
      subst (λ (ps : List Place). Legal a (λ _. 0) (store_of c.args.store.now) ps last) (sym c.order.ensures)
          (canonical_legal a (λ u k f at. (c.requires.made u k f at).0.puts_read) (store_of c.args.store.now) last places c.arrange.new.room.order c.requires.opens legal canonical).0,
    )
