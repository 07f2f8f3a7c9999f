use Rattle.std.proofs.Common.{refl, subst, sym}
use Rattle.kc_hang.proofs.kc_table_laws.Keeping.{keeps_then}
use Rattle.kc_lasting.proofs.Holding.{seen_on}
use Rattle.kc_lasting.proofs.Keeping.{keeper_learns, keeper_spares, keeper_told}
use Rattle.kc_lasting.specs.Kept.{IsKeeper}
use Rattle.kc_store.specs.Views.{CallerView}
use Rattle.kc_store.specs.kc_table_laws.Tasks.{KeepsKnown}
use Rattle.kc_lasting.proofs.client.Client.cut_off.Goals as goal

pub invariant_of-self-clause-early : goal.invariant_of-self-clause-early
invariant_of-self-clause-early g c =
    let v = c.args.self.now.caller in
    let kept : KeepsKnown v.seat c.cut-first.new.caller.seat = keeps_then _ _ _ c.commit_into.ensures.keeps c.cut-first.ensures.learns.remembers.keeps in
    seen_on _ _ _ v c.note-last.new.caller (subst (λ (x : CallerView). KeepsKnown v.seat x.seat) (sym c.note-last.ensures.caller) kept) c.args.self.now.early

pub returns-clause-keeper : goal.returns-clause-keeper
returns-clause-keeper g c =
    let v = c.args.self.now.caller in
    let told = keeper_told _ c.args.self.now.locations _ _ v c.commit_into.new.caller c.commit_into.new.footprint refl c.args.self.now.size c.commit_into.ensures.remembers c.commit_into.ensures.told c.requires.keeper in
    subst IsKeeper (sym c.note-last.ensures.caller) (keeper_learns _ c.cut-first.new.caller c.cut-first.ensures.learns told)

pub returns-clause-spares : goal.returns-clause-spares
returns-clause-spares g c =
    let v = c.args.self.now.caller in
    let told = keeper_told _ c.args.self.now.locations _ _ v c.commit_into.new.caller c.commit_into.new.footprint refl c.args.self.now.size c.commit_into.ensures.remembers c.commit_into.ensures.told c.requires.keeper in
    keeper_spares c.commit_into.new.caller v.of c.cut-first.result.known c.commit_into.ensures.remembers.of c.cut-first.ensures.own told
