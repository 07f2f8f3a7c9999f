use Rattle.std.proofs.Common.{rules, refl, ◌<◌, ◌∙◌, get_or, length, subst, sym}
use Rattle.kc_lasting.proofs.Holding.{seen_on}
use Rattle.kc_lasting.proofs.GoingOver.{stays_first}
use Rattle.kc_lasting.proofs.Learning.{end_again, learned}
use Rattle.kc_lasting.proofs.Settled.{Learned}
use Rattle.kc_lasting.specs.Settled.{IsLearned, IsSideOf}
use Rattle.kc_store.specs.Views.{CallerView}
use Rattle.kc_store.specs.kc_table_laws.Tasks.{KeepsKnown}
use Rattle.kc_lasting.proofs.client.Client.learn_end.Goals as goal

pub returns-clause-end : goal.returns-clause-end
returns-clause-end c = λ part ended.
    let v = c.args.self.now.caller in
    let w = c.learn.new.caller in
    let m = c.note-note in
    let versions = c.args.end.versions.items in
    let l : Learned v.of v w c.args.end.note part versions = record { of = refl; before = c.shows.ensures.view; behind = c.shows-2.ensures.view; own = c.shows.ensures.own; own_behind = c.shows-2.ensures.own; note = ended; joined = c.learn.ensures.joined; learns = c.learn.ensures.learns } in
    end_again v.of v w c.args.end.note part versions l m.result (m.ensures.note.0 ∙ c.learn.ensures.learns.remembers.of) m.ensures.note.2

pub returns-clause-settled : goal.returns-clause-settled
returns-clause-settled c = λ part ended.
    let v = c.args.self.now.caller in
    let s = c.args.self.now.seen.value in
    let w = c.learn.new.caller in
    let m = c.note-note in
    let versions = c.args.end.versions.items in
    let within : c.args.self.now.locations < length versions = search rules in
    let high : c.args.self.now.flag < get_or versions c.args.self.now.locations c.index.result.now = search rules in
    let l : Learned v.of v w c.args.end.note part versions = record { of = refl; before = c.shows.ensures.view; behind = c.shows-2.ensures.view; own = c.shows.ensures.own; own_behind = c.shows-2.ensures.own; note = ended; joined = c.learn.ensures.joined; learns = c.learn.ensures.learns } in
    subst (λ (x : CallerView). IsLearned part c.side_of-side.result v s c.args.footprint.now x s) (sym m.ensures.caller)
    (learned v.of v w c.args.end.note part versions l s c.args.self.now.locations c.args.self.now.flag c.index.result.now c.args.footprint.now c.args.self.now.early within high c.side_of-side.result s refl (subst (IsSideOf c.side_of-side.result c.args.footprint.now) c.as_slice.ensures.value c.side_of-side.ensures) (record { learns = c.learn.ensures.learns; seen = refl }))

pub invariant_of-self-clause-early : goal.invariant_of-self-clause-early
invariant_of-self-clause-early c =
    seen_on _ _ _ c.args.self.now.caller c.note-note.new.caller (subst (λ (x : CallerView). KeepsKnown c.args.self.now.caller.seat x.seat) (sym c.note-note.ensures.caller) c.learn.ensures.learns.remembers.keeps) c.args.self.now.early

pub returns-then-index-self-clause-settled : goal.returns-then-index-self-clause-settled
returns-then-index-self-clause-settled c = λ part ended. stays_first c.args.self.now.caller c.args.self.now.seen.value
