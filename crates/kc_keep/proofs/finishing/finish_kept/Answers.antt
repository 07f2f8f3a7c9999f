use Rattle.std.proofs.Common.{◌≡◌, List, [], append-nil, subst, sym, ◌∙◌}
use Rattle.std.proofs.lemmas.List.{map-id}
use Rattle.std.proofs.lemmas.List.Elements.{All-contains}
use Rattle.kc_keep.proofs.Seeing.{commit_where, says_where}
use Rattle.kc_store.specs.Knows.{IsHistory, entries_of}
use Rattle.kc_store.specs.Views.{CallerView, last, store_opening}
use Rattle.kc_keep.proofs.finishing.finish_kept.Goals as goal

pub returns-clause-throughout : goal.returns-clause-throughout
returns-clause-throughout g c =
    let history = subst (λ (xs : List CallerView). IsHistory c.args.store xs c.finish.result) (map-id c.args.callers.items) c.finish.ensures.history in
    c.holds_throughout.ensures.store c.args.store c.args.callers.items c.finish.result c.requires.all history c.requires.only c.requires.opens

pub returns-clause-holds : goal.returns-clause-holds
returns-clause-holds g c =
    let history = subst (λ (xs : List CallerView). IsHistory c.args.store xs c.finish.result) (map-id c.args.callers.items) c.finish.ensures.history in
    c.holds_throughout.ensures.store c.args.store c.args.callers.items c.finish.result c.requires.all history c.requires.only c.requires.opens c.finish.result.history [] (last c.finish.result) (sym (append-nil c.finish.result.history)) history.legal

pub returns-clause-views : goal.returns-clause-views
returns-clause-views g c = λ m a d e f saw came back among.
    let history = subst (λ (xs : List CallerView). IsHistory c.args.store xs c.finish.result) (map-id c.args.callers.items) c.finish.ensures.history in
    let throughout = c.holds_throughout.ensures.store c.args.store c.args.callers.items c.finish.result c.requires.all history c.requires.only c.requires.opens in
    let of = All-contains (λ (x : CallerView). x.of ≡ c.args.store) c.args.callers.items f c.requires.all.of among in
    says_where (g.I.Invariant.holds c.args.invariant.now) (store_opening c.args.store) c.finish.result.history d.known m a d e saw
    (c.views_see_it_hold.ensures.view c.args.store c.args.callers.items c.finish.result d e f saw.footprint throughout history c.finish.ensures.shown c.finish.ensures.past saw.began saw.stands came back of among)

pub returns-clause-commits : goal.returns-clause-commits
returns-clause-commits g c = λ m a d e f said served among.
    let history = subst (λ (xs : List CallerView). IsHistory c.args.store xs c.finish.result) (map-id c.args.callers.items) c.finish.ensures.history in
    let throughout = c.holds_throughout.ensures.store c.args.store c.args.callers.items c.finish.result c.requires.all history c.requires.only c.requires.opens in
    let own : entries_of f.number c.finish.result.history ≡ f.own = All-contains (λ (x : CallerView). entries_of x.number c.finish.result.history ≡ x.own) c.args.callers.items f history.own among in
    commit_where (g.I.Invariant.holds c.args.invariant.now) (store_opening c.args.store) (last c.finish.result) c.finish.result.history m a d e f.number served.only.added throughout history.legal said (own ∙ served.only.own)
