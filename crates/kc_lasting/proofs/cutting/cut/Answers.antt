use Rattle.std.proofs.Common.{◌≡◌, ◌∙◌, List, ap, length, refl, subst, sym}
use Rattle.kc_hang.proofs.kc_table_laws.Keeping.{loads_keep}
use Rattle.kc_lasting.proofs.Looked.{all_then, callers_behind, is_cut, known_on, legal_behind, lies_behind}
use Rattle.kc_lasting.specs.Cuts.{AllFrom, IsKnownAt, IsLastAt}
use Rattle.kc_store.proofs.Remembering.{learns_on, learns_same}
use Rattle.kc_store.specs.Knows.{OnlyLearns}
use Rattle.kc_store.specs.Views.{CallerView, StoreView, caller_view, store_view}
use Rattle.kc_store.specs.kc_machine_traces.Histories.{entries}
use Rattle.kc_store.specs.kc_table_moves.Views.{knows}
use Rattle.kc_hang.specs.kc_table_moves.Origins.{opening_of}
use Rattle.kc_hang.specs.kc_table_views.Known.{IsPrefix, known}
use Rattle.kc_machine_steps.specs.declared.task.Event.{Event}
use Rattle.kc_lasting.proofs.cutting.cut.Goals as goal

pub rounds-init : goal.rounds-init
rounds-init g c = (tt, tt, record { learns = learns_same c.args.caller.now; size = refl })

pub read_all-requires-clause-caller : goal.read_all-requires-clause-caller
read_all-requires-clause-caller g c = c.rounds.invariant.2.learns.remembers.of ∙ c.requires.caller

pub returns-then-all_stand-clause-learns : goal.returns-then-all_stand-clause-learns
returns-then-all_stand-clause-learns g c =
    let hc = c.note-hint.ensures.caller in
    let nc = c.note-note.ensures.caller in
    let a : OnlyLearns c.args.caller.now c.read_all.new.caller = learns_on _ _ _ c.rounds.invariant.2.learns c.read_all.ensures.learns in
    let b : OnlyLearns c.read_all.new.caller c.learn.new.caller = subst (λ (x : CallerView). OnlyLearns x c.learn.new.caller) hc c.learn.ensures.learns in
    let d : OnlyLearns c.learn.new.caller c.all_stand.new.caller = subst (λ (x : CallerView). OnlyLearns x c.all_stand.new.caller) nc c.all_stand.ensures.learns in
    learns_on _ _ _ a (learns_on _ _ _ b d)

pub returns-then-all_stand-clause-cut : goal.returns-then-all_stand-clause-cut
returns-then-all_stand-clause-cut g c =
    let hc = c.note-hint.ensures.caller in
    let nc = c.note-note.ensures.caller in
    let l = c.learn.new.caller in
    let cells = c.read_all.new.cells in
    let view : l ≡ caller_view l.worn l.seat = subst (λ (x : CallerView). x ≡ caller_view x.worn x.seat) nc c.shows.ensures.view in
    let at : l.of ≡ c.args.store.now = c.learn.ensures.learns.remembers.of ∙ ap (λ (x : CallerView). x.of) hc ∙ c.read_all.ensures.learns.remembers.of ∙ c.rounds.invariant.2.learns.remembers.of ∙ c.requires.caller in
    let of : c.args.store.now ≡ store_view l.seat.of = sym at ∙ ap (λ (x : CallerView). x.of) view in
    let is : c.note-note.result.known ≡ entries (knows l.seat) = c.note-note.ensures.note.1 ∙ ap (λ (x : CallerView). x.known) view in
    let all : length cells ≡ c.args.store.now.locations = c.read_all.ensures.size ∙ c.rounds.invariant.2.size ∙ c.requires.size ∙ c.requires.locations in
    let kept = loads_keep c.note-hint.new.caller.seat l.seat c.learn.ensures.joined.learns in
    let was : AllFrom (IsKnownAt c.note-hint.new.caller.seat) 0 cells = subst (λ (x : CallerView). AllFrom (IsKnownAt x.seat) 0 cells) (sym hc) c.read_all.ensures.known in
    let known = all_then (IsKnownAt c.note-hint.new.caller.seat) (IsKnownAt l.seat) (known_on c.note-hint.new.caller.seat l.seat kept) 0 cells was in
    let last : AllFrom (IsLastAt l.seat) 0 cells = subst (λ (x : CallerView). AllFrom (IsLastAt x.seat) 0 cells) nc (c.all_stand.ensures.last c.if-all_stand.true) in
    is_cut l.seat c.args.store.now c.note-note.result.known cells of is all (legal_behind c.note-hint.new.caller.seat l.seat _ c.learn.ensures.joined) (lies_behind c.note-hint.new.caller.seat l.seat _ c.learn.ensures.joined) (callers_behind c.note-hint.new.caller.seat l.seat _ c.learn.ensures.joined) known last

pub rounds-preserved : goal.rounds-preserved
rounds-preserved g c =
    let hc = c.note-hint.ensures.caller in
    let nc = c.note-note.ensures.caller in
    let a : OnlyLearns c.args.caller.now c.read_all.new.caller = learns_on _ _ _ c.rounds.invariant.2.learns c.read_all.ensures.learns in
    let b : OnlyLearns c.read_all.new.caller c.learn.new.caller = subst (λ (x : CallerView). OnlyLearns x c.learn.new.caller) hc c.learn.ensures.learns in
    let d : OnlyLearns c.learn.new.caller c.all_stand.new.caller = subst (λ (x : CallerView). OnlyLearns x c.all_stand.new.caller) nc c.all_stand.ensures.learns in
    (tt, tt, record { learns = learns_on _ _ _ a (learns_on _ _ _ b d); size = c.read_all.ensures.size ∙ c.rounds.invariant.2.size })

pub returns-then-all_stand-clause-shows : goal.returns-then-all_stand-clause-shows
returns-then-all_stand-clause-shows g c =
    let hc = c.note-hint.ensures.caller in
    let nc = c.note-note.ensures.caller in
    let l = c.learn.new.caller in
    let view : l ≡ caller_view l.worn l.seat = subst (λ (x : CallerView). x ≡ caller_view x.worn x.seat) nc c.shows.ensures.view in
    let at : l.of ≡ c.args.store.now = c.learn.ensures.learns.remembers.of ∙ ap (λ (x : CallerView). x.of) hc ∙ c.read_all.ensures.learns.remembers.of ∙ c.rounds.invariant.2.learns.remembers.of ∙ c.requires.caller in
    let of : c.args.store.now ≡ store_view l.seat.of = sym at ∙ ap (λ (x : CallerView). x.of) view in
    let is : c.note-note.result.known ≡ entries (knows l.seat) = c.note-note.ensures.note.1 ∙ ap (λ (x : CallerView). x.known) view in
    is ∙ ap (λ (z : StoreView). entries (known (opening_of z.table.origin) l.seat.past)) (sym of) ∙ ap (λ (es : List Event). entries (known (opening_of c.args.store.now.table.origin) es)) (sym c.note-note.ensures.note.2)

pub returns-then-all_stand-clause-past : goal.returns-then-all_stand-clause-past
returns-then-all_stand-clause-past g c =
    let nc = c.note-note.ensures.caller in
    subst (λ (es : List Event). IsPrefix es c.all_stand.new.caller.seat.past) (sym c.note-note.ensures.note.2) (subst (λ (x : CallerView). IsPrefix x.seat.past c.all_stand.new.caller.seat.past) nc c.all_stand.ensures.learns.remembers.keeps.past)
