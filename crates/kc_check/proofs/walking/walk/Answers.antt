use Rattle.std.proofs.Common.{◌≡◌, ℕ, get_or, sym, subst, arith, ◌∙◌, refl}
use Rattle.kc_history.specs.Records.{lists_of}
use Rattle.kc_history.specs.declared.record.Place.{Place}
use Rattle.kc_model.specs.Store.{store_of}
use Rattle.kc_check.proofs.Matched.{not_both}
use Rattle.kc_check.proofs.Replays.{fills_at, place_within}
use Rattle.kc_check.proofs.Walks.{keeps_all, keeps_none, place_stands, stops_reply, stops_turn, stops_waits, walked_more}
use Rattle.kc_check.specs.Judged.{no_place}
use Rattle.kc_check.specs.Replays.{AllCanAsk, commands_of, counts}
use Rattle.kc_check.specs.Walks.{lines_in}
use Rattle.kc_check.proofs.walking.walk.Goals as goal

pub loop-i-init : goal.loop-i-init
loop-i-init c = record { so_far = keeps_none c.args.limit (commands_of c.args.threads.now) (lines_in c.args.text.now c.args.replies.now) (store_of c.args.store.now) c.args.places.now c.args.records.now c.requires.room c.requires.empty c.requires.young; size = refl }

pub bounds-records-place : goal.bounds-records-place
bounds-records-place c =
    let k = c.loop-i.invariant.so_far in
    place_within c.args.limit (commands_of c.args.threads.now) c.loop-i.records (get_or c.args.places.now c.loop-i.i no_place) (record { whole = k.whole; kept = k.kept; room = k.walked.room }) (c.requires.places c.loop-i.i no_place c.loop-i-test.true)

pub returns-then-place-len-clause-stops : goal.returns-then-place-len-clause-stops
returns-then-place-len-clause-stops c =
    let k = c.loop-i.invariant.so_far in
    let h = place_stands c.args.limit (commands_of c.args.threads.now) c.args.places.now c.loop-i.i no_place c.loop-i.records k.whole c.index-records-place.result c.len.result c.requires.places c.loop-i-test.true k.walked.room k.kept c.index-records-place.is c.len.ensures in
    stops_turn c.args.limit (commands_of c.args.threads.now) (lines_in c.args.text.now c.args.replies.now) (store_of c.args.store.now) c.args.places.now c.loop-i.i (store_of c.loop-i.store) k.whole no_place c.loop-i-test.true k.walked (λ e. c.if-place-len.true (e ∙ h.whole_counted))

pub returns-then-place-len-clause-size : goal.returns-then-place-len-clause-size
returns-then-place-len-clause-size c = c.loop-i.invariant.size

pub replay_at-requires-clause-can : goal.replay_at-requires-clause-can
replay_at-requires-clause-can c = subst (λ (n : ℕ). AllCanAsk n c.args.threads.now) (sym c.loop-i.invariant.size) c.requires.can

pub replay_at-requires-clause-some : goal.replay_at-requires-clause-some
replay_at-requires-clause-some c = let a = c.loop-i.invariant.size in let b = c.requires.some in omega (arith, a, b)

pub replay_at-requires-clause-turn : goal.replay_at-requires-clause-turn
replay_at-requires-clause-turn c =
    let k = c.loop-i.invariant.so_far in
    let h = place_stands c.args.limit (commands_of c.args.threads.now) c.args.places.now c.loop-i.i no_place c.loop-i.records k.whole c.index-records-place.result c.len.result c.requires.places c.loop-i-test.true k.walked.room k.kept c.index-records-place.is c.len.ensures in
    c.if-place-len.false ∙ sym h.counted

pub replay_at-requires-clause-room : goal.replay_at-requires-clause-room
replay_at-requires-clause-room c =
    let k = c.loop-i.invariant.so_far in
    record { whole = k.whole; kept = k.kept; room = k.walked.room }

pub replay_at-requires-clause-young : goal.replay_at-requires-clause-young
replay_at-requires-clause-young c = c.loop-i.invariant.so_far.walked.young

pub returns-then-not-replay_at-clause-stops : goal.returns-then-not-replay_at-clause-stops
returns-then-not-replay_at-clause-stops c =
    let p : Place = get_or c.args.places.now c.loop-i.i no_place in
    let k = c.loop-i.invariant.so_far in
    let h = place_stands c.args.limit (commands_of c.args.threads.now) c.args.places.now c.loop-i.i no_place c.loop-i.records k.whole c.index-records-place.result c.len.result c.requires.places c.loop-i-test.true k.walked.room k.kept c.index-records-place.is c.len.ensures in
    let turn : p.index ≡ counts (lists_of k.whole) p.thread = c.if-place-len.false ∙ sym h.whole_counted in
    stops_waits c.args.limit (commands_of c.args.threads.now) (lines_in c.args.text.now c.args.replies.now) (store_of c.args.store.now) c.args.places.now c.loop-i.i (store_of c.loop-i.store) k.whole no_place c.loop-i-test.true k.walked turn (c.replay_at.ensures.waits c.if-not-replay_at.true)

pub returns-then-not-replay_at-clause-size : goal.returns-then-not-replay_at-clause-size
returns-then-not-replay_at-clause-size c = c.replay_at.ensures.size ∙ c.loop-i.invariant.size

pub returns-then-not-says-clause-stops : goal.returns-then-not-says-clause-stops
returns-then-not-says-clause-stops c =
    let p : Place = get_or c.args.places.now c.loop-i.i no_place in
    let k = c.loop-i.invariant.so_far in
    let h = place_stands c.args.limit (commands_of c.args.threads.now) c.args.places.now c.loop-i.i no_place c.loop-i.records k.whole c.index-records-place.result c.len.result c.requires.places c.loop-i-test.true k.walked.room k.kept c.index-records-place.is c.len.ensures in
    let turn : p.index ≡ counts (lists_of k.whole) p.thread = c.if-place-len.false ∙ sym h.whole_counted in
    let fills = fills_at c.args.limit (commands_of c.args.threads.now) c.loop-i.records c.replay_at.new.records p (store_of c.loop-i.store) (store_of c.replay_at.new.store) c.replay_at.new.desk.head (record { whole = k.whole; kept = k.kept; room = k.walked.room }) h.is turn (c.replay_at.ensures.adds c.if-not-replay_at.false) in
    stops_reply c.args.limit (commands_of c.args.threads.now) (lines_in c.args.text.now c.args.replies.now) (store_of c.args.store.now) c.args.places.now c.loop-i.i (store_of c.loop-i.store) k.whole no_place c.loop-i-test.true k.walked (store_of c.replay_at.new.store) fills.now turn fills.commits (λ e. not_both c.says.result _ (c.says.ensures.1 (e ∙ sym fills.line)) c.if-not-says.true)

pub returns-then-not-says-clause-size : goal.returns-then-not-says-clause-size
returns-then-not-says-clause-size c = c.replay_at.ensures.size ∙ c.loop-i.invariant.size

pub loop-i-preserved : goal.loop-i-preserved
loop-i-preserved c =
    let p : Place = get_or c.args.places.now c.loop-i.i no_place in
    let k = c.loop-i.invariant.so_far in
    let h = place_stands c.args.limit (commands_of c.args.threads.now) c.args.places.now c.loop-i.i no_place c.loop-i.records k.whole c.index-records-place.result c.len.result c.requires.places c.loop-i-test.true k.walked.room k.kept c.index-records-place.is c.len.ensures in
    let turn : p.index ≡ counts (lists_of k.whole) p.thread = c.if-place-len.false ∙ sym h.whole_counted in
    let fills = fills_at c.args.limit (commands_of c.args.threads.now) c.loop-i.records c.replay_at.new.records p (store_of c.loop-i.store) (store_of c.replay_at.new.store) c.replay_at.new.desk.head (record { whole = k.whole; kept = k.kept; room = k.walked.room }) h.is turn (c.replay_at.ensures.adds c.if-not-replay_at.false) in
    let walked = walked_more c.args.limit (commands_of c.args.threads.now) (lines_in c.args.text.now c.args.replies.now) (store_of c.args.store.now) c.args.places.now c.loop-i.i (store_of c.loop-i.store) (store_of c.replay_at.new.store) k.whole fills.now no_place c.loop-i-test.true k.walked turn fills.commits fills.grown fills.room (c.says.ensures.0 c.if-not-says.false ∙ fills.line) (c.replay_at.ensures.young c.if-not-replay_at.false) in
    record { so_far = record { whole = fills.now; kept = fills.kept; walked = walked }; size = c.replay_at.ensures.size ∙ c.loop-i.invariant.size }

pub returns-clause-comes : goal.returns-clause-comes
returns-clause-comes c = keeps_all c.args.limit (commands_of c.args.threads.now) (lines_in c.args.text.now c.args.replies.now) (store_of c.args.store.now) c.args.places.now c.loop-i.i (store_of c.loop-i.store) c.loop-i.records c.loop-i-test.false c.loop-i.invariant.so_far

pub returns-clause-size : goal.returns-clause-size
returns-clause-size c = c.loop-i.invariant.size
