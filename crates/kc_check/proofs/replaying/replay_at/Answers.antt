use Rattle.std.proofs.Common.{◌+◌, List, length, get_or, refl, sym, ap, subst, ◌∙◌, arith}
use Rattle.kc_script_bundle.specs.declared.operation.Command.{Command}
use Rattle.kc_history.specs.RecordsValue.{RecordsValue}
use Rattle.kc_check.proofs.Replays.{commands_are, commands_long, kept_turn, place_within, row_of, row_takes, waits_at}
use Rattle.kc_check.specs.Replays.{CommitsIn, WaitsIn, commands_of}
use Rattle.kc_model.specs.Store.{store_of}
use Rattle.kc_check.proofs.replaying.replay_at.Goals as goal

pub bounds-records-thread : goal.bounds-records-thread
bounds-records-thread c = place_within c.args.limit (commands_of c.args.threads.now) c.args.records.now c.args.place c.requires.room c.requires.place

pub replay_in-requires-clause-index : goal.replay_in-requires-clause-index
replay_in-requires-clause-index c =
    let row = row_of c.args.limit (commands_of c.args.threads.now) c.args.records.now c.args.place (get_or c.args.records.now c.args.place.thread c.index-records-thread.result) c.requires.room c.requires.place (ap (get_or c.args.records.now c.args.place.thread) c.index-records-thread.is) in
    let long = row.long in
    let turn = row.turn (kept_turn c.args.limit (commands_of c.args.threads.now) c.args.records.now c.args.place c.requires.room c.requires.turn) in
    let le = c.requires.place.index in
    let count = commands_long c.args.threads.now in
    let below = c.requires.place.thread in
    let commands = ap length (commands_are c.args.threads.now c.args.place.thread c.index-threads-thread.result (omega (arith, count, below)) c.index-threads-thread.is) in
    let d = ap length c.deref.ensures.value in
    omega (arith, long, turn, le, commands, d)

pub replay_in-requires-clause-room : goal.replay_in-requires-clause-room
replay_in-requires-clause-room c =
    let w : RecordsValue = get_or c.args.records.now c.args.place.thread c.index-records-thread.result in
    let row = row_of c.args.limit (commands_of c.args.threads.now) c.args.records.now c.args.place w c.requires.room c.requires.place (ap (get_or c.args.records.now c.args.place.thread) c.index-records-thread.is) in
    row_takes c.args.limit (commands_of c.args.threads.now) c.requires.room.whole c.args.place w row c.requires.place (kept_turn c.args.limit (commands_of c.args.threads.now) c.args.records.now c.args.place c.requires.room c.requires.turn)

pub returns-clause-adds : goal.returns-clause-adds
returns-clause-adds c = λ ok.
    let w : RecordsValue = get_or c.args.records.now c.args.place.thread c.index-records-thread.result in
    let count = commands_long c.args.threads.now in
    let below = c.requires.place.thread in
    let commands = c.deref.ensures.value ∙ sym (commands_are c.args.threads.now c.args.place.thread c.index-threads-thread.result (omega (arith, count, below)) c.index-threads-thread.is) in
    record {
      was = w;
      now = c.replay_in.new.records;
      found = ap (get_or c.args.records.now c.args.place.thread) c.index-records-thread.is;
      commits = subst (λ (cs : List Command). CommitsIn c.args.limit (c.args.place.thread + 1) cs (store_of c.args.store.now) (store_of c.replay_in.new.store) c.replay_in.new.desk.head w c.replay_in.new.records) commands (c.replay_in.ensures.commits ok);
      sets = refl;
    }

pub returns-clause-waits : goal.returns-clause-waits
returns-clause-waits c = λ no.
    let w : RecordsValue = get_or c.args.records.now c.args.place.thread c.index-records-thread.result in
    let row = row_of c.args.limit (commands_of c.args.threads.now) c.args.records.now c.args.place w c.requires.room c.requires.place (ap (get_or c.args.records.now c.args.place.thread) c.index-records-thread.is) in
    let count = commands_long c.args.threads.now in
    let below = c.requires.place.thread in
    let commands = c.deref.ensures.value ∙ sym (commands_are c.args.threads.now c.args.place.thread c.index-threads-thread.result (omega (arith, count, below)) c.index-threads-thread.is) in
    let waits = subst (λ (cs : List Command). WaitsIn c.args.limit (c.args.place.thread + 1) cs (length w.items) (store_of c.args.store.now)) commands (c.replay_in.ensures.waits no) in
    waits_at c.args.limit (commands_of c.args.threads.now) c.requires.room.whole c.args.place (store_of c.args.store.now) w row (kept_turn c.args.limit (commands_of c.args.threads.now) c.args.records.now c.args.place c.requires.room c.requires.turn) waits
