use Rattle.std.proofs.Common.{◌≤◌, length, sym, ap, ◌∙◌, subst, arith, All, Vec}
use Rattle.std.specs.Global.{Global}
use Rattle.kc_script_bundle.specs.Script.{Script, script_of}
use Rattle.kc_script_bundle.specs.declared.operation.Command.{Command}
use Rattle.kc_script.proofs.Spelled.{spelled_lies, spelled_threads_few}
use Rattle.kc_check.proofs.Answering.{form_fails, judged_fails, judged_legal}
use Rattle.kc_check.proofs.Forming.{if_err}
use Rattle.kc_check.proofs.Padded.{as_many}
use Rattle.kc_check.proofs.Opened.{commands_few, limit_of_it, objects_few, said_of, sound_of, spelled_names, threads_few, values_few}
use Rattle.kc_check.specs.Faults.{FailsFor}
use Rattle.kc_check.specs.Judged.{IsReadyToReplay, parts_of}
use Rattle.kc_check.specs.Parts.{Parts, places_in}
use Rattle.kc_check.specs.Replays.{HaveRoom, commands_of}
use Rattle.kc_check.proofs.Replays.{commands_long}
use Rattle.kc_check.proofs.check.make_tests.Goals as goal

pub opening-requires-clause-few : goal.opening-requires-clause-few
opening-requires-clause-few c = let (bytes, spells) = c.requires.spelled in spelled_threads_few spells

pub opening-requires-clause-lies : goal.opening-requires-clause-lies
opening-requires-clause-lies c = let (bytes, spells) = c.requires.spelled in spelled_lies spells

pub open_store-requires : goal.open_store-requires
open_store-requires c = let (bytes, spells) = c.requires.spelled in rw (c.deref.ensures.value, c.in_ok-values.ensures) (values_few c.args.bundle.now bytes spells)

pub rooms-requires-clause-limit : goal.rooms-requires-clause-limit
rooms-requires-clause-limit c = let (bytes, spells) = c.requires.spelled in (limit_of_it c.args.bundle.now bytes spells).1

pub rooms-requires-clause-commands : goal.rooms-requires-clause-commands
rooms-requires-clause-commands c = let (bytes, spells) = c.requires.spelled in subst (All (λ (v : Vec Command Global). length v.items ≤ 4096)) (sym c.deref-2.ensures.value) (commands_few c.args.bundle.now bytes spells)

pub places_in-count-requires-clause-threads : goal.places_in-count-requires-clause-threads
places_in-count-requires-clause-threads c = let (bytes, spells) = c.requires.spelled in let few = threads_few c.args.bundle.now bytes spells in let e = ap length c.deref-3.ensures.value in omega (arith, few, e)

pub places_in-count-requires-clause-commands : goal.places_in-count-requires-clause-commands
places_in-count-requires-clause-commands c = let (bytes, spells) = c.requires.spelled in subst (All (λ (v : Vec Command Global). length v.items ≤ 4096)) (sym c.deref-3.ensures.value) (commands_few c.args.bundle.now bytes spells)

pub read_text-requires-clause-few : goal.read_text-requires-clause-few
read_text-requires-clause-few c = let (bytes, spells) = c.requires.spelled in threads_few c.args.bundle.now bytes spells

pub read_text-requires-clause-short : goal.read_text-requires-clause-short
read_text-requires-clause-short c = let (bytes, spells) = c.requires.spelled in commands_few c.args.bundle.now bytes spells

pub read_text-requires-clause-names : goal.read_text-requires-clause-names
read_text-requires-clause-names c = let (bytes, spells) = c.requires.spelled in spelled_names spells

pub read_text-requires-clause-count : goal.read_text-requires-clause-count
read_text-requires-clause-count c = c.places_in-count.ensures ∙ ap (λ vs. places_in (commands_of vs)) c.deref-3.ensures.value

pub overflow_cast-len : goal.overflow_cast-len
overflow_cast-len c =
    let (bytes, spells) = c.requires.spelled in
    let few = threads_few c.args.bundle.now bytes spells in
    let e = c.len.ensures in
    let ok = c.args.bundle.now.threads.ok.0 in
    omega (arith, few, e, ok)

pub judge-requires-clause-sound : goal.judge-requires-clause-sound
judge-requires-clause-sound c =
    let (bytes, spells) = c.requires.spelled in
    let b = c.args.bundle.now in
    let room = subst (λ vs. HaveRoom b.limit 1 (commands_of vs) c.in_ok-records.records.items) c.deref-2.ensures.value c.in_ok-records.ensures.room in
    subst (IsReadyToReplay (script_of b) b.threads.items c.in_ok-store.store) (sym c.deref_mut.ensures.value) (sound_of b bytes spells c.deref.result.now c.in_ok-store.store c.in_ok-records.records.items (c.deref.ensures.value ∙ c.in_ok-values.ensures) c.in_ok-store.ensures room c.in_ok-records.ensures.empty)

pub judge-requires-clause-said : goal.judge-requires-clause-said
judge-requires-clause-said c =
    let (bytes, spells) = c.requires.spelled in
    said_of (script_of c.args.bundle.now) c.args.text.now (parts_of c.args.text.now c.read_text.new.said.replies.items c.read_text.new.said.places.items c.read_text.new.said.state.items) (objects_few spells) c.in_ok-read_text.ensures.formed

pub judge-requires-clause-threads : goal.judge-requires-clause-threads
judge-requires-clause-threads c =
    let b = c.args.bundle.now in
    let room = subst (λ vs. HaveRoom b.limit 1 (commands_of vs) c.in_ok-records.records.items) c.deref-2.ensures.value c.in_ok-records.ensures.room in
    let many = as_many b.limit 1 (script_of b).threads c.in_ok-records.records.items room in
    let long = commands_long b.threads.items in
    let same = ap length c.deref_mut.ensures.value in
    let there = ap (λ r. r.threads) c.in_ok-room.ensures in
    let e = c.len.ensures in
    let ok = b.threads.ok.0 in
    omega (arith, many, long, same, there, e, ok)

pub returns-in_err-read_text-clause-fault : goal.returns-in_err-read_text-clause-fault
returns-in_err-read_text-clause-fault c =
    let s : Script = script_of c.args.bundle.now in
    let e = c.in_err-read_text.field-0.0 in
    if_err (FailsFor s c.args.text.now) c.from_residual-in_err-read_text.result e c.from_residual-in_err-read_text.ensures.1 (form_fails s c.args.text.now e c.in_err-read_text.ensures.misformed)

pub returns-clause-legal : goal.returns-clause-legal
returns-clause-legal c =
    let s : Script = script_of c.args.bundle.now in
    let parts : Parts = parts_of c.args.text.now c.read_text.new.said.replies.items c.read_text.new.said.places.items c.read_text.new.said.state.items in
    judged_legal s c.args.text.now parts c.judge.result c.in_ok-read_text.ensures.formed c.judge.ensures.legal

pub returns-clause-fault : goal.returns-clause-fault
returns-clause-fault c =
    let s : Script = script_of c.args.bundle.now in
    let parts : Parts = parts_of c.args.text.now c.read_text.new.said.replies.items c.read_text.new.said.places.items c.read_text.new.said.state.items in
    judged_fails s c.args.text.now parts c.judge.result c.in_ok-read_text.ensures.formed c.judge.ensures.fails
