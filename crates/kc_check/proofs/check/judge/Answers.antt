use Rattle.std.proofs.Common.{◌≡◌, ◌+◌, ℕ, refl, length, sym, ap, ◌∙◌, subst, arith}
use Rattle.kc_history.specs.Records.{footprint_at, lists_of}
use Rattle.kc_model.specs.Store.{store_of}
use Rattle.kc_script_bundle.proofs.Places.{next_from-above, cells_within}
use Rattle.kc_script_bundle.specs.Script.{CellsWithin, Script, names_of, script_of}
use Rattle.kc_xt.specs.Meaning.{values}
use Rattle.kc_check.proofs.Judged.{comes_legal, disorder_fails, disorder_within, few_places, given_comes, given_stop, judged_text}
use Rattle.kc_check.specs.Judged.{parts_of}
use Rattle.kc_check.specs.Orders.{IsLegalList}
use Rattle.kc_check.specs.Parts.{Parts, commands_in}
use Rattle.kc_check.specs.Shown.{UnlikeAt, held_lines}
use Rattle.kc_history.specs.Order.{Footprints, IsCanonical}
use Rattle.kc_check.specs.Replays.{commands_of}
use Rattle.kc_check.specs.Walks.{lines_in, now_of}
use Rattle.kc_check.proofs.check.judge.Goals as goal

pub walk-requires-clause-some : goal.walk-requires-clause-some
walk-requires-clause-some c = let a = next_from-above 1 (script_of c.args.bundle.now).objects in let b = c.requires.sound.size in omega (arith, a, b)

pub walk-requires-clause-short : goal.walk-requires-clause-short
walk-requires-clause-short c =
    let a = few_places c.args.bundle.now.threads.items c.requires.sound.few c.requires.sound.short in
    let b = c.requires.said.count in
    let d = ap length c.deref-4.ensures.value in
    omega (arith, a, b, d)

pub line_of-line-requires-clause-many : goal.line_of-line-requires-clause-many
line_of-line-requires-clause-many c =
    let a = few_places c.args.bundle.now.threads.items c.requires.sound.few c.requires.sound.short in
    let b = c.requires.said.count in
    let d = ap length c.deref-in-Err-2.ensures.value in
    omega (arith, a, b, d)

pub returns-in-Err-clause-fails : goal.returns-in-Err-clause-fails
returns-in-Err-clause-fails c =
    let s : Script = script_of c.args.bundle.now in
    let parts : Parts = parts_of c.args.text.now c.args.said.now.replies.items c.args.said.now.places.items c.args.said.now.state.items in
    given_stop s parts s.limit refl (commands_of c.deref-2.result.now) (lines_in c.args.text.now c.deref-3.result.now) c.deref-4.result.now (store_of c.args.store.now) (ap commands_of c.deref-2.ensures.value) (ap (lines_in c.args.text.now) c.deref-3.ensures.value) c.deref-4.ensures.value c.requires.sound.opens (commands_of c.deref-in-Err.result.now) c.deref-in-Err-2.result.now c.in-Err.stopped.index c.line_of-line.result c.in-Err.stopped.why
    (ap commands_of c.deref-in-Err.ensures.value) c.deref-in-Err-2.ensures.value c.in-Err.ensures.stops c.line_of-line.ensures

pub first_disorder-requires-clause-records : goal.first_disorder-requires-clause-records
first_disorder-requires-clause-records c =
    let s : Script = script_of c.args.bundle.now in
    let parts : Parts = parts_of c.args.text.now c.args.said.now.replies.items c.args.said.now.places.items c.args.said.now.state.items in
    let came = given_comes s parts s.limit refl (commands_of c.deref-2.result.now) (lines_in c.args.text.now c.deref-3.result.now) c.deref-4.result.now (store_of c.args.store.now) (ap commands_of c.deref-2.ensures.value) (ap (lines_in c.args.text.now) c.deref-3.ensures.value) c.deref-4.ensures.value c.requires.sound.opens (store_of c.walk.new.store) c.walk.new.records c.requires.said c.in_default.ensures.comes in
    let a = came.counted in
    let d = c.requires.room in
    omega (arith, a, d)

pub first_disorder-requires-clause-made : goal.first_disorder-requires-clause-made
first_disorder-requires-clause-made c =
    let s : Script = script_of c.args.bundle.now in
    let parts : Parts = parts_of c.args.text.now c.args.said.now.replies.items c.args.said.now.places.items c.args.said.now.state.items in
    let came = given_comes s parts s.limit refl (commands_of c.deref-2.result.now) (lines_in c.args.text.now c.deref-3.result.now) c.deref-4.result.now (store_of c.args.store.now) (ap commands_of c.deref-2.ensures.value) (ap (lines_in c.args.text.now) c.deref-3.ensures.value) c.deref-4.ensures.value c.requires.sound.opens (store_of c.walk.new.store) c.walk.new.records c.requires.said c.in_default.ensures.comes in
    came.made

pub first_disorder-requires-clause-legal : goal.first_disorder-requires-clause-legal
first_disorder-requires-clause-legal c =
    let s : Script = script_of c.args.bundle.now in
    let parts : Parts = parts_of c.args.text.now c.args.said.now.replies.items c.args.said.now.places.items c.args.said.now.state.items in
    let came = given_comes s parts s.limit refl (commands_of c.deref-2.result.now) (lines_in c.args.text.now c.deref-3.result.now) c.deref-4.result.now (store_of c.args.store.now) (ap commands_of c.deref-2.ensures.value) (ap (lines_in c.args.text.now) c.deref-3.ensures.value) c.deref-4.ensures.value c.requires.sound.opens (store_of c.walk.new.store) c.walk.new.records c.requires.said c.in_default.ensures.comes in
    subst (IsLegalList (footprint_at (lists_of c.walk.new.records))) (sym c.deref-5.ensures.value) (subst (λ (a : Footprints). IsLegalList a parts.places) came.same (comes_legal s parts (store_of c.walk.new.store) came.records c.requires.said came.comes))

pub place_line-line-requires-clause-index : goal.place_line-line-requires-clause-index
place_line-line-requires-clause-index c =
    let a = disorder_within (footprint_at (lists_of c.walk.new.records)) c.deref-5.result.now c.in-Some.index c.in-Some.ensures.some in
    let b = few_places c.args.bundle.now.threads.items c.requires.sound.few c.requires.sound.short in
    let d = c.requires.said.count in
    let e = ap length c.deref-5.ensures.value in
    omega (arith, a, b, d, e)

pub first_unlike-requires-clause-cells : goal.first_unlike-requires-clause-cells
first_unlike-requires-clause-cells c =
    let names = names_of c.args.bundle.now.objects in
    subst (λ (n : ℕ). CellsWithin n names) (sym c.requires.sound.size ∙ sym c.in_default.ensures.size) (cells_within names c.requires.sound.lies.lie)

pub state_line-line-requires-clause-places : goal.state_line-line-requires-clause-places
state_line-line-requires-clause-places c =
    let b = few_places c.args.bundle.now.threads.items c.requires.sound.few c.requires.sound.short in
    let d = c.requires.said.count in
    let e = ap length c.deref-in-Some-first_unlike.ensures.value in
    omega (arith, b, d, e)

pub returns-in-Some-first_unlike-clause-fails : goal.returns-in-Some-first_unlike-clause-fails
returns-in-Some-first_unlike-clause-fails c =
    let s : Script = script_of c.args.bundle.now in
    let parts : Parts = parts_of c.args.text.now c.args.said.now.replies.items c.args.said.now.places.items c.args.said.now.state.items in
    let came = given_comes s parts s.limit refl (commands_of c.deref-2.result.now) (lines_in c.args.text.now c.deref-3.result.now) c.deref-4.result.now (store_of c.args.store.now) (ap commands_of c.deref-2.ensures.value) (ap (lines_in c.args.text.now) c.deref-3.ensures.value) c.deref-4.ensures.value c.requires.sound.opens (store_of c.walk.new.store) c.walk.new.records c.requires.said c.in_default.ensures.comes in
    let canonical : IsCanonical (footprint_at came.records) parts.places = subst (λ (a : Footprints). IsCanonical a parts.places) (sym came.same) (subst (IsCanonical (footprint_at (lists_of c.walk.new.records))) c.deref-5.ensures.value c.in_default-first_disorder.ensures.none) in
    let unlike : UnlikeAt parts.state s.objects (values (store_of c.walk.new.store)) c.in-Some-first_unlike.index = subst (λ ls. UnlikeAt (now_of ls) s.objects (values (store_of c.walk.new.store)) c.in-Some-first_unlike.index) c.deref-6.ensures.value c.in-Some-first_unlike.ensures.some in
    let n = c.state_line-line.ensures in
    let a = c.commands_in-commands.ensures.count ∙ ap (λ vs. commands_in (commands_of vs)) c.deref.ensures.value in
    let l = ap length c.deref-in-Some-first_unlike.ensures.value in
    let d = c.requires.said.count in
    (c.in-Some-first_unlike.index, record { last = store_of c.walk.new.store; records = came.records; whole = came.comes; canonical = canonical; unlike = unlike }, omega (arith, n, a, l, d))

pub returns-clause-legal : goal.returns-clause-legal
returns-clause-legal c =
    let s : Script = script_of c.args.bundle.now in
    let parts : Parts = parts_of c.args.text.now c.args.said.now.replies.items c.args.said.now.places.items c.args.said.now.state.items in
    let came = given_comes s parts s.limit refl (commands_of c.deref-2.result.now) (lines_in c.args.text.now c.deref-3.result.now) c.deref-4.result.now (store_of c.args.store.now) (ap commands_of c.deref-2.ensures.value) (ap (lines_in c.args.text.now) c.deref-3.ensures.value) c.deref-4.ensures.value c.requires.sound.opens (store_of c.walk.new.store) c.walk.new.records c.requires.said c.in_default.ensures.comes in
    let canonical : IsCanonical (footprint_at came.records) parts.places = subst (λ (a : Footprints). IsCanonical a parts.places) (sym came.same) (subst (IsCanonical (footprint_at (lists_of c.walk.new.records))) c.deref-5.ensures.value c.in_default-first_disorder.ensures.none) in
    let held : parts.state ≡ held_lines s.objects (values (store_of c.walk.new.store)) = sym (ap now_of c.deref-6.ensures.value) ∙ c.in_default-first_unlike.ensures.none in
    judged_text s parts (store_of c.walk.new.store) c.walk.new.records c.requires.sound.lies.lie c.requires.sound.on c.requires.said came canonical held

pub returns-in-Some-clause-fails : goal.returns-in-Some-clause-fails
returns-in-Some-clause-fails c =
    let s : Script = script_of c.args.bundle.now in
    let parts : Parts = parts_of c.args.text.now c.args.said.now.replies.items c.args.said.now.places.items c.args.said.now.state.items in
    let came = given_comes s parts s.limit refl (commands_of c.deref-2.result.now) (lines_in c.args.text.now c.deref-3.result.now) c.deref-4.result.now (store_of c.args.store.now) (ap commands_of c.deref-2.ensures.value) (ap (lines_in c.args.text.now) c.deref-3.ensures.value) c.deref-4.ensures.value c.requires.sound.opens (store_of c.walk.new.store) c.walk.new.records c.requires.said c.in_default.ensures.comes in
    let line = c.place_line-line.ensures ∙ ap (λ n. n + c.in-Some.index + 2) (c.commands_in-commands.ensures.count ∙ ap (λ vs. commands_in (commands_of vs)) c.deref.ensures.value) in
    disorder_fails s parts (store_of c.walk.new.store) c.walk.new.records c.deref-5.result.now c.in-Some.index c.place_line-line.result c.deref-5.ensures.value came c.in-Some.ensures.some line
