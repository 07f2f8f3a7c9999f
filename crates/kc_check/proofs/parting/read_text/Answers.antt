use Rattle.std.proofs.Common.{◌≡◌, ◌++◌, refl, ℕ, List, [], map, take, drop, All, length, sym, subst, ap, ◌∙◌, arith, Vec}
use Rattle.std.specs.Global.{Global}
use Rattle.kc_history.proofs.Opening.{put_back}
use Rattle.std.specs.Prelude.{replicate}
use Rattle.kc_history.specs.declared.record.Place.{Place}
use Rattle.kc_script_bundle.specs.Script.{Script, script_of}
use Rattle.kc_check.proofs.Forming.{if_err}
use Rattle.kc_check.proofs.Parted.{fails_end, fails_held, fails_order, fails_places, fails_replies, fails_state, none_long, order_line, state_line, text_formed}
use Rattle.kc_check.specs.Forms.{AllReplies, GoesOverLines, IsFormed, flat, just, place, replies_shapes}
use Rattle.kc_check.specs.Laid.{IsLine}
use Rattle.kc_check.specs.Parts.{IsThreadPlace, place_text}
use Rattle.kc_check.specs.Reads.{FailsForm, FailsHowever, LacksHere}
use Rattle.kc_check.specs.Replays.{commands_of}
use Rattle.kc_check.specs.Walks.{lines_in, now_of}
use Rattle.kc_check.proofs.parting.read_text.Goals as goal

pub read_threads-requires-clause-end : goal.read_threads-requires-clause-end
read_threads-requires-clause-end c = ([], refl)

pub returns-in_err-read_threads-clause-misformed : goal.returns-in_err-read_threads-clause-misformed
returns-in_err-read_threads-clause-misformed c =
    let s : Script = script_of c.args.bundle.now in
    let text : List ℕ = c.args.text.now in
    let e = c.in_err-read_threads.field-0.0 in
    if_err (FailsForm s text) c.from_residual.result e c.from_residual.ensures.1 (fails_replies s text e (subst (λ vs. FailsHowever (commands_of vs) (replies_shapes 1 (commands_of vs)) text 1 e) c.deref.ensures.value c.in_err-read_threads.ensures.fails))

pub read_just-requires-clause-wanted : goal.read_just-requires-clause-wanted
read_just-requires-clause-wanted c = subst IsLine (sym c.as_slice.ensures) order_line

pub returns-in_err-read_just-clause-misformed : goal.returns-in_err-read_just-clause-misformed
returns-in_err-read_just-clause-misformed c =
    let s : Script = script_of c.args.bundle.now in
    let text : List ℕ = c.args.text.now in
    let rest1 : List ℕ = c.read_threads.new.rest.bytes.now in
    let n1 : ℕ = c.read_threads.new.rest.number in
    let replies : List (List (List ℕ)) = lines_in c.args.text.now c.read_threads.new.replies in
    let one = subst (λ vs. GoesOverLines (commands_of vs) (replies_shapes 1 (commands_of vs)) text 1 (flat replies) rest1 n1) c.deref.ensures.value c.in_ok-read_threads.ensures.goes in
    let e = c.in_err-read_just.field-0.0 in
    if_err (FailsForm s text) c.from_residual-in_err-read_just.result e c.from_residual-in_err-read_just.ensures.1 (fails_order s text replies rest1 n1 one e (subst (λ (z : List ℕ). LacksHere [] (just z) rest1 n1 e) c.as_slice.ensures c.in_err-read_just.ensures.lacks))

pub returns-in_err-read_places-clause-misformed : goal.returns-in_err-read_places-clause-misformed
returns-in_err-read_places-clause-misformed c =
    let s : Script = script_of c.args.bundle.now in
    let text : List ℕ = c.args.text.now in
    let rest1 : List ℕ = c.read_threads.new.rest.bytes.now in
    let n1 : ℕ = c.read_threads.new.rest.number in
    let replies : List (List (List ℕ)) = lines_in c.args.text.now c.read_threads.new.replies in
    let one = subst (λ vs. GoesOverLines (commands_of vs) (replies_shapes 1 (commands_of vs)) text 1 (flat replies) rest1 n1) c.deref.ensures.value c.in_ok-read_threads.ensures.goes in
    let rest2 : List ℕ = c.read_just.new.rest.bytes.now in
    let n2 : ℕ = c.read_just.new.rest.number in
    let order = c.in_ok-read_just.ensures.next ∙ ap (λ (z : List ℕ). z ++ rest2) c.as_slice.ensures in
    let e = c.in_err-read_places.field-0.0 in
    let fails = subst (λ k. FailsHowever s.threads (replicate k place) rest2 n2 e) c.requires.count (subst (λ vs. FailsHowever (commands_of vs) (replicate c.args.count place) rest2 n2 e) c.deref-2.ensures.value c.in_err-read_places.ensures.fails) in
    if_err (FailsForm s text) c.from_residual-in_err-read_places.result e c.from_residual-in_err-read_places.ensures.1 (fails_places s text replies rest1 n1 one rest2 n2 order c.in_ok-read_just.ensures.number e fails)

pub read_just-requires-2-clause-wanted : goal.read_just-requires-2-clause-wanted
read_just-requires-2-clause-wanted c = subst IsLine (sym c.as_slice-2.ensures) state_line

pub returns-in_err-read_just-2-clause-misformed : goal.returns-in_err-read_just-2-clause-misformed
returns-in_err-read_just-2-clause-misformed c =
    let s : Script = script_of c.args.bundle.now in
    let text : List ℕ = c.args.text.now in
    let rest1 : List ℕ = c.read_threads.new.rest.bytes.now in
    let n1 : ℕ = c.read_threads.new.rest.number in
    let replies : List (List (List ℕ)) = lines_in c.args.text.now c.read_threads.new.replies in
    let one = subst (λ vs. GoesOverLines (commands_of vs) (replies_shapes 1 (commands_of vs)) text 1 (flat replies) rest1 n1) c.deref.ensures.value c.in_ok-read_threads.ensures.goes in
    let rest2 : List ℕ = c.read_just.new.rest.bytes.now in
    let n2 : ℕ = c.read_just.new.rest.number in
    let order = c.in_ok-read_just.ensures.next ∙ ap (λ (z : List ℕ). z ++ rest2) c.as_slice.ensures in
    let rest3 : List ℕ = c.read_places.new.rest.bytes.now in
    let n3 : ℕ = c.read_places.new.rest.number in
    let places : List Place = c.read_places.new.places.items in
    let two = subst (λ k. GoesOverLines s.threads (replicate k place) rest2 n2 (map (place_text s.threads) places) rest3 n3) c.requires.count (subst (λ vs. GoesOverLines (commands_of vs) (replicate c.args.count place) rest2 n2 (map (place_text (commands_of vs)) places) rest3 n3) c.deref-2.ensures.value c.in_ok-read_places.ensures.goes) in
    let e = c.in_err-read_just-2.field-0.0 in
    if_err (FailsForm s text) c.from_residual-in_err-read_just-2.result e c.from_residual-in_err-read_just-2.ensures.1 (fails_state s text replies rest1 n1 one rest2 n2 order c.in_ok-read_just.ensures.number places rest3 n3 two e (subst (λ (z : List ℕ). LacksHere [] (just z) rest3 n3 e) c.as_slice-2.ensures c.in_err-read_just-2.ensures.lacks))

pub returns-in_err-read_state-clause-misformed : goal.returns-in_err-read_state-clause-misformed
returns-in_err-read_state-clause-misformed c =
    let s : Script = script_of c.args.bundle.now in
    let text : List ℕ = c.args.text.now in
    let rest1 : List ℕ = c.read_threads.new.rest.bytes.now in
    let n1 : ℕ = c.read_threads.new.rest.number in
    let replies : List (List (List ℕ)) = lines_in c.args.text.now c.read_threads.new.replies in
    let one = subst (λ vs. GoesOverLines (commands_of vs) (replies_shapes 1 (commands_of vs)) text 1 (flat replies) rest1 n1) c.deref.ensures.value c.in_ok-read_threads.ensures.goes in
    let rest2 : List ℕ = c.read_just.new.rest.bytes.now in
    let n2 : ℕ = c.read_just.new.rest.number in
    let order = c.in_ok-read_just.ensures.next ∙ ap (λ (z : List ℕ). z ++ rest2) c.as_slice.ensures in
    let rest3 : List ℕ = c.read_places.new.rest.bytes.now in
    let n3 : ℕ = c.read_places.new.rest.number in
    let places : List Place = c.read_places.new.places.items in
    let two = subst (λ k. GoesOverLines s.threads (replicate k place) rest2 n2 (map (place_text s.threads) places) rest3 n3) c.requires.count (subst (λ vs. GoesOverLines (commands_of vs) (replicate c.args.count place) rest2 n2 (map (place_text (commands_of vs)) places) rest3 n3) c.deref-2.ensures.value c.in_ok-read_places.ensures.goes) in
    let rest4 : List ℕ = c.read_just-2.new.rest.bytes.now in
    let n4 : ℕ = c.read_just-2.new.rest.number in
    let state = c.in_ok-read_just-2.ensures.next ∙ ap (λ (z : List ℕ). z ++ rest4) c.as_slice-2.ensures in
    let e = c.in_err-read_state.field-0.0 in
    if_err (FailsForm s text) c.from_residual-in_err-read_state.result e c.from_residual-in_err-read_state.ensures.1 (fails_held s text replies rest1 n1 one rest2 n2 order c.in_ok-read_just.ensures.number places rest3 n3 two rest4 n4 state c.in_ok-read_just-2.ensures.number e (c.in_err-read_state.ensures.fails s.threads))

pub returns-then-rest-ne0-clause-misformed : goal.returns-then-rest-ne0-clause-misformed
returns-then-rest-ne0-clause-misformed c =
    let s : Script = script_of c.args.bundle.now in
    let text : List ℕ = c.args.text.now in
    let rest1 : List ℕ = c.read_threads.new.rest.bytes.now in
    let n1 : ℕ = c.read_threads.new.rest.number in
    let replies : List (List (List ℕ)) = lines_in c.args.text.now c.read_threads.new.replies in
    let one = subst (λ vs. GoesOverLines (commands_of vs) (replies_shapes 1 (commands_of vs)) text 1 (flat replies) rest1 n1) c.deref.ensures.value c.in_ok-read_threads.ensures.goes in
    let rest2 : List ℕ = c.read_just.new.rest.bytes.now in
    let n2 : ℕ = c.read_just.new.rest.number in
    let order = c.in_ok-read_just.ensures.next ∙ ap (λ (z : List ℕ). z ++ rest2) c.as_slice.ensures in
    let rest3 : List ℕ = c.read_places.new.rest.bytes.now in
    let n3 : ℕ = c.read_places.new.rest.number in
    let places : List Place = c.read_places.new.places.items in
    let two = subst (λ k. GoesOverLines s.threads (replicate k place) rest2 n2 (map (place_text s.threads) places) rest3 n3) c.requires.count (subst (λ vs. GoesOverLines (commands_of vs) (replicate c.args.count place) rest2 n2 (map (place_text (commands_of vs)) places) rest3 n3) c.deref-2.ensures.value c.in_ok-read_places.ensures.goes) in
    let rest4 : List ℕ = c.read_just-2.new.rest.bytes.now in
    let n4 : ℕ = c.read_just-2.new.rest.number in
    let state = c.in_ok-read_just-2.ensures.next ∙ ap (λ (z : List ℕ). z ++ rest4) c.as_slice-2.ensures in
    let rest5 : List ℕ = c.read_state.new.rest.bytes.now in
    let n5 : ℕ = c.read_state.new.rest.number in
    let lines : List (List ℕ) = now_of c.read_state.new.lines.items in
    let three = c.in_ok-read_state.ensures.goes s.threads in
    fails_end s text replies rest1 n1 one rest2 n2 order c.in_ok-read_just.ensures.number places rest3 n3 two rest4 n4 state c.in_ok-read_just-2.ensures.number lines rest5 n5 three c.misformed.result (λ z. c.if-rest-ne0.true (ap length z)) c.misformed.ensures

pub returns-clause-formed : goal.returns-clause-formed
returns-clause-formed c =
    let s : Script = script_of c.args.bundle.now in
    let text : List ℕ = c.args.text.now in
    let rest1 : List ℕ = c.read_threads.new.rest.bytes.now in
    let n1 : ℕ = c.read_threads.new.rest.number in
    let replies : List (List (List ℕ)) = lines_in c.args.text.now c.read_threads.new.replies in
    let one = subst (λ vs. GoesOverLines (commands_of vs) (replies_shapes 1 (commands_of vs)) text 1 (flat replies) rest1 n1) c.deref.ensures.value c.in_ok-read_threads.ensures.goes in
    let rest2 : List ℕ = c.read_just.new.rest.bytes.now in
    let n2 : ℕ = c.read_just.new.rest.number in
    let order = c.in_ok-read_just.ensures.next ∙ ap (λ (z : List ℕ). z ++ rest2) c.as_slice.ensures in
    let rest3 : List ℕ = c.read_places.new.rest.bytes.now in
    let n3 : ℕ = c.read_places.new.rest.number in
    let places : List Place = c.read_places.new.places.items in
    let two = subst (λ k. GoesOverLines s.threads (replicate k place) rest2 n2 (map (place_text s.threads) places) rest3 n3) c.requires.count (subst (λ vs. GoesOverLines (commands_of vs) (replicate c.args.count place) rest2 n2 (map (place_text (commands_of vs)) places) rest3 n3) c.deref-2.ensures.value c.in_ok-read_places.ensures.goes) in
    let rest4 : List ℕ = c.read_just-2.new.rest.bytes.now in
    let n4 : ℕ = c.read_just-2.new.rest.number in
    let state = c.in_ok-read_just-2.ensures.next ∙ ap (λ (z : List ℕ). z ++ rest4) c.as_slice-2.ensures in
    let rest5 : List ℕ = c.read_state.new.rest.bytes.now in
    let n5 : ℕ = c.read_state.new.rest.number in
    let lines : List (List ℕ) = now_of c.read_state.new.lines.items in
    let three = c.in_ok-read_state.ensures.goes s.threads in
    let all : List (Vec ℕ Global) = c.read_threads.new.replies in
    let old = c.args.said.now.replies in
    let size = c.in_ok-read_threads.ensures.size in
    let value = ap length c.deref_mut.ensures.value in
    let ok = old.ok.0 in
    let same : take old.len (all ++ drop (length all) old.items) ≡ all = put_back all old.items old.len (omega (arith, size, value, ok)) (omega (arith, ok)) in
    subst (λ vs. IsFormed s text (record { replies = lines_in text vs; places = places; state = lines })) (sym same)
    (text_formed s text replies rest1 n1 one rest2 n2 order c.in_ok-read_just.ensures.number places rest3 n3 two rest4 n4 state c.in_ok-read_just-2.ensures.number lines rest5 n5 three (none_long rest5 c.if-rest-ne0.false)
    (subst (λ vs. AllReplies 1 (commands_of vs) replies) c.deref.ensures.value c.in_ok-read_threads.ensures.replies) (subst (λ vs. All (IsThreadPlace (commands_of vs)) places) c.deref-2.ensures.value c.in_ok-read_places.ensures.places) (c.in_ok-read_places.ensures.count ∙ c.requires.count))
