use Rattle.std.proofs.Common.{◌≡◌, ◌+◌, ◌-◌, ◌<◌, ◌⊎◌, inl, inr, drop, length, length-drop, sym, subst, ◌∙◌, arith}
use Rattle.std.proofs.lemmas.List.{take_all}
use Rattle.kc_check.proofs.Placed.{dotted, named_none, named_text, no_dot, no_thread, other_thread}
use Rattle.kc_check.specs.Reads.{NamesNone}
use Rattle.kc_check.proofs.reading.place_of.Goals.{then-number-eq0-via-then-number-eq0, then-number-eq0-via-else-number-eq0+then-threads-number}
use Rattle.kc_check.proofs.reading.place_of.Goals as goal

pub returns-in_default-clause-none : goal.returns-in_default-clause-none
returns-in_default-clause-none c = no_dot c.args.threads.now c.args.line.now c.in_default.ensures.none

pub returns-in_default-plain_number-clause-none : goal.returns-in_default-plain_number-clause-none
returns-in_default-plain_number-clause-none c = no_thread c.args.threads.now c.args.line.now c.in-Some.dot c.in-Some.ensures.within c.in-Some.ensures.some.0 c.in-Some.ensures.some.1 c.requires.few c.in_default-plain_number.ensures

pub returns-then-number-eq0-clause-none : goal.returns-then-number-eq0-clause-none
returns-then-number-eq0-clause-none c =
    let n = c.in-Some-plain_number.number in
    let out : (n ≡ 0) ⊎ (length c.args.threads.now < n) = elim c.then-number-eq0.branch [ then-number-eq0-via-then-number-eq0 w ↦ inl w.if-number-eq0.true | then-number-eq0-via-else-number-eq0+then-threads-number w ↦ inr w.if-threads-number.true ] in
    other_thread c.args.threads.now c.args.line.now c.in-Some.dot c.in-Some.ensures.within c.in-Some.ensures.some.0 c.in-Some.ensures.some.1 c.requires.few n c.in-Some-plain_number.ensures.0 c.in-Some-plain_number.ensures.1 out

pub returns-in-Some-index_of-clause-spelled : goal.returns-in-Some-index_of-clause-spelled
returns-in-Some-index_of-clause-spelled c =
    let n = c.in-Some-plain_number.number in
    let some = c.if-number-eq0.false in
    let few = c.if-threads-number.false in
    let v = c.index-threads-thread.result in
    let ok = v.ok.0 in
    let long = c.len-commands.ensures in
    let within = c.in-Some.ensures.within in
    let whole = take_all (length c.args.line.now - (c.in-Some.dot + 1)) (drop (c.in-Some.dot + 1) c.args.line.now) (omega (arith, length-drop (c.in-Some.dot + 1) c.args.line.now)) in
    let line = dotted c.args.threads.now c.args.line.now c.in-Some.dot within c.in-Some.ensures.some.0 c.in-Some.ensures.some.1 c.requires.few n c.in-Some-plain_number.ensures.1 in
    named_text c.args.threads.now c.args.line.now (n - 1) n v (drop (c.in-Some.dot + 1) c.args.line.now) (omega (arith, some)) (omega (arith, some, few)) c.requires.few c.index-threads-thread.is line c.len-commands.result c.in-Some-index_of.index (omega (arith, long, ok)) (sym whole ∙ c.in-Some-index_of.ensures.some.1)

pub returns-in-None-clause-none : goal.returns-in-None-clause-none
returns-in-None-clause-none c =
    let n = c.in-Some-plain_number.number in
    let some = c.if-number-eq0.false in
    let few = c.if-threads-number.false in
    let v = c.index-threads-thread.result in
    let ok = v.ok.0 in
    let long = c.len-commands.ensures in
    let within = c.in-Some.ensures.within in
    let whole = take_all (length c.args.line.now - (c.in-Some.dot + 1)) (drop (c.in-Some.dot + 1) c.args.line.now) (omega (arith, length-drop (c.in-Some.dot + 1) c.args.line.now)) in
    let line = dotted c.args.threads.now c.args.line.now c.in-Some.dot within c.in-Some.ensures.some.0 c.in-Some.ensures.some.1 c.requires.few n c.in-Some-plain_number.ensures.1 in
    named_none c.args.threads.now c.args.line.now (n - 1) n v (drop (c.in-Some.dot + 1) c.args.line.now) (omega (arith, some)) (omega (arith, some, few)) c.requires.few c.index-threads-thread.is line c.len-commands.result (omega (arith, long, ok)) (subst (NamesNone c.len-commands.result) whole c.in-None.ensures.none)
