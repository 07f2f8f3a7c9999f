use Rattle.std.proofs.Common.{◌≡◌, ◌+◌, None, rules, arith}
use Rattle.std.specs.Prelude.{map, reverse}
use Rattle.std.proofs.lemmas.Result.{err_from_is_err_and}
use Rattle.kc_script_lines.specs.Words.{words}
use Rattle.kc_script.proofs.Lines.{lines_left, cut, fewer, goes_on, ends, is_done}
use Rattle.kc_script.specs.Reading.{reader_state}
use Rattle.kc_script.proofs.reading.all_lines.Goals as goal

pub loop-left-preserved : goal.loop-left-preserved
loop-left-preserved c =
    let i = rw c.in-Some.is at c.loop-left.invariant in
    let e = c.first_line.ensures in
    let is_cut = cut (λ bytes. bytes.now) c.in-Some.here.now c.first_line.result.0.now c.first_line.result.1 e.more e.last in
    let is_split : map (λ word. word.now) c.deref.result.now ≡ words c.first_line.result.0.now = rw c.deref.ensures.value c.in_ok-split_into.ensures in
    let less = fewer (λ bytes. bytes.now) c.in-Some.here.now c.first_line.result.1 e.shorter in
    (omega (arith, i.0, less), rw (c.in_ok-text_line.ensures.atomics) (goes_on c.in-Some.here.now c.first_line.result.0.now (lines_left (λ bytes. bytes.now) c.first_line.result.1) (map (λ word. word.now) c.deref.result.now) (c.loop-left.line + 1) (reader_state c.loop-left.reader) (reverse c.loop-left.atomics.items) _ is_cut is_split i.1 (reader_state c.text_line.new.reader) c.in_ok-text_line.ensures.state))

pub returns-in_err-text_line : goal.returns-in_err-text_line
returns-in_err-text_line c =
    let i = rw c.in-Some.is at c.loop-left.invariant in
    let e = c.first_line.ensures in
    let is_cut = cut (λ bytes. bytes.now) c.in-Some.here.now c.first_line.result.0.now c.first_line.result.1 e.more e.last in
    let is_split : map (λ word. word.now) c.deref.result.now ≡ words c.first_line.result.0.now = rw c.deref.ensures.value c.in_ok-split_into.ensures in
    let p = err_from_is_err_and c.from_residual-in_err-text_line.result c.from_residual-in_err-text_line.ensures.1 in
    rw (p.1, p.2) (ends c.in-Some.here.now c.first_line.result.0.now (lines_left (λ bytes. bytes.now) c.first_line.result.1) (map (λ word. word.now) c.deref.result.now) (c.loop-left.line + 1) (reader_state c.loop-left.reader) (reverse c.loop-left.atomics.items) _ is_cut is_split i.1 c.in_err-text_line.field-0.0 c.in_err-text_line.ensures.state)

pub returns : goal.returns
returns c =
    let none : c.loop-left.left ≡ None = search rules in
    is_done (c.loop-left.line + 1) (reader_state c.loop-left.reader) (reverse c.loop-left.atomics.items) _ (rw none at c.loop-left.invariant.1)

pub overflow_add-line : goal.overflow_add-line
overflow_add-line c =
    let i = rw c.in-Some.is at c.loop-left.invariant in
    omega (arith, i.0, c.requires)
