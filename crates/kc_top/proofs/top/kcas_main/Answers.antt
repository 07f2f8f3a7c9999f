use Rattle.std.proofs.Common.{ap, arith, map, refl, string_bytes, sym, ◌∙◌, Some}
use Rattle.kc_top.proofs.Commands.{among_four, check_words, runs_from, texts_words, word_at}
use Rattle.kc_top.proofs.Refusing.{check_says, texts_say}
use Rattle.kc_top.specs.declared.command_line.Command.{Command}
use Rattle.kc_top.proofs.top.kcas_main.Goals as goal

pub run-requires-after_bounds : goal.run-requires-after_bounds
run-requires-after_bounds g c κs within = runs_from (map string_bytes c.args.words.now) c.in-Some-Run.origin (sym c.command_of.ensures ∙ c.in-Some-Run.is ∙ ap (λ (x : Command). Some x) c.in-Some-Run.field-0-is)

pub returns-in-Some-Check : goal.returns-in-Some-Check
returns-in-Some-Check g c =
    let words = c.args.words.now in
    let asked = sym c.command_of.ensures ∙ c.in-Some-Check.is ∙ ap (λ (x : Command). Some x) c.in-Some-Check.field-0-is in
    let four = check_words (map string_bytes words) asked in
    let bundle = c.as_str.ensures.value ∙ word_at words 2 c.index-words-2.result (among_four words 2 four (omega arith)) c.index-words-2.is in
    let text = c.as_str-in-Some-Check.ensures.value ∙ word_at words 3 c.index-words-3.result (among_four words 3 four (omega arith)) c.index-words-3.is in
    check_says g.S.Source.left g.S.Source.faults g.S.Source.read_gives g.F.Shelf.files g.F.Shelf.faults g.F.Shelf.sure g.F.Shelf.fetch_gives (map string_bytes words) _ _ _ _ g.K.Sink.written g.K.Sink.faults g.K.Sink.write_gives _ _ c.check-status.result c.as_str.result.now c.as_str-in-Some-Check.result.now asked refl bundle text c.check-status.ensures

pub returns-in-Some-Texts : goal.returns-in-Some-Texts
returns-in-Some-Texts g c =
    let words = c.args.words.now in
    let asked = sym c.command_of.ensures ∙ c.in-Some-Texts.is ∙ ap (λ (x : Command). Some x) c.in-Some-Texts.field-0-is in
    let four = texts_words (map string_bytes words) asked in
    let texts = c.as_str-in-Some-Texts.ensures.value ∙ word_at words 2 c.index-words-2-in-Some-Texts.result (among_four words 2 four (omega arith)) c.index-words-2-in-Some-Texts.is in
    let picks = c.as_str-in-Some-Texts-2.ensures.value ∙ word_at words 3 c.index-words-3-in-Some-Texts.result (among_four words 3 four (omega arith)) c.index-words-3-in-Some-Texts.is in
    texts_say g.S.Source.left g.S.Source.faults g.S.Source.read_gives g.F.Shelf.files g.F.Shelf.faults g.F.Shelf.sure g.F.Shelf.fetch_gives (map string_bytes words) _ _ _ _ g.K.Sink.written g.K.Sink.faults g.K.Sink.write_gives _ _ _ _ _ _ asked refl texts picks c.pick.ensures
