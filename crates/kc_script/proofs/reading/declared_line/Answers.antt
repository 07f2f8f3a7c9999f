use Rattle.std.proofs.Common.{ap, arith}
use Rattle.std.specs.Prelude.{map}
use Rattle.kc_script.proofs.Objects.{next_from_more}
use Rattle.kc_script_bundle.specs.Script.{next_from, names_of}
use Rattle.kc_script_lines.specs.Tests.{word_at}
use Rattle.kc_script.proofs.reading.declared_line.Goals as goal

pub invariant_of-reader-2-clause-follows : goal.invariant_of-reader-2-clause-follows
invariant_of-reader-2-clause-follows c =
    let old = c.args.reader.now in
    let more = next_from_more 1 (names_of old.objects) (word_at (map (λ word. word.now) c.args.args.now) 0, c.in_ok-object.object) in
    let same = ap (next_from 1) c.in_ok-object.ensures.added in
    omega (arith, old.follows, more, same, c.cells.ensures)
