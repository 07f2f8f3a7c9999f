use Rattle.std.proofs.Common.{◌≡◌, ◌++◌, ◌∷◌, [], rules}
use Rattle.std.proofs.lemmas.Result.{err_from_is_err_and}
use Rattle.kc_script.proofs.Trees.{nest_fails, goes_on, first_fails, second_fails, nest_last}
use Rattle.kc_script.specs.Blocks.{sequence}
use Rattle.kc_script.specs.Reading.{lists}
use Rattle.kc_script_lines.specs.declared.complaint.Complaint.TheVariants.{Here}
use Rattle.kc_script.proofs.blocks.block_of.Goals as goal

pub returns-in_err-term : goal.returns-in_err-term
returns-in_err-term c =
    let p = err_from_is_err_and c.from_residual.result c.from_residual.ensures.1 in
    rw (p.1, p.2) (nest_fails (lists c.args.block.done.items) (sequence c.args.block.parts.items) (Here c.in_err-term.field-0.0) c.in_err-term.ensures)

pub returns-in_err-one : goal.returns-in_err-one
returns-in_err-one c =
    let d : c.loop-alternative.done.items ≡ c.pop.new.self.items ++ c.in-Some.alternative ∷ [] = search rules in
    let p = err_from_is_err_and c.from_residual-in_err-one.result c.from_residual-in_err-one.ensures.1 in
    rw (p.1, p.2) (first_fails c.loop-alternative.done.items c.pop.new.self.items c.in-Some.alternative c.loop-alternative.term _ d c.loop-alternative.invariant (Here c.in_err-one.field-0.0) c.in_err-one.ensures)

pub returns-in_err-term-2 : goal.returns-in_err-term-2
returns-in_err-term-2 c =
    let d : c.loop-alternative.done.items ≡ c.pop.new.self.items ++ c.in-Some.alternative ∷ [] = search rules in
    let p = err_from_is_err_and c.from_residual-in_err-term-2.result c.from_residual-in_err-term-2.ensures.1 in
    rw (p.1, p.2) (second_fails c.loop-alternative.done.items c.pop.new.self.items c.in-Some.alternative c.loop-alternative.term _ d c.loop-alternative.invariant c.in_ok-one.one c.in_err-term-2.field-0.0 c.in_ok-one.ensures c.in_err-term-2.ensures)

pub loop-alternative-preserved : goal.loop-alternative-preserved
loop-alternative-preserved c =
    let d : c.loop-alternative.done.items ≡ c.pop.new.self.items ++ c.in-Some.alternative ∷ [] = search rules in
    goes_on c.loop-alternative.done.items c.pop.new.self.items c.in-Some.alternative c.loop-alternative.term _ d c.loop-alternative.invariant c.in_ok-one.one c.in_ok-term-2.term c.in_ok-one.ensures c.in_ok-term-2.ensures

pub returns : goal.returns
returns c =
    let d : c.loop-alternative.done.items ≡ [] = search rules in
    nest_last c.loop-alternative.done.items c.loop-alternative.term _ d c.loop-alternative.invariant
