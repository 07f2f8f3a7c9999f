use Rattle.std.proofs.Common.{◌<◌, ◌∙◌, add-one, ap, get_or, length, rules, slice_set, subst, suc, sym, ℕ}
use Rattle.kc_lasting.proofs.Gathering.{HasTaken, all_pass, here_as_it_was, passed_one, taken_first, taken_more}
use Rattle.kc_lasting.specs.Told.{DoesNothing, standing_of}
use Rattle.kc_lasting.specs.declared.handle.LastingCaller.{LastingCaller}
use Rattle.kc_lasting.proofs.handle.LastingCaller.take_all_in.Goals as goal

pub loop-at-init : goal.loop-at-init
loop-at-init g c = taken_first (standing_of c.args.self.now) c.args.others.now

pub take_in-requires : goal.take_in-requires
take_in-requires g c =
    let olds = c.args.others.now in
    let i = c.loop-at.invariant in
    let lt : c.loop-at.at < length olds = search rules in
    let x = c.index-others-at.result in
    record { of = ap (λ (o : LastingCaller). (standing_of o).roll) (here_as_it_was c.loop-at.at olds c.loop-at.others x i.passed) ∙ c.requires c.loop-at.at x lt ∙ sym i.moves.roll }

pub returns-then-not-take_in-clause-pass : goal.returns-then-not-take_in-clause-pass
returns-then-not-take_in-clause-pass g c =
    let olds = c.args.others.now in
    let k = c.loop-at.at in
    let i = c.loop-at.invariant in
    let lt : k < length olds = search rules in
    let x = c.index-others-at.result in
    let o = c.take_in.new.other in
    let one : DoesNothing (standing_of (get_or olds k x)) (standing_of o) = subst (λ (y : LastingCaller). DoesNothing (standing_of y) (standing_of o)) (here_as_it_was k olds c.loop-at.others x i.passed) c.take_in.ensures.passes in
    all_pass (suc k) olds (slice_set c.loop-at.others k o) (passed_one k olds c.loop-at.others x o lt i.passed one)

pub loop-at-preserved : goal.loop-at-preserved
loop-at-preserved g c =
    let olds = c.args.others.now in
    let k = c.loop-at.at in
    let i = c.loop-at.invariant in
    let lt : k < length olds = search rules in
    let x = c.index-others-at.result in
    let r = c.take_in in
    subst (λ (n : ℕ). HasTaken (standing_of c.args.self.now) (standing_of r.new.self) n olds (slice_set c.loop-at.others k r.new.other)) (sym (add-one k)) (taken_more (standing_of c.args.self.now) (standing_of c.loop-at.self) (standing_of r.new.self) k olds c.loop-at.others x r.new.other lt i r.ensures.passes (r.ensures.ends (search rules)) r.ensures.moves)

pub returns-clause-pass : goal.returns-clause-pass
returns-clause-pass g c = all_pass c.loop-at.at c.args.others.now c.loop-at.others c.loop-at.invariant.passed
