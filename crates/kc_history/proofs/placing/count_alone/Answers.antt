use Rattle.std.proofs.Common.{arith}
use Rattle.std.proofs.lemmas.List.Elements.{All-more}
use Rattle.kc_history.proofs.Tallies.{all_taken, taken_all}
use Rattle.kc_history.specs.Tested.{IsReadByOne}
use Rattle.kc_model.specs.declared.footprint.Put.{Put}
use Rattle.kc_history.proofs.placing.count_alone.Goals as goal

abbrev zero_put : Put
zero_put = record { loc = record { 0 = 0 }; version = 0; after = 0 }

pub loop-i-init : goal.loop-i-init
loop-i-init c = c.requires.known

pub returns-then-left-starts-ne1-clause-alone : goal.returns-then-left-starts-ne1-clause-alone
returns-then-left-starts-ne1-clause-alone c = c.loop-i.invariant

pub loop-i-preserved : goal.loop-i-preserved
loop-i-preserved c = All-more (IsReadByOne c.args.versions.now c.args.starts.now c.args.left.now) c.args.puts.now c.loop-i.i zero_put c.loop-i-test.true c.loop-i.invariant c.if-left-starts-ne1.false

pub returns-clause-alone : goal.returns-clause-alone
returns-clause-alone c = taken_all (IsReadByOne c.args.versions.now c.args.starts.now c.args.left.now) c.args.puts.now (all_taken (IsReadByOne c.args.versions.now c.args.starts.now c.args.left.now) c.args.puts.now c.loop-i.i c.loop-i-test.false c.loop-i.invariant)

pub returns-clause-all : goal.returns-clause-all
returns-clause-all c = (λ _. all_taken (IsReadByOne c.args.versions.now c.args.starts.now c.args.left.now) c.args.puts.now c.loop-i.i c.loop-i-test.false c.loop-i.invariant, λ _. omega arith)
