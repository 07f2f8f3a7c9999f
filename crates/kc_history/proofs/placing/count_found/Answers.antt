use Rattle.std.proofs.Common.{arith}
use Rattle.std.proofs.lemmas.List.Elements.{All-more}
use Rattle.kc_history.proofs.Tallies.{all_taken, taken_all}
use Rattle.kc_history.specs.Tested.{FindsVersion}
use Rattle.kc_model.specs.declared.footprint.Seen.{Seen}
use Rattle.kc_history.proofs.placing.count_found.Goals as goal

abbrev zero_seen : Seen
zero_seen = record { loc = record { 0 = 0 }; version = 0; value = 0 }

pub loop-i-init : goal.loop-i-init
loop-i-init c = c.requires.known

pub returns-then-versions-reads-clause-found : goal.returns-then-versions-reads-clause-found
returns-then-versions-reads-clause-found c = c.loop-i.invariant

pub loop-i-preserved : goal.loop-i-preserved
loop-i-preserved c = All-more (FindsVersion c.args.versions.now) c.args.reads.now c.loop-i.i zero_seen c.loop-i-test.true c.loop-i.invariant c.if-versions-reads.false

pub returns-clause-found : goal.returns-clause-found
returns-clause-found c = taken_all (FindsVersion c.args.versions.now) c.args.reads.now (all_taken (FindsVersion c.args.versions.now) c.args.reads.now c.loop-i.i c.loop-i-test.false c.loop-i.invariant)

pub returns-clause-all : goal.returns-clause-all
returns-clause-all c = (λ _. all_taken (FindsVersion c.args.versions.now) c.args.reads.now c.loop-i.i c.loop-i-test.false c.loop-i.invariant, λ _. omega arith)
