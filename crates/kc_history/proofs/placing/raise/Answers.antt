use Rattle.std.proofs.Common.{◌≡◌, ◌<◌, length, slice_index, slice_index_or, arith, rules}
use Rattle.kc_history.proofs.Tallies.{raised_more, unraised}
use Rattle.kc_model.specs.declared.footprint.Put.{Put}
use Rattle.kc_history.proofs.placing.raise.Goals as goal

abbrev zero_put : Put
zero_put = record { loc = record { 0 = 0 }; version = 0; after = 0 }

pub overflow_add-versions : goal.overflow_add-versions
overflow_add-versions c =
    let a : slice_index c.loop-put.versions (slice_index_or c.args.puts.now c.loop-put.put-index zero_put).loc.0 ≡ slice_index c.args.versions.now (slice_index_or c.args.puts.now c.loop-put.put-index zero_put).loc.0 = unraised c.loop-put.versions c.args.versions.now c.args.puts.now c.loop-put.put-index zero_put c.requires.rise c.loop-put-test.true c.loop-put.invariant in
    let b = c.requires.room c.loop-put.put-index zero_put c.loop-put-test.true in
    search rules

pub loop-put-preserved : goal.loop-put-preserved
loop-put-preserved c =
    let b = c.requires.below c.loop-put.put-index zero_put c.loop-put-test.true in
    let e = c.loop-put.auto.versions in
    let in_ : (slice_index_or c.args.puts.now c.loop-put.put-index zero_put).loc.0 < length c.loop-put.versions = omega arith in
    raised_more c.loop-put.versions c.args.versions.now c.args.puts.now c.loop-put.put-index zero_put c.requires.rise c.loop-put-test.true in_ c.loop-put.invariant
