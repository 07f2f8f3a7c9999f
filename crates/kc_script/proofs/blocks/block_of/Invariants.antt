use Rattle.std.proofs.Common.{◌≡◌, vec_len}
use Rattle.kc_script.specs.Blocks.{good, nest, block_of}
use Rattle.kc_script.specs.Reading.{lists, open_of}
use Rattle.kc_script.proofs.blocks.block_of.Given as goal

abbrev pub invariant-loop-alternative : goal.invariant-loop-alternative
invariant-loop-alternative l = nest (lists l.done.items) (good l.term) ≡ block_of (open_of l.fn.block)

abbrev pub decreases-loop-alternative : goal.decreases-loop-alternative
decreases-loop-alternative l = vec_len l.done
