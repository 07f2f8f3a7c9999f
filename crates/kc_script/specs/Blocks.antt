-- The lines of blocks, as the parser reads them; private to this crate. The block that is open innermost stands first.
use Rattle.std.specs.Prelude.{ℕ, ◌+◌, Bool, true, false, List, [], ◌∷◌, ◌++◌, length, Result, Ok, Err, nat_le, nat_lt}
use Rattle.kc_script_bundle.specs.declared.bundle.TheConstants.{MOST_COMMANDS}
use Rattle.kc_script_bundle.specs.declared.operation.Command.{Command}
use Rattle.kc_script_bundle.specs.declared.operation.Op.{Op}
use Rattle.kc_script_lines.specs.Tests.{◌>>=◌, wants, counted}
use Rattle.kc_script_lines.specs.declared.fault.Limit.TheVariants.{Commands as CommandsLimit, Block as BlockLimit, Depth}
use Rattle.kc_script_lines.specs.declared.fault.Why.{Why}
use Rattle.kc_script_lines.specs.declared.fault.Why.TheVariants.{StrayWord, TooMany}
use Rattle.kc_term.specs.Tree.{Tree, op, seq, first, trees, all_operations, nesting}
use Rattle.kc_term.specs.declared.term.TheConstants.{MOST_OPERATIONS}
use Rattle.kc_script_bundle.specs.declared.operation.Command.TheVariants as command

-- a block that is open: the level where its lines stand, the alternatives that are done, and the parts of the one that is not
pub record OpenBlock : Type 0 where
  pub level : ℕ
  pub done : List (List (Tree Op))
  pub parts : List (Tree Op)

-- the commands of a thread so far, the blocks that are open, and how many commands and blocks the outermost one has
pub record Place : Type 0 where
  pub here : List Command
  pub open_blocks : List OpenBlock
  pub count : ℕ

-- ---- the tree of a block

abbrev pub good : {A : Type 0} → A → Result A Why
good x = Ok x

unfoldable pub sequence : List (Tree Op) → Result (Tree Op) Why
sequence parts = do
  few ← wants (nat_le (length (all_operations (trees parts))) MOST_OPERATIONS) (TooMany BlockLimit)
  Ok (seq (trees parts))

unfoldable pub either : Tree Op → Tree Op → Result (Tree Op) Why
either a b = do
  shallow ← wants (nat_le (nesting (first a b)) 8) (TooMany Depth)
  Ok (first a b)

-- an alternative in front of others
unfoldable pub in_front : List (Tree Op) → Result (Tree Op) Why → Result (Tree Op) Why
in_front parts rest = do
  others ← rest
  one ← sequence parts
  either one others

-- first of the first and the rest
unfoldable pub nest : List (List (Tree Op)) → Result (Tree Op) Why → Result (Tree Op) Why
nest [] last = last
nest (parts ∷ more) last = in_front parts (nest more last)

abbrev pub block_of : OpenBlock → Result (Tree Op) Why
block_of b = nest b.done (sequence b.parts)

-- ---- the lines

abbrev pub in_block : List OpenBlock → Bool
in_block [] = false
in_block (b ∷ outer) = true

-- Room for one more command or block where the lines stand, and how many commands and blocks the outermost block then has
-- behind its beginning.
unfoldable pub counted_up : Place → List OpenBlock → Result ℕ Why
counted_up p [] = do
  room ← wants (nat_lt (length p.here) MOST_COMMANDS) (TooMany CommandsLimit)
  Ok 0
counted_up p (b ∷ outer) = do
  room ← wants (nat_lt p.count MOST_OPERATIONS) (TooMany BlockLimit)
  Ok (p.count + 1)

-- an operation where the lines stand
abbrev pub with_op : Place → List OpenBlock → ℕ → Op → Place
with_op p [] count o = record p { here = p.here ++ command.One o ∷ []; open_blocks = []; count = count }
with_op p (b ∷ outer) count o = record p { open_blocks = record b { parts = b.parts ++ op o ∷ [] } ∷ outer; count = count }

-- a block where the lines stand behind its end
abbrev pub with_block : Place → List OpenBlock → Tree Op → Place
with_block p [] t = record p { here = p.here ++ command.Block t ∷ []; open_blocks = []; count = 0 }
with_block p (b ∷ outer) t = record p { open_blocks = record b { parts = b.parts ++ t ∷ [] } ∷ outer }

unfoldable pub op_line : Place → Op → Result Place Why
op_line p o = do
  count ← counted_up p p.open_blocks
  Ok (with_op p p.open_blocks count o)

-- the level of a block that begins where the lines stand
abbrev pub level_here : List OpenBlock → ℕ
level_here [] = 0
level_here (b ∷ outer) = b.level + 1

unfoldable pub atomic_line : Place → List (List ℕ) → Result Place Why
atomic_line p args = do
  all ← counted 0 args
  count ← counted_up p p.open_blocks
  shallow ← wants (nat_le (level_here p.open_blocks) 8) (TooMany Depth)
  Ok (record p { open_blocks = record { level = level_here p.open_blocks; done = []; parts = [] } ∷ p.open_blocks; count = count })

unfoldable pub or_at : Place → List OpenBlock → List (List ℕ) → Result Place Why
or_at p [] args = Err StrayWord
or_at p (b ∷ outer) args = do
  all ← counted 0 args
  shallow ← wants (nat_lt b.level 8) (TooMany Depth)
  Ok (record p { open_blocks = record { level = b.level + 1; done = b.done ++ b.parts ∷ []; parts = [] } ∷ outer })

unfoldable pub end_at : Place → List OpenBlock → List (List ℕ) → Result Place Why
end_at p [] args = Err StrayWord
end_at p (b ∷ outer) args = do
  all ← counted 0 args
  t ← block_of b
  Ok (with_block p outer t)
