-- What a handle owns: something while its word is not 0.
use Prim.Native.Nat.{ℕ, suc, zero}
use mir.Syntax.{Ty}
use base.Fml.{Fml, ftrue}
use denote.RawPtr.{Ptr}
use Rattle.std_heap.specs.contracts.GlobalAllocator.TheImpl.{ghosts}

-- the right to give a block back to the heap
abbrev pub chunk : Ty → Ptr → Fml
chunk = ghosts.dealloc_token (record { memory = record { seal = tt } })

abbrev pub held_while : ℕ → Fml → Fml
held_while zero f = ftrue
held_while (suc n) f = f
