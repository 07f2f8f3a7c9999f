-- A handle may cross threads, as what it holds may.
use Prim.Native.Nat.{ℕ, zero, suc}
use base.Shift.{Keyless}
use denote.Builtin.{RawPtr, u32}
use denote.Memory.{lone}
use denote.Param.Send.{AllSend, IsSend, owning_send, sendable, struct_send}
use denote.RawPtr.{Ptr}
use denote.Struct.Owning.{fields, shape, to}
use denote.Struct.Struct.{exits_of}
use mir.Raw.{raw}
use Rattle.std.proofs.Crossing.{frees}
use Rattle.std.specs.Box.Ownership.{box_owns}
use Rattle.std_alloc.proofs.SendSync.{lies, quiet}
use Rattle.kc_c.proofs.client.Client.TheSendSync.{the_send}
use Rattle.kc_c.specs.Held.{chunk, held_while}
use Rattle.kc_c.specs.contracts.client.Client.{the_row as Client}
use Rattle.kc_c.specs.contracts.handle.KcasCaller as handle

word_send : IsSend u32
word_send = search sendable

pointer_send : IsSend RawPtr
pointer_send = search sendable

-- what it owns of the heap may be given back anywhere
keyless : (n : ℕ) (p : Ptr) (x : (Client).Denot) → Keyless (held_while n (box_owns chunk Client p x))
keyless zero p x = tt
keyless (suc n) p x = (lies Client the_send p x, frees.frees (record { memory = record { seal = tt } }) (raw (lone (Client).mir)) p)

pub send : IsSend handle.the_row
send =
    let O = handle.the_type in
    let all : AllSend (fields O) = (word_send, (pointer_send, tt)) in
    owning_send O all (λ d. keyless d.held d.at d.value) (λ k. quiet (to O) (exits_of k (fields O)) ((struct_send (shape O) all).leaving k))
