-- Where the objects of a storm lie, and that its commands are on them.
use Rattle.std.proofs.Common.{◌≡◌, ℕ, zero, suc, ◌%◌, ◌<◌, inl, inr, [], length, slice_index_or, refl, arith, lit<, lit≤}
use Rattle.std.proofs.Math.Nat.{mod-lt}
use Rattle.kc_script_bundle.specs.declared.object.Object.TheVariants as object
use Rattle.kc_script_bundle.specs.On.{IsLocation, CommandIsOn, CommandsAreOn}
use Rattle.kc_script_bundle.specs.Script.{LieFrom, next_from, LiesInOrder, AreSized, HasObject}
use Rattle.kc_script_storm.proofs.Drawn.{length-commands}
use Rattle.kc_script_storm.specs.Storm.{accumulator, storm_place, kind, high, next_draw, storm_command, drawn_commands, storm_script, storm_objects}

pub storm_lies : (n : ℕ) → LiesInOrder (storm_script n)
unfolding LieFrom next_from
storm_lies n = record { lie = (refl, (refl, (refl, (refl, (refl, (refl, (refl, (refl, (refl, tt))))))))); within = lit≤ tt }

pub storm_sized : (n : ℕ) → AreSized (storm_script n).objects
storm_sized n = (tt, (tt, (tt, (tt, (tt, (tt, (tt, (tt, ((lit≤ tt, lit≤ tt), tt)))))))))

pub thread_length : (n t : ℕ) → t < 4 → length (slice_index_or (storm_script n).threads t []) ≡ 2000
thread_length n zero lt = length-commands 1 2000 _
thread_length n (suc zero) lt = length-commands 2 2000 _
thread_length n (suc (suc zero)) lt = length-commands 3 2000 _
thread_length n (suc (suc (suc zero))) lt = length-commands 4 2000 _
thread_length n (suc (suc (suc (suc t)))) lt = absurd (omega arith)

declared : (i : ℕ) → i < 8 → HasObject storm_objects (object.Loc (storm_place i) 0)
declared zero lt = inl refl
declared (suc zero) lt = inr (inl refl)
declared (suc (suc zero)) lt = inr (inr (inl refl))
declared (suc (suc (suc zero))) lt = inr (inr (inr (inl refl)))
declared (suc (suc (suc (suc zero)))) lt = inr (inr (inr (inr (inl refl))))
declared (suc (suc (suc (suc (suc zero))))) lt = inr (inr (inr (inr (inr (inl refl)))))
declared (suc (suc (suc (suc (suc (suc zero)))))) lt = inr (inr (inr (inr (inr (inr (inl refl))))))
declared (suc (suc (suc (suc (suc (suc (suc zero))))))) lt = inr (inr (inr (inr (inr (inr (inr (inl refl)))))))
declared (suc (suc (suc (suc (suc (suc (suc (suc i)))))))) lt = absurd (omega arith)

on_place : (k : ℕ) → IsLocation storm_objects (storm_place (k % 8))
on_place k = (0, declared (k % 8) (mod-lt k (lit< tt)))

on_accumulator : HasObject storm_objects (object.Acc accumulator)
on_accumulator = inr (inr (inr (inr (inr (inr (inr (inr (inl refl))))))))

drawn_on : (thread x k : ℕ) → CommandIsOn storm_objects (storm_command thread x k)
drawn_on thread x zero = on_place x
drawn_on thread x (suc zero) = on_accumulator
drawn_on thread x (suc (suc zero)) = (lit≤ tt, (on_place x, (on_place _, tt)))
drawn_on thread x (suc (suc (suc k))) = on_place x

commands_on : (thread count s : ℕ) → CommandsAreOn storm_objects (drawn_commands thread count s)
unfolding drawn_commands
commands_on thread zero s = tt
commands_on thread (suc count) s = (drawn_on thread (high (next_draw s)) (kind (high (next_draw s))), commands_on thread count (next_draw s))

pub thread_on : (n t : ℕ) → CommandsAreOn (storm_script n).objects (slice_index_or (storm_script n).threads t [])
thread_on n zero = commands_on 1 2000 _
thread_on n (suc zero) = commands_on 2 2000 _
thread_on n (suc (suc zero)) = commands_on 3 2000 _
thread_on n (suc (suc (suc zero))) = commands_on 4 2000 _
thread_on n (suc (suc (suc (suc t)))) = tt
