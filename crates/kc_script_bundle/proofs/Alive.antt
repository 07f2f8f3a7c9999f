-- Commands and cancels leave the number of live threads, and a thread's end takes one away.
use Rattle.std.proofs.Common.{◌≡◌, ◌≢◌, ℕ, ◌+◌, ◌-◌, ◌≤◌, ◌<◌, ◌^◌, ◌==◌, Bool, true, false, cond, List, [], Some, None, refl, sym, ap, ◌∙◌, subst, arith}
use Rattle.kc_loc.proofs.Values.{loc_has_value}
use Rattle.kc_loc.specs.Meaning.{loc_program}
use Rattle.kc_loc.specs.declared.operation.LocOp.TheVariants as loc
use Rattle.kc_model.specs.declared.reply.Reply.{Reply}
use Rattle.kc_model.specs.declared.reply.Reply.TheVariants as reply
use Rattle.kc_script_bundle.proofs.Fitting.{each_on}
use Rattle.kc_script_bundle.proofs.Flags.{live_flagged, live_cleared, one_less_at}
use Rattle.kc_script_bundle.proofs.Own.{first_of, behind_of, IsOnObject, op_stays, op_within}
use Rattle.kc_script_bundle.specs.Live.{IsThreadNumber, live_threads, is_flagged, flagged, cleared}
use Rattle.kc_script_bundle.specs.Meaning.{cancel_meaning, op_program, op_meaning, command_meaning, alone_program, thread_meaning, end_meaning}
use Rattle.kc_script_bundle.specs.On.{IsOn, CommandIsOn}
use Rattle.kc_script_bundle.specs.Script.{Names, LieFrom}
use Rattle.kc_script_bundle.specs.declared.cancel.Cancel.{Cancel}
use Rattle.kc_script_bundle.specs.declared.operation.Command.{Command}
use Rattle.kc_script_bundle.specs.declared.operation.Command.TheVariants as command
use Rattle.kc_script_bundle.specs.declared.operation.Op.{Op}
use Rattle.kc_script_bundle.specs.declared.operation.Op.TheVariants as op
use Rattle.kc_term.proofs.Closed.{IsClosed, of_term, map_after-append}
use Rattle.kc_term.specs.Tree.{operations}
use Rattle.kc_xt.proofs.Stay.{stays_outside}
use Rattle.kc_xt.proofs.Touching.{map_after-given_up}
use Rattle.kc_xt.specs.Meaning.{Outcome, replied, retried, too_large, Meaning, Run, Touch, map_after, then_run, else_run, given_up, touch}
use Rattle.kc_xt.specs.Program.{read, write, replies, retries, meaning, has_room, touching, full, wrapped}

-- it leaves the number of live threads at location 0
abbrev pub KeepsLive : Meaning → Type 0
KeepsLive p = (n : ℕ) (m : ℕ → ℕ) (ks : List ℕ) → live_threads (map_after m (p n m ks).touches 0) ≡ live_threads (m 0)

-- ---- meanings made of meanings

module _ (m : ℕ → ℕ) where
  live_then : (o : Outcome) (ts : List Touch) (f : Reply → Run) → live_threads (map_after m ts 0) ≡ live_threads (m 0) → ((a : Reply) → live_threads (map_after (map_after m ts) (f a).touches 0) ≡ live_threads (map_after m ts 0)) → live_threads (map_after m (then_run o ts f).touches 0) ≡ live_threads (m 0)
  live_then (replied a) ts f h g = ap (λ w. live_threads (w 0)) (map_after-append m ts (f a).touches) ∙ g a ∙ h
  live_then retried ts f h g = h
  live_then too_large ts f h g = h

  live_else : (o : Outcome) (ts : List Touch) (q : Run) → live_threads (map_after m ts 0) ≡ live_threads (m 0) → live_threads (map_after m q.touches 0) ≡ live_threads (m 0) → live_threads (map_after m (else_run o ts q).touches 0) ≡ live_threads (m 0)
  live_else (replied a) ts q h g = h
  live_else retried ts q h g = ap (λ w. live_threads (w 0)) (map_after-append m (given_up ts) q.touches ∙ ap (λ w. map_after w q.touches) (map_after-given_up m ts)) ∙ g
  live_else too_large ts q h g = h

live_closed : IsClosed KeepsLive
live_closed = record {
  nothing = λ items n m ks. refl;
  behind = λ p q hp hq n m ks. live_then m (p n m ks).outcome (p n m ks).touches _ (hp n m ks) (λ a. hq a n _ _);
  either = λ p q hp hq n m ks. live_else m (p n m ks).outcome (p n m ks).touches _ (hp n m ks) (hq n m _);
}

-- ---- what is written there

-- a cancel reads the value, and writes it with the flag of its thread set
pub cancel_sets : (c : Cancel) → cancel_meaning c ≡ meaning (read c.live.0 (λ v. write c.live.0 (flagged c.thread v) (replies reply.Unit)))
unfolding loc_program
cancel_sets c = refl

-- where there is room to put a value that counts as many
put_keeps : (room : Bool) (m : ℕ → ℕ) (v : ℕ) (o : Outcome) → live_threads v ≡ live_threads (m 0) → live_threads (map_after m (cond room (touching (record { cell = 0; wrote = Some v }) (record { outcome = o; touches = [] })) full).touches 0) ≡ live_threads (m 0)
put_keeps true m v o e = e
put_keeps false m v o e = refl

looked_keeps : (room : Bool) (m : ℕ → ℕ) (r : Run) → live_threads (map_after m r.touches 0) ≡ live_threads (m 0) → live_threads (map_after m (cond room (touching (record { cell = 0; wrote = None }) r) full).touches 0) ≡ live_threads (m 0)
looked_keeps true m r e = e
looked_keeps false m r e = refl

cancel_keeps : (thread : ℕ) → IsThreadNumber thread → KeepsLive (meaning (read 0 (λ v. write 0 (flagged thread v) (replies reply.Unit))))
cancel_keeps thread is n m ks = looked_keeps (has_room n ks 0) m _ (put_keeps (has_room n (touch ks 0) 0) m (flagged thread (m 0)) (replied reply.Unit) (live_flagged thread (m 0) is))

alone_keeps : (thread : ℕ) → IsThreadNumber thread → KeepsLive (meaning (alone_program 0 thread))
alone_keeps thread is n m ks = looked_keeps (has_room n ks 0) m _ (by (is_flagged thread (m 0)) (live_threads (m 0) == 1))
  where
    by : (flag one : Bool) → live_threads (map_after m (meaning (cond flag (write 0 (cleared thread (m 0)) (replies reply.Cancelled)) (cond one (replies reply.Stranded) retries)) n m (touch ks 0)).touches 0) ≡ live_threads (m 0)
    by true one = put_keeps (has_room n (touch ks 0) 0) m (cleared thread (m 0)) (replied reply.Cancelled) (live_cleared thread (m 0) is)
    by false true = refl
    by false false = refl

-- ---- commands

module _ (names : Names) (lie : LieFrom 1 names) where
  -- on an object it writes nothing there
  object_keeps : (o : Op) → IsOnObject o → IsOn names o → KeepsLive (op_meaning o)
  object_keeps o is on n m ks = ap live_threads (stays_outside (first_of o) (behind_of o) (op_program o replies) (op_stays o) n m ks 0 (λ l lo hi e. let p = op_within names lie o is on in omega (arith, p.0, lo, e)))

  op_keeps : (o : Op) → IsOn names o → KeepsLive (op_meaning o)
  op_keeps (op.Loc o) on = object_keeps (op.Loc o) tt on
  op_keeps (op.Stack o) on = object_keeps (op.Stack o) tt on
  op_keeps (op.Queue o) on = object_keeps (op.Queue o) tt on
  op_keeps (op.Mvar o) on = object_keeps (op.Mvar o) tt on
  op_keeps (op.Promise o) on = object_keeps (op.Promise o) tt on
  op_keeps (op.Acc o) on = object_keeps (op.Acc o) tt on
  op_keeps (op.Hash o) on = object_keeps (op.Hash o) tt on
  op_keeps (op.Grow o) on = object_keeps (op.Grow o) tt on
  op_keeps (op.Cache o) on = object_keeps (op.Cache o) tt on
  op_keeps (op.Cancel c) on = subst KeepsLive (sym (cancel_sets c)) (rw on.0 (cancel_keeps c.thread on.1))

  pub command_keeps_live : (c : Command) → CommandIsOn names c → KeepsLive (command_meaning c)
  command_keeps_live (command.One o) on = op_keeps o on
  command_keeps_live (command.Block t) on = of_term live_closed op_meaning t (each_on names op_keeps (operations t) on.1)

  pub thread_keeps_live : (thread : ℕ) (c : Command) → IsThreadNumber thread → CommandIsOn names c → KeepsLive (thread_meaning 0 thread c)
  thread_keeps_live thread c is on = live_closed.either (command_meaning c) (meaning (alone_program 0 thread)) (command_keeps_live c on) (alone_keeps thread is)

-- ---- a thread's end

module _ (n : ℕ) (m : ℕ → ℕ) (ks : List ℕ) (fits : m 0 < 2 ^ 32) (some : 1 ≤ live_threads (m 0)) (ended : (end_meaning 0 n m ks).outcome ≢ too_large) where
  end_puts : map_after m (end_meaning 0 n m ks).touches 0 ≡ m 0 - 1
  end_puts =
      let less : wrapped (m 0 + (2 ^ 32 - 1)) ≡ m 0 - 1 = omega (arith, fits, some) in
      ap (λ w. w 0) (loc_has_value (loc.Decr (record { 0 = 0 })) n m ks ended).1 ∙ less

  pub end_takes_one : live_threads (map_after m (end_meaning 0 n m ks).touches 0) + 1 ≡ live_threads (m 0)
  end_takes_one = ap (λ v. live_threads v + 1) end_puts ∙ omega (arith, some)

  pub end_leaves_flags : (thread : ℕ) → IsThreadNumber thread → is_flagged thread (map_after m (end_meaning 0 n m ks).touches 0) ≡ is_flagged thread (m 0)
  end_leaves_flags thread is = ap (is_flagged thread) end_puts ∙ one_less_at thread (m 0) is some
