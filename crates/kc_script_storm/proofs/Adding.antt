-- Operations that only add: what they come to, whatever the store holds.
use Rattle.kc_script_runs.specs.Threads.{asked}
use Rattle.std.proofs.Common.{◌≡◌, ℕ, ◌+◌, ◌^◌, ◌<◌, ◌==◌, Bool, true, false, cond, List, [], ◌∷◌, ◌++◌, Some, None, length, refl, sym, ap, ◌∙◌, arith, lit<}
use Rattle.std.specs.Prelude.{sum_by}
use Rattle.std.proofs.Math.Nat.{mod-add-mod, mod-lt, mod-eq_of_lt}
use Rattle.std.proofs.lemmas.Bool.Decides.{nat_tests}
use Rattle.std.proofs.lemmas.List.Sums.{sum_by-cons}
use Rattle.kc_model.specs.declared.footprint.TheConstants.{MOST}
use Rattle.kc_model.specs.declared.reply.Item.TheVariants as item
use Rattle.kc_model.specs.declared.reply.Reply.{Reply}
use Rattle.kc_model.specs.declared.reply.Reply.TheVariants as reply
use Rattle.kc_model.specs.declared.reply.Answer.TheVariants as answer
use Rattle.kc_loc.specs.declared.kinds.Fun.TheVariants as fun
use Rattle.kc_loc.specs.declared.operation.LocOp.TheVariants as loc
use Rattle.kc_cells.specs.declared.accumulator.Accumulator.{Accumulator}
use Rattle.kc_loc.specs.Meaning.{loc_program}
use Rattle.kc_cells.specs.declared.accumulator.AccAct.TheVariants as act
use Rattle.kc_cells.specs.Accumulator.{bumped_cell}
use Rattle.kc_script_bundle.specs.declared.operation.Op.{Op}
use Rattle.kc_term.specs.Meaning.{items_of, parts_meaning}
use Rattle.kc_term.specs.Tree.{op, seq, trees, none, more}
use Rattle.kc_xt.proofs.Lines.{contains-insert}
use Rattle.kc_xt.specs.Meaning.{Meaning, Run, Touch, replied, map_after, joined, then_run, touch, touched_after, contains_location, insert_location, put, limited}
use Rattle.kc_xt.specs.Program.{Program, read, write, replies, meaning, has_room, wrapped}
use Rattle.kc_script_bundle.specs.declared.operation.Op.TheVariants as operation
use Rattle.kc_script_bundle.specs.declared.operation.Command.{Command}
use Rattle.kc_script_bundle.specs.declared.operation.Command.TheVariants as command
use Rattle.kc_script_bundle.specs.Meaning.{op_meaning, command_meaning, thread_meaning, end_meaning}
use Rattle.kc_script_storm.specs.State.{at_cell, op_adds, command_adds}
use Rattle.kc_script_storm.specs.Summary.{all_ok}

-- all values are numbers of 32 bits
abbrev pub Small : (ℕ → ℕ) → Type 0
Small v = (l : ℕ) → v l < 2 ^ 32

-- It replies the same on all values, `ok` items alone, and adds so much to each location.
pub record Adds (m : Meaning) (adds : ℕ → ℕ) : Type 0 where
  pub reply : Reply
  pub ok : all_ok (answer.Reply reply) ≡ true
  pub outcome : (v : ℕ → ℕ) → (m MOST v []).outcome ≡ replied reply
  pub leaves : (v : ℕ → ℕ) → Small v → (l : ℕ) → map_after v (m MOST v []).touches l ≡ wrapped (v l + adds l)

-- ---- one location

abbrev adding : ℕ → ℕ → Program
adding l a = read l (λ v. write l (wrapped (v + a)) (replies reply.Unit))

abbrev touches_of : ℕ → ℕ → (ℕ → ℕ) → List Touch
touches_of l a m = record { cell = l; wrote = None } ∷ record { cell = l; wrote = Some (wrapped (m l + a)) } ∷ []

abbrev added_run : ℕ → ℕ → (ℕ → ℕ) → Run
added_run l a m = record { outcome = replied reply.Unit; touches = touches_of l a m }

room : (n : ℕ) (ks : List ℕ) (l : ℕ) → length ks < n → has_room n ks l ≡ true
room n ks l lt = grind (arith, nat_tests)

touched_is : (ks : List ℕ) (l : ℕ) → contains_location (touch ks l) l ≡ true
touched_is ks l = by (contains_location ks l) refl
  where
    by : (b : Bool) → contains_location ks l ≡ b → contains_location (cond b ks (insert_location ks l)) l ≡ true
    by true e = e
    by false e = contains-insert ks l

room_again : (n : ℕ) (ks : List ℕ) (l : ℕ) → has_room n (touch ks l) l ≡ true
room_again n ks l = rw (touched_is ks l) refl

adding_runs : (n l a : ℕ) (m : ℕ → ℕ) (ks : List ℕ) → length ks < n → meaning (adding l a) n m ks ≡ added_run l a m
adding_runs n l a m ks lt = rw (room n ks l lt, room_again n ks l) refl

-- a sum of 32 bits is such a number
pub small_wrapped : (n : ℕ) → wrapped n < 2 ^ 32
small_wrapped n = mod-lt n (lit< tt)

-- what a location holds where one is added to
put_adds : (v : ℕ → ℕ) (at a l : ℕ) → v l < 2 ^ 32 → put v at (wrapped (v at + a)) l ≡ wrapped (v l + at_cell at a l)
put_adds v at a l small = by (at == l) refl
  where
    by : (b : Bool) → (at == l) ≡ b → cond b (wrapped (v at + a)) (v l) ≡ wrapped (v l + cond b a 0)
    by true e = let is : at ≡ l = grind (arith, nat_tests, e) in ap (λ (k : ℕ). wrapped (v k + a)) is
    by false e = let same : v l + 0 ≡ v l = omega arith in sym (mod-eq_of_lt small) ∙ ap wrapped (sym same)

put_small : (v : ℕ → ℕ) (at a : ℕ) → Small v → Small (put v at (wrapped (v at + a)))
put_small v at a small l = by (at == l)
  where
    by : (b : Bool) → cond b (wrapped (v at + a)) (v l) < 2 ^ 32
    by true = small_wrapped (v at + a)
    by false = small l

-- an operation that means such a program adds
adding_adds : (at a : ℕ) → Adds (meaning (adding at a)) (at_cell at a)
adding_adds at a = record {
  reply = reply.Unit;
  ok = refl;
  outcome = λ v. ap (λ (r : Run). r.outcome) (adding_runs MOST at a v [] (lit< tt));
  leaves = λ v small l. ap (λ (r : Run). map_after v r.touches l) (adding_runs MOST at a v [] (lit< tt)) ∙ put_adds v at a l (small l);
}

-- ---- a command of a thread

-- a command that replies is all that the thread's command comes to
in_thread : (thread : ℕ) (c : Command) (adds : ℕ → ℕ) → Adds (command_meaning c) adds → Adds (thread_meaning 0 thread c) adds
in_thread thread c adds h = record {
  reply = h.reply;
  ok = h.ok;
  outcome = λ v. rw (h.outcome v) refl;
  leaves = λ v small l. rw (h.outcome v) (h.leaves v small l);
}

abbrev adding_op : ℕ → ℕ → Op
adding_op at a = operation.Loc (loc.Modify (record { 0 = at }) (fun.Add a))

pub modify_adds : (thread at a : ℕ) → Adds (thread_meaning 0 thread (command.One (adding_op at a))) (at_cell at a)
unfolding loc_program
modify_adds thread at a = in_thread thread (command.One (adding_op at a)) (at_cell at a) (adding_adds at a)

pub incr_adds : (thread at : ℕ) → Adds (thread_meaning 0 thread (command.One (operation.Loc (loc.Incr (record { 0 = at }))))) (at_cell at 1)
unfolding loc_program
incr_adds thread at = in_thread thread (command.One (operation.Loc (loc.Incr (record { 0 = at })))) (at_cell at 1) (adding_adds at 1)

pub bump_adds : (thread : ℕ) (x : Accumulator) (c a : ℕ) → Adds (thread_meaning 0 thread (command.One (operation.Acc (record { acc = x; act = act.Bump c a })))) (at_cell (bumped_cell x c) a)
bump_adds thread x c a = in_thread thread (command.One (operation.Acc (record { acc = x; act = act.Bump c a }))) (at_cell (bumped_cell x c) a) (adding_adds (bumped_cell x c) a)

-- the end of a thread adds to location 0, which goes round
pub end_adds : Adds (end_meaning 0) (at_cell 0 4294967295)
unfolding loc_program
end_adds = adding_adds 0 4294967295

-- ---- two in a block

sum_of_two : {X : Type 0} (k : ℕ) (f : X → ℕ) (x y : X) → k + f x + f y ≡ k + sum_by f (x ∷ y ∷ [])
sum_of_two k f x y = let s = sum_by-cons f x (y ∷ []) in let t = sum_by-cons f y [] in omega (arith, s, t)

abbrev both : ℕ → ℕ → ℕ → ℕ → Command
both at a to b = command.Block (seq (trees (op (adding_op at a) ∷ op (adding_op to b) ∷ [])))

abbrev both_run : ℕ → ℕ → ℕ → ℕ → (ℕ → ℕ) → Run
both_run at a to b v = record {
  outcome = replied (reply.Many (item.Unit ∷ item.Unit ∷ []));
  touches = touches_of at a v ++ (touches_of to b (put v at (wrapped (v at + a))) ++ []);
}

few_touched : (at : ℕ) → length (touch (touch [] at) at) < MOST
few_touched at = rw (touched_is [] at) (lit< tt)

both_runs : (at a to b : ℕ) (v : ℕ → ℕ) → command_meaning (both at a to b) MOST v [] ≡ both_run at a to b v
unfolding loc_program
both_runs at a to b v =
    let w : ℕ → ℕ = put v at (wrapped (v at + a)) in
    let ks : List ℕ = touch (touch [] at) at in
    let behind : Run → Run = λ r. then_run r.outcome r.touches (λ x. parts_meaning op_meaning (more (op (adding_op to b)) none) (items_of x) MOST (map_after v r.touches) (touched_after [] r.touches)) in
    let last : Run → Run = λ r. joined (touches_of at a v) (then_run r.outcome r.touches (λ x. meaning (replies (reply.Many (item.Unit ∷ items_of x))) MOST (map_after w r.touches) (touched_after ks r.touches))) in
    ap behind (adding_runs MOST at a v [] (lit< tt)) ∙ ap last (adding_runs MOST to b w ks (few_touched at))

pub both_adds : (thread at a to b : ℕ) → Adds (thread_meaning 0 thread (both at a to b)) (command_adds (both at a to b))
both_adds thread at a to b = in_thread thread (both at a to b) (command_adds (both at a to b)) (record {
  reply = reply.Many (item.Unit ∷ item.Unit ∷ []);
  ok = refl;
  outcome = λ v. ap (λ (r : Run). r.outcome) (both_runs at a to b v);
  leaves = λ v small l.
      let w : ℕ → ℕ = put v at (wrapped (v at + a)) in
      ap (λ (r : Run). map_after v r.touches l) (both_runs at a to b v)
      ∙ put_adds w to b l (put_small v at a small l)
      ∙ ap (λ (k : ℕ). wrapped (k + at_cell to b l)) (put_adds v at a l (small l))
      ∙ mod-add-mod (v l + at_cell at a l) (2 ^ 32) (at_cell to b l)
      ∙ ap wrapped (sum_of_two (v l) (λ (o : Op). op_adds o l) (adding_op at a) (adding_op to b));
})

-- ---- in a script whose commands may touch as many locations as any

pub asked_adds : (thread : ℕ) (c : Command) (adds : ℕ → ℕ) → Adds (thread_meaning 0 thread c) adds → Adds (asked MOST thread c) adds
asked_adds thread c adds h = record { reply = h.reply; ok = h.ok; outcome = h.outcome; leaves = h.leaves }

abbrev pub ended : Meaning
ended = limited MOST (end_meaning 0)

pub ended_adds : Adds ended (at_cell 0 4294967295)
ended_adds = let h = end_adds in record { reply = h.reply; ok = h.ok; outcome = h.outcome; leaves = h.leaves }
