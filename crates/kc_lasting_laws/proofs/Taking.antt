-- Each step takes a life of a descriptor only where its seat has yet to take one, and has taken it then.
use Rattle.std.proofs.Common.{◌≡◌, ℕ, ◌+◌, ◌-◌, ◌≤◌, refl, sym, ap, subst, arith, Bool, true, false, if◌then◌else◌, ◌==◌, ◌&&◌, List, Option, None, Some}
use Rattle.std.specs.Prelude.{nat_lt, slice_get}
use borrow.Author.Tests.{eqb-true}
use Rattle.kc_lasting_laws.proofs.kc_machine.Functions.{both, put_cases}
use Rattle.kc_lasting_laws.specs.Lives.{one_if_commit}
use Rattle.kc_lasting_laws.specs.kc_machine.Machine.{State, World, found_at, possible, put_some, touched}
use Rattle.kc_lasting_laws.specs.kc_machine.Seats.{access_of, answer_by, begun, begun_idle, halted, halted_by, hanging, is_idle, seat_after, seat_answered, seat_halted, work_access, working}
use Rattle.kc_lasting_laws.specs.kc_machine.Words.{control}
use Rattle.kc_lasting_laws.specs.kc_machine.Hangs.{clear_access, hang_access_of, hang_after, hang_onward, leave_access_at, leave_after, leave_onward, read_of}
use Rattle.kc_lasting_laws.specs.kc_machine.Works.{Work}
use Rattle.kc_lasting_laws.specs.kc_machine.Works as work
use Rattle.kc_lasting_laws.specs.kc_machine.declared.hang.HangStep.{HangStep}
use Rattle.kc_lasting_laws.specs.kc_machine.declared.hang.HangStep.TheVariants as hang
use Rattle.kc_lasting_laws.specs.kc_machine.declared.hang.LeaveStep.{LeaveStep}
use Rattle.kc_lasting_laws.specs.kc_machine.declared.hang.LeaveStep.TheVariants as leave
use Rattle.kc_lasting_laws.specs.kc_machine.declared.words.TheConstants.{MOST_HOLDS}
use Rattle.kc_lasting_laws.specs.kc_machine.declared.seat.Seat.{Seat}
use Rattle.kc_machine_invariants.specs.kc_machine_commits.Commits.{after_scan, fill_first, fill_second, gone_on, loaded, onward_by, own_access, stage_access, stage_next, tells_or_goes, wake_access}
use Rattle.kc_machine_invariants.specs.kc_machine_commits.Halts.{halted_at, unowned}
use Rattle.kc_machine_invariants.specs.kc_machine_commits.Nexts.{Next}
use Rattle.kc_machine_invariants.specs.kc_machine_commits.Nexts as next
use Rattle.kc_machine_invariants.specs.kc_machine_commits.declared.commit.Commit.{Commit}
use Rattle.kc_machine_invariants.specs.kc_machine_commits.declared.commit.OwnStep.{OwnStep}
use Rattle.kc_machine_invariants.specs.kc_machine_commits.declared.commit.OwnStep.TheVariants as own
use Rattle.kc_machine_invariants.specs.kc_machine_commits.declared.commit.Stage.{Stage}
use Rattle.kc_machine_invariants.specs.kc_machine_commits.declared.commit.Stage.TheVariants as stage
use Rattle.kc_machine_invariants.specs.kc_machine_steps.Aids.{aid_access}
use Rattle.kc_machine_invariants.specs.kc_machine_steps.Looks.{halts_at_once, look_access, look_after, look_halted, look_tells}
use Rattle.kc_machine_invariants.specs.kc_machine_steps.Passes.{check_access, install_access, pass_access, release_at}
use Rattle.kc_machine_invariants.specs.kc_machine_steps.Swaps.{ends_at_once, swap_access_at, swap_after, swap_onward}
use Rattle.kc_machine_invariants.specs.kc_machine_steps.declared.aid.AidStep.{AidStep}
use Rattle.kc_machine_invariants.specs.kc_machine_steps.declared.aid.AidStep.TheVariants as aid
use Rattle.kc_machine_invariants.specs.kc_machine_steps.declared.look.LookStep.{LookStep}
use Rattle.kc_machine_invariants.specs.kc_machine_steps.declared.look.LookStep.TheVariants as look
use Rattle.kc_machine_invariants.specs.kc_machine_steps.declared.pass.PassStep.{PassStep}
use Rattle.kc_machine_invariants.specs.kc_machine_steps.declared.pass.PassStep.TheVariants as pass
use Rattle.kc_machine_invariants.specs.kc_machine_steps.declared.swap.SwapStep.{SwapStep}
use Rattle.kc_machine_invariants.specs.kc_machine_steps.declared.swap.SwapStep.TheVariants as swap
use Rattle.kc_machine_invariants.specs.kc_machine_steps.declared.task.Onward.{Onward}
use Rattle.kc_machine_invariants.specs.kc_machine_steps.declared.task.Onward.TheVariants as onward
use Rattle.kc_machine_invariants.specs.kc_machine_steps.declared.task.Task.{Task}
use Rattle.kc_machine_invariants.specs.kc_machine_steps.declared.task.Task.TheVariants as task
use Rattle.kc_machine_invariants.specs.kc_machine_words.declared.access.Access.{Access}
use Rattle.kc_machine_invariants.specs.kc_machine_words.declared.access.Access.TheVariants as access
use Rattle.kc_machine_invariants.specs.kc_machine_words.declared.access.Found.{Found}
use Rattle.kc_machine_invariants.specs.kc_machine_words.declared.access.Found.TheVariants as found
use Rattle.kc_machine_invariants.specs.kc_machine_words.declared.access.Grip.TheVariants as grip
use Rattle.kc_machine_invariants.specs.kc_machine_words.declared.words.Control.{Control}
use Rattle.kc_machine_invariants.specs.kc_machine_words.declared.words.Handle.{Handle}
use Rattle.kc_machine_invariants.specs.kc_machine_words.declared.words.Reference.{Reference}
use Rattle.kc_machine_invariants.specs.kc_machine_words.declared.words.TheConstants.{LAST_GENERATION}
use Rattle.kc_model.specs.declared.footprint.Line.{Line}
use Rattle.kc_model.specs.declared.footprint.Loc.{Loc}
use Rattle.kc_model.specs.declared.footprint.Seen.{Seen}

-- ---- what a seat has yet to take

abbrev pub yet_at : Stage → ℕ
yet_at (stage.Scan d worn) = 1
yet_at (stage.Take d g) = 1
yet_at (stage.Own h step) = 0

abbrev pub yet : Work → ℕ
yet work.Idle = 0
yet (work.Look l) = 0
yet (work.Commit c) = yet_at c.stage
yet (work.Hang h) = 0
yet (work.Leave l) = 0
yet (work.Swap x) = 0

one_at_most : (x : Stage) → yet_at x ≤ 1
one_at_most (stage.Scan d worn) = omega arith
one_at_most (stage.Take d g) = omega arith
one_at_most (stage.Own h step) = omega arith

after_yet : (s : Seat) (x : Onward) → yet (seat_after s x).work ≤ yet s.work
after_yet s onward.Goes = omega arith
after_yet s onward.Takes = omega arith
after_yet s onward.Unblocks = omega arith
after_yet s (onward.Tells t) = omega arith

-- ---- accesses that take nothing

abbrev is_take : Access → Bool
is_take (access.Control d (grip.Take g)) = true
is_take _ = false

kept : (w : World) (a : Access) (d : ℕ) → is_take a ≡ false → ((touched w a).control d).generation ≡ (w.control d).generation
kept w access.Nothing d n = refl
kept w (access.Location l t) d n = refl
kept w (access.Control e grip.Load) d n = refl
kept w (access.Control e (grip.Take g)) d n = absurd (cc)
kept w (access.Control e grip.Add) d n = go (nat_lt (w.control e).holds MOST_HOLDS)
  where
    go : (b : Bool) → (put_some w.control e (if b then Some (control (w.control e).generation ((w.control e).holds + 1)) else None) d).generation ≡ (w.control d).generation
    go true = put_cases (λ (x : Control). x.generation ≡ (w.control d).generation) w.control e (control (w.control e).generation ((w.control e).holds + 1)) d (λ q. ap (λ (i : ℕ). (w.control i).generation) (sym q)) (λ ne. refl)
    go false = refl
kept w (access.Control e grip.Subtract) d n = go (nat_lt 0 (w.control e).holds)
  where
    go : (b : Bool) → (put_some w.control e (if b then Some (control (w.control e).generation ((w.control e).holds - 1)) else None) d).generation ≡ (w.control d).generation
    go true = put_cases (λ (x : Control). x.generation ≡ (w.control d).generation) w.control e (control (w.control e).generation ((w.control e).holds - 1)) d (λ q. ap (λ (i : ℕ). (w.control i).generation) (sym q)) (λ ne. refl)
    go false = refl
kept w (access.Status e t) d n = refl
kept w (access.Owner e t) d n = refl
kept w (access.First e k t) d n = refl
kept w (access.Second e k t) d n = refl
kept w (access.Awaiters l b) d n = refl
kept w (access.Signal c s) d n = refl

look_takes_none : (l : Loc) (x : LookStep) → is_take (look_access l x) ≡ false
look_takes_none l look.Load = refl
look_takes_none l (look.Hold r) = refl
look_takes_none l (look.Status r) = refl
look_takes_none l (look.First r p) = refl
look_takes_none l (look.Second r p f) = refl
look_takes_none l (look.Drop r stray seen) = refl

pass_takes_none : (h : Handle) (xs : List Line) (p : PassStep) → is_take (pass_access h xs p) ≡ false
pass_takes_none h xs (pass.Install k) = go (slice_get xs k)
  where
    go : (o : Option Line) → is_take (install_access h k o) ≡ false
    go None = refl
    go (Some x) = refl
pass_takes_none h xs (pass.Check k) = go (slice_get xs k)
  where
    go : (o : Option Line) → is_take (check_access o) ≡ false
    go None = refl
    go (Some x) = refl
pass_takes_none h xs (pass.CheckHold k r) = refl
pass_takes_none h xs (pass.CheckStatus k r) = refl
pass_takes_none h xs (pass.CheckFirst k r p) = refl
pass_takes_none h xs (pass.CheckDrop k r stray c) = refl
pass_takes_none h xs (pass.Decide p) = refl
pass_takes_none h xs (pass.Release k p) = go (slice_get xs k)
  where
    go : (o : Option Line) → is_take (release_at h k p o) ≡ false
    go None = refl
    go (Some x) = refl

aid_takes_none : (r : Reference) (xs : List Line) (a : AidStep) → is_take (aid_access r xs a) ≡ false
aid_takes_none r xs aid.Hold = refl
aid_takes_none r xs aid.Status = refl
aid_takes_none r xs (aid.First p) = refl
aid_takes_none r xs (aid.Second p f) = refl
aid_takes_none r xs (aid.Release p x) = refl
aid_takes_none r xs aid.Owner = refl
aid_takes_none r xs aid.LoadFirst = refl
aid_takes_none r xs (aid.LoadSecond f) = refl
aid_takes_none r xs (aid.Pass p) = pass_takes_none r.handle xs p
aid_takes_none r xs (aid.Leave onward) = refl
aid_takes_none r xs (aid.Drop stray onward) = refl

own_takes_none : (caller calls : ℕ) (c : Commit) (h : Handle) (x : OwnStep) → is_take (own_access caller calls c h x) ≡ false
own_takes_none caller calls c h own.FillOwner = refl
own_takes_none caller calls c h (own.FillFirst k) = go (slice_get c.intent.lines.items k)
  where
    go : (o : Option Line) → is_take (fill_first h.descriptor k o) ≡ false
    go None = refl
    go (Some x) = refl
own_takes_none caller calls c h (own.FillSecond k) = go (slice_get c.intent.lines.items k)
  where
    go : (o : Option Line) → is_take (fill_second h.descriptor k o) ≡ false
    go None = refl
    go (Some x) = refl
own_takes_none caller calls c h own.Start = refl
own_takes_none caller calls c h own.Abandon = refl
own_takes_none caller calls c h (own.Pass p) = pass_takes_none h c.intent.lines.items p
own_takes_none caller calls c h (own.Aid k r a) = aid_takes_none r c.copy.lines.items a
own_takes_none caller calls c h (own.Wake k owed) = go (slice_get c.intent.lines.items k)
  where
    go : (o : Option Line) → is_take (wake_access o) ≡ false
    go None = refl
    go (Some x) = refl
own_takes_none caller calls c h (own.Signal owed) = refl
own_takes_none caller calls c h (own.Drop p) = refl

hang_takes_none : (caller : ℕ) (x : HangStep) (o : Option Seen) → is_take (hang_access_of caller x o) ≡ false
hang_takes_none caller x None = refl
hang_takes_none caller (hang.Set k) (Some seen) = refl
hang_takes_none caller (hang.Look k step) (Some seen) = look_takes_none seen.loc step
hang_takes_none caller (hang.Clear k changed) (Some seen) = refl

leave_takes_none : (caller : ℕ) (reads : List Seen) (x : LeaveStep) → is_take (leave_access_at caller reads x) ≡ false
leave_takes_none caller reads leave.Unsignal = refl
leave_takes_none caller reads (leave.Clear k) = go (slice_get reads k)
  where
    go : (o : Option Seen) → is_take (clear_access caller o) ≡ false
    go None = refl
    go (Some x) = refl

swap_takes_none : (r : Seen) (after calls : ℕ) (x : SwapStep) → is_take (swap_access_at r after calls x) ≡ false
swap_takes_none r after calls swap.Exchange = refl
swap_takes_none r after calls swap.Wake = refl
swap_takes_none r after calls (swap.Signal owed) = refl

-- ---- a step

-- of a seat that had `before` to take: what is left is no more, by what was taken of d
abbrev pub StepTakes : ℕ → ℕ → World → World → Work → Type 0
StepTakes d before w v x = yet x + (v.control d).generation ≤ before + (w.control d).generation

quiet : (d : ℕ) (w : World) (a : Access) (x y : Work) → is_take a ≡ false → yet x ≤ yet y → StepTakes d (yet y) w (touched w a) x
quiet d w a x y n le = let same = kept w a d n in omega (arith, same, le)

module _ (d : ℕ) (w : World) (s : Seat) where
  -- it owns one already
  own_yet : (calls : ℕ) (c : Commit) (h : Handle) (x : OwnStep) (f : Found) → yet (seat_after (record s { work = work.Commit (gone_on c (tells_or_goes calls c h x f)) }) (onward_by (tells_or_goes calls c h x f))).work ≤ 0
  own_yet calls c h own.FillOwner f = omega arith
  own_yet calls c h (own.FillFirst k) f = omega arith
  own_yet calls c h (own.FillSecond k) f = omega arith
  own_yet calls c h own.Start f = omega arith
  own_yet calls c h own.Abandon f = omega arith
  own_yet calls c h (own.Pass p) f = omega arith
  own_yet calls c h (own.Aid k r a) f = omega arith
  own_yet calls c h (own.Wake k owed) f = omega arith
  own_yet calls c h (own.Signal owed) f = omega arith
  own_yet calls c h (own.Drop p) f = omega arith

  -- it has none yet, whatever follows
  next_yet : (c : Commit) (n : Next) → yet (seat_after (record s { work = work.Commit (gone_on c n) }) (onward_by n)).work ≤ 1
  next_yet c (next.Goes x) = one_at_most x
  next_yet c (next.Takes x) = one_at_most x
  next_yet c (next.Tells t) = omega arith

  -- it takes descriptor e, or finds that it can't
  take_steps : (c : Commit) (e g : ℕ) (other : Stage) → (b : Bool) → (((w.control e).generation == g) && ((w.control e).holds == 0) && nat_lt g LAST_GENERATION) ≡ b
      → yet (seat_after (record s { work = work.Commit (gone_on c (if b then next.Takes (stage.Own (record { descriptor = e; generation = g + 1 }) own.FillOwner) else next.Goes other)) }) (onward_by (if b then next.Takes (stage.Own (record { descriptor = e; generation = g + 1 }) own.FillOwner) else next.Goes other))).work
      + (put_some w.control e (if b then Some (control (g + 1) 1) else None) d).generation ≤ 1 + (w.control d).generation
  take_steps c e g other true q =
      let was : (w.control e).generation ≡ g = eqb-true (w.control e).generation g (both ((w.control e).generation == g) ((w.control e).holds == 0) (both (((w.control e).generation == g) && ((w.control e).holds == 0)) (nat_lt g LAST_GENERATION) q).0).0 in
      put_cases (λ (x : Control). 0 + x.generation ≤ 1 + (w.control d).generation) w.control e (control (g + 1) 1) d
      (λ here. let same : (w.control d).generation ≡ (w.control e).generation = ap (λ (i : ℕ). (w.control i).generation) here in omega (arith, was, same))
      (λ ne. omega arith)
  take_steps c e g other false q = let le = one_at_most other in omega (arith, le)

  -- a step of a commit at this stage
  abbrev Steps : Commit → Stage → Type 0
  Steps c x =
      let f = found_at w (stage_access s.caller s.calls c x) in
      let n = stage_next s.descriptors s.calls (loaded c f) x f in
      StepTakes d (yet_at x) w (touched w (stage_access s.caller s.calls c x)) (seat_after (record s { work = work.Commit (gone_on (loaded c f) n) }) (onward_by n)).work

  stage_steps : (c : Commit) (x : Stage) → Steps c x
  stage_steps c (stage.Scan e worn) =
      let f = found_at w (stage_access s.caller s.calls c (stage.Scan e worn)) in
      let le = next_yet (loaded c f) (stage_next s.descriptors s.calls (loaded c f) (stage.Scan e worn) f) in
      omega (arith, le)
  stage_steps c (stage.Take e g) = take_steps (loaded c (found.Control (w.control e))) e g (stage.Scan (after_scan s.descriptors e) 0) (((w.control e).generation == g) && ((w.control e).holds == 0) && nat_lt g LAST_GENERATION) refl
  stage_steps c (stage.Own h x) =
      let f = found_at w (own_access s.caller s.calls c h x) in
      let le = own_yet s.calls (loaded c f) h x f in
      let same = kept w (own_access s.caller s.calls c h x) d (own_takes_none s.caller s.calls c h x) in
      omega (arith, le, same)

  -- a step of a task that takes none
  other_steps : (x : Work) (o : Onward) (a : Access) → yet x ≡ 0 → is_take a ≡ false → StepTakes d 0 w (touched w a) (seat_after (record s { work = x }) o).work
  other_steps x o a none n =
      let le = after_yet (record s { work = x }) o in
      let same = kept w a d n in
      omega (arith, none, le, same)

module _ (d : ℕ) (m : State) (s : Seat) where
  abbrev answered_by : Work → Work
  answered_by x = (answer_by s (found_at m.world (work_access s.caller s.calls x)) x).work

  work_takes : (x : Work) → possible m (work_access s.caller s.calls x) ≡ true → StepTakes d (yet x) m.world (touched m.world (work_access s.caller s.calls x)) (answered_by x)
  work_takes work.Idle y = absurd (cc)
  work_takes (work.Look l) y = let f = found_at m.world (look_access l.loc l.step) in other_steps d m.world s (work.Look (look_after l f)) (look_tells l f) (look_access l.loc l.step) refl (look_takes_none l.loc l.step)
  work_takes (work.Commit c) y = stage_steps d m.world s c c.stage
  work_takes (work.Hang h) y = let f = found_at m.world (hang_access_of s.caller h.step (slice_get h.reads.items (read_of h.step))) in other_steps d m.world s (work.Hang (hang_after h f)) (hang_onward h f) (hang_access_of s.caller h.step (slice_get h.reads.items (read_of h.step))) refl (hang_takes_none s.caller h.step (slice_get h.reads.items (read_of h.step)))
  work_takes (work.Leave l) y = other_steps d m.world s (work.Leave (leave_after l)) (leave_onward l) (leave_access_at s.caller l.reads.items l.step) refl (leave_takes_none s.caller l.reads.items l.step)
  work_takes (work.Swap x) y = let f = found_at m.world (swap_access_at x.seen x.after s.calls x.step) in other_steps d m.world s (work.Swap (swap_after s.calls x f)) (swap_onward s.calls x f) (swap_access_at x.seen x.after s.calls x.step) refl (swap_takes_none x.seen x.after s.calls x.step)

  pub step_takes : possible m (access_of s) ≡ true → StepTakes d (yet s.work) m.world (touched m.world (access_of s)) (seat_answered s (found_at m.world (access_of s))).work
  step_takes y = work_takes s.work y

-- ---- beginnings and halts

module _ (s : Seat) where
  begun_at : (t : Task) → yet (begun_idle s t).work ≤ yet s.work + one_if_commit t
  begun_at (task.Look l) = omega arith
  begun_at (task.Commit f m) = omega arith
  begun_at (task.Hang reads) = go s.blocked
    where
      go : (b : Bool) → yet (if b then s else working s (hanging reads.items)).work ≤ yet s.work + 0
      go true = omega arith
      go false = omega arith
  begun_at (task.Leave reads) = omega arith
  begun_at (task.Swap r after) = omega arith

  pub begun_takes : (t : Task) → yet (begun s t).work ≤ yet s.work + one_if_commit t
  begun_takes t = go (is_idle s.work)
    where
      go : (b : Bool) → yet (if b then begun_idle s t else s).work ≤ yet s.work + one_if_commit t
      go true = begun_at t
      go false = omega arith

  halted_at_stage : (c : Commit) (x : Stage) → yet (if unowned x then seat_halted s else record s { work = work.Commit (halted_at c x) }).work ≤ yet_at x
  halted_at_stage c (stage.Scan e worn) = omega arith
  halted_at_stage c (stage.Take e g) = omega arith
  halted_at_stage c (stage.Own h x) = omega arith

  halted_work : (x : Work) → s.work ≡ x → yet (halted_by s x).work ≤ yet x
  halted_work work.Idle e = subst (λ (x : Work). yet x ≤ 0) (sym e) (omega arith)
  halted_work (work.Look l) e = go (halts_at_once l.step)
    where
      go : (b : Bool) → yet (if b then seat_halted s else record s { work = work.Look (look_halted l) }).work ≤ 0
      go true = omega arith
      go false = omega arith
  halted_work (work.Commit c) e = halted_at_stage c c.stage
  halted_work (work.Hang h) e = subst (λ (x : Work). yet x ≤ 0) (sym e) (omega arith)
  halted_work (work.Leave l) e = subst (λ (x : Work). yet x ≤ 0) (sym e) (omega arith)
  halted_work (work.Swap x) e = go (ends_at_once x.step)
    where
      go : (b : Bool) → yet (if b then seat_halted s else s).work ≤ 0
      go true = omega arith
      go false = subst (λ (y : Work). yet y ≤ 0) (sym e) (omega arith)

  pub halted_takes : yet (halted s).work ≤ yet s.work
  halted_takes = halted_work s.work refl
