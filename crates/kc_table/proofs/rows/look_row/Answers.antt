use Rattle.std.proofs.Common.{◌≡◌, ◌++◌, ◌<◌, ◌∙◌, [], ◌∷◌, ap, arith, false, get_or, length, refl, subst, sym, take, true}
use Rattle.std.proofs.lemmas.List.{get_or_default, take_more}
use Rattle.kc_machine.specs.Seats.{begun, is_idle, seat_answered}
use Rattle.kc_machine.specs.declared.seat.Seat.{Seat}
use Rattle.kc_machine_steps.specs.declared.task.Task.TheVariants.{Look}
use Rattle.kc_machine_words.specs.declared.access.Found.TheVariants as found
use Rattle.kc_model.specs.Word.{unpacked}
use Rattle.kc_model.specs.declared.footprint.Seen.{Seen}
use Rattle.kc_table.proofs.Begins.{ready_begun}
use Rattle.kc_table.proofs.Turns.{behind_idle, behind_made, look_found, looks_once, looks_quietly, looks_ready, reads_within, row_here, row_looks, row_ready}
use Rattle.kc_table.proofs.Wholes.{look_aims, look_busy}
use Rattle.kc_table.specs.Turns.{LooksAgain, seat_behind, none}
use Rattle.kc_table_moves.specs.Origins.{Origin}
use Rattle.kc_table_moves.specs.Rule.{ReadySeat}
use Rattle.kc_table_moves.specs.Views.{seat_seen_as}
use Rattle.kc_table.proofs.rows.look_row.Goals as goal

pub loop-i-init : goal.loop-i-init
loop-i-init c = record { machine = refl; here = c.requires.here; made = sym c.steps-made.ensures; ready = c.requires.ready; looks = none }

pub load_again-number-requires-clause-seat : goal.load_again-number-requires-clause-seat
load_again-number-requires-clause-seat c =
    let rs = c.args.reads.now in
    let i = c.loop-i.i in
    let d : Seen = record { loc = record { 0 = 0 }; version = 0; value = 0 } in
    let me = c.loop-i.token.me in
    let u = seat_behind c.loop-i.machine c.loop-i.made (take i rs) in
    let lt : i < length rs = (let t = c.loop-i-test.true in omega (arith, t)) in
    let idle : is_idle u.work ≡ true = behind_idle c.loop-i.machine c.loop-i.made (take i rs) (ap (λ (s : Seat). is_idle s.work) c.loop-i.invariant.machine ∙ c.requires.idle) in
    let same = c.loop-i.invariant.here.origin ∙ sym c.requires.here.origin in
    let within = subst (λ (o : Origin). (get_or rs i d).loc.0 < o.locations) (sym same) (reads_within c.args.token.now.me.0.origin.locations rs i d lt c.requires.within) in
    (look_busy u (get_or rs i d).loc idle, ready_begun me c.loop-i.pends u c.loop-i.token.table_id (seat_seen_as c.loop-i.token.table_id me c.loop-i.pends u) (Look (get_or rs i d).loc) c.loop-i.invariant.ready refl (idle, look_busy u (get_or rs i d).loc idle) within tt)

pub load_again-number-requires-clause-aim : goal.load_again-number-requires-clause-aim
load_again-number-requires-clause-aim c =
    let rs = c.args.reads.now in
    let i = c.loop-i.i in
    let d : Seen = record { loc = record { 0 = 0 }; version = 0; value = 0 } in
    let u = seat_behind c.loop-i.machine c.loop-i.made (take i rs) in
    let idle : is_idle u.work ≡ true = behind_idle c.loop-i.machine c.loop-i.made (take i rs) (ap (λ (s : Seat). is_idle s.work) c.loop-i.invariant.machine ∙ c.requires.idle) in
    look_aims c.args.words.now.key u (get_or rs i d).loc c.location_at-word.result idle c.location_at-word.ensures

pub tell-requires : goal.tell-requires
tell-requires c =
    let idle = ap (λ (s : Seat). is_idle s.work) c.loop-i.invariant.machine ∙ c.requires.idle in
    ap (λ (s : Seat). is_idle s.work) c.end_row.ensures ∙ behind_idle c.loop-i.machine c.loop-i.made (take c.loop-i.i c.args.reads.now) idle

pub returns-then-not-says-clause-ready : goal.returns-then-not-says-clause-ready
returns-then-not-says-clause-ready c =
    let rs = c.args.reads.now in
    let i = c.loop-i.i in
    let d : Seen = record { loc = record { 0 = 0 }; version = 0; value = 0 } in
    let me = c.loop-i.token.me in
    let u = seat_behind c.loop-i.machine c.loop-i.made (take i rs) in
    let r = get_or rs i d in
    let n = c.load_again-number.result in
    let lt : i < length rs = (let t = c.loop-i-test.true in omega (arith, t)) in
    let idle : is_idle u.work ≡ true = behind_idle c.loop-i.machine c.loop-i.made (take i rs) (ap (λ (s : Seat). is_idle s.work) c.loop-i.invariant.machine ∙ c.requires.idle) in
    let same = c.loop-i.invariant.here.origin ∙ sym c.requires.here.origin in
    let within = subst (λ (o : Origin). r.loc.0 < o.locations) (sym same) (reads_within c.args.token.now.me.0.origin.locations rs i d lt c.requires.within) in
    looks_ready c.loop-i.token.table_id c.load_again-number.new.token.table_id me c.load_again-number.new.token.me c.loop-i.pends u c.tell.new.seat r.loc n idle c.loop-i.invariant.ready within c.load_again-number.ensures.table c.load_again-number.ensures.moved
    c.tell.ensures.back (c.tell.ensures.answered ∙ ap (λ s. seat_answered (begun s (Look r.loc)) (found.Word (unpacked n))) c.end_row.ensures)

pub returns-then-not-says-clause-until : goal.returns-then-not-says-clause-until
returns-then-not-says-clause-until c = λ _.
    let rs = c.args.reads.now in
    let i = c.loop-i.i in
    let d : Seen = record { loc = record { 0 = 0 }; version = 0; value = 0 } in
    let me = c.loop-i.token.me in
    let u = seat_behind c.loop-i.machine c.loop-i.made (take i rs) in
    let r = get_or rs i d in
    let n = c.load_again-number.result in
    let lt : i < length rs = (let t = c.loop-i-test.true in omega (arith, t)) in
    let idle : is_idle u.work ≡ true = behind_idle c.loop-i.machine c.loop-i.made (take i rs) (ap (λ (s : Seat). is_idle s.work) c.loop-i.invariant.machine ∙ c.requires.idle) in
    let same = c.loop-i.invariant.here.origin ∙ sym c.requires.here.origin in
    let within = subst (λ (o : Origin). r.loc.0 < o.locations) (sym same) (reads_within c.args.token.now.me.0.origin.locations rs i d lt c.requires.within) in
    record {
      front = i;
      r = r;
      u = seat_seen_as c.loop-i.token.table_id me c.loop-i.pends u;
      within = lt;
      next = get_or_default rs i d r lt;
      looked = c.loop-i.invariant.looks;
      quiet = looks_quietly c.loop-i.token.table_id c.load_again-number.new.token.table_id me c.load_again-number.new.token.me c.loop-i.pends u c.tell.new.seat r.loc n idle c.loop-i.invariant.ready within c.load_again-number.ensures.table c.load_again-number.ensures.moved
          c.tell.ensures.back (c.tell.ensures.answered ∙ ap (λ s. seat_answered (begun s (Look r.loc)) (found.Word (unpacked n))) c.end_row.ensures);
      once = looks_once c.loop-i.token.table_id c.load_again-number.new.token.table_id me c.load_again-number.new.token.me c.loop-i.pends u c.tell.new.seat r.loc n idle c.loop-i.invariant.ready within c.load_again-number.ensures.table c.load_again-number.ensures.moved
          c.tell.ensures.back (c.tell.ensures.answered ∙ ap (λ s. seat_answered (begun s (Look r.loc)) (found.Word (unpacked n))) c.end_row.ensures);
      differs = λ x. c.says.ensures.misses c.if-not-says.true (look_found u c.tell.new.seat r (unpacked n) idle (c.tell.ensures.answered ∙ ap (λ s. seat_answered (begun s (Look r.loc)) (found.Word (unpacked n))) c.end_row.ensures) x.idle x.told);
    }

pub loop-i-preserved : goal.loop-i-preserved
loop-i-preserved c =
    let rs = c.args.reads.now in
    let i = c.loop-i.i in
    let d : Seen = record { loc = record { 0 = 0 }; version = 0; value = 0 } in
    let me = c.loop-i.token.me in
    let s = c.loop-i.machine in
    let xs = take i rs in
    let r = get_or rs i d in
    let n = c.load_again-number.result in
    let later = c.load_again-number.new.token.me in
    let y = c.load_again-number.new.token.table_id in
    let start = seat_seen_as c.args.token.now.table_id c.args.token.now.me c.args.began.now c.args.machine.now in
    let lt : i < length rs = (let t = c.loop-i-test.true in omega (arith, t)) in
    let idle : is_idle s.work ≡ true = ap (λ (s : Seat). is_idle s.work) c.loop-i.invariant.machine ∙ c.requires.idle in
    let same = c.loop-i.invariant.here.origin ∙ sym c.requires.here.origin in
    let within = subst (λ (o : Origin). r.loc.0 < o.locations) (sym same) (reads_within c.args.token.now.me.0.origin.locations rs i d lt c.requires.within) in
    let says = c.says.ensures.says c.if-not-says.false in
    let more = sym (take_more rs i d lt) in
    let m = c.one_more-made.result in
    let made_so = sym c.one_more-made.ensures in
    let i_ready = row_ready c.loop-i.token.table_id y me later c.loop-i.pends s c.loop-i.made xs r n start idle c.loop-i.invariant.made c.loop-i.invariant.ready within c.load_again-number.ensures.table c.load_again-number.ensures.moved c.says.ensures.back says in
    let i_looks = row_looks c.loop-i.token.table_id y me later c.loop-i.pends s c.loop-i.made xs r n start idle c.loop-i.invariant.made c.loop-i.invariant.ready within c.load_again-number.ensures.table c.load_again-number.ensures.moved c.says.ensures.back says c.loop-i.invariant.looks in
    let i_here = row_here c.loop-i.token.table_id y me later c.loop-i.pends s c.loop-i.made xs r n start idle c.loop-i.invariant.made c.loop-i.invariant.ready within c.load_again-number.ensures.table c.load_again-number.ensures.moved c.says.ensures.back says c.args.words.now.key c.args.words.now.table_id c.args.base c.loop-i.invariant.here in
    record {
      machine = c.loop-i.invariant.machine;
      here = i_here;
      made = ap (λ z. (seat_behind s m z).made) (sym more) ∙ behind_made s m xs r;
      ready = subst (λ z. ReadySeat later false (seat_behind s m z)) more (subst (λ k. ReadySeat later false (seat_behind s k (xs ++ r ∷ []))) made_so i_ready);
      looks = subst (λ z. LooksAgain start z (seat_seen_as y later false (seat_behind s m z))) more (subst (λ k. LooksAgain start (xs ++ r ∷ []) (seat_seen_as y later false (seat_behind s k (xs ++ r ∷ [])))) made_so i_looks);
    }
