-- One operation alone, which was made silently.
use Rattle.std.proofs.Common.{◌≡◌, ◌≢◌, ◌≤◌, ◌==◌, ℕ, Bool, true, false, List, [], ◌∷◌, ◌++◌, ◌||◌, length, drop, slice_set, refl, sym, ap, ◌∙◌, subst, arith, eq-eqb, eqb-true}
use Rattle.kc_c.specs.Tries.{IsRepliedByItsRead, IsTried, IsTriedSilently, verdict_number, replies_written}
use Rattle.kc_c.specs.declared.answers.TheConstants.{DONE}
use Rattle.kc_c.specs.declared.client.Client.{Client}
use Rattle.kc_c.specs.declared.standing.Standing.TheVariants as standing
use Rattle.kc_calls.proofs.Aloud.{done_aloud, waits_aloud, too_large_aloud, wears_aloud}
use Rattle.kc_calls.specs.Alone.{IsAlone, first_value, reply_on}
use Rattle.kc_calls.specs.Meaning.{calls_end, calls_meaning}
use Rattle.kc_calls.specs.Silent.{silent}
use Rattle.kc_calls.specs.Told.{replies_told}
use Rattle.kc_calls.specs.declared.operation.KcasOp.{KcasOp}
use Rattle.kc_calls.specs.declared.reply.KcasReply.{KcasReply}
use Rattle.kc_loc.specs.Meaning.{loc_end, loc_meaning}
use Rattle.kc_loc.specs.declared.operation.LocOp.{LocOp}
use Rattle.kc_model.specs.Footprint.{IsBelow}
use Rattle.kc_model.specs.declared.footprint.Footprint.{Footprint}
use Rattle.kc_model.specs.declared.footprint.TheConstants.{MOST}
use Rattle.kc_model.specs.declared.reply.Item.{Item}
use Rattle.kc_hang.specs.kc_table_moves.Views.{SeatView}
use Rattle.kc_store.specs.Answers.{Settles}
use Rattle.kc_store.specs.Knows.{IsTold, NotesWear, Remembers}
use Rattle.kc_store.specs.Verdicts.{has_entry, is_worn_pool}
use Rattle.kc_store.specs.Views.{CallerView}
use Rattle.kc_store.specs.declared.verdict.Verdict.{Verdict}
use Rattle.kc_store.specs.declared.verdict.Verdict.TheVariants as verdict
use Rattle.kc_term.specs.Meaning.{items_of}
use Rattle.kc_xt.specs.Meaning.{limited}

-- its verdict, with the reply that the first read tells
abbrev pub loud : LocOp → Footprint → Verdict → Verdict
loud o f (verdict.Done r) = verdict.Done (reply_on o (first_value f.reads.items))
loud o f v = v

same_number : (o : LocOp) (f : Footprint) (v : Verdict) → verdict_number v ≡ verdict_number (loud o f v)
same_number o f (verdict.Done r) = refl
same_number o f verdict.Later = refl
same_number o f verdict.TooLarge = refl
same_number o f (verdict.WornLocation l) = refl
same_number o f verdict.WornPool = refl
same_number o f (verdict.Lost l n) = refl
same_number o f (verdict.Busy n) = refl

same_entry : (o : LocOp) (f : Footprint) (v : Verdict) → has_entry (loud o f v) ≡ has_entry v
same_entry o f (verdict.Done r) = refl
same_entry o f verdict.Later = refl
same_entry o f verdict.TooLarge = refl
same_entry o f (verdict.WornLocation l) = refl
same_entry o f verdict.WornPool = refl
same_entry o f (verdict.Lost l n) = refl
same_entry o f (verdict.Busy n) = refl

same_wear : (o : LocOp) (f : Footprint) (v : Verdict) → is_worn_pool v ≡ is_worn_pool (loud o f v)
same_wear o f (verdict.Done r) = refl
same_wear o f verdict.Later = refl
same_wear o f verdict.TooLarge = refl
same_wear o f (verdict.WornLocation l) = refl
same_wear o f verdict.WornPool = refl
same_wear o f (verdict.Lost l n) = refl
same_wear o f (verdict.Busy n) = refl

module _ (locations : ℕ) (ops : List KcasOp) (o : LocOp) (alone : IsAlone locations ops o) (f : Footprint) where
  loud_settles : (v : Verdict) (c d : SeatView) → Settles (limited MOST (silent (loc_meaning o))) v c f d → Settles (limited MOST (loc_meaning o)) (loud o f v) c f d
  loud_settles (verdict.Done r) c d h = (done_aloud o alone.one f r h.0, h.1)
  loud_settles verdict.Later c d h = (waits_aloud o alone.one f h.0, h.1)
  loud_settles verdict.TooLarge c d h = (too_large_aloud o alone.one f h.0, h.1)
  loud_settles (verdict.WornLocation l) c d h = (wears_aloud o alone.one f l.0 h.0, h.1)
  loud_settles verdict.WornPool c d h = h
  loud_settles (verdict.Lost l n) c d h = h
  loud_settles (verdict.Busy n) c d h = h

  settles_loud : (v : Verdict) (c d : SeatView) → Settles (limited MOST (silent (loc_meaning o))) v c f d → Settles (limited MOST (calls_meaning ops)) (loud o f v) c f d
  settles_loud v c d h = subst (λ m. Settles (limited MOST m) (loud o f v) c f d) (sym alone.meaning) (loud_settles v c d h)

  notes_loud : (v : Verdict) (c d : CallerView) → NotesWear c v d → NotesWear c (loud o f v) d
  notes_loud v c d h = subst (λ b. d.worn ≡ (b || c.worn)) (same_wear o f v) h

  loud_told : (v : Verdict) (c d : CallerView) → IsTold (limited MOST (silent (loc_meaning o))) v c f d → IsTold (limited MOST (loc_meaning o)) (loud o f v) c f d
  loud_told (verdict.Done r) c d h = (done_aloud o alone.one f r h.0, h.1)
  loud_told verdict.Later c d h = (waits_aloud o alone.one f h.0, h.1)
  loud_told verdict.TooLarge c d h = (too_large_aloud o alone.one f h.0, h.1)
  loud_told (verdict.WornLocation l) c d h = (wears_aloud o alone.one f l.0 h.0, h.1)
  loud_told verdict.WornPool c d h = h
  loud_told (verdict.Lost l n) c d h = h
  loud_told (verdict.Busy n) c d h = h

  told_loud : (v : Verdict) (c d : CallerView) → IsTold (limited MOST (silent (loc_meaning o))) v c f d → IsTold (limited MOST (calls_meaning ops)) (loud o f v) c f d
  told_loud v c d h = subst (λ m. IsTold (limited MOST m) (loud o f v) c f d) (sym alone.meaning) (loud_told v c d h)

  loud_within : (v : Verdict) → (has_entry v ≡ true → IsBelow (loc_end o) f) → has_entry (loud o f v) ≡ true → IsBelow (calls_end ops) f
  loud_within v h e = subst (λ n. IsBelow n f) (sym alone.end) (h (sym (same_entry o f v) ∙ e))

  one_written : (before : List KcasReply) (rs : List Item) (x : KcasReply) → length ops ≤ length before → replies_told rs 1 ≡ x ∷ [] → slice_set before 0 x ≡ replies_told rs (length ops) ++ drop (length ops) before
  one_written [] rs x le e = absurd (omega (arith, le, alone.count))
  one_written (y ∷ ys) rs x le e = sym (ap (λ n. replies_told rs n ++ drop n (y ∷ ys)) alone.count ∙ ap (λ zs. zs ++ drop 1 (y ∷ ys)) e)

  -- the one reply, where it was done
  pub loud_written : (v : Verdict) (before : List KcasReply) (x : KcasReply) → verdict_number v ≡ DONE → length ops ≤ length before → replies_told (items_of (reply_on o (first_value f.reads.items))) 1 ≡ x ∷ [] → slice_set before 0 x ≡ replies_written ops (loud o f v) before
  loud_written (verdict.Done r) before x n le e = one_written before _ x le e
  loud_written verdict.Later before x n le e = absurd (omega (arith, n))
  loud_written verdict.TooLarge before x n le e = absurd (omega (arith, n))
  loud_written (verdict.WornLocation l) before x n le e = absurd (omega (arith, n))
  loud_written verdict.WornPool before x n le e = absurd (omega (arith, n))
  loud_written (verdict.Lost l k) before x n le e = absurd (omega (arith, n))
  loud_written (verdict.Busy k) before x n le e = absurd (omega (arith, n))

  -- and else none
  pub none_written : (v : Verdict) (before : List KcasReply) → verdict_number v ≢ DONE → before ≡ replies_written ops (loud o f v) before
  none_written (verdict.Done r) before n = absurd (n refl)
  none_written verdict.Later before n = refl
  none_written verdict.TooLarge before n = refl
  none_written (verdict.WornLocation l) before n = refl
  none_written verdict.WornPool before n = refl
  none_written (verdict.Lost l k) before n = refl
  none_written (verdict.Busy k) before n = refl

-- ---- the try

tried_alone : (locations : ℕ) (ops : List KcasOp) (o : LocOp) → IsAlone locations ops o → (c d : Client) (k j : CallerView) (n : ℕ) (v : Verdict) (before after : List KcasReply) → c.standing ≡ standing.Rests k → d.standing ≡ standing.Rests j → n ≡ verdict_number v → IsTold (limited MOST (silent (loc_meaning o))) v k d.footprint j → Settles (limited MOST (silent (loc_meaning o))) v k.seat d.footprint j.seat → NotesWear k v j → Remembers k j → (has_entry v ≡ true → IsBelow (loc_end o) d.footprint) → after ≡ replies_written ops (loud o d.footprint v) before → IsTried ops c n d before after
tried_alone locations ops o alone c d k j n v before after rested rests number told settles notes remembers within replies = record {
  caller = k;
  rested = rested;
  then_caller = j;
  rests = rests;
  verdict = loud o d.footprint v;
  number = number ∙ same_number o d.footprint v;
  told = told_loud locations ops o alone d.footprint v k j told;
  settles = settles_loud locations ops o alone d.footprint v k.seat j.seat settles;
  notes = notes_loud locations ops o alone d.footprint v k j notes;
  remembers = remembers;
  within = loud_within locations ops o alone d.footprint v within;
  replies = replies;
}

pub tried_silently : (locations : ℕ) (ops : List KcasOp) (o : LocOp) → IsAlone locations ops o → (c d : Client) (k j : CallerView) (n : ℕ) (before after : List KcasReply) → c.standing ≡ standing.Rests k → d.standing ≡ standing.Rests j → length ops ≤ length before → IsTriedSilently (limited MOST (silent (loc_meaning o))) (loc_end o) n k j d.footprint → IsRepliedByItsRead o d.footprint n before after → IsTried ops c n d before after
tried_silently locations ops o alone c d k j n before after rested rests room h t = tried_alone locations ops o alone c d k j n h.verdict before after rested rests h.number h.tells h.settles h.notes h.remembers h.within (by (n == DONE) refl)
  where
    by : (b : Bool) → (n == DONE) ≡ b → after ≡ replies_written ops (loud o d.footprint h.verdict) before
    by true e = let is = eqb-true n DONE e in let w = t.done is in w.1 ∙ loud_written locations ops o alone d.footprint h.verdict before w.0 (sym h.number ∙ is) room w.2
    by false e = let no : n ≢ DONE = λ is. absurd (let t : (n == DONE) ≡ true = eq-eqb n DONE is in let g = e in cc) in t.stays no ∙ none_written locations ops o alone d.footprint h.verdict before (λ v. no (h.number ∙ v))
